-- Laws between rings as lists of coordinates and as flat lists of numbers, and of closing. Assumes nothing.
use mathlib.Core.Path.{◌≡◌, refl, sym, ◌∙◌, ap}
use mathlib.Core.Bool.{Bool, true, false, cond, true≢false}
use mathlib.Core.List.{List, [], ◌∷◌, ◌++◌}
use Prim.Native.Nat.{ℕ, zero, suc, ◌+◌, ◌*◌, ◌-◌, ◌/◌, ◌<◌, ◌≤◌}
use native.Mathlib.Numerals.{add-one}
use native.Mathlib.Omega.{arith}
use lib.ListN.{length, get_or, take, drop, length-append, take-append-drop}
use lib.Seq.{sets, sets-eq, take-take, get_or-take, length-take-le, take_at}
use lib.Ieee.{Float, nan}
use Rattle.tile.specs.declared.Coord.{Coord}
use Rattle.tile.specs.Ring.{coords, flat, same, last, closed, close}
use Rattle.tile.specs.Internal.{coord_at, Stands, Written}

-- ---- flat lists

pub flat_append : (a b : List Coord) → flat (a ++ b) ≡ flat a ++ flat b
unfolding flat
flat_append [] b = refl
flat_append (p ∷ a) b = ap (λ (t : List Float). p.x ∷ p.y ∷ t) (flat_append a b)

pub length-flat : (a : List Coord) → length (flat a) ≡ 2 * length a
unfolding flat
length-flat [] = refl
length-flat (p ∷ a) = let h = length-flat a in omega arith

pub coords-flat : (l : List Coord) → coords (flat l) ≡ l
unfolding coords flat
coords-flat [] = refl
coords-flat (p ∷ l) = ap (λ (t : List Coord). p ∷ t) (coords-flat l)

pub flat-coords : (n : ℕ) (s : List Float) → length s ≡ 2 * n → flat (coords s) ≡ s
unfolding coords flat
flat-coords zero [] e = refl
flat-coords zero (x ∷ s) e = absurd (omega arith)
flat-coords (suc n) [] e = absurd (omega arith)
flat-coords (suc n) (x ∷ []) e = absurd (omega arith)
flat-coords (suc n) (x ∷ y ∷ s) e = ap (λ (t : List Float). x ∷ y ∷ t) (flat-coords n s (omega arith))

pub length-coords : (n : ℕ) (s : List Float) → length s ≡ 2 * n → length (coords s) ≡ n
length-coords n s e = omega (arith, length-flat (coords s), ap length (flat-coords n s e))

-- half as many coordinates as numbers, rounded down

coords-low : (s : List Float) → 2 * length (coords s) ≤ length s
unfolding coords
coords-low [] = omega arith
coords-low (x ∷ []) = omega arith
coords-low (x ∷ y ∷ s) = let h = coords-low s in omega arith

coords-high : (s : List Float) → length s ≤ 2 * length (coords s) + 1
unfolding coords
coords-high [] = omega arith
coords-high (x ∷ []) = omega arith
coords-high (x ∷ y ∷ s) = let h = coords-high s in omega arith

pub count-coords : (s : List Float) → length (coords s) ≡ length s / 2
count-coords s = omega (arith, coords-low s, coords-high s)

-- the numbers of the i-th coordinate are there
pub coord-fits : (s : List Float) (i : ℕ) → i < length (coords s) → 2 * i + 1 < length s
coord-fits s i h = omega (arith, coords-low s)

-- ---- the ring of n coordinates at the front of a slice

two_more : (i : ℕ) → 2 * suc i ≡ suc (suc (2 * i))
two_more i = omega arith

module _ (s : List Float) (n : ℕ) (fits : 2 * n ≤ length s) where
  front_length : length (take (2 * n) s) ≡ 2 * n
  front_length = length-take-le (2 * n) s fits

  pub length_front : length (coords (take (2 * n) s)) ≡ n
  length_front = length-coords n (take (2 * n) s) front_length

  pub flat-front : flat (coords (take (2 * n) s)) ≡ take (2 * n) s
  flat-front = flat-coords n (take (2 * n) s) front_length

pub coords-take : (k : ℕ) (s : List Float) → coords (take (2 * k) s) ≡ take k (coords s)
unfolding coords
coords-take zero s = refl
coords-take (suc k) [] = rw (two_more k)
coords-take (suc k) (x ∷ []) = rw (two_more k)
coords-take (suc k) (x ∷ y ∷ s) = rw (two_more k, coords-take k s)

-- a shorter front is the front of a longer one
pub front-front : (s : List Float) (k n : ℕ) → k ≤ n → coords (take (2 * k) s) ≡ take k (coords (take (2 * n) s))
front-front s k n h = sym (ap coords (take-take (2 * k) (2 * n) s (omega arith))) ∙ coords-take k (take (2 * n) s)

-- the front of a slice that starts with the numbers of a ring is that ring
pub coords-front : (l : List Coord) (rest s : List Float) (n : ℕ) → n ≡ length l → s ≡ flat l ++ rest → coords (take (2 * n) s) ≡ l
coords-front l rest s n hn hs = rw (hs, take_at (flat l) rest (2 * n) (length-flat l ∙ rw hn)) (coords-flat l)

-- ---- a ring that stands at the front of a slice

pub stands-front : {ring : List Coord} {r : ℕ} {after : List Float} → Stands ring r after → coords (take (2 * r) after) ≡ ring
stands-front {ring} s = rw s.numbers (coords-flat ring)

pub written_stands : {ring : List Coord} {before : List Float} {r : ℕ} {after : List Float} → Written ring before r after
    → Stands ring r after
written_stands {ring} {before} {r} w = record {
  count = w.count;
  numbers = rw w.numbers (take_at (flat ring) (drop (2 * r) before) (2 * r) (length-flat ring ∙ rw w.count));
}

pub written-front : {ring : List Coord} {before : List Float} {r : ℕ} {after : List Float} → Written ring before r after
    → coords (take (2 * r) after) ≡ ring
written-front w = stands-front (written_stands w)

-- ---- a coordinate by its place

pub coords-at : (i : ℕ) (s : List Float) (z : Coord) → 2 * i + 1 < length s → get_or (coords s) i z ≡ coord_at s i
unfolding coords
coords-at i [] z h = absurd (omega arith)
coords-at i (x ∷ []) z h = absurd (omega arith)
coords-at zero (x ∷ y ∷ s) z h = refl
coords-at (suc i) (x ∷ y ∷ s) z h = coords-at i s z (omega arith) ∙ simp (two_more, add-one)

pub front_at : (s : List Float) (n i : ℕ) (z : Coord) → 2 * n ≤ length s → i < n → get_or (coords (take (2 * n) s)) i z ≡ coord_at s i
front_at s n i z h l =
    let e = length-take-le (2 * n) s h in
    coords-at i (take (2 * n) s) z (omega arith)
    ∙ rw (get_or-take (2 * n) s (2 * i) nan (omega arith), get_or-take (2 * n) s (2 * i + 1) nan (omega arith))

-- ---- closing

pub last-at : (p : Coord) (r : List Coord) (z : Coord) → last p r ≡ get_or (p ∷ r) (length r) z
unfolding last
last-at p [] z = refl
last-at p (q ∷ r) z = last-at q r z

pub closed_none : (l : List Coord) → length l ≡ 0 → closed l ≡ true
unfolding closed
closed_none [] e = refl
closed_none (p ∷ r) e = absurd (omega arith)

-- closed, by the first and the last coordinate
pub closed_at : (l : List Coord) (n : ℕ) (z : Coord) → length l ≡ suc n → closed l ≡ same (get_or l 0 z) (get_or l n z)
unfolding closed
closed_at [] n z e = absurd (omega arith)
closed_at (p ∷ r) n z e = let h : length r ≡ n = omega arith in rw (last-at p r z, h)

pub closed-front : (s : List Float) (n : ℕ) → 2 * n ≤ length s → 0 < n → closed (coords (take (2 * n) s)) ≡ same (coord_at s 0)
    (coord_at s (n - 1))
closed-front s n h l =
    let z : Coord = record { x = nan; y = nan } in
    let e : length (coords (take (2 * n) s)) ≡ suc (n - 1) = length_front s n h ∙ omega arith in
    closed_at (coords (take (2 * n) s)) (n - 1) z e ∙ rw (front_at s n 0 z h l, front_at s n (n - 1) z h (omega arith))

pub close-closed : (l : List Coord) → closed l ≡ true → close l ≡ l
unfolding close
close-closed [] e = refl
close-closed (p ∷ r) e = rw e

pub close_open : (l : List Coord) (z : Coord) → closed l ≡ false → close l ≡ l ++ (get_or l 0 z ∷ [])
unfolding close closed
close_open [] z e = absurd (true≢false e)
close_open (p ∷ r) z e = rw e

pub last-append : (p : Coord) (r : List Coord) (q : Coord) → last p (r ++ (q ∷ [])) ≡ q
unfolding last
last-append p [] q = refl
last-append p (s ∷ r) q = last-append s r q

-- closing closes a ring whose first coordinate equals itself
pub close-closes : (p : Coord) (r : List Coord) → same p p ≡ true → closed (close (p ∷ r)) ≡ true
unfolding close closed
close-closes p r e = go (closed (p ∷ r)) refl
  where
    go : (t : Bool) → closed (p ∷ r) ≡ t → closed (cond t (p ∷ r) ((p ∷ r) ++ (p ∷ []))) ≡ true
    go true h = h
    go false h = rw (last-append p r p) e

pub length-close : (l : List Coord) → length l ≤ length (close l)
unfolding close
length-close [] = omega arith
length-close (p ∷ r) = go (closed (p ∷ r))
  where
    go : (t : Bool) → length (p ∷ r) ≤ length (cond t (p ∷ r) ((p ∷ r) ++ (p ∷ [])))
    go true = omega arith
    go false = omega (arith, length-append (p ∷ r) (p ∷ []))

pub count-closed : (l : List Coord) → closed l ≡ true → length (close l) ≡ length l
count-closed l e = rw (close-closed l e)

pub count_open : (l : List Coord) → closed l ≡ false → length (close l) ≡ length l + 1
count_open l e = let z : Coord = record { x = nan; y = nan } in rw (close_open l z e) (length-append l (get_or l 0 z ∷ []))

-- closing adds at most one
pub close-most : (l : List Coord) → length (close l) ≤ length l + 1
close-most l = go (closed l) refl
  where
    go : (c : Bool) → closed l ≡ c → length (close l) ≤ length l + 1
    go true e = omega (arith, count-closed l e)
    go false e = omega (arith, count_open l e)

open_some : (l : List Coord) → closed l ≡ false → 0 < length l
unfolding closed
open_some [] e = absurd (true≢false e)
open_some (p ∷ r) e = omega arith

-- what closing makes of the n coordinates at the front of s
module _ (s : List Float) (n : ℕ) where
  pub written-closed : 2 * n ≤ length s → closed (coords (take (2 * n) s)) ≡ true → Written (close (coords (take (2 * n) s))) s n s
  written-closed h e = record {
    count = rw (close-closed (coords (take (2 * n) s)) e) (sym (length_front s n h));
    numbers = rw (close-closed (coords (take (2 * n) s)) e, flat-front s n h) (sym (take-append-drop (2 * n) s));
  }

  pub written_open : 2 * n + 2 ≤ length s → closed (coords (take (2 * n) s)) ≡ false
      → Written (close (coords (take (2 * n) s))) s (n + 1) (sets s (2 * n) ((coord_at s 0).x ∷ (coord_at s 0).y ∷ []))
  unfolding flat
  written_open h e =
      let z : Coord = record { x = nan; y = nan } in
      let l = coords (take (2 * n) s) in
      let m : length l ≡ n = length_front s n (omega arith) in
      let k : close l ≡ l ++ (coord_at s 0 ∷ []) = close_open l z e ∙ rw (front_at s n 0 z (omega arith) (omega (arith, open_some l e))) in
      let two : 2 * (n + 1) ≡ 2 * n + 2 = omega arith in
      record {
        count = sym (count_open l e ∙ rw m);
        numbers =
            rw (k, flat_append l (coord_at s 0 ∷ []), flat-front s n (omega arith), two)
            (sets-eq ((coord_at s 0).x ∷ (coord_at s 0).y ∷ []) s (2 * n) h);
      }
