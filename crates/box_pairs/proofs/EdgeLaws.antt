-- The edges of the ring at the front of a slice: the sweep's law holds of their crossings, by their lowest x in the total order. Assumes
-- nothing.
use mathlib.Core.Path.{◌≡◌, refl, sym, ap, ap₂, subst, ◌∙◌}
use mathlib.Core.Bool.{Bool, true, false, cond, ◌&&◌, and-false}
use mathlib.Mathlib.Data.Bool.Basic.{eq-false_of_not-eq-true}
use mathlib.Core.List.{List}
use Prim.Native.Nat.{ℕ, ◌+◌, ◌*◌, ◌/◌, ◌-◌, ◌≤◌, ◌<◌}
use native.Mathlib.Omega.{arith}
use lib.Dec.{T, ltb}
use borrow.Author.Tests.{lt-ltb, le-ltb, not-false}
use lib.Ieee.{Float, nan, binary64, fits, is_nan, lt}
use lib.ListN.{length, get_or, set, drop, length-set}
use lib.Seq.{take-length, get_or-set_same, get_or-set_other, drop-set-lt, drop-drop, get_or-take}
use native.Mathlib.Decide.{ℕ_discrete}
use Rattle.binary64.specs.Compare.{minimum, maximum}
use Rattle.binary64.specs.Internal.{key}
use Rattle.binary64.proofs.Booleans.{never_both}
use Rattle.binary64.proofs.KeyOrder.{key-order}
use Rattle.binary64.proofs.FloatOrder.{lt-not-above}
use Rattle.tile.specs.declared.Coord.{Coord}
use Rattle.tile.specs.Internal.{coord_at}
use Rattle.tile.specs.Ring.{coords}
use Rattle.tile.proofs.Rings.{front_at, length_front, coords-take, count-coords}
use Rattle.box_pairs.specs.declared.pairs.Pair.{Pair}
use Rattle.std.specs.Prelude.{Option, Some, None}
use Rattle.box_pairs.specs.Cross.{cross}
use Rattle.box_pairs.specs.Internal.{key_at, Kept, Sorted, front, edges_at, may_meet_in_y, low_x, high_x, Noted, Swept}
use Rattle.box_pairs.specs.Internal.{Unused, pair_number, lesser, PairBelow}
use Rattle.box_pairs.specs.Pairs.{vertex_at, edges_cross, first_from, first_pair}
use Rattle.box_pairs.specs.Internal.{any_pair, self_intersecting}
use Rattle.box_pairs.proofs.FloatCrossing.{minimum-is-number}
use Rattle.box_pairs.proofs.Crossing.{cross_mirror, cross-numbers, apart-left, apart_y}
use Rattle.box_pairs.proofs.Sweep.{Sweeps}
use Rattle.box_pairs.proofs.First.{is_pair, First, first_from_lem, first_verdict}

-- ---- the n edges of the ring of n + 1 coordinates at the front of s

module _ (s : List Float) (n : ℕ) (room : 2 * (n + 1) ≤ length s) where
  at_front : (i : ℕ) → i < n + 1 → vertex_at (front s (n + 1)) i ≡ coord_at s i
  at_front i l = front_at s (n + 1) i (record { x = nan; y = nan }) room l

  pub crossing-front : self_intersecting (front s (n + 1)) ≡ any_pair (edges_cross (front s (n + 1))) n
  unfolding self_intersecting
  crossing-front = let e : length (front s (n + 1)) - 1 ≡ n = omega (arith, length_front s (n + 1) room) in rw e

  pub first_front : first_pair (front s (n + 1)) ≡ first_from (edges_cross (front s (n + 1))) 0 n
  unfolding first_pair
  first_front = let e : length (front s (n + 1)) - 1 ≡ n = omega (arith, length_front s (n + 1) room) in rw e

  pub edges_front : (i j : ℕ) → i < n → j < n → cross (coord_at s i) (coord_at s (i + 1)) (coord_at s j) (coord_at s (j + 1)) ≡ edges_cross
      (front s (n + 1)) i j
  unfolding edges_cross
  edges_front i j li lj =
      rw (at_front i (omega arith), at_front (i + 1) (omega arith), at_front j (omega arith), at_front (j + 1) (omega arith))

  pub lesser-front : (i j m : ℕ) → i < n → j < n → lesser s i j m ≡ cond (ltb (pair_number i j) m && edges_cross (front s (n + 1)) i j)
      (pair_number i j) m
  unfolding lesser
  lesser-front i j m li lj = rw (edges_front i j li lj)

  pub low_front : (i : ℕ) → i < n → minimum (coord_at s i).x (coord_at s (i + 1)).x ≡ low_x (front s (n + 1)) i
  unfolding low_x
  low_front i l = ap₂ (λ (p q : Coord). minimum p.x q.x) (sym (at_front i (omega arith))) (sym (at_front (i + 1) (omega arith)))

  pub high_front : (i : ℕ) → i < n → maximum (coord_at s i).x (coord_at s (i + 1)).x ≡ high_x (front s (n + 1)) i
  unfolding high_x
  high_front i l = ap₂ (λ (p q : Coord). maximum p.x q.x) (sym (at_front i (omega arith))) (sym (at_front (i + 1) (omega arith)))

-- edges whose boxes are separate in y do not cross
pub never_meet : (s : List Float) (i j : ℕ) → may_meet_in_y s i j ≡ false → edges_at s i j ≡ false
unfolding may_meet_in_y
never_meet s i j e = apart_y (coord_at s i) (coord_at s (i + 1)) (coord_at s j) (coord_at s (j + 1)) (not-false _ e)

-- ---- the lesser of a number and that of two edges

module _ (s : List Float) (i j m : ℕ) where
  pub lesser_hit : (r : ℕ) → r ≡ pair_number i j → r < m → edges_at s i j ≡ true → r ≡ lesser s i j m
  unfolding lesser
  lesser_hit r e l h = let q : ltb (pair_number i j) m ≡ true = rw (← e) (lt-ltb r m l) in rw (q, h) e

  pub lesser_miss : edges_at s i j ≡ false → m ≡ lesser s i j m
  unfolding lesser
  lesser_miss h = rw (h, and-false (ltb (pair_number i j) m))

  pub lesser-over : (r : ℕ) → r ≡ pair_number i j → m ≤ r → m ≡ lesser s i j m
  unfolding lesser
  lesser-over r e l = let q : ltb (pair_number i j) m ≡ false = rw (← e) (le-ltb r m l) in rw q

-- ---- the sweep's law

-- edge j, and so each after it by lowest x, starts past the end of edge i
abbrev pub stops : List Coord → ℕ → ℕ → Bool
stops r i j = lt (high_x r i) (low_x r j)

-- edges that cross hold numbers, and the one does not start past the other's end
past_end : (r : List Coord) (i j l : ℕ) → T (fits binary64 (low_x r j)) → T (fits binary64 (low_x r l)) → key (low_x r j) ≤ key (low_x r l)
    → stops r i j ≡ true → edges_cross r i l ≡ false
unfolding edges_cross low_x high_x
past_end r i j l fj fl k s = eq-false_of_not-eq-true (λ e.
    let n = (cross-numbers (vertex_at r i) (vertex_at r (i + 1)) (vertex_at r l) (vertex_at r (l + 1)) e).0 in
    let number : is_nan (low_x r l) ≡ false = minimum-is-number (vertex_at r l).x (vertex_at r (l + 1)).x n.third n.fourth in
    let beyond : lt (high_x r i) (low_x r l) ≡ true = lt-not-above (high_x r i) (low_x r j) (low_x r l) number s
    (key-order (low_x r j) (low_x r l) fj fl k) in
    never_both e (apart-left (vertex_at r i) (vertex_at r (i + 1)) (vertex_at r l) (vertex_at r (l + 1)) beyond))

edges_mirror : (r : List Coord) (i j : ℕ) → edges_cross r i j ≡ edges_cross r j i
unfolding edges_cross
edges_mirror r i j = cross_mirror (vertex_at r i) (vertex_at r (i + 1)) (vertex_at r j) (vertex_at r (j + 1))

-- the lowest x are doubles, as they stand in a slice
pub edge_sweeps : (n : ℕ) (r : List Coord) (lows : List Float) (order : List ℕ) → Swept n r lows order
    → ((i : ℕ) → T (fits binary64 (get_or lows i nan))) → Sweeps (λ i. key (low_x r i)) n (stops r) (edges_cross r)
edge_sweeps n r lows order w f =
    let low_fits : (i : ℕ) → i < n → T (fits binary64 (low_x r i)) = λ i l. subst (λ (x : Float). T (fits binary64 x)) (w.noted i l) (f i) in
    record {
      mirror = edges_mirror r;
      past = λ i j l li lj ll k e. past_end r i j l (low_fits j lj) (low_fits l ll) k e;
    }

-- ---- the loop that notes the lowest x

pub record Noting (n i : ℕ) (r : List Coord) (before after : List Float) : Type 0 where
  pub inside : i ≤ n
  pub same : length after ≡ length before
  pub lows : (j : ℕ) → j < i → get_or after j nan ≡ low_x r j
  pub rest : drop n after ≡ drop n before

pub note_start : (n : ℕ) (r : List Coord) (w : List Float) → Noting n 0 r w w
note_start n r w = record { inside = omega arith; same = refl; lows = λ j l. absurd (omega arith); rest = refl }

pub note_step : (n i : ℕ) (r : List Coord) (w₀ w : List Float) (x : Float) → i < n → n ≤ length w₀ → x ≡ low_x r i → Noting n i r w₀ w
    → Noting n (i + 1) r w₀ (set w i x)
note_step n i r w₀ w x l room e h =
    let li : i < length w = omega (arith, h.same) in
    record {
      inside = omega arith;
      same = length-set w i x ∙ h.same;
      lows = λ j lj.
          elim (ℕ_discrete j i) [
            | yes q ↦ subst (λ (m : ℕ). get_or (set w i x) m nan ≡ low_x r m) (sym q) (get_or-set_same w i x nan li ∙ e)
            | no ne ↦ get_or-set_other w i j x nan ne ∙ h.lows j (omega arith)
          ];
      rest = drop-set-lt n w i x l ∙ h.rest;
    }

pub note_end : (n i : ℕ) (r : List Coord) (w₀ w : List Float) → n ≤ i → Noting n i r w₀ w → Noted n r w₀ w
note_end n i r w₀ w l h = record { lows = λ j lj. h.lows j (omega arith); rest = h.rest }

-- ---- the numbers noted, and the positions sorted by them

-- what is the same from one slot on is the same from a later one on
drop_more : {A : Type 0} (k l : ℕ) (xs ys : List A) → k ≤ l → drop k xs ≡ drop k ys → drop l xs ≡ drop l ys
drop_more k l xs ys h e =
    let q : k + (l - k) ≡ l = omega arith in
    subst (λ (m : ℕ). drop m xs ≡ drop m ys) q (sym (drop-drop (l - k) k xs) ∙ rw e (drop-drop (l - k) k ys))

module _ (n : ℕ) (r : List Coord) (w₀ w₁ w₂ : List Float) (o₀ o₁ : List ℕ) (noted : Noted n r w₀ w₁) (kept : Kept n w₁ w₂)
    (sorted : Sorted (key_at n w₁) n o₀ o₁) where
  key_low : (i : ℕ) → i < n → key_at n w₁ i ≡ key (low_x r i)
  key_low i l = ap key (get_or-take n w₁ i nan l ∙ noted.lows i l)

  pub noted-swept : Swept n r w₂ o₁
  noted-swept =
      record {
        noted = λ i l. sym (get_or-take n w₂ i nan l) ∙ rw kept.numbers (get_or-take n w₁ i nan l) ∙ noted.lows i l;
        positions = sorted.positions;
        sorted = λ i j ij jn.
            omega (
              arith,
              sorted.in_order i j ij jn,
              key_low (get_or o₁ i 0) (sorted.positions.below i (omega arith)),
              key_low
                  (get_or o₁ j 0) (sorted.positions.below j jn),
            );
      }

  pub noted_unused : Unused (n + 1) w₀ o₀ w₂ o₁
  noted_unused =
      record {
        past_work =
            drop_more (2 * n) (2 * (n + 1)) w₂ w₁ (omega arith) kept.rest ∙ drop_more n (2 * (n + 1)) w₁ w₀ (omega arith) noted.rest;
        past_order = drop_more n (n + 1) o₁ o₀ (omega arith) sorted.rest;
      }

-- ---- the verdict and the first pair

-- there is a first pair exactly where two edges cross
pub crossing_first : (r : List Coord) → is_pair (first_pair r) ≡ self_intersecting r
unfolding first_pair self_intersecting
crossing_first r = first_verdict (edges_cross r) (length r - 1)

-- where none cross there is none
pub crossing-no_pair : (r : List Coord) → self_intersecting r ≡ false → None ≡ first_pair r
crossing-no_pair r e = go (first_pair r) (crossing_first r ∙ e)
  where
    go : (x : Option Pair) → is_pair x ≡ false → None ≡ x
    go None h = refl
    go (Some x) h = absurd (never_both refl h)

-- the edges of the first pair are edges of the ring
pub pair_below : (n : ℕ) (r : List Coord) → length r ≤ n → PairBelow n (first_pair r)
unfolding first_pair First
pair_below n r h = go (first_from (edges_cross r) 0 (length r - 1)) (first_from_lem (edges_cross r) 0 (length r - 1))
  where
    go : (x : Option Pair) → First (edges_cross r) 0 (length r - 1) x → PairBelow n x
    go None f = tt
    go (Some x) f = (omega (arith, f.1, f.2), omega (arith, f.2))

-- ---- a ring that is a whole slice

whole_front : (s : List Float) → front s (length s / 2) ≡ coords s
whole_front s = coords-take (length s / 2) s ∙ rw (← count-coords s) (take-length (coords s))

pub front-none : (s : List Float) → length s / 2 ≡ 0 → first_pair (coords s) ≡ None
unfolding first_pair first_from coords
front-none s e = rw (← whole_front s, e)

-- of its edges there is one less than of its coordinates
pub edges_whole : (s : List Float) → (length s / 2 ≡ 0 → ⊥) → front s (length s / 2 - 1 + 1) ≡ coords s
edges_whole s h = let q : length s / 2 - 1 + 1 ≡ length s / 2 = omega arith in rw q (whole_front s)
