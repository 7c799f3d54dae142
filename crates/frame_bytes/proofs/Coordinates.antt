-- The coordinates of a ring in a frame: how many they are, the last of them, and what is left when one more is passed or written. Assumes
-- nothing.
use mathlib.Core.Path.{◌≡◌, refl, sym, ◌∙◌, ap}
use mathlib.Core.List.{List, [], ◌∷◌}
use Prim.Native.Nat.{ℕ, zero, suc, ◌+◌, ◌*◌, ◌-◌, ◌<◌, ◌≤◌}
use native.Mathlib.Omega.{arith}
use lib.Ieee.{Float}
use lib.ListN.{length, get_or, take, drop}
use lib.Seq.{sets, sets-eq, drop-drop}
use Rattle.tile.specs.declared.Coord.{Coord}
use Rattle.tile.specs.Ring.{coords, flat, same, last, closed, close}
use Rattle.tile.proofs.Rings.{length-flat, coords-front, close-most}
use Rattle.frame_bytes.specs.Frame.{coord_of, coords_of}

pub length-coords_of : (n : ℕ) (l : List ℕ) → length (coords_of n l) ≡ n
unfolding coords_of
length-coords_of zero l = refl
length-coords_of (suc n) l = ap suc (length-coords_of n (drop 16 l))

-- a coordinate by its place
pub coords_of-at : (i n : ℕ) (l : List ℕ) (z : Coord) → i < n → get_or (coords_of n l) i z ≡ coord_of (drop (16 * i) l)
unfolding coords_of
coords_of-at i zero l z h = absurd (omega arith)
coords_of-at zero (suc n) l z h = refl
coords_of-at (suc i) (suc n) l z h =
    let e : 16 * suc i ≡ 16 + 16 * i = omega arith in
    coords_of-at i n (drop 16 l) z (omega arith) ∙ rw (e, ← drop-drop (16 * i) 16 l)

-- and by its place in a frame
pub coord_there : (frame : List ℕ) (at n i : ℕ) (z : Coord) → i < n → get_or (coords_of n (drop at frame)) i z
    ≡ coord_of (drop (at + 16 * i) frame)
coord_there frame at n i z h = coords_of-at i n (drop at frame) z h ∙ ap coord_of (drop-drop (16 * i) at frame)

last-coords_of : (n : ℕ) (l : List ℕ) → last (coord_of l) (coords_of n (drop 16 l)) ≡ coord_of (drop (16 * n) l)
unfolding last coords_of
last-coords_of zero l = refl
last-coords_of (suc n) l =
    let e : 16 * suc n ≡ 16 + 16 * n = omega arith in
    rw (e, ← drop-drop (16 * n) 16 l) (last-coords_of n (drop 16 l))

-- closed, by the first and the last coordinate
pub closed-coords_of : (frame : List ℕ) (at n : ℕ) → 0 < n → closed (coords_of n (drop at frame)) ≡ same (coord_of (drop at frame))
    (coord_of (drop (at + 16 * (n - 1)) frame))
unfolding closed coords_of
closed-coords_of frame at zero h = absurd (omega arith)
closed-coords_of frame at (suc n) h =
    let e : suc n - 1 ≡ n = omega arith in
    rw (e, ← drop-drop (16 * n) at frame, last-coords_of n (drop at frame))

-- closing adds at most one
pub close_grows : (n : ℕ) (l : List ℕ) → length (close (coords_of n l)) ≤ n + 1
close_grows n l = omega (arith, close-most (coords_of n l), length-coords_of n l)

-- what is left of the n coordinates at a place when i of them are passed
module _ (frame : List ℕ) (at n : ℕ) where
  abbrev pub left : ℕ → List Coord
  left i = coords_of (n - i) (drop (at + 16 * i) frame)

  pub left-none : left 0 ≡ coords_of n (drop at frame)
  left-none =
      let m : n - 0 ≡ n = omega arith in
      let d : at + 16 * 0 ≡ at = omega arith in
      rw (m, d)

  pub left_one : (i : ℕ) → i < n → left i ≡ coord_of (drop (at + 16 * i) frame) ∷ left (i + 1)
  unfolding coords_of
  left_one i h =
      let e : n - i ≡ suc (n - (i + 1)) = omega arith in
      let d : at + 16 * (i + 1) ≡ at + 16 * i + 16 = omega arith in
      rw (e, d, ← drop-drop 16 (at + 16 * i) frame)

  pub left-all : (i : ℕ) → n ≤ i → left i ≡ []
  unfolding coords_of
  left-all i h = let e : n - i ≡ 0 = omega arith in rw e

-- what is left to write, with one coordinate of it written
module _ (frame : List ℕ) (at n : ℕ) where
  pub none_written : (ring : List Float) → sets ring 0 (flat (coords_of n (drop at frame))) ≡ sets ring 0 (flat (left frame at n 0))
  none_written ring = rw (left-none frame at n)

  pub one_written : (ring : List Float) (i : ℕ) → i < n
      → sets ring (2 * i) (flat (left frame at n i)) ≡ sets
      (sets ring (2 * i) ((coord_of (drop (at + 16 * i) frame)).x ∷ (coord_of (drop (at + 16 * i) frame)).y ∷ [])) (2 * (i + 1))
      (flat (left frame at n (i + 1)))
  unfolding flat
  one_written ring i h =
      let p : 2 * (i + 1) ≡ suc (suc (2 * i)) = omega arith in
      rw (left_one frame at n i h, p)

  pub all-written : (ring : List Float) (i : ℕ) → n ≤ i → sets ring (2 * i) (flat (left frame at n i)) ≡ ring
  unfolding flat
  all-written ring i h = rw (left-all frame at n i h)

-- a ring that was written to the front of a slice stands there
pub decoded : (ring : List Float) (n : ℕ) (l : List ℕ) → 2 * n ≤ length ring → coords (take (2 * n) (sets ring 0 (flat (coords_of n l))))
    ≡ coords_of n l
decoded ring n l h =
    let m : length (flat (coords_of n l)) ≡ 2 * n = length-flat (coords_of n l) ∙ rw (length-coords_of n l) in
    coords-front (coords_of n l) (drop (0 + length (flat (coords_of n l))) ring) (sets ring 0 (flat (coords_of n l))) n
    (sym (length-coords_of n l)) (sets-eq (flat (coords_of n l)) ring 0 (omega arith))
