-- The loop over a ring's coordinates: the rectangle so far, with what is left, is that of the whole; its four numbers are no NaN once a
-- coordinate is in. Assumes nothing.
use mathlib.Core.Path.{◌≡◌, ◌∙◌, subst}
use mathlib.Core.Bool.{true, false}
use mathlib.Core.List.{List}
use Prim.Native.Nat.{ℕ, ◌+◌, ◌*◌, ◌<◌, ◌≤◌}
use native.Mathlib.Numerals.{add-one}
use native.Mathlib.Omega.{arith}
use lib.Ieee.{Float, nan}
use lib.ListN.{length, get_or, take, drop, drop_of_length-le}
use lib.Seq.{drop-cons}
use Rattle.binary64.specs.Internal.{lower, higher}
use Rattle.binary64.proofs.Comparisons.{lower-minimum, higher-maximum}
use Rattle.tile.specs.declared.Coord.{Coord}
use Rattle.tile.specs.Ring.{coords}
use Rattle.tile.specs.Internal.{coord_at}
use Rattle.tile.proofs.Rings.{length_front, front_at}
use Rattle.rings.specs.declared.rectangle.Rect.{Rect}
use Rattle.rings.specs.declared.rectangle.Rect.TheVariants as Rects
use Rattle.rings.specs.Rectangle.{is_finite_coord, with_coord, with_ring}
use Rattle.rings.specs.Internal.{Numbers}
use Rattle.rings.proofs.Closing.{Corners, Holds, holds_new}

pub ring-step : (r : Rect) (ring : List Coord) (i : ℕ) (z : Coord) → i < length ring → with_ring r (drop i ring) ≡ with_ring
    (with_coord r (get_or ring i z)) (drop (i + 1) ring)
unfolding with_ring
ring-step r ring i z h = rw (add-one, drop-cons ring i z h)

pub ring_end : (r : Rect) (ring : List Coord) (i : ℕ) → length ring ≤ i → with_ring r (drop i ring) ≡ r
unfolding with_ring
ring_end r ring i h = rw (drop_of_length-le ring h)

-- the first coordinate, then the rest
pub ring_first : (r : Rect) (s : List Float) (n : ℕ) → 2 * n ≤ length s → 0 < n → with_ring r (coords (take (2 * n) s)) ≡ with_ring
    (with_coord r (coord_at s 0)) (drop 1 (coords (take (2 * n) s)))
ring_first r s n h l =
    let z : Coord = record { x = nan; y = nan } in
    let m = length_front s n h in
    ring-step r (coords (take (2 * n) s)) 0 z (omega arith) ∙ rw (front_at s n 0 z h l)

-- ---- four numbers

pub corners_numbers : (p : Coord) (w s e n : Float) → Corners p w s e n → Numbers w s e n
corners_numbers p w s e n h = record { west = h.west.number; south = h.south.number; east = h.east.number; north = h.north.number }

module _ (w s e n : Float) (p : Coord) where
  pub box_stop : is_finite_coord p ≡ false → with_coord (Rects.Box w s e n) p ≡ Rects.NotFinite
  unfolding with_coord
  box_stop h = rw h

  -- the four numbers with one coordinate more, by one comparison each
  module _ (h : Numbers w s e n) (f : is_finite_coord p ≡ true) where
    pub box_then : with_coord (Rects.Box w s e n) p ≡ Rects.Box (lower w p.x) (lower s p.y) (higher e p.x) (higher n p.y)
    unfolding with_coord
    box_then =
        rw (
          f,
          lower-minimum w p.x h.west,
          lower-minimum s p.y h.south,
          higher-maximum e p.x h.east,
          higher-maximum n
              p.y h.north,
        )

    pub box_numbers : Numbers (lower w p.x) (lower s p.y) (higher e p.x) (higher n p.y)
    box_numbers = corners_numbers p _ _ _ _ (subst (Holds p) box_then (holds_new p (Rects.Box w s e n)))
