-- What a route leaves to be done: where a box is found all rings can be cut, and an overlay writes nothing. Assumes nothing.
use mathlib.Core.Path.{◌≡◌, refl}
use mathlib.Core.Bool.{Bool, true, false, cond}
use mathlib.Core.List.{List}
use Prim.Native.Nat.{ℕ}
use native.Mathlib.Omega.{arith}
use lib.Ieee.{Float}
use Rattle.tile.specs.declared.Coord.{Coord}
use Rattle.tile.specs.declared.TileBounds.{TileBounds}
use Rattle.rings.specs.Representable.{any_huge_ring}
use Rattle.rings.specs.declared.rectangle.Rect.TheVariants as Rects
use Rattle.rings.specs.Rectangle.{rectangle}
use Rattle.rings.specs.LentRings.{closed_rings}
use Rattle.rings.proofs.Closing.{all_closed_lem, box_finite}
use Rattle.clip.specs.declared.polygon.Reason.{Reason}
use Rattle.clip.specs.Polygon.{dropped, overlay, overlay_or_dropped}
use Rattle.clip.specs.Origins.{routed_origins}
use Rattle.polygon_rings.specs.WrittenRings.{numbers_of, lengths_of, origins_of}
use Rattle.polygon_rings.proofs.Holes.{Rooms}
use Rattle.polygon_rings.specs.Internal.{none_placed, LentOriginsRoom, PolygonRoom, Filled, FilledOrigins}

-- where a box is found closing closes every ring, so that all can be cut
pub boxed : (ns : List ℕ) (s : List Float) (scratch origin_scratch order out lens out_origins : ℕ) (w l e h : Float)
    → PolygonRoom (closed_rings ns s) scratch order out lens → LentOriginsRoom (closed_rings ns s) origin_scratch out_origins none_placed
    → rectangle (closed_rings ns s) ≡ Rects.Box w l e h
    → Rooms (closed_rings ns s) scratch origin_scratch out lens out_origins none_placed
boxed ns s scratch origin_scratch order out lens out_origins w l e h p o box = (
  record {
    small = p.small;
    closes = all_closed_lem Rects.Nothing ns s (box_finite _ _ _ _ _ box);
    scratch-room = p.scratch-room;
    output-room = omega (arith, p.output-room);
    lengths-room = omega (arith, p.lengths-room);
  },
  o,
)

-- an overlay, dropped or not, writes nothing
pub overlay_filled : (b : TileBounds) (rings : List (List Coord)) (reason : Reason) (out : List Float) (lens os : List ℕ)
    → Filled (overlay_or_dropped rings reason) 0 lens out lens × FilledOrigins (routed_origins (overlay_or_dropped rings reason) b rings) 0 os
unfolding overlay_or_dropped numbers_of lengths_of origins_of
overlay_filled b rings reason out lens os = go (any_huge_ring rings)
  where
    go : (t : Bool) → Filled (cond t dropped (overlay reason)) 0 lens out lens
        × FilledOrigins (routed_origins (cond t dropped (overlay reason)) b rings) 0 os
    go true = (record { count = refl; output = refl; lengths = refl }, record { count = refl; output = refl })
    go false = (record { count = refl; output = refl; lengths = refl }, record { count = refl; output = refl })
