-- What the origins of a cut polygon say of its coordinates: there are as many, ring by ring; each came from its ring as that was lent, or
-- from a line; and positions rise. Assumes nothing.
use mathlib.Core.Path.{◌≡◌}
use mathlib.Core.Bool.{Bool, true, false, cond}
use mathlib.Core.List.{List, [], ◌∷◌}
use Prim.Native.Nat.{ℕ, ◌<◌}
use native.Mathlib.Omega.{arith}
use lib.ListN.{length, get_or, take}
use Rattle.tile.specs.declared.Coord.{Coord}
use Rattle.tile.specs.declared.TileBounds.{TileBounds}
use Rattle.tile.specs.Ring.{closed, close}
use Rattle.sutherland_hodgman.specs.Clip.{passes, clip_ring}
use Rattle.sutherland_hodgman.specs.Origins.{Traced, Rises}
use Rattle.sutherland_hodgman.proofs.Offered.{clip_close, origins-close, closed_traced, closed_rises, none_rise}
use Rattle.clip.specs.Polygon.{cut_exterior, left_out, cut_hole, unless_none, cut_holes, cut_rings}
use Rattle.clip.specs.Origins.{exterior_origins, hole_origins, holes_origins, cut_origins, AsMany}
use Rattle.clip.proofs.Cuts.{exterior-origins-length, hole_origins-length}

-- ---- ring by ring, there are as many origins as coordinates

unless_none_many : (r : List Coord) (os : List ℕ) (rings : List (List Coord)) (others : List (List ℕ)) → length os ≡ length r
    → AsMany rings others → AsMany (unless_none r rings) (unless_none os others)
unless_none_many [] [] rings others e h = h
unless_none_many [] (o ∷ os) rings others e h = absurd (omega arith)
unless_none_many (p ∷ r) [] rings others e h = absurd (omega arith)
unless_none_many (p ∷ r) (o ∷ os) rings others e h = (e, h)

holes_many : (b : TileBounds) (rings : List (List Coord)) → AsMany (cut_holes b rings) (holes_origins b rings)
unfolding cut_holes holes_origins
holes_many b [] = tt
holes_many b (r ∷ rings) =
    unless_none_many (cut_hole b r) (hole_origins b r) (cut_holes b rings) (holes_origins b rings) (hole_origins-length b r)
    (holes_many b rings)

pub cut_many : (b : TileBounds) (rings : List (List Coord)) → AsMany (cut_rings b rings) (cut_origins b rings)
unfolding cut_rings cut_origins
cut_many b [] = tt
cut_many b (r ∷ rings) = (exterior-origins-length b r, holes_many b rings)

-- ---- where each coordinate came from, and that positions rise before the closing coordinates

-- r is a ring as it was lent, and closing closes it: its first coordinate holds no NaN
module _ (b : TileBounds) (r : List Coord) (closes : closed (close r) ≡ true) where
  pub exterior_traced : (d : Coord) (i : ℕ) → i < length (cut_exterior b (close r))
      → Traced b r (get_or (cut_exterior b (close r)) i d) (get_or (exterior_origins b (close r)) i 0)
  exterior_traced d i h =
      rw (clip_close b r closes, origins-close b r closes) (closed_traced b r d i (rw (clip_close b r closes) at h))

  pub hole_traced : (d : Coord) (i : ℕ) → i < length (cut_hole b (close r))
      → Traced b r (get_or (cut_hole b (close r)) i d) (get_or (hole_origins b (close r)) i 0)
  unfolding cut_hole hole_origins
  hole_traced d i h = go (left_out (clip_ring b (close r))) h
    where
      go : (t : Bool) → i < length (cond t [] (cut_exterior b (close r)))
          → Traced b r (get_or (cond t [] (cut_exterior b (close r))) i d) (get_or (cond t [] (exterior_origins b (close r))) i 0)
      go true l = absurd (omega arith)
      go false l = exterior_traced d i l

pub exterior_rises : (b : TileBounds) (r : List Coord) → Rises (take (length (passes b r)) (exterior_origins b r))
exterior_rises b r = closed_rises b r

pub hole_rises : (b : TileBounds) (r : List Coord) → Rises (take (length (passes b r)) (hole_origins b r))
unfolding hole_origins
hole_rises b r = go (left_out (clip_ring b r))
  where
    go : (t : Bool) → Rises (take (length (passes b r)) (cond t [] (exterior_origins b r)))
    go true = none_rise (length (passes b r))
    go false = exterior_rises b r
