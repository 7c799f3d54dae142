-- Cuts at the bounds 0, 0, 10, 10 that document 01 does not work out, with their origins, and two figures for B, computed from the
-- definitions. The worked rings are in the table of the crate `frames`. Assumes nothing.
use mathlib.Core.Path.{◌≡◌, refl}
use mathlib.Core.List.{List, [], ◌∷◌}
use Prim.Native.Nat.{ℕ}
use lib.Ieee.{nan, le, eq, add, sub, mul, div, neg}
use Rattle.binary64.specs.Interpolation.{interpolate}
use Rattle.tile.specs.declared.Coord.{Coord}
use Rattle.tile.specs.declared.TileBounds.{TileBounds}
use Rattle.tile.specs.Ring.{same, last, closed, close}
use Rattle.tile.proofs.WholeNumbers.{num, at}
use Rattle.cutting_lines.specs.CuttingLines.{inside, crossing}
use Rattle.edge_pass.specs.Pass.{steps, leave_off, around, pass}
use Rattle.edge_pass.specs.Origins.{steps_origins, around_origins, pass_origins}
use Rattle.edge_pass.specs.Growth.{half_growth}
use Rattle.sutherland_hodgman.specs.Clip.{passes, finish, clip_ring}
use Rattle.sutherland_hodgman.specs.Origins.{positions_from, passes_origins, close_origins, finish_origins, clip_origins}
use Rattle.sutherland_hodgman.specs.Growth.{four_half_growths, B}

ten : TileBounds
unfolding num
ten = record { lng_min = num 0; lat_min = num 0; lng_max = num 10; lat_max = num 10 }

-- what is left of a vertex with a NaN longitude: Left gives it a NaN latitude, and Bottom its bound for that and a NaN longitude
edge : Coord
unfolding num
edge = record { x = nan; y = num 0 }

-- north-west and south-east of the tile's corner at 0, 0
north_west : ℕ → ℕ → Coord
unfolding num
north_west x y = record { x = neg (num x); y = num y }

south_east : ℕ → ℕ → Coord
unfolding num
south_east x y = record { x = num x; y = neg (num y) }

south_west : ℕ → ℕ → Coord
unfolding num
south_west x y = record { x = neg (num x); y = neg (num y) }

-- a ring, its cut, and the origins of its vertices
pub record Case : Type 0 where
  pub ring : List Coord
  pub cut : List Coord
  pub origins : List ℕ

abbrev left : ℕ
left = 65532

abbrev right : ℕ
right = 65533

abbrev bottom : ℕ
bottom = 65534

abbrev top : ℕ
top = 65535

-- a ring that two passes cut at the one corner; one with a NaN longitude; one with an edge on a line; one around a corner of the tile,
-- which the later of two lines makes; one where a line makes a vertex that the ring has too, which a later pass leaves off; one where the
-- last line does, so that the cut's last vertex closes it and keeps its own origin; one closed by a zero of the other sign
abbrev cases : List Case
cases =
    record {
      ring = at 8 8 ∷ at 12 12 ∷ at 8 12 ∷ [];
      cut = at 8 10 ∷ at 8 8 ∷ at 10 10 ∷ at 10 10 ∷ at 8 10 ∷ [];
      origins = top ∷ 0 ∷ right ∷ top ∷ top ∷ [];
    }
    ∷ record {
      ring = record { x = nan; y = num 5 } ∷ at 5 5 ∷ at 5 6 ∷ [];
      cut = edge ∷ edge ∷ at 5 5 ∷ at 5 6 ∷ edge ∷ [];
      origins = bottom ∷ bottom ∷ 1 ∷ 2 ∷ bottom ∷ [];
    }
    ∷ record {
      ring = at 10 2 ∷ at 20 2 ∷ at 20 8 ∷ at 10 8 ∷ [];
      cut = at 10 2 ∷ at 10 2 ∷ at 10 8 ∷ at 10 8 ∷ at 10 2 ∷ [];
      origins = 0 ∷ right ∷ right ∷ 3 ∷ 0 ∷ [];
    }
    ∷ record {
      ring = south_west 5 5 ∷ south_east 5 5 ∷ at 5 5 ∷ north_west 5 5 ∷ [];
      cut = at 0 0 ∷ at 5 0 ∷ at 5 5 ∷ at 0 5 ∷ at 0 0 ∷ [];
      origins = bottom ∷ bottom ∷ 2 ∷ left ∷ bottom ∷ [];
    }
    ∷ record {
      ring = at 15 5 ∷ at 5 5 ∷ at 5 8 ∷ at 10 5 ∷ [];
      cut = at 10 5 ∷ at 10 5 ∷ at 5 5 ∷ at 5 8 ∷ at 10 5 ∷ [];
      origins = right ∷ right ∷ 1 ∷ 2 ∷ right ∷ [];
    }
    ∷ record {
      ring = at 5 15 ∷ at 5 5 ∷ at 8 5 ∷ at 5 10 ∷ [];
      cut = at 5 10 ∷ at 5 10 ∷ at 5 5 ∷ at 8 5 ∷ at 5 10 ∷ [];
      origins = top ∷ top ∷ 1 ∷ 2 ∷ 3 ∷ [];
    }
    ∷ record {
      ring = at 0 0 ∷ at 5 0 ∷ at 5 5 ∷ north_west 0 0 ∷ [];
      cut = at 0 0 ∷ at 5 0 ∷ at 5 5 ∷ at 0 0 ∷ [];
      origins = 0 ∷ 1 ∷ 2 ∷ 0 ∷ [];
    }
    ∷ []

-- what is made of the rings, by the definitions and as it should be
abbrev clipped : List Case → List (List Coord)
clipped [] = []
clipped (c ∷ cs) = clip_ring ten c.ring ∷ clipped cs

abbrev cuts : List Case → List (List Coord)
cuts [] = []
cuts (c ∷ cs) = c.cut ∷ cuts cs

each-cut : clipped cases ≡ cuts cases
unfolding clip_ring finish passes pass around leave_off steps inside crossing same last closed close interpolate ten at edge north_west
    south_east south_west num le eq add sub mul div neg
each-cut = refl

abbrev traced : List Case → List (List ℕ)
traced [] = []
traced (c ∷ cs) = clip_origins ten c.ring ∷ traced cs

abbrev wanted : List Case → List (List ℕ)
wanted [] = []
wanted (c ∷ cs) = c.origins ∷ wanted cs

each_traced : traced cases ≡ wanted cases
unfolding clip_origins finish_origins close_origins passes_origins pass_origins around_origins steps_origins positions_from passes pass around
    leave_off steps inside crossing same last closed close interpolate ten at edge north_west south_east south_west num le eq add sub mul div
    neg
each_traced = refl

-- document 01's figure for B, and the room of the longest ring
four_vertices : B 4 ≡ 21
unfolding B four_half_growths half_growth
four_vertices = refl

most-coordinates : B 65532 ≡ 331757
unfolding B four_half_growths half_growth
most-coordinates = refl
