-- What the call of one pass answers and leaves in the lent slices: the definitions of `edge_pass`, where there is room.
-- Definitions only.
use Rattle.std.specs.Prelude.{Bool, ◌&&◌, cond, List, ◌++◌, ℕ, ◌-◌, ◌*◌, ◌/◌, ◌^◌, eqb, leb, Float, length, take, drop, set}
use Rattle.binary64.specs.Slices.{over}
use Rattle.tile.specs.declared.Coord.{Coord}
use Rattle.tile.specs.declared.TileBounds.{TileBounds}
use Rattle.tile.specs.declared.Edge.{Edge}
use Rattle.tile.specs.declared.Edge.TheVariants.{Left, Right, Bottom, Top}
use Rattle.tile.specs.Ring.{coords, flat}
use Rattle.edge_pass.specs.Pass.{pass}
use Rattle.edge_pass.specs.Growth.{half_growth}
use Rattle.edge_pass.specs.Origins.{pass_origins}
use Rattle.edge_pass.specs.Verdicts.{verdicts}
use Rattle.sutherland_hodgman.specs.Growth.{most_coordinates}

-- the edges by number
abbrev pub edge_at : ℕ → Edge
edge_at n = cond (eqb n 0) Left (cond (eqb n 1) Right (cond (eqb n 2) Bottom Top))

-- the vertices of x, y numbers, without a number that is left over
abbrev pub vertices : List Float → List Coord
vertices ring = coords (take (2 * (length ring / 2)) ring)

-- whether each of n vertices has an origin, and a pass over them has room in outputs of these lengths; more vertices than this limit
-- `half_growth` does not take
unfoldable pub has_pass_room : ℕ → ℕ → ℕ → ℕ → Bool
has_pass_room n origins out out_origins =
    leb n (8 * most_coordinates) && (leb n origins && (leb (2 * half_growth n) out && leb (half_growth n) out_origins))

-- the same of the slices that are lent: the ring, its origins, and the outputs for both
abbrev pub fits : List Float → List ℕ → List Float → List ℕ → Bool
fits ring origins out out_origins = has_pass_room (length ring / 2) (length origins) (length out) (length out_origins)

-- what no pass answers
abbrev pub no_room : ℕ
no_room = 2 ^ 64 - 1

-- how many vertices the pass writes
unfoldable pub pass_answer : List Float → List ℕ → ℕ → TileBounds → List Float → List ℕ → ℕ
pass_answer ring origins edge b out out_origins =
    cond (fits ring origins out out_origins) (length (pass (edge_at edge) b (vertices ring))) no_room

-- the vertices from the front of the output, which is otherwise as it was
unfoldable pub pass_output : List Float → List ℕ → ℕ → TileBounds → List Float → List ℕ → List Float
pass_output ring origins edge b out out_origins =
    cond (fits ring origins out out_origins) (over (flat (pass (edge_at edge) b (vertices ring))) out) out

-- as many origins from the front of theirs, which is otherwise as it was
unfoldable pub pass_out_origins : List Float → List ℕ → ℕ → TileBounds → List Float → List ℕ → List ℕ
pass_out_origins ring origins edge b out out_origins =
    cond (fits ring origins out out_origins)
    (pass_origins (edge_at edge) b (vertices ring) (take (length ring / 2) origins)
    ++ drop (length (pass (edge_at edge) b (vertices ring))) out_origins)
    out_origins

-- the count of verdicts in the first number of the slice that is lent for it, unless that is empty
unfoldable pub pass_verdicts : List Float → List ℕ → List Float → List ℕ → List ℕ → List ℕ
pass_verdicts ring origins out out_origins counts =
    cond (fits ring origins out out_origins) (set counts 0 (verdicts (vertices ring))) counts
