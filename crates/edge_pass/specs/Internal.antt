-- What the functions of a pass say to each other and to the ring cutter. No contract of an entry point reaches it, so a reader of those can
-- skip this file. Definitions only.
use Rattle.std.specs.Prelude.{◌≡◌, Bool, true, false, List, ◌++◌, ◌-◌, ℕ, zero, suc, ◌+◌, ◌≤◌, ◌<◌, ◌*◌, Float, length, take, get_or, drop}
use Rattle.std.specs.Float.{nan}
use Rattle.std.proofs.lemmas.List.Edits.{sets}
use Rattle.tile.specs.declared.Coord.{Coord}
use Rattle.tile.specs.declared.TileBounds.{TileBounds}
use Rattle.tile.specs.declared.Edge.{Edge}
use Rattle.tile.specs.Ring.{coords, flat}
use Rattle.edge_pass.specs.declared.Walk.{Walk}
use Rattle.edge_pass.specs.Pass.{steps}
use Rattle.edge_pass.specs.Growth.{half_growth}
use Rattle.edge_pass.specs.Origins.{steps_origins}

-- ---- the vertices

-- a ring of n vertices at the front of a slice of length `ring` can be cut at one edge in a slice of length `out`
abbrev pub PassRoom : ℕ → ℕ → ℕ → Type 0
PassRoom n ring out = (2 * n ≤ ring) × (2 * half_growth n ≤ out)

-- what stands for a vertex past the end of a ring
abbrev pub no_vertex : Coord
no_vertex = record { x = nan; y = nan }

-- the vertex before the i-th; before the first comes the last
abbrev pub vertex_before : List Coord → ℕ → Coord
vertex_before r zero = get_or r (length r - 1) no_vertex
vertex_before r (suc i) = get_or r i no_vertex

-- what is left of a pass: the vertices that the steps from the i-th vertex on give, v being the verdict on the vertex before it
unfoldable pub steps_left : Edge → TileBounds → List Coord → Bool → ℕ → List Coord
steps_left l b r v i = steps l b v (vertex_before r i) (drop i r)

-- A pass that is before the i-th vertex, with the verdict v on the vertex before it and k vertices written to d, ends with the same count
-- and the same slice as one that is before the i'-th, with the verdict v' and k' vertices written to d'.
pub record SameRest (l : Edge) (b : TileBounds) (r : List Coord) (v : Bool) (i k : ℕ) (d : List Float) (v' : Bool) (i' k' : ℕ)
    (d' : List Float) : Type 0 where
  pub count : k + length (steps_left l b r v i) ≡ k' + length (steps_left l b r v' i')
  pub numbers : sets d (2 * k) (flat (steps_left l b r v i)) ≡ sets d' (2 * k') (flat (steps_left l b r v' i'))

-- A pass that stands at `at`, the verdict on the vertex before being v, can go on: there is a vertex to go to and room in `out` numbers for
-- all that is left, and the verdicts counted are one on the vertex that the pass started from and one on each before the i-th.
abbrev pub WalkRoom : Edge → TileBounds → List Float → ℕ → Bool → Walk → ℕ → Type 0
WalkRoom l b ring m v at out =
    (2 * m ≤ length ring) × (at.i < m) × (2 * (at.len + length (steps_left l b (coords (take (2 * m) ring)) v at.i)) ≤ out)
    × (at.verdicts ≡ at.i + 1)

-- From there the pass has come further, to `to`, and going on with the verdict v' it comes to the same end. Past the last vertex v' decides
-- nothing.
abbrev pub WalkedOn : Edge → TileBounds → List Float → ℕ → Bool → Walk → List Float → Bool → Walk → List Float → Type 0
WalkedOn l b ring m v at out v' to out' =
    (at.i < to.i) × (to.i ≤ m) × SameRest l b (coords (take (2 * m) ring)) v at.i at.len out v' to.i to.len out'

-- How many verdicts are worked out where a run ends before the i-th vertex: one on the vertex that the pass started from, one on each
-- before the i-th, and one on the i-th itself if the ring of m has one.
pub record RunVerdicts (m i verdicts : ℕ) : Type 0 where
  pub at-vertex : i < m → verdicts ≡ i + 2
  pub at-end : m ≤ i → verdicts ≡ i + 1

-- ---- the origins

-- a ring of n vertices whose origins stand at the front of a slice of length `origins` can be cut at one edge: those of the result have
-- room in a slice of length `out`
abbrev pub PassOriginRoom : ℕ → ℕ → ℕ → Type 0
PassOriginRoom n origins out = (n ≤ origins) × (half_growth n ≤ out)

-- what is left of a pass: the origins that the steps from the i-th vertex on give, v being the verdict on the vertex before it
unfoldable pub origins_left : Edge → TileBounds → List Coord → List ℕ → Bool → ℕ → List ℕ
origins_left l b r os v i = steps_origins l b v (drop i r) (drop i os)

-- a pass ends with the same slice of origins from the one place as from the other, as `SameRest` says of the vertices
abbrev pub SameOrigins : Edge → TileBounds → List Coord → List ℕ → Bool → ℕ → ℕ → List ℕ → Bool → ℕ → ℕ → List ℕ → Type 0
SameOrigins l b r os v i k d v' i' k' d' = sets d k (origins_left l b r os v i) ≡ sets d' k' (origins_left l b r os v' i')

-- from in, the vertices from the i-th up to the j-th, which is not among them, keep their origins, whatever these are
abbrev pub CopiedOrigins : Edge → TileBounds → List Coord → ℕ → ℕ → Type 0
CopiedOrigins l b r i j =
    (os : List ℕ) → j ≤ length os → origins_left l b r os true i ≡ take (j - i) (drop i os) ++ origins_left l b r os true j

-- from out, the vertices from the i-th up to the j-th give no origins
abbrev pub SkippedOrigins : Edge → TileBounds → List Coord → ℕ → ℕ → Type 0
SkippedOrigins l b r i j = (os : List ℕ) → origins_left l b r os false i ≡ origins_left l b r os false j

-- a pass that stands at `at`, the verdict on the vertex before being v, has an origin to each vertex, and room for all that is left
abbrev pub OriginWalkRoom : Edge → TileBounds → List Float → ℕ → Bool → Walk → ℕ → ℕ → Type 0
OriginWalkRoom l b ring m v at origins out =
    (m ≤ origins) × (at.len + length (steps_left l b (coords (take (2 * m) ring)) v at.i) ≤ out)
