-- The last pass and the closing. Assumes nothing.
use mathlib.Core.Path.{◌≡◌}
use mathlib.Core.List.{List}
use Prim.Native.Nat.{ℕ, ◌+◌, ◌*◌, ◌≤◌, ◌<◌}
use native.Mathlib.Omega.{arith}
use lib.Ieee.{Float}
use lib.ListN.{length, take}
use Rattle.binary64.specs.Lists.{Every}
use Rattle.tile.specs.declared.Coord.{Coord}
use Rattle.tile.specs.declared.TileBounds.{TileBounds}
use Rattle.tile.specs.declared.Edge.TheVariants.{Top}
use Rattle.tile.specs.Ring.{coords}
use Rattle.tile.specs.Internal.{Stands}
use Rattle.tile.proofs.Rings.{stands-front}
use Rattle.edge_pass.specs.Pass.{pass}
use Rattle.edge_pass.specs.Growth.{half_growth}
use Rattle.edge_pass.proofs.PassGrowth.{pass_grows}
use Rattle.sutherland_hodgman.specs.Clip.{passes, finish, clip_ring}
use Rattle.sutherland_hodgman.specs.Internal.{three_passes, RingCut}
use Rattle.cutting_lines.proofs.CrossingLaws.{FittingBounds, FittingCoord}
use Rattle.sutherland_hodgman.proofs.Promises.{promise}

some_grown : (n k : ℕ) → k ≤ half_growth n → 3 ≤ k → 0 < n
unfolding half_growth
some_grown n k h t = omega arith

-- the room for closing, where there is room for the pass and for one vertex more
pub top_room : (b : TileBounds) (r : List Coord) (n k space : ℕ) → length r ≡ n → k ≡ length (pass Top b r) → 2 * half_growth n ≤ space
    → (0 < n → 2 * half_growth n + 2 ≤ space)
    → (2 * k ≤ space) × (3 ≤ k → 2 * k + 2 ≤ space)
top_room b r n k space e c h m =
    let g : length (pass Top b r) ≤ half_growth n = rw e at (pass_grows Top b r)
    in (omega arith, λ t. omega (arith, m (some_grown n k (omega arith) t)))

-- what the three passes and the last leave is the cut
pub last-pass-cut : (b : TileBounds) (ring : List Coord) (k : ℕ) (d d' : List Float) (r : ℕ) → FittingBounds b → Every FittingCoord ring
    → Stands (three_passes b ring) k d → Stands (finish (pass Top b (coords (take (2 * k) d)))) r d'
    → RingCut b ring r d'
unfolding clip_ring passes three_passes
last-pass-cut b ring k d d' r hb hr s t =
    let c : Stands (clip_ring b ring) r d' = rw (stands-front s) at t in
    record { stands = c; promise = rw (stands-front c) (promise b ring hb hr) }
