-- `clip_ring_against_edge` meets its contract. The invariant: the pass goes on from where the loop started to where it stands. Assumes
-- nothing.
use mathlib.Core.Path.{◌≡◌}
use Prim.Native.Nat.{◌+◌, ◌*◌, ◌-◌, ◌≤◌}
use lib.ListN.{length, take}
use Rattle.tile.specs.Ring.{coords}
use Rattle.edge_pass.specs.Internal.{SameRest, SameOrigins}
use Rattle.edge_pass.proofs.clip_ring_against_edge.Given as goal

abbrev pub invariant-loop-at : goal.invariant-loop-at
invariant-loop-at l = (l.at.i ≤ l.m) × (length l.out ≡ length l.initial.out) × SameRest l.edge l.bounds (coords (take (2 * l.m) l.ring)) l.initial.inside l.initial.at.i l.initial.at.len l.initial.out l.inside
    l.at.i l.at.len l.out
    × (l.at.verdicts ≡ l.at.i + 1) × (length l.out_origins ≡ length l.initial.out_origins)
    × SameOrigins l.edge l.bounds (coords (take (2 * l.m) l.ring)) l.origins l.initial.inside l.initial.at.i l.initial.at.len l.initial.out_origins l.inside l.at.i
    l.at.len l.out_origins

abbrev pub decreases-loop-at : goal.decreases-loop-at
decreases-loop-at l = l.m - l.at.i
