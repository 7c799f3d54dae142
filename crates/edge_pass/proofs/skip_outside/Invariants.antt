-- `skip_outside` meets its contract: a step from out to out gives nothing. Assumes nothing.
use mathlib.Core.Path.{◌≡◌}
use mathlib.Core.Bool.{false}
use Prim.Native.Nat.{◌+◌, ◌*◌}
use lib.ListN.{take}
use Rattle.tile.specs.Ring.{coords}
use Rattle.edge_pass.specs.Internal.{steps_left, SkippedOrigins}
use Rattle.edge_pass.proofs.skip_outside.Given as goal

abbrev pub invariant-loop-i : goal.invariant-loop-i
invariant-loop-i l = (steps_left l.edge l.bounds (coords (take (2 * l.m) l.ring)) false l.at.i
    ≡ steps_left l.edge l.bounds (coords (take (2 * l.m) l.ring)) false l.i) × (l.verdicts ≡ l.i + 1)
    × SkippedOrigins l.edge l.bounds (coords (take (2 * l.m) l.ring)) l.at.i l.i
