-- `copy_inside` meets its contract: a step from in to in gives its end. Assumes nothing.
use mathlib.Core.Path.{◌≡◌}
use mathlib.Core.Bool.{true}
use Prim.Native.Nat.{◌+◌, ◌*◌}
use lib.ListN.{length, take}
use Rattle.tile.specs.Ring.{coords}
use Rattle.edge_pass.specs.Internal.{SameRest, CopiedOrigins}
use Rattle.edge_pass.proofs.copy_inside.Given as goal

abbrev pub invariant-loop-i : goal.invariant-loop-i
invariant-loop-i l = (length l.out ≡ length l.initial.out)
    × SameRest l.edge l.bounds (coords (take (2 * l.m) l.ring)) true l.fn.at.i l.initial.len l.initial.out true l.i l.len l.out
    × (l.verdicts ≡ l.i + 1) × (l.len + l.fn.at.i ≡ l.initial.len + l.i)
    × CopiedOrigins l.edge l.bounds (coords (take (2 * l.m) l.ring)) l.fn.at.i l.i
