-- `holds` meets its contract. The invariant: what is left to compare gives the answer. Assumes nothing.
use mathlib.Core.List.{map}
use Prim.Native.Nat.{◌≤◌}
use lib.ListN.{length}
use Rattle.replay.proofs.Compared.{HoldsFrom}
use Rattle.replay.proofs.lent.holds.Given as goal

abbrev pub invariant-loop-i : goal.invariant-loop-i
invariant-loop-i g l =
    let t = g.T.Lent in (length l.front ≤ length l.s) × HoldsFrom (t.bits t.mark) (map t.bits l.front) (map t.bits l.s) l.i
