-- `part_has_huge` meets its contract. The invariant: the verdict on the part is that on the rings that are left. Assumes nothing.
use mathlib.Core.Bool.{false}
use Prim.Native.Nat.{◌-◌}
use Rattle.frame_bytes.proofs.Measures.{HugeLeft}
use Rattle.frame_bytes.proofs.measure.part_has_huge.Given as goal

abbrev pub invariant-loop : goal.invariant-loop
invariant-loop l = HugeLeft l.part.frame.now l.part.at false l.next (l.rings - l.counter)
