-- `part_rect` meets its contract. The invariant: the rectangle so far, with the rings that are left, is that of the part. Assumes nothing.
use Prim.Native.Nat.{◌-◌}
use Rattle.frame_bytes.proofs.Measures.{RectLeft}
use Rattle.frame_bytes.proofs.measure.part_rect.Given as goal

abbrev pub invariant-loop : goal.invariant-loop
invariant-loop l = RectLeft l.part.frame.now l.part.at l.initial.whole l.whole l.next (l.rings - l.counter)
