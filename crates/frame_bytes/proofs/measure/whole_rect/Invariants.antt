-- `whole_rect` meets its contract. The invariant: the rectangle so far, with the parts that are left, is that of the frame. Assumes
-- nothing.
use Prim.Native.Nat.{◌-◌}
use Rattle.frame_bytes.proofs.Measures.{PartsLeft}
use Rattle.frame_bytes.proofs.measure.whole_rect.Given as goal

abbrev pub invariant-loop : goal.invariant-loop
invariant-loop l = PartsLeft l.frame.bytes.now l.rect l.at (l.parts - l.counter)
