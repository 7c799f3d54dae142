-- `whole_rect` meets its contract. The invariant: the rectangle so far, with the parts that are left, is that of the frame. Assumes
-- nothing.
use mathlib.Core.Path.{◌≡◌}
use Prim.Native.Nat.{◌+◌, ◌-◌}
use native.Mathlib.Omega.{arith}
use Rattle.frame_bytes.proofs.Rooms.{frame_head}
use Rattle.frame_bytes.proofs.Measures.{parts_start, parts-here, parts_next, parts_end}
use Rattle.frame_bytes.proofs.measure.whole_rect.Goals as goal

pub count_at-parts-requires : goal.count_at-parts-requires
count_at-parts-requires c = omega (arith, frame_head c.args.frame.bytes.now c.args.frame.accepted)

pub loop-init : goal.loop-init
loop-init c = let all : c.count_at-parts.result - 0 ≡ c.count_at-parts.result = omega arith in rw (all, c.count_at-parts.ensures.0) (parts_start c.args.frame.bytes.now c.args.frame.accepted)

pub invariant_of-part : goal.invariant_of-part
invariant_of-part c = let l = c.loop in let k = c.count_at-parts.result - l.counter in
    record { within = l.invariant.within; accepted = parts-here c.args.frame.bytes.now l.rect l.at k (omega arith) l.invariant }

pub loop-preserved : goal.loop-preserved
loop-preserved c = let next : c.count_at-parts.result - (c.loop.counter + 1) ≡ c.count_at-parts.result - c.loop.counter - 1 = omega arith in let l = c.loop in let k = c.count_at-parts.result - l.counter in rw next (parts_next c.args.frame.bytes.now l.rect l.at k c.part_rect-measured.result
    (omega arith) c.part_rect-measured.ensures l.invariant)

pub returns : goal.returns
returns c = let l = c.loop in let k = c.count_at-parts.result - l.counter in parts_end c.args.frame.bytes.now l.rect l.at k (omega arith) l.invariant
