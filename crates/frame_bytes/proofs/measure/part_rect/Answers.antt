-- `part_rect` meets its contract. The invariant: the rectangle so far, with the rings that are left, is that of the part. Assumes nothing.
use mathlib.Core.Path.{◌≡◌}
use Prim.Native.Nat.{◌+◌, ◌-◌}
use native.Mathlib.Omega.{arith}
use Rattle.frame_bytes.proofs.PartRings.{part-rings}
use Rattle.frame_bytes.proofs.Measures.{rect_start, rect_next, rect_end}
use Rattle.frame_bytes.proofs.measure.part_rect.Goals as goal

pub count_at-rings-requires : goal.count_at-rings-requires
count_at-rings-requires c = (part-rings c.args.part.frame.now c.args.part.at c.args.part.within c.args.part.accepted).whole

pub loop-init : goal.loop-init
loop-init c = let all : c.count_at-rings.result - 0 ≡ c.count_at-rings.result = omega arith in rw (all, c.count_at-rings.ensures.0) (rect_start c.args.part.frame.now c.args.part.at c.args.rect c.args.part.within c.args.part.accepted)

pub ring_at-ring-requires : goal.ring_at-ring-requires
ring_at-ring-requires c = let a = c.args in
    let l = c.loop in let k = c.count_at-rings.result - l.counter in
    (rect_next a.part.frame.now a.part.at a.rect l.whole l.next k (omega arith) l.invariant).whole

pub loop-preserved : goal.loop-preserved
loop-preserved c = let less : c.count_at-rings.result - (c.loop.counter + 1) ≡ c.count_at-rings.result - c.loop.counter - 1 = omega arith in
    let a = c.args in
    let l = c.loop in let k = c.count_at-rings.result - l.counter in
    let r = c.ring_at-ring.ensures in
    rw (less, c.with_ring-whole.ensures, r.0, r.1, r.2) (rect_next a.part.frame.now a.part.at a.rect l.whole l.next k (omega arith) l.invariant).ahead

pub returns : goal.returns
returns c = let l = c.loop in let k = c.count_at-rings.result - l.counter in rect_end c.args.part.frame.now c.args.part.at c.args.rect l.whole l.next k c.args.part.accepted (omega arith) l.invariant
