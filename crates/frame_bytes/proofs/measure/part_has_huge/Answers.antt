-- `part_has_huge` meets its contract. The invariant: the verdict on the part is that on the rings that are left. Assumes nothing.
use mathlib.Core.Path.{◌≡◌, sym, ◌∙◌}
use mathlib.Core.Bool.{true, false}
use Prim.Native.Nat.{◌+◌, ◌-◌}
use native.Mathlib.Omega.{arith}
use lib.ListN.{drop}
use Rattle.rings.specs.Representable.{any_huge}
use Rattle.frame_bytes.specs.Frame.{count_of, coords_of}
use Rattle.frame_bytes.proofs.PartRings.{part-rings}
use Rattle.frame_bytes.proofs.Measures.{huge_start, huge_next, huge_end}
use Rattle.frame_bytes.proofs.measure.part_has_huge.Goals as goal

pub count_at-rings-requires : goal.count_at-rings-requires
count_at-rings-requires c = (part-rings c.args.part.frame.now c.args.part.at c.args.part.within c.args.part.accepted).whole

pub loop-init : goal.loop-init
loop-init c = let all : c.count_at-rings.result - 0 ≡ c.count_at-rings.result = omega arith in rw (all, c.count_at-rings.ensures.0) (huge_start c.args.part.frame.now c.args.part.at c.args.part.within c.args.part.accepted)

pub ring_at-ring-requires : goal.ring_at-ring-requires
ring_at-ring-requires c = let a = c.args in
    let l = c.loop in let k = c.count_at-rings.result - l.counter in
    (huge_next a.part.frame.now a.part.at l.next k (omega arith) l.invariant).whole

pub returns-then-has_huge : goal.returns-then-has_huge
returns-then-has_huge c = let a = c.args in
    let f = a.part.frame.now in
    let l = c.loop in let k = c.count_at-rings.result - l.counter in
    let r = c.ring_at-ring.ensures in
    let e : any_huge (coords_of (count_of (drop l.next f)) (drop (l.next + 2) f)) ≡ true =
    sym (rw (r.0, r.1, r.2) at c.has_huge.ensures) ∙ c.if-has_huge.true in
    sym ((huge_next f a.part.at l.next k (omega arith) l.invariant).ahead.sum ∙ rw e)

pub loop-preserved : goal.loop-preserved
loop-preserved c = let less : c.count_at-rings.result - (c.loop.counter + 1) ≡ c.count_at-rings.result - c.loop.counter - 1 = omega arith in
    let a = c.args in
    let f = a.part.frame.now in
    let l = c.loop in let k = c.count_at-rings.result - l.counter in
    let r = c.ring_at-ring.ensures in
    let e : any_huge (coords_of (count_of (drop l.next f)) (drop (l.next + 2) f)) ≡ false =
    sym (rw (r.0, r.1, r.2) at c.has_huge.ensures) ∙ c.if-has_huge.false in
    rw (less, r.1, r.2) (rw e at (huge_next f a.part.at l.next k (omega arith) l.invariant).ahead)

pub returns : goal.returns
returns c = let a = c.args in
    let l = c.loop in let k = c.count_at-rings.result - l.counter in sym (huge_end a.part.frame.now a.part.at l.next k (omega arith) l.invariant)
