-- `closed_issue` meets its contract: a ring that is lent closed is looked at where it is, another in the output. Assumes nothing.
use native.Mathlib.Omega.{arith}
use Prim.Native.Nat.{◌*◌, ◌/◌}
use mathlib.Core.Path.{◌≡◌, ◌∙◌, sym}
use lib.ListN.{length, drop, length-append, length-drop}
use lib.Seq.{length-take-le}
use Rattle.tile.specs.Ring.{coords, close}
use Rattle.tile.proofs.Rings.{close-closed, count_open, count-coords, written-front}
use Rattle.sutherland_hodgman.proofs.Offered.{le-B, whole_ring}
use Rattle.clip.proofs.Cuts.{lent-count, copied, output-lent}
use Rattle.clip.proofs.polygon.closed_issue.Goals as goal

pub find_issue-requires : goal.find_issue-requires
find_issue-requires c = let a = c.args in
    let p = c.requires in
    let l = lent-count a.ring.now _ _ p.room in
    let g = le-B (length (close (coords a.ring.now))) in
    (omega (arith, p.room.scratch-room), omega (arith, p.positions), omega (arith, p.room.few))

pub returns-then-is_closed : goal.returns-then-is_closed
returns-then-is_closed c = let a = c.args in
    let t = close-closed (coords a.ring.now)
    (sym c.is_closed.ensures
    ∙ c.if-is_closed.true) in c.find_issue.ensures.value ∙ rw t

pub copy-requires : goal.copy-requires
copy-requires c = (omega arith, output-lent c.args.ring.now _ _ c.requires.room)

pub close-m-requires : goal.close-m-requires
close-m-requires c = let p = c.requires in
    let s = c.args.ring.now in
    let n = length s / 2 in
    let m = count_open (coords s) (sym c.is_closed.ensures
    ∙ c.if-is_closed.false) in
    let g = le-B (length (close (coords s))) in
    let k = length-take-le (2 * n) s (omega arith) in
    rw c.copy.ensures (simp (length-append, length-drop) (omega (arith, p.room.output-room, count-coords s, k)))

pub find_issue-requires-2 : goal.find_issue-requires-2
find_issue-requires-2 c = let p = c.requires in
    let s = c.args.ring.now in
    let n = length s / 2 in
    let e = copied (2 * n) s c.args.out.now _ (omega arith) c.copy.ensures in
    let w = c.close-m.ensures in
    let m : c.close-m.result ≡ length (close (coords s)) = w.count ∙ rw (e, whole_ring s) in
    let g = le-B (length (close (coords s))) in
    let t = length-take-le (2 * c.close-m.result) c.close-m.new.ring (omega (arith, p.room.output-room)) in
    (omega (arith, t, p.room.scratch-room), omega (arith, t, p.positions), omega (arith, t, p.room.few))

pub overflow_mul-m : goal.overflow_mul-m
overflow_mul-m c = let p = c.requires in
    let s = c.args.ring.now in
    let n = length s / 2 in
    let e = copied (2 * n) s c.args.out.now _ (omega arith) c.copy.ensures in
    let w = c.close-m.ensures in
    let m : c.close-m.result ≡ length (close (coords s)) = w.count ∙ rw (e, whole_ring s) in
    let g = le-B (length (close (coords s))) in omega (arith, p.room.few)

pub slice_bounds-find_issue-end : goal.slice_bounds-find_issue-end
slice_bounds-find_issue-end c = let p = c.requires in
    let s = c.args.ring.now in
    let n = length s / 2 in
    let e = copied (2 * n) s c.args.out.now _ (omega arith) c.copy.ensures in
    let w = c.close-m.ensures in
    let m : c.close-m.result ≡ length (close (coords s)) = w.count ∙ rw (e, whole_ring s) in
    let g = le-B (length (close (coords s))) in omega (arith, p.room.output-room)

pub slice_bounds-find_issue-end-2 : goal.slice_bounds-find_issue-end-2
slice_bounds-find_issue-end-2 c = let p = c.requires in
    let s = c.args.ring.now in
    let n = length s / 2 in
    let e = copied (2 * n) s c.args.out.now _ (omega arith) c.copy.ensures in
    let w = c.close-m.ensures in
    let m : c.close-m.result ≡ length (close (coords s)) = w.count ∙ rw (e, whole_ring s) in
    let g = le-B (length (close (coords s))) in
    sym (length-take-le (2 * c.close-m.result) c.close-m.new.ring (omega (arith, p.room.output-room)))

pub returns : goal.returns
returns c = let p = c.requires in
    let s = c.args.ring.now in
    let n = length s / 2 in
    let e = copied (2 * n) s c.args.out.now _ (omega arith) c.copy.ensures in
    let f = written-front c.close-m.ensures in c.find_issue-2.ensures.value ∙ rw (f, e, whole_ring s)
