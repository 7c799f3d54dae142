-- `call` meets its contract: what is lent is the front of an array of marks. Assumes nothing.
use mathlib.Core.Path.{sym, ◌∙◌}
use Rattle.replay.specs.Calls as Calls
use Rattle.replay.proofs.Room.{front, whole-front, origin-front, slice-fits, polygon-slices-lent}
use Rattle.replay.proofs.slice_vectors.call.Goals as goal

pub returns-then-not-has_room : goal.returns-then-not-has_room
unfolding Calls.slice_outcome
returns-then-not-has_room c = rw (sym c.has_room.ensures ∙ c.if-not-has_room.true)

pub slice_bounds-scratch-end : goal.slice_bounds-scratch-end
slice_bounds-scratch-end c =
    let room = slice-fits c.args.head _ c.has_room.ensures c.if-not-has_room.false in
    (front _ _ c.marks-scratch.ensures room.scratch).within

pub slice_bounds-agrees-end : goal.slice_bounds-agrees-end
slice_bounds-agrees-end c =
    let room = slice-fits c.args.head _ c.has_room.ensures c.if-not-has_room.false in
    (front _ _ c.marks-scratch.ensures room.scratch).here

pub slice_bounds-origin_scratch-end : goal.slice_bounds-origin_scratch-end
slice_bounds-origin_scratch-end c =
    let room = slice-fits c.args.head _ c.has_room.ensures c.if-not-has_room.false in
    (origin-front _ _ c.marks-origin_scratch.ensures room.origin-scratch).within

pub slice_bounds-agrees-end-2 : goal.slice_bounds-agrees-end-2
slice_bounds-agrees-end-2 c =
    let room = slice-fits c.args.head _ c.has_room.ensures c.if-not-has_room.false in
    (origin-front _ _ c.marks-origin_scratch.ensures room.origin-scratch).here

pub slice_bounds-order-end : goal.slice_bounds-order-end
slice_bounds-order-end c =
    let room = slice-fits c.args.head _ c.has_room.ensures c.if-not-has_room.false in
    (whole-front _ _ c.marks-order.ensures room.order).within

pub slice_bounds-agrees-end-3 : goal.slice_bounds-agrees-end-3
slice_bounds-agrees-end-3 c =
    let room = slice-fits c.args.head _ c.has_room.ensures c.if-not-has_room.false in
    (whole-front _ _ c.marks-order.ensures room.order).here

pub slice_bounds-out-end : goal.slice_bounds-out-end
slice_bounds-out-end c =
    let room = slice-fits c.args.head _ c.has_room.ensures c.if-not-has_room.false in
    (front _ _ c.marks-out.ensures room.out).within

pub slice_bounds-agrees-end-4 : goal.slice_bounds-agrees-end-4
slice_bounds-agrees-end-4 c =
    let room = slice-fits c.args.head _ c.has_room.ensures c.if-not-has_room.false in
    (front _ _ c.marks-out.ensures room.out).here

pub slice_bounds-out_lengths-end : goal.slice_bounds-out_lengths-end
slice_bounds-out_lengths-end c =
    let room = slice-fits c.args.head _ c.has_room.ensures c.if-not-has_room.false in
    (whole-front _ _ c.marks-out_lengths.ensures room.out_lengths).within

pub slice_bounds-agrees-end-5 : goal.slice_bounds-agrees-end-5
slice_bounds-agrees-end-5 c =
    let room = slice-fits c.args.head _ c.has_room.ensures c.if-not-has_room.false in
    (whole-front _ _ c.marks-out_lengths.ensures room.out_lengths).here

pub slice_bounds-out_origins-end : goal.slice_bounds-out_origins-end
slice_bounds-out_origins-end c =
    let room = slice-fits c.args.head _ c.has_room.ensures c.if-not-has_room.false in
    (origin-front _ _ c.marks-out_origins.ensures room.out_origins).within

pub slice_bounds-agrees-end-6 : goal.slice_bounds-agrees-end-6
slice_bounds-agrees-end-6 c =
    let room = slice-fits c.args.head _ c.has_room.ensures c.if-not-has_room.false in
    (origin-front _ _ c.marks-out_origins.ensures room.out_origins).here

pub returns-then-agrees : goal.returns-then-agrees
unfolding Calls.slice_outcome
returns-then-agrees c =
    let room = slice-fits c.args.head _ c.has_room.ensures c.if-not-has_room.false in
    let lent = polygon-slices-lent c.args.head room _ _ _ _ _ _
    c.marks-scratch.ensures c.marks-origin_scratch.ensures c.marks-order.ensures c.marks-out.ensures
    c.marks-out_lengths.ensures c.marks-out_origins.ensures in
    rw (sym c.has_room.ensures ∙ c.if-not-has_room.false, ← lent, ← c.agrees.ensures, c.if-agrees.true)

pub returns : goal.returns
unfolding Calls.slice_outcome
returns c =
    let room = slice-fits c.args.head _ c.has_room.ensures c.if-not-has_room.false in
    let lent = polygon-slices-lent c.args.head room _ _ _ _ _ _
    c.marks-scratch.ensures c.marks-origin_scratch.ensures c.marks-order.ensures c.marks-out.ensures
    c.marks-out_lengths.ensures c.marks-out_origins.ensures in
    rw (sym c.has_room.ensures ∙ c.if-not-has_room.false, ← lent, ← c.agrees.ensures, c.if-agrees.false)
