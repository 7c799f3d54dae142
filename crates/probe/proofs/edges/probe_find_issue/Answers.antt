-- `edges::probe_find_issue` meets its contract. Assumes nothing.
use mathlib.Core.Path.{sym, ◌∙◌}
use Prim.Native.Nat.{◌*◌, ◌/◌}
use native.Mathlib.Omega.{arith}
use lib.ListN.{length}
use lib.Seq.{length-take-le}
use Rattle.probe.specs.Edges.{found_issue}
use Rattle.probe.proofs.Rooms.{room_of, few-of, issue_fits}
use Rattle.probe.proofs.edges.probe_find_issue.Goals as goal

pub find_issue-requires : goal.find_issue-requires
find_issue-requires c = let s = c.args in
    let n = length s.ring.now / 2 in
    let room = room_of n s.work.now s.order.now (sym c.has_room.ensures ∙ c.if-has_room.true) in
    let lent = length-take-le (2 * n) s.ring.now (omega arith) in
    (omega (arith, room, lent), omega (arith, room, lent), omega (arith, room, lent))

pub issue_code-requires : goal.issue_code-requires
issue_code-requires c = let s = c.args in
    let few = few-of (length s.ring.now / 2) s.work.now s.order.now
    (sym c.has_room.ensures ∙ c.if-has_room.true) in rw c.find_issue.ensures.value (issue_fits s.ring.now _ few)

pub returns-then-has_room : goal.returns-then-has_room
unfolding found_issue
returns-then-has_room c = rw (
  ← c.has_room.ensures,
  c.if-has_room.true,
  ←
      c.find_issue.ensures.value,
) c.issue_code.ensures

pub returns : goal.returns
unfolding found_issue
returns c = rw (← c.has_room.ensures, c.if-has_room.false)
