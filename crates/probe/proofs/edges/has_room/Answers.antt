-- `edges::has_room` meets its contract. Assumes nothing.
use borrow.Author.Tests.{lt-leb, le-leb}
use Rattle.probe.specs.Edges.{has_room}
use Rattle.probe.proofs.edges.has_room.Goals as goal

pub returns-then-n-work : goal.returns-then-n-work
unfolding has_room
returns-then-n-work c = rw (lt-leb _ _ c.if-n-work.true)

pub returns-then-n-order : goal.returns-then-n-order
unfolding has_room
returns-then-n-order c = rw (le-leb _ _ c.if-n-work.false, lt-leb _ _ c.if-n-order.true)

pub returns : goal.returns
unfolding has_room
returns c = rw (le-leb _ _ c.if-n-work.false, le-leb _ _ c.if-n-order.false)
