-- `passes::has_pass_room` meets its contract. Assumes nothing.
use Prim.Native.Nat.{◌^◌}
use native.Mathlib.Omega.{arith}
use borrow.Author.Rules.{Fits-under}
use borrow.Author.Tests.{lt-leb, le-leb}
use Rattle.sutherland_hodgman.proofs.Offered.{half_growth-le}
use Rattle.probe.specs.Passes.{has_pass_room}
use Rattle.probe.proofs.passes.has_pass_room.Goals as goal

pub returns-then-n : goal.returns-then-n
unfolding has_pass_room
returns-then-n c = rw (lt-leb _ _ c.if-n.true)

pub returns-then-origins-n : goal.returns-then-origins-n
unfolding has_pass_room
returns-then-origins-n c = rw (le-leb _ _ c.if-n.false, lt-leb _ _ c.if-origins-n.true)

pub overflow_mul-most : goal.overflow_mul-most
overflow_mul-most c = Fits-under _ _ (2 ^ 63) (omega (
  arith,
  half_growth-le c.args.n,
  c.half_growth-most.ensures,
  c.if-n.false,
)) tt

pub returns-then-out-most : goal.returns-then-out-most
unfolding has_pass_room
returns-then-out-most c = let e = c.half_growth-most.ensures in rw (le-leb _ _ c.if-n.false, le-leb _ _ c.if-origins-n.false, lt-leb _ _ (rw e at c.if-out-most.true))

pub returns : goal.returns
unfolding has_pass_room
returns c = let e = c.half_growth-most.ensures in rw (
  le-leb _ _ c.if-n.false,
  le-leb _ _ c.if-origins-n.false,
  le-leb _ _ (rw e at c.if-out-most.false),
  e,
)
