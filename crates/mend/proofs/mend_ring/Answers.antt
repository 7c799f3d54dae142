-- `mend_ring` meets its contract: each answer by the tests that led there. Assumes nothing.
use native.Mathlib.Omega.{arith}
use Rattle.tile.proofs.Rings.{count-coords}
use Rattle.mend.proofs.Answers.{Outcome, closed-most, refused-lengths, refused-coordinates, refused-output, refused-few, refused_short, is_mended}
use Rattle.mend.proofs.mend_ring.Goals as goal
use Rattle.mend.proofs.mend_ring.Goals.{After-write_kept}
use Rattle.std.specs.Prelude.{Ok}

pub returns-then-ring-eq1-clause-answer : goal.returns-then-ring-eq1-clause-answer
returns-then-ring-eq1-clause-answer c = (refused-lengths c.args.ring.now c.args.out.now c.if-ring-eq1.true).0

pub returns-then-ring-eq1-clause-lent : goal.returns-then-ring-eq1-clause-lent
returns-then-ring-eq1-clause-lent c = (refused-lengths c.args.ring.now c.args.out.now c.if-ring-eq1.true).1.0

pub returns-then-m-gt-MOST_COORDINATES-clause-answer : goal.returns-then-m-gt-MOST_COORDINATES-clause-answer
returns-then-m-gt-MOST_COORDINATES-clause-answer c =
    (refused-coordinates c.args.ring.now c.args.out.now c.if-ring-eq1.false _ c.closed_count-m.ensures c.if-m-gt-MOST_COORDINATES.true).0

pub returns-then-m-gt-MOST_COORDINATES-clause-lent : goal.returns-then-m-gt-MOST_COORDINATES-clause-lent
returns-then-m-gt-MOST_COORDINATES-clause-lent c =
    (refused-coordinates c.args.ring.now c.args.out.now c.if-ring-eq1.false _ c.closed_count-m.ensures c.if-m-gt-MOST_COORDINATES.true).1.0

pub returns-then-out-m-clause-answer : goal.returns-then-out-m-clause-answer
returns-then-out-m-clause-answer c =
    (refused-output c.args.ring.now c.args.out.now c.if-ring-eq1.false _ c.closed_count-m.ensures c.if-m-gt-MOST_COORDINATES.false
    c.if-out-m.true).0

pub returns-then-out-m-clause-lent : goal.returns-then-out-m-clause-lent
returns-then-out-m-clause-lent c =
    (refused-output c.args.ring.now c.args.out.now c.if-ring-eq1.false _ c.closed_count-m.ensures c.if-m-gt-MOST_COORDINATES.false
    c.if-out-m.true).1.0

pub returns-then-m-lt4-clause-answer : goal.returns-then-m-lt4-clause-answer
returns-then-m-lt4-clause-answer c =
    (refused-few c.args.ring.now c.args.out.now c.if-ring-eq1.false _ c.closed_count-m.ensures c.if-m-gt-MOST_COORDINATES.false
    c.if-out-m.false c.if-m-lt4.true).0

pub returns-then-m-lt4-clause-lent : goal.returns-then-m-lt4-clause-lent
returns-then-m-lt4-clause-lent c =
    (refused-few c.args.ring.now c.args.out.now c.if-ring-eq1.false _ c.closed_count-m.ensures c.if-m-gt-MOST_COORDINATES.false
    c.if-out-m.false c.if-m-lt4.true).1.0

pub few_kept-requires : goal.few_kept-requires
few_kept-requires c =
    let most = closed-most c.args.ring.now c.args.out.now c.if-ring-eq1.false _ c.closed_count-m.ensures in
    (omega (arith, c.if-ring-eq1.false, most), omega (arith, c.if-m-lt4.false))

pub returns-then-few_kept-clause-answer : goal.returns-then-few_kept-clause-answer
returns-then-few_kept-clause-answer c =
    (refused_short c.args.ring.now c.args.out.now c.if-ring-eq1.false _ c.closed_count-m.ensures c.if-m-gt-MOST_COORDINATES.false
    c.if-out-m.false c.if-m-lt4.false (rw c.if-few_kept.true at c.few_kept.ensures)).0

pub returns-then-few_kept-clause-lent : goal.returns-then-few_kept-clause-lent
returns-then-few_kept-clause-lent c =
    (refused_short c.args.ring.now c.args.out.now c.if-ring-eq1.false _ c.closed_count-m.ensures c.if-m-gt-MOST_COORDINATES.false
    c.if-out-m.false c.if-m-lt4.false (rw c.if-few_kept.true at c.few_kept.ensures)).1.0

pub closing_coord-closing-requires : goal.closing_coord-closing-requires
closing_coord-closing-requires c =
    let count = c.closed_count-m.ensures in
    let most = closed-most c.args.ring.now c.args.out.now c.if-ring-eq1.false _ count in
    (omega (arith, c.if-m-lt4.false, most, count-coords c.args.ring.now), count)

pub write_kept-requires : goal.write_kept-requires
write_kept-requires c =
    let most = closed-most c.args.ring.now c.args.out.now c.if-ring-eq1.false _ c.closed_count-m.ensures in
    (omega (arith, c.if-ring-eq1.false, most), omega (arith, c.if-out-m.false, c.if-m-lt4.false))

-- where nothing refuses
mended : (c : After-write_kept) → Outcome c.args.ring.now c.args.out.now (Ok c.write_kept.result) c.write_kept.new.out
mended c =
    is_mended c.args.ring.now c.args.out.now c.if-ring-eq1.false _ c.closed_count-m.ensures c.if-m-gt-MOST_COORDINATES.false
    c.if-out-m.false _ c.closing_coord-closing.ensures (rw c.if-few_kept.false at c.few_kept.ensures) _ _ c.write_kept.ensures

pub returns-clause-answer : goal.returns-clause-answer
returns-clause-answer c = (mended (goal.at.returns-clause-answer c).After-write_kept).0

pub returns-clause-lent : goal.returns-clause-lent
returns-clause-lent c = (mended (goal.at.returns-clause-lent c).After-write_kept).1.0

pub returns-clause-promise : goal.returns-clause-promise
returns-clause-promise c = (mended (goal.at.returns-clause-promise c).After-write_kept).1.1
