-- `next_kept` meets its contract: the loop goes past what is near the coordinate that is kept. Assumes nothing.
use mathlib.Core.Path.{◌≡◌, sym, ◌∙◌}
use Rattle.tile.specs.Internal.{coord_at}
use Rattle.box_pairs.specs.Cross.{degenerate}
use Rattle.mend.proofs.Walks.{dropped-near, found-far, found_closing}
use Rattle.mend.proofs.next_kept.Goals as goal
use Rattle.mend.proofs.next_kept.Goals.{After-is_degenerate}

-- the verdict on coordinate i
verdict : (c : After-is_degenerate)
    → c.is_degenerate.result ≡ degenerate
    (coord_at c.args.ring.now c.args.k)
    (coord_at c.args.ring.now c.loop-i.i)
verdict c = c.is_degenerate.ensures ∙ rw (c.coord_at-last.ensures, c.coord_at.ensures)

pub returns-then-not-is_degenerate : goal.returns-then-not-is_degenerate
returns-then-not-is_degenerate c = let l = c.loop-i in found-far c.args.ring.now c.args.end c.requires.0 c.args.k l.i l.invariant c.loop-i-test.true
    (sym (verdict (goal.at.returns-then-not-is_degenerate c).After-is_degenerate) ∙ c.if-not-is_degenerate.true)

pub loop-i-preserved : goal.loop-i-preserved
loop-i-preserved c = let l = c.loop-i in dropped-near c.args.ring.now c.args.end c.requires.0 c.args.k l.i l.invariant c.loop-i-test.true
    (sym (verdict (goal.at.loop-i-preserved c).After-is_degenerate) ∙ c.if-not-is_degenerate.false)

pub returns : goal.returns
returns c = let l = c.loop-i in found_closing c.args.ring.now c.args.end c.requires.0 c.args.k l.i l.invariant c.loop-i-test.false
