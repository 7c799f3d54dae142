-- `is_inside` meets its contract: each arm knows its edge. Assumes nothing.
use Rattle.cutting_lines.specs.CuttingLines.{inside}
use Rattle.cutting_lines.proofs.verdict.is_inside.Goals as goal

pub returns-in-Left : goal.returns-in-Left
unfolding inside
returns-in-Left c = rw c.in-Left.is

pub returns-in-Right : goal.returns-in-Right
unfolding inside
returns-in-Right c = rw c.in-Right.is

pub returns-in-Bottom : goal.returns-in-Bottom
unfolding inside
returns-in-Bottom c = rw c.in-Bottom.is

pub returns-in-Top : goal.returns-in-Top
unfolding inside
returns-in-Top c = rw c.in-Top.is
