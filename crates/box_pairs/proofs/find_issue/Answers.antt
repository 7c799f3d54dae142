-- `find_issue` meets its contract: each return is a case of `issue_of`. Assumes nothing.
use mathlib.Core.Path.{sym, ◌∙◌}
use Rattle.box_pairs.proofs.Issues.{issue_short, issue_long}
use Rattle.box_pairs.proofs.find_issue.Goals as goal

pub returns-then-ring-lt4-clause-value : goal.returns-then-ring-lt4-clause-value
returns-then-ring-lt4-clause-value c = sym (issue_short c.args.ring.now c.args.assume_simple c.if-ring-lt4.true)

pub returns-in-Some-clause-value : goal.returns-in-Some-clause-value
returns-in-Some-clause-value c = sym (issue_long c.args.ring.now c.args.assume_simple
    c.if-ring-lt4.false ∙
    rw (← c.first_repeated.ensures, c.in-Some.is))

pub returns-in-None-clause-value : goal.returns-in-None-clause-value
returns-in-None-clause-value c =
    c.find_crossing.ensures.value ∙ sym (issue_long c.args.ring.now c.args.assume_simple
    c.if-ring-lt4.false ∙ rw (← c.first_repeated.ensures, c.in-None.is))
