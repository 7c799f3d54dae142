-- `answer_frame` meets its contract. Assumes nothing.
use mathlib.Core.Path.{sym, ◌∙◌}
use Rattle.lines.proofs.Answers.{call-refused, call_answered}
use Rattle.lines.proofs.answer.answer_frame.Goals as goal

pub returns-in-Err-clause-answer : goal.returns-in-Err-clause-answer
returns-in-Err-clause-answer c =
    let e = call-refused c.args.bytes.now c.args.out.now c.requires c.in-Err.refusal (sym c.frame.ensures.answer ∙ c.in-Err.is) in
    rw (← e.0) c.refuse.ensures.answer

pub returns-in-Err-clause-output : goal.returns-in-Err-clause-output
returns-in-Err-clause-output c = let a = c.args in
    let f = c.frame.ensures in
    let e = call-refused a.bytes.now a.out.now
    c.requires
    c.in-Err.refusal (sym f.answer ∙ c.in-Err.is) in
    let r = c.refuse.ensures in rw (← e.0, ← c.from.ensures) (r.output ∙ rw (f.lent, e.1))

pub returns-in-Ok-clause-answer : goal.returns-in-Ok-clause-answer
returns-in-Ok-clause-answer c = let a = c.args in
    let f = c.frame.ensures in
    let e = call_answered a.bytes.now a.out.now
    c.requires c.in-Ok.count (sym f.answer ∙ c.in-Ok.is) in e.0

pub returns-in-Ok-clause-output : goal.returns-in-Ok-clause-output
returns-in-Ok-clause-output c = let a = c.args in
    let f = c.frame.ensures in
    let e = call_answered a.bytes.now a.out.now
    c.requires c.in-Ok.count (sym f.answer ∙ c.in-Ok.is) in f.lent ∙ e.1
