-- `answer_input` meets its contract. Assumes nothing.
use native.Mathlib.Omega.{arith}
use Rattle.lines.proofs.Feeding.{both-lent}
use Rattle.ringcut.proofs.Answered.{last_now, last_failed}
use Rattle.ringcut.proofs.answer_input.Goals as goal

pub returns-clause-part : goal.returns-clause-part
returns-clause-part g c =
    let line = c.in_ok-line.line in
    let a = c.read_all.new in
    let e = c.in-Ok.ensures in
    let now = last_now line a.kept a.out c.finish.new.out c.in-Ok.waiting (both-lent a.kept a.out (omega arith) (omega arith))
    e.answer e.output in
    last_failed _ _ _ _ _ line a.kept _ c.in_ok-line.ensures.all now _ c.write_out.ensures.part
