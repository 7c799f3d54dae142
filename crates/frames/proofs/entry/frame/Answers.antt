-- `frame` meets its contract: a refusal leaves the output as it is, else the answer's bytes stand at its front. Assumes nothing.
use mathlib.Core.Path.{sym}
use lib.ListN.{length}
use Rattle.std.proofs.lemmas.Result.{err_from_is_err_and}
use Rattle.frame_bytes.specs.Room.{read_call}
use Rattle.frames.proofs.Entries.{call_accepts, call_answers, call_refuses}
use Rattle.frames.proofs.entry.frame.Goals as goal

pub invariant_of-accepted : goal.invariant_of-accepted
invariant_of-accepted c = record { accepted = (call_accepts c.args.frame.now (length c.args.out.now) (sym c.in_ok-check_call.ensures)).0 }

pub answer-requires : goal.answer-requires
answer-requires c = (call_accepts c.args.frame.now (length c.args.out.now) (sym c.in_ok-check_call.ensures)).1

pub returns-in_err-check_call-clause-answer : goal.returns-in_err-check_call-clause-answer
returns-in_err-check_call-clause-answer c =
    let p = err_from_is_err_and c.from_residual.result c.from_residual.ensures.1 in
    rw (p.1, p.2) (call_refuses (read_call c.args.frame.now (length c.args.out.now)) _ c.args.out.now (sym c.in_err-check_call.ensures)).0

pub returns-in_err-check_call-clause-lent : goal.returns-in_err-check_call-clause-lent
returns-in_err-check_call-clause-lent c =
    (call_refuses (read_call c.args.frame.now (length c.args.out.now)) _ c.args.out.now (sym c.in_err-check_call.ensures)).1

pub returns-clause-answer : goal.returns-clause-answer
returns-clause-answer c = (call_answers c.args.frame.now c.args.out.now _ _ (sym c.in_ok-check_call.ensures) c.answer.ensures).0

pub returns-clause-lent : goal.returns-clause-lent
returns-clause-lent c = (call_answers c.args.frame.now c.args.out.now _ _ (sym c.in_ok-check_call.ensures) c.answer.ensures).1
