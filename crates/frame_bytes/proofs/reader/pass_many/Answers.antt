-- `pass_many` meets its contract. The invariant: the steps that are left may be taken, and where they end the steps from the start end.
-- Assumes nothing.
use Rattle.std.proofs.Common.{rules, arith, of_calls, ◌≡◌, ◌+◌, ◌-◌}
use Rattle.std.proofs.lemmas.Result.{err_from_is_err_and}
use Rattle.frame_bytes.proofs.Walks.{step_may, steps_may, steps_on, steps_stop, steps_end}
use Rattle.frame_bytes.proofs.reader.pass_many.Goals as goal

pub pass-requires : goal.pass-requires
pass-requires g c =
    let p = step_may _ _ (c.args.count - c.loop.counter) c.loop.at (omega arith) c.loop.invariant.0 in
    search (rules, of_calls)

pub returns-in_err-at : goal.returns-in_err-at
returns-in_err-at g c =
    let p = err_from_is_err_and c.from_residual.result c.from_residual.ensures.1 in
    rw (p.1, p.2) (c.loop.invariant.1 _ (steps_stop _ (c.args.count - c.loop.counter) c.loop.at _ (omega arith) c.in_err-at.ensures))

pub loop-preserved : goal.loop-preserved
loop-preserved g c =
    let e : c.args.count - (c.loop.counter + 1) ≡ c.args.count - c.loop.counter - 1 = omega arith in
    let h = c.loop.invariant in
    rw e (
      steps_may _ _ (c.args.count - c.loop.counter) c.loop.at _ (omega arith) h.0 c.in_ok-at.ensures,
      λ r p. h.1 r (steps_on _ (c.args.count - c.loop.counter) c.loop.at _ r (omega arith) c.in_ok-at.ensures p),
    )

pub returns : goal.returns
returns g c = c.loop.invariant.1 _ (steps_end _ (c.args.count - c.loop.counter) c.loop.at (omega arith))
