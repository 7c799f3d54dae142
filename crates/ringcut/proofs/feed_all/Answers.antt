-- `feed_all` meets its contract. Assumes nothing.
use native.Mathlib.Omega.{arith}
use Rattle.std.proofs.lemmas.Result.{err_from_is_err_and}
use Rattle.binary64.proofs.Fill.{tail_part}
use Rattle.lines.proofs.Feeding.{prints-nothing}
use Rattle.ringcut.proofs.Fed.{none_answered, part-within, part-goes-on, part-answered, part-failed}
use Rattle.ringcut.proofs.feed_all.Goals as goal

pub loop-from-init : goal.loop-from-init
loop-from-init g c =
    let a = c.args in
    record {
      within = omega arith;
      on = (prints-nothing a.line a.kept.now a.out.now).goes_on;
      written = none_answered _ a.line a.kept.now;
    }

pub returns-in_err-write_out-clause-answers : goal.returns-in_err-write_out-clause-answers
returns-in_err-write_out-clause-answers g c =
    let a = c.args in
    let l = c.loop-from in
    let i = l.invariant in
    let f = rw (tail_part a.block.now l.from) at c.feed_lines-fed.ensures.feeds in
    let p = err_from_is_err_and c.from_residual.result c.from_residual.ensures.1 in
    rw p.1 (part-failed a.block.now l.from a.line a.kept.now i.within i.on f _ _ _ i.written c.in_err-write_out.ensures.part)

pub loop-from-preserved : goal.loop-from-preserved
loop-from-preserved g c =
    let a = c.args in
    let l = c.loop-from in
    let i = l.invariant in
    let f = rw (tail_part a.block.now l.from) at c.feed_lines-fed.ensures.feeds in
    record {
      within = part-within a.block.now l.from a.line a.kept.now i.within i.on f;
      on = part-goes-on a.block.now l.from a.line a.kept.now i.within i.on f;
      written = part-answered a.block.now l.from a.line a.kept.now i.within i.on f _ _ _ i.written c.in_ok-write_out.ensures.all;
    }
