-- `read_all` meets its contract. Assumes nothing.
use Rattle.std.proofs.lemmas.Result.{err_from_is_err_and}
use Rattle.ringcut.proofs.Answered.{reached_more, reached_end, reached_failed, reached_some}
use Rattle.ringcut.proofs.read_all.Goals as goal

pub loop-preserved : goal.loop-preserved
loop-preserved g c =
    let l = c.loop in
    let (characters, read, wrote, on) = rw c.in-More.is at c.in_ok-next.ensures.turns in
    reached_more _ _ _ _ _ _ l.line l.kept l.invariant c.in-More.next c.read_block.new.kept characters read wrote on

pub returns-in-Ended-clause-all : goal.returns-in-Ended-clause-all
returns-in-Ended-clause-all g c =
    let l = c.loop in
    let (at-end, none-read, none-written, same-line, same-kept) = rw c.in-Ended.is at c.in_ok-next.ensures.turns in
    rw (same-line, same-kept) (reached_end _ _ _ _ _ _ l.line l.kept l.invariant at-end none-read none-written)

pub returns-in_err-next-clause-part : goal.returns-in_err-next-clause-part
returns-in_err-next-clause-part g c =
    let l = c.loop in
    let (characters, read, wrote) = c.in_err-next.ensures.turns in
    let p = err_from_is_err_and c.from_residual.result c.from_residual.ensures.1 in
    rw p.1 (reached_failed _ _ _ _ _ _ l.line l.kept l.invariant characters read wrote)

pub returns-clause-part : goal.returns-clause-part
returns-clause-part g c =
    let l = c.loop in
    reached_some _ _ _ _ l.line l.kept l.invariant
