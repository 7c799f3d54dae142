-- `check_parts` meets its contract: the walk stops, ends before the frame's end, or ends with it. Assumes nothing.
use borrow.Author.Rules.{rules, of_calls}
use borrow.Author.Tests.{lt-ltb, le-ltb}
use Rattle.std.proofs.lemmas.Result.{err_from_is_err_and}
use Rattle.frame_bytes.specs.Frame.{read_part}
use Rattle.frame_bytes.proofs.Readings.{part_reads}
use Rattle.frame_bytes.proofs.Walks.{parts_passed, steps_passable}
use Rattle.frame_bytes.proofs.reader.check_parts.Goals as goal

pub pass_many-requires : goal.pass_many-requires
pass_many-requires c = steps_passable read_part part_reads c.args.frame.now _ (λ at r h e. search (rules, of_calls)) _
    (λ at h. search (rules, of_calls)) _ _ c.requires

pub returns-then-end-frame : goal.returns-then-end-frame
returns-then-end-frame c =
    let e = parts_passed c.args.frame.now _ (λ at r h e. search (rules, of_calls)) _ c.requires _ c.in_ok-end.ensures in
    rw (lt-ltb _ _ c.if-end-frame.true) at e

pub returns-in_err-end : goal.returns-in_err-end
returns-in_err-end c =
    let p = err_from_is_err_and c.from_residual.result c.from_residual.ensures.1 in
    rw (p.1, p.2) (parts_passed c.args.frame.now _ (λ at r h e. search (rules, of_calls)) _ c.requires _ c.in_err-end.ensures)

pub returns : goal.returns
returns c =
    let e = parts_passed c.args.frame.now _ (λ at r h e. search (rules, of_calls)) _ c.requires _ c.in_ok-end.ensures in
    rw (le-ltb _ _ c.if-end-frame.false) at e
