-- `take_chars` meets its contract. The invariant: the characters so far are read on within the line. Assumes nothing.
use mathlib.Core.Path.{refl}
use borrow.Author.Rules.{rules}
use Rattle.lines.specs.Internal.{state_of}
use Rattle.lines.proofs.Running.{passes_start, passes_then, passes_char}
use Rattle.lines.proofs.line.take_chars.Goals as goal

pub loop-at-init : goal.loop-at-init
loop-at-init c = let a = c.args in (refl, passes_start a.block.now a.from (state_of a.line a.kept.now) c.requires.0)

pub loop-at-preserved : goal.loop-at-preserved
loop-at-preserved c = let block = c.args.block.now in
    let l = c.loop-at in
    let e = c.take_char-reached.ensures.state in
    let p = passes_char block l.at (state_of l.reached l.kept) c.loop-at-test.true
    c.if-b-eq-NEWLINE.false in (search rules, rw e (passes_then l.invariant.1 p))
