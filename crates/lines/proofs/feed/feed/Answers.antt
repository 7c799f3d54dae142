-- `feed` meets its contract. Assumes nothing.
use native.Mathlib.Omega.{arith}
use borrow.Author.Rules.{rules}
use Rattle.lines.proofs.Feeding.{not-lent, is-lent, feeds_nothing, feeds_block, feeds_line}
use Rattle.lines.proofs.feed.feed.Goals as goal

pub returns-then-not-slices_fit : goal.returns-then-not-slices_fit
returns-then-not-slices_fit c = let a = c.args in record {
  feeds = feeds_nothing a.block.now a.line a.kept.now a.out.now
      (not-lent c.slices_fit.result a.kept.now a.out.now c.slices_fit.ensures.answer c.if-not-slices_fit.true);
}

pub returns-then-at-block : goal.returns-then-at-block
returns-then-at-block c = let a = c.args in
    let ready = is-lent c.slices_fit.result a.kept.now a.out.now c.slices_fit.ensures.answer c.if-not-slices_fit.false in
    let t = c.take_line-place in
    let here = c.if-at-block.true in
    let e = c.answer_line-written.ensures in
    let byte = c.slice_known-1.given in record {
      feeds = feeds_line a.block.now a.line _ _ a.kept.now _ a.out.now _ t.result.at _ (λ i. omega (arith, byte i)) ready
          t.ensures.takes here c.start.ensures.begins e.answer e.output (search rules) t.auto.kept;
    }

pub returns : goal.returns
returns c = let a = c.args in
    let ready = is-lent c.slices_fit.result a.kept.now a.out.now
    c.slices_fit.ensures.answer c.if-not-slices_fit.false in
    let t = c.take_line-place in
    let byte = c.slice_known-1.given in
    let byte' = c.slice_known-3-1.given in record {
      feeds = feeds_block a.block.now a.line _ a.kept.now _ a.out.now t.result.at (λ i. omega (arith, byte i))
          (λ i. omega (arith, byte' i)) ready t.ensures.takes c.if-at-block.false t.auto.kept;
    }
