-- `finish` meets its contract. Assumes nothing.
use mathlib.Core.Path.{refl, sym, ◌∙◌, ap}
use native.Mathlib.Omega.{arith}
use Rattle.std.proofs.Common.{Ok}
use Rattle.lines.proofs.Feeding.{lent-lengths, is-lent, ends_begun, ends-not_begun}
use Rattle.lines.proofs.feed.finish.Goals as goal

pub returns-then-is_not_begun-clause-answer : goal.returns-then-is_not_begun-clause-answer
returns-then-is_not_begun-clause-answer c = let a = c.args in
    let l = c.slices_fit in
    let ready = is-lent l.result a.kept.now a.out.now l.ensures.answer c.if-not-slices_fit.false in rw (ready, ends-not_begun a.line a.kept.now (sym c.is_not_begun.ensures.answer ∙ c.if-is_not_begun.true)) refl

pub returns-then-is_not_begun-clause-output : goal.returns-then-is_not_begun-clause-output
returns-then-is_not_begun-clause-output c = let a = c.args in
    let l = c.slices_fit in
    let ready = is-lent l.result a.kept.now a.out.now l.ensures.answer c.if-not-slices_fit.false in rw (ready, ends-not_begun a.line a.kept.now (sym c.is_not_begun.ensures.answer ∙ c.if-is_not_begun.true)) refl

pub returns-clause-answer : goal.returns-clause-answer
returns-clause-answer c = let a = c.args in
    let l = c.slices_fit in
    let ready = is-lent l.result a.kept.now a.out.now l.ensures.answer
    c.if-not-slices_fit.false in
    let byte = c.shared_slice_known-1.given in
    let begun = ends_begun a.line a.kept.now (λ i. omega (arith, byte i)) (lent-lengths a.kept.now a.out.now ready).0
    (sym c.is_not_begun.ensures.answer ∙ c.if-is_not_begun.false) in
    let e = c.answer_line.ensures in rw (ready, begun) (ap Ok e.answer)

pub returns-clause-output : goal.returns-clause-output
returns-clause-output c = let a = c.args in
    let l = c.slices_fit in
    let ready = is-lent l.result a.kept.now a.out.now l.ensures.answer
    c.if-not-slices_fit.false in
    let byte = c.shared_slice_known-1.given in
    let begun = ends_begun a.line a.kept.now (λ i. omega (arith, byte i)) (lent-lengths a.kept.now a.out.now ready).0
    (sym c.is_not_begun.ensures.answer ∙ c.if-is_not_begun.false) in
    let e = c.answer_line.ensures in rw (ready, begun) e.output
