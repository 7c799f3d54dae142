-- `ringcut_polygon` meets its contract, by that of the slice call. Assumes nothing.
use mathlib.Core.Path.{sym, ◌∙◌, ap}
use native.Mathlib.Omega.{arith}
use lib.IntN.{pos}
use mir.Syntax.{w64}
use mir.Val.{SFits}
use mir.Facts.{to_z-of_z}
use borrow.Author.Rules.{sfits_of}
use Rattle.slices.specs.SliceCall.{slice_call_code}
use Rattle.slices.proofs.Answers.{answer-below, guards-told}
use Rattle.ringcut_calls.proofs.ringcut_polygon.Goals as goal

pub answer_code-requires : goal.answer_code-requires
answer_code-requires c = let b = answer-below _ _ _ _ _ _ _ (sym c.polygon.ensures.answer ∙ c.in-Ok.is) in omega arith

pub overflow_cast-result : goal.overflow_cast-result
overflow_cast-result c = let b = answer-below _ _ _ _ _ _ _ (sym c.polygon.ensures.answer ∙ c.in-Ok.is) in sfits_of (omega (arith, c.answer_code.ensures))

pub returns-in-Ok-clause-answer : goal.returns-in-Ok-clause-answer
returns-in-Ok-clause-answer c = let e = c.polygon.ensures in
    let q = c.in-Ok.is in
    let b = answer-below _ _ _ _ _ _ _ (sym e.answer ∙ q) in
    let f : SFits w64 (pos c.answer_code.result) = sfits_of (omega (arith, c.answer_code.ensures)) in
    let h = to_z-of_z f ∙ ap pos c.answer_code.ensures ∙ ap slice_call_code (sym q) in rw (← c.is_set.ensures, ← c.is_set-2.ensures, ← c.new.ensures, ← e.answer) h

pub returns-in-Ok-clause-guards : goal.returns-in-Ok-clause-guards
returns-in-Ok-clause-guards c = let e = c.polygon.ensures in
    let q = c.in-Ok.is in
    let b = answer-below _ _ _ _ _ _ _ (sym e.answer ∙ q) in
    let f : SFits w64 (pos c.answer_code.result) = sfits_of (omega (arith, c.answer_code.ensures)) in
    let h = to_z-of_z f ∙ ap pos c.answer_code.ensures ∙ ap slice_call_code (sym q) in rw (← c.is_set.ensures, ← c.is_set-2.ensures, ← c.new.ensures, ← e.answer) (guards-told _ _ _ _ _ _ _ _ e.answer h)
