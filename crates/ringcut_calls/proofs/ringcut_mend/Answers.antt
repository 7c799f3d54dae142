-- `ringcut_mend` meets its contract, by that of the mending call. Assumes nothing.
use mathlib.Core.Path.{sym, ◌∙◌, ap}
use mir.Facts.{to_z-of_z}
use Rattle.mend.specs.MendCall.{mend_call_code}
use Rattle.ringcut_calls.proofs.Codes.{mended_fit}
use Rattle.ringcut_calls.proofs.ringcut_mend.Goals as goal

pub overflow_cast-result : goal.overflow_cast-result
overflow_cast-result c = mended_fit _ _ _ (sym c.mend_ring.ensures.answer ∙ c.in-Ok.is)

pub returns-in-Ok-clause-answer : goal.returns-in-Ok-clause-answer
returns-in-Ok-clause-answer c = let e = c.mend_ring.ensures in
    let q = c.in-Ok.is in rw (← e.answer) (to_z-of_z (mended_fit _ _ _ (sym e.answer ∙ q)) ∙ ap mend_call_code (sym q))
