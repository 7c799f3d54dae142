-- `ringcut_ring` meets its contract, by that of the ring call. Assumes nothing.
use mathlib.Core.Path.{sym, ◌∙◌, ap}
use mir.Facts.{to_z-of_z}
use Rattle.ring_calls.specs.RingCall.{ring_call_code}
use Rattle.ring_calls.proofs.Offered.{answer-few}
use Rattle.ringcut_calls.proofs.Codes.{count_fits}
use Rattle.ringcut_calls.proofs.ringcut_ring.Goals as goal

pub overflow_cast-result : goal.overflow_cast-result
overflow_cast-result c = count_fits _ (answer-few _ _ _ _ (sym c.ring.ensures.answer ∙ c.in-Ok.is))

pub returns-in-Ok-clause-answer : goal.returns-in-Ok-clause-answer
returns-in-Ok-clause-answer c = let e = c.ring.ensures in
    let q = c.in-Ok.is in rw (
      ← c.new-bounds.ensures,
      ← e.answer,
    ) (to_z-of_z (count_fits _ (answer-few _ _ _ _ (sym e.answer ∙ q))) ∙ ap ring_call_code (sym q))
