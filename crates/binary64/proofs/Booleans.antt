-- Two tests that both hold, two of which neither does, and a test that would hold and not hold. Assumes nothing.
use mathlib.Core.Path.{◌≡◌, refl, sym, ◌∙◌}
use mathlib.Core.Bool.{Bool, true, false, ◌&&◌, ◌||◌, true≢false}

pub both : (s t : Bool) → s && t ≡ true → (s ≡ true) × (t ≡ true)
both true true e = (refl, refl)
both true false e = absurd (true≢false (sym e))
both false t e = absurd (true≢false (sym e))

pub neither : (s t : Bool) → s || t ≡ false → (s ≡ false) × (t ≡ false)
neither true t e = absurd (true≢false e)
neither false t e = (refl, e)

pub never_both : {t : Bool} → t ≡ true → t ≡ false → ⊥
never_both e f = true≢false (sym e ∙ f)
