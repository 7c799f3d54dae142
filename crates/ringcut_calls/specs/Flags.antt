-- The two flags of a slice call (document 01, "Frames") as they cross from C: numbers, of which any but 0 is set. Definitions only.
use Rattle.std.specs.Prelude.{Bool, not, ℕ, eqb}
use Rattle.clip.specs.declared.polygon.Flags.{Flags}

unfoldable pub is_set : ℕ → Bool
is_set n = not (eqb n 0)

abbrev pub flags_of : ℕ → ℕ → Flags
flags_of simple skip = record { assume_simple = is_set simple; skip_boundary_fallback = is_set skip }
