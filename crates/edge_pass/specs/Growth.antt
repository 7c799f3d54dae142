-- The room that a pass takes (document 01, "Frames": half-growth). Definitions only.
use Rattle.std.specs.Prelude.{ℕ, ◌+◌, ◌/◌}

-- "n plus half of n rounded down"
unfoldable pub half_growth : ℕ → ℕ
half_growth n = n + n / 2
