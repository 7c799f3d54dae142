-- The room that cutting a ring takes (document 01, "Frames": B). Definitions only.
use Rattle.std.specs.Prelude.{ℕ, zero, suc, ◌+◌}
use Rattle.edge_pass.specs.Growth.{half_growth}

unfoldable pub four_half_growths : ℕ → ℕ
four_half_growths n = half_growth (half_growth (half_growth (half_growth n)))

-- the room, in vertices, for cutting a ring of n and closing it twice: "B(n) is four half-growths of n, plus 2; B(0) = 0."
unfoldable pub B : ℕ → ℕ
B zero = 0
B (suc n) = four_half_growths (suc n) + 2

-- refusal 20, as document 02, Point 12, amends it: "over 65,532 coordinates"
abbrev pub most_coordinates : ℕ
most_coordinates = 65532
