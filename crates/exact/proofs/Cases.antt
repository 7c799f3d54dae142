-- Numbers at the ends of the grid, computed from its definition. Assumes nothing.
use Rattle.std.proofs.Common.{◌≡◌, ◌+◌, ◌-◌, ◌^◌, Bool, true, false, List, [], ◌∷◌, pos, refl}
use lib.Ieee.{Float, nan, inf, fin, binary64, round}
use Rattle.exact.specs.Grid.{on_grid}

-- whether each of some numbers is on the grid
tested : List Float → List Bool
tested [] = []
tested (x ∷ l) = on_grid x ∷ tested l

-- both zeros, both ends, 1/2^48, the number above 16 and the one below 256, which are on it; 1/2^49, the number above 256 and the one below
-- -256, the one below 16, which is a multiple of 1/2^49, 1/10, what is not finite
at-the-ends : (tested (fin false 0 (pos 0) ∷ fin true 0 (pos 0) ∷ round binary64 false 256 1 ∷ round binary64 true 256 1
    ∷ round binary64 false 1 (2 ^ 48) ∷ round binary64 false (2 ^ 52 + 1) (2 ^ 48) ∷ round binary64 false (2 ^ 53 - 1) (2 ^ 45) ∷ [])
    ≡ true ∷ true ∷ true ∷ true ∷ true ∷ true ∷ true ∷ [])
    × (tested (round binary64 false 1 (2 ^ 49) ∷ round binary64 false (2 ^ 52 + 1) (2 ^ 44) ∷ round binary64 true (2 ^ 52 + 1) (2 ^ 44)
    ∷ round binary64 false (2 ^ 53 - 1) (2 ^ 49) ∷ round binary64 false 1 10 ∷ nan ∷ inf false ∷ inf true ∷ [])
    ≡ false ∷ false ∷ false ∷ false ∷ false ∷ false ∷ false ∷ false ∷ [])
unfolding tested on_grid round
at-the-ends = (refl, refl)
