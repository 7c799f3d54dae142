-- The positions that a cut starts from. Assumes nothing.
use mathlib.Core.Path.{◌≡◌, refl, ap}
use Prim.Native.Nat.{ℕ, zero, suc, ◌+◌, ◌<◌}
use native.Mathlib.Omega.{arith}
use lib.ListN.{length, get_or}
use Rattle.sutherland_hodgman.specs.Origins.{positions_from}

pub length-positions : (i n : ℕ) → length (positions_from i n) ≡ n
unfolding positions_from
length-positions i zero = refl
length-positions i (suc n) = ap suc (length-positions (suc i) n)

position_at : (i n j : ℕ) → j < n → get_or (positions_from i n) j 0 ≡ i + j
unfolding positions_from
position_at i zero j h = absurd (omega arith)
position_at i (suc n) zero h = omega arith
position_at i (suc n) (suc j) h = omega (arith, position_at (suc i) n j (omega arith))

pub the-position : (n j : ℕ) → j < n → j ≡ get_or (positions_from 0 n) j 0
the-position n j h = omega (arith, position_at 0 n j h)
