-- Doubles that are at most 256 in magnitude: in whole numbers of units they are at most 2 ^ 1082. Assumes nothing.
use mathlib.Core.Path.{◌≡◌}
use mathlib.Core.Bool.{true, false}
use Prim.Native.Nat.{ℕ, ◌+◌, ◌^◌, ◌≤◌}
use native.Mathlib.Omega.{arith}
use lib.Dec.{T}
use lib.IntN.{pos}
use lib.Ieee.{Float, fin, binary64, fits, le}
use lib.Ieee.Fits.{and_l, and_r}
use Rattle.binary64.specs.Compare.{at_most_256}
use Rattle.binary64.specs.Scaled.{mag, above_zero, below_zero}
use Rattle.binary64.specs.ExactCrossing.{distance}
use Rattle.binary64.proofs.Order.{finite-between}
use Rattle.binary64.proofs.Value.{Number, mag-parts, Le-of-le}
use Rattle.binary64.proofs.Cut.{Small}

-- a double that is
abbrev pub AtMost256 : Float → Type 0
AtMost256 x = T (fits binary64 x) × T (at_most_256 x)

abbrev least : Float
least = fin true 1 (pos 8)

abbrev greatest : Float
greatest = fin false 1 (pos 8)

-- 2 ^ 1082 is 2 ^ (prec + 1029)
pub at-most-small : {x : Float} → AtMost256 x → Small binary64 1029 x
unfolding fits above_zero below_zero
at-most-small {x} h =
    let l = and_l (le least x) (le x greatest) h.1 in
    let g = and_r (le least x) (le x greatest) h.1 in
    let n : Number binary64 x = record { is_finite = finite-between least x greatest tt tt l g; in_format = h.0 } in
    let low = Le-of-le (record { is_finite = tt; in_format = tt }) n l in
    let high = Le-of-le n (record { is_finite = tt; in_format = tt }) g in
    let size-le = go (above_zero binary64 x) (below_zero binary64 x) (mag binary64 x) (2 ^ 1082) (mag-parts binary64 x) low high in
    record { number = n; size = size-le }
  where
    go : (p n m w : ℕ) → (p + n ≡ m) × (distance p n ≡ m) → 0 + n ≤ p + w → p + 0 ≤ w + n → m ≤ w
    go p n m w a b c = omega arith
