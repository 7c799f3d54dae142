-- "every double from 16 to 256 is" on the grid (document 02, Point 5). Assumes nothing.
use Rattle.std.proofs.Common.{◌≡◌, ℕ, zero, suc, ◌+◌, ◌-◌, ◌*◌, ◌%◌, ◌^◌, ◌<◌, ◌≤◌, Bool, true, ◌&&◌, T, eqb, ltb, leb, ℤ, pos, negsuc, sym, ap, ◌∙◌, mul-le-mul_right, le_of_mul-le-mul_right, arith, ltb→lt, pow_pos, pow-add, eq-eqb, le-leb}
use native.Mathlib.Nat.{mul-mod_left}
use native.Mathlib.Decide.{dec_lt}
use lib.Ieee.{Float, nan, inf, fin, Format, binary64, prec, emax, low, up, down, fits}
use lib.Ieee.Fits.{down_pos, and_l, and_r}
use Rattle.binary64.proofs.Value.{mag-whole}
use Rattle.binary64.specs.Scaled.{mag}
use Rattle.exact.specs.Grid.{on_grid}

-- a double's digits are fewer than 53 binary ones where it is no whole number
few_digits : (s : Bool) (m k : ℕ) → T (fits binary64 (fin s (suc m) (negsuc k))) → suc m < 2 ^ 53
unfolding fits
few_digits s m k t =
    ltb→lt (suc m) (2 ^ prec binary64)
    (and_r (eqb (suc m % 2) 1) (ltb (suc m) (2 ^ prec binary64))
    (and_l (eqb (suc m % 2) 1 && ltb (suc m) (2 ^ prec binary64)) (leb (2 ^ suc k) (2 ^ low binary64))
    (and_l (eqb (suc m % 2) 1 && ltb (suc m) (2 ^ prec binary64) && leb (2 ^ suc k) (2 ^ low binary64))
    (ltb (suc m * 1) (2 ^ suc (emax binary64) * 2 ^ suc k)) t)))

-- so one of 16 or more is a whole number of steps
few_places : (m k : ℕ) → m < 2 ^ 53 → 16 * 2 ^ suc k ≤ m → m * 1 * 2 ^ 48 % 2 ^ suc k ≡ 0
few_places m k few h =
    elim (dec_lt (suc k) 49) [
      | yes l ↦
          let e : (48 - suc k) + suc k ≡ 48 = omega arith in
          let p : 2 ^ 48 ≡ 2 ^ (48 - suc k) * 2 ^ suc k = ap (λ (n : ℕ). 2 ^ n) (sym e) ∙ pow-add 2 (48 - suc k) (suc k) in
          let q : m * 1 * 2 ^ 48 ≡ m * 2 ^ (48 - suc k) * 2 ^ suc k = omega (arith, ap (λ (n : ℕ). m * n) p) in
          ap (λ (n : ℕ). n % 2 ^ suc k) q ∙ mul-mod_left (m * 2 ^ (48 - suc k)) (2 ^ suc k)
      | no n ↦
          let e : 49 + (suc k - 49) ≡ suc k = omega arith in
          let p : 2 ^ suc k ≡ 2 ^ 49 * 2 ^ (suc k - 49) = ap (λ (n : ℕ). 2 ^ n) (sym e) ∙ pow-add 2 49 (suc k - 49) in
          absurd (omega (arith, pow_pos (suc k - 49)))
    ]

-- the size in units of 1 / 2^low, as the size itself
in_units : (f : Format) (s : Bool) (m : ℕ) (e : ℤ) → T (fits f (fin s m e)) → 16 * 2 ^ low f ≤ mag f (fin s m e)
    → mag f (fin s m e) ≤ 256 * 2 ^ low f → (16 * down e ≤ m * up e) × (m * up e ≤ 256 * down e)
in_units f s m e t l h =
    let w = mag-whole {f = f} {x = fin s m e} (record { is_finite = tt; in_format = t }) in
    let u = pow_pos (low f) in (
      le_of_mul-le-mul_right {k = 2 ^ low f} (omega (arith, w.0, mul-le-mul_right (down e) l)) u,
      le_of_mul-le-mul_right {k = 2 ^ low f} (omega (arith, w.0, mul-le-mul_right (down e) h)) u,
    )

-- what has no size is below 16
too_small : (f : Format) → 16 * 2 ^ low f ≤ 0 → ⊥
too_small f l = omega (arith, pow_pos (low f))

pub from_16_on : (x : Float) → T (fits binary64 x) → 16 * 2 ^ low binary64 ≤ mag binary64 x → mag binary64 x ≤ 256 * 2 ^ low binary64
    → on_grid x ≡ true
unfolding on_grid
from_16_on nan t l h = absurd (too_small binary64 l)
from_16_on (inf s) t l h = absurd (too_small binary64 l)
from_16_on (fin s m (pos k)) t l h =
    let b = in_units binary64 s m (pos k) t l h in
    rw (eq-eqb (m * up (pos k) * 2 ^ 48 % 1) 0 (omega arith), le-leb (m * up (pos k)) (256 * 1) b.1)
from_16_on (fin s zero (negsuc k)) t l h = absurd (omega (arith, (in_units binary64 s zero (negsuc k) t l h).0, down_pos (negsuc k)))
from_16_on (fin s (suc m) (negsuc k)) t l h =
    let b = in_units binary64 s (suc m) (negsuc k) t l h in
    let z = few_places (suc m) k (few_digits s m k t) (omega (arith, b.0)) in
    rw (eq-eqb (suc m * 1 * 2 ^ 48 % 2 ^ suc k) 0 z, le-leb (suc m * 1) (256 * 2 ^ suc k) b.1)
