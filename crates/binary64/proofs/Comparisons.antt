-- What the tests of the code say of NaN, of finiteness and of magnitude. Assumes nothing.
use mathlib.Core.Path.{◌≡◌, refl, sym, ◌∙◌, subst}
use mathlib.Core.Bool.{true, false, ◌&&◌, ◌||◌, and-true, and-false, or-false}
use mathlib.Mathlib.Data.Bool.Basic.{eq-false_of_not-eq-true}
use Prim.Native.Nat.{ℕ, zero, suc, ◌+◌, ◌*◌, ◌<◌}
use native.Mathlib.Nat.{mul-pos, zero-lt-suc}
use native.Mathlib.Decide.{ℕ_discrete}
use native.Mathlib.Omega.{arith}
use lib.Dec.{T, eqb}
use lib.IntN.{ℤ, pos, negsuc}
use lib.Ieee.{Float, nan, inf, fin, binary64, is_nan, of_bits, up, down, neg, lt, le, eq, ne}
use lib.Ieee.Compare.{differs_from_itself}
use lib.Ieee.Scale.{finite}
use Rattle.std.specs.Float.{float_is_finite}
use lib.Ieee.Fits.{up_pos, down_pos}
use borrow.Author.Tests.{lt-ltb, eq-eqb, ne_eqb}
use Rattle.binary64.specs.Compare.{minimum, maximum, magnitude, tolerance, overlay_limit}
use Rattle.binary64.specs.Internal.{lower, higher}

-- a number differs from itself exactly if it is a NaN
pub ne_self : (x : Float) → ne x x ≡ is_nan x
unfolding ne eq is_nan
ne_self nan = refl
ne_self (inf true) = refl
ne_self (inf false) = refl
ne_self (fin s m e) = eq-false_of_not-eq-true (λ t.
    let q : fin s m e ≡ nan = differs_from_itself (fin s m e) (subst T (sym t) tt) in
    let z : ◌≡◌ {A = ℕ} 0 1 = cc in
    omega arith)

-- the lower and the higher of two are `minimum` and `maximum`, where the first is no NaN
pub lower-minimum : (a b : Float) → is_nan a ≡ false → lower a b ≡ minimum a b
unfolding lower minimum
lower-minimum a b n = rw (n, or-false (lt b a))

pub higher-maximum : (a b : Float) → is_nan a ≡ false → higher a b ≡ maximum a b
unfolding higher maximum
higher-maximum a b n = rw (n, or-false (lt a b))

-- the library's test
pub finite-same : (x : Float) → float_is_finite x ≡ finite x
unfolding float_is_finite
finite-same nan = refl
finite-same (inf s) = refl
finite-same (fin s m e) = refl

-- ---- a magnitude compared with a number t above 0, as two comparisons of the number itself with t and -t

eqb_comm : (a b : ℕ) → eqb a b ≡ eqb b a
eqb_comm a b =
    elim (ℕ_discrete a b) [
      | yes q ↦ eq-eqb a b q ∙ sym (eq-eqb b a (sym q))
      | no n ↦ ne_eqb a b n ∙ sym (ne_eqb b a (λ q. n (sym q)))
    ]

above_zero_lem : (m : ℕ) (e d : ℤ) → 0 < suc m * up e * down d
above_zero_lem m e d = mul-pos (mul-pos (zero-lt-suc m) (up_pos e)) (down_pos d)

-- a number above 0 equals no zero
not_level : (a b : ℕ) → 0 < b → eqb a b && eqb a 0 ≡ false
not_level zero b h = rw (ne_eqb 0 b (λ q. omega arith))
not_level (suc a) b h = rw (ne_eqb (suc a) 0 (λ q. omega arith)) (and-false (eqb (suc a) b))

pub magnitude-below : (m : ℕ) (e : ℤ) (x : Float) → lt x (fin false (suc m) e) && lt (fin true (suc m) e) x ≡ lt (magnitude x)
    (fin false (suc m) e)
unfolding lt magnitude
magnitude-below m e nan = refl
magnitude-below m e (inf true) = refl
magnitude-below m e (inf false) = refl
magnitude-below m e (fin false n d) =
    rw (lt-ltb 0 (suc m * up e * down d + n * up d * down e) (omega (arith, above_zero_lem m e d))) (and-true _)
magnitude-below m e (fin true n d) = rw (lt-ltb 0 (n * up d * down e + suc m * up e * down d) (omega (arith, above_zero_lem m e d)))

pub magnitude-reaches : (m : ℕ) (e : ℤ) (x : Float) → le (fin false (suc m) e) x || le x (fin true (suc m) e) ≡ le
    (fin false (suc m) e) (magnitude x)
unfolding le lt eq magnitude
magnitude-reaches m e nan = refl
magnitude-reaches m e (inf true) = refl
magnitude-reaches m e (inf false) = refl
magnitude-reaches m e (fin false n d) = rw (not_level (n * up d * down e) (suc m * up e * down d) (above_zero_lem m e d)) (or-false _)
magnitude-reaches m e (fin true n d) =
    let b = suc m * up e * down d in
    rw (ne_eqb b 0 (λ q. omega (arith, above_zero_lem m e d)), eqb_comm (n * up d * down e) b, and-false (eqb b (n * up d * down e)))

-- ---- 1e-10 and 1e150, as the code's literals have them

pub tolerance-bits : tolerance ≡ of_bits binary64 0x3ddb7cdfd9d7bdbb
unfolding tolerance of_bits
tolerance-bits = refl

pub limit_bits : overlay_limit ≡ of_bits binary64 0x5f138d352e5096af
unfolding overlay_limit of_bits
limit_bits = refl

pub near-test : (d : Float) → lt d tolerance && lt (neg tolerance) d ≡ lt (magnitude d) tolerance
unfolding tolerance neg
near-test d = magnitude-below 7737125245533626 (negsuc 85) d

pub huge-test : (x : Float) → le overlay_limit x || le x (neg overlay_limit) ≡ le overlay_limit (magnitude x)
unfolding overlay_limit neg
huge-test x = magnitude-reaches 5503284107318958 (pos 446) x
