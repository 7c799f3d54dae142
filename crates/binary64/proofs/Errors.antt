-- How far a rounded whole number, a rounded quotient that is at most 1 and a rounded product with a factor that is at most 1 are off, in
-- whole numbers of units. Assumes nothing.
use mathlib.Core.Path.{◌≡◌, sym, ap, ap₂, ◌∙◌}
use mathlib.Core.Logic.{inl, inr}
use mathlib.Core.Bool.{Bool}
use Prim.Native.Nat.{ℕ, suc, ◌+◌, ◌-◌, ◌*◌, ◌^◌, ◌≤◌, ◌<◌}
use native.Mathlib.Nat.{le_trans, le_of_eq, lt_of_lt_of_le, lt_of_le_of_lt, eq-zero-or-pos, mul-one, mul-le-mul_right}
use native.Mathlib.Nat.{le_of_mul-le-mul_right, mul-pos}
use native.Mathlib.Omega.{arith}
use lib.Pow.{pow-add, pow_pos, pow_mono}
use lib.Ieee.{Float, nan, inf, fin, Format, prec, emax, low, unlike, up, down, size, round, mul, div}
use lib.Ieee.Digits.{size-lt, size-le, size_reaches}
use lib.Ieee.Fits.{down_pos}
use lib.Ieee.Scale.{grid, overflow}
use Rattle.binary64.specs.Scaled.{mag, above_zero, below_zero}
use Rattle.binary64.proofs.Order.{above}
use Rattle.binary64.proofs.Value.{Number, above_under, mag-whole, mag-parts}
use Rattle.binary64.proofs.Rounding.{rnd, rnd_in_format, round_parts, in_format_power, grid_le-in_format}
use Rattle.binary64.proofs.Rounding.{Off, Room, grid_off, rnd_off}
use Rattle.binary64.proofs.Arithmetic.{Ratio, PartOf, quotient, product_le}

-- ---- a whole number is off by at most one part in 2 ^ prec of it
pub rnd_part : (f : Format) (k n : ℕ) → Room f k → n < 2 ^ (prec f + suc k) → Off (rnd f n * 2 ^ prec f) (n * 2 ^ prec f) n
rnd_part f k n room h = elim (eq-zero-or-pos (size n - prec f)) [ inl e ↦ few (omega arith) | inr l ↦ many (omega arith) ]
  where
    room_for : size n < low f + suc (emax f)
    room_for = lt_of_le_of_lt (size-le n (prec f + suc k) h) room

    few : size n ≤ prec f → Off (rnd f n * 2 ^ prec f) (n * 2 ^ prec f) n
    few l =
        let e : rnd f n ≡ n = rnd_in_format (record {
          digits = n;
          zeros = 0;
          is = sym (mul-one n);
          few = lt_of_lt_of_le (size-lt n) (pow_mono l);
          small = lt_of_lt_of_le h (pow_mono (omega arith));
        }) in
        rw e (omega arith)

    many : prec f < size n → Off (rnd f n * 2 ^ prec f) (n * 2 ^ prec f) n
    many l =
        let j = size n - suc (prec f) in
        let e : size n ≡ prec f + suc j = omega arith in
        let n-le : n ≤ 2 ^ (prec f + suc j) = le_trans (omega (arith, size-lt n)) (le_of_eq (ap (λ (x : ℕ). 2 ^ x) e)) in
        let off : Off (rnd f n) n (2 ^ j) = rnd_off f j n (rw e at room_for) n-le in
        let last : 2 ^ prec f * 2 ^ j ≤ n = le_trans (le_of_eq (sym (pow-add 2 (prec f) j))) (size_reaches n (prec f + j) (omega arith)) in
        let a : rnd f n * 2 ^ prec f ≤ (n + 2 ^ j) * 2 ^ prec f = mul-le-mul_right (2 ^ prec f) off.0 in
        let b : n * 2 ^ prec f ≤ (rnd f n + 2 ^ j) * 2 ^ prec f = mul-le-mul_right (2 ^ prec f) off.1 in
        (omega arith, omega arith)

-- ---- the size of a rounded fraction
round_mag : (f : Format) (s : Bool) (a c : ℕ) → grid f a c < overflow f → mag f (round f s a c) ≡ grid f a c
round_mag f s a c h =
    let r = round_parts f s a c h in
    sym (mag-parts f (round f s a c)).0 ∙ ap₂ ◌+◌ r.plus-is r.minus_is ∙ (above_under s (grid f a c)).0

above-le : (s : Bool) (a : ℕ) → above s a ≤ a
above-le s a = omega (arith, (above_under s a).0)

-- ---- a quotient that is at most 1, times the divisor: k is such that 1 has its last digit at 2 ^ (k + 1) units
pub div_off : {f : Format} {x y : Float} (k : ℕ) → low f ≡ prec f + suc k → Number f x → Number f y → PartOf f x y
    → Off (mag f (div f x y) * mag f y) (mag f x * 2 ^ low f) (mag f y * 2 ^ k)
div_off {f} {x} {y} k e hx hy h =
    let q = quotient hx hy h in
    let L = 2 ^ low f in
    let X = q.X in
    let Y = q.Y in
    let C = q.C in
    let a = mag f x in
    let b = mag f y in
    let g = grid f X Y in
    let small : X * L ≤ L * Y = omega (arith, mul-le-mul_right C (le_trans q.size (above-le q.negative b)), q.X-is, q.Y-is) in
    let one = in_format_power f (low f) (omega arith) in
    let under : g ≤ L = grid_le-in_format X Y q.Y-pos small one in
    let off : Off (g * Y) (X * L) (Y * 2 ^ k) =
    grid_off f k X Y (omega arith) q.Y-pos (le_trans small (le_of_eq (ap (λ (z : ℕ). 2 ^ z * Y) e))) in
    let size_is : mag f (div f x y) ≡ g = ap (mag f) q.is ∙ round_mag f q.negative X Y (lt_of_le_of_lt under one.small) in
    rw size_is (scaled g X Y a b C L (2 ^ k) q.C-pos q.X-is q.Y-is off)
  where
    scaled : (g X Y a b C L e : ℕ) → 0 < C → X * L ≡ a * C → Y * L ≡ b * C → Off (g * Y) (X * L) (Y * e) → Off (g * b) (a * L) (b * e)
    scaled g X Y a b C L e c p q o =
        let u : g * Y * L ≤ (X * L + Y * e) * L = mul-le-mul_right L o.0 in
        let v : X * L * L ≤ (g * Y + Y * e) * L = mul-le-mul_right L o.1 in
        let p1 : X * L * L ≡ a * C * L = ap (λ (z : ℕ). z * L) p in
        let q1 : g * (Y * L) ≡ g * (b * C) = ap (λ (z : ℕ). g * z) q in
        let q2 : Y * L * e ≡ b * C * e = ap (λ (z : ℕ). z * e) q in
        (le_of_mul-le-mul_right {k = C} (omega arith) c, le_of_mul-le-mul_right {k = C} (omega arith) c)

-- ---- a product with a factor that is at most 1, times 1
pub mul_off : {f : Format} {t y : Float} (k : ℕ) → Room f k → Ratio f t → Number f y → mag f y ≤ 2 ^ (prec f + suc k)
    → Off (mag f (mul f t y) * 2 ^ low f) (mag f t * mag f y) (2 ^ low f * 2 ^ k)
unfolding mul above_zero below_zero
mul_off {t = nan} k room ht hy small = absurd ht.number.is_finite
mul_off {t = inf s} k room ht hy small = absurd ht.number.is_finite
mul_off {t = fin s m e} {y = nan} k room ht hy small = absurd hy.is_finite
mul_off {t = fin s m e} {y = inf r} k room ht hy small = absurd hy.is_finite
mul_off {f} {t = fin s m e} {y = fin r n d} k room ht hy small =
    let L = 2 ^ low f in
    let A = m * up e in
    let B = n * up d in
    let c = down e in
    let D = down d in
    let a = mag f (fin s m e) in
    let b = mag f (fin r n d) in
    let C : 0 < c * D = mul-pos (down_pos e) (down_pos d) in
    let p : A * L ≡ a * c = (mag-whole ht.number).0 in
    let q : B * L ≡ b * D = (mag-whole hy).0 in
    let product : A * B * L ≤ b * (c * D) =
    le_trans (product_le s A B c D a b L (pow_pos (low f)) p q ht.plus-le ht.minus-le) (mul-le-mul_right (c * D) (above-le s b)) in
    let g = grid f (A * B) (c * D) in
    let under : g ≤ b = grid_le-in_format (A * B) (c * D) C product (mag-whole hy).1 in
    let off : Off (g * (c * D)) (A * B * L) (c * D * 2 ^ k) =
    grid_off f k (A * B) (c * D) room C (le_trans product (mul-le-mul_right (c * D) small)) in
    let size_is : mag f (round f (unlike s r) (A * B) (c * D)) ≡ g =
    round_mag f (unlike s r) (A * B) (c * D) (lt_of_le_of_lt under (mag-whole hy).1.small) in
    rw size_is (scaled g A B c D a b L (2 ^ k) C p q off)
  where
    scaled : (g A B c d a b L e : ℕ) → 0 < c * d → A * L ≡ a * c → B * L ≡ b * d → Off (g * (c * d)) (A * B * L) (c * d * e)
        → Off (g * L) (a * b) (L * e)
    scaled g A B c d a b L e C p q o =
        let u : g * (c * d) * L ≤ (A * B * L + c * d * e) * L = mul-le-mul_right L o.0 in
        let v : A * B * L * L ≤ (g * (c * d) + c * d * e) * L = mul-le-mul_right L o.1 in
        let w : A * L * (B * L) ≡ a * c * (b * d) = ap₂ ◌*◌ p q in
        (le_of_mul-le-mul_right {k = c * d} (omega arith) C, le_of_mul-le-mul_right {k = c * d} (omega arith) C)
