-- One cut: `interpolate` is off the exact crossing (specs/ExactCrossing.antt) by at most 8 * 2 ^ k units, where the ends and the line are
-- at most 2 ^ (prec + k) units in size, and the line lies between the ends.
-- For a double and k = 1029: at most 256, off by at most 1 / 2 ^ 42. Assumes nothing.
--
-- Why 8: with q = 2 ^ prec, the two differences in the fixed coordinate are off by one part in q each, and the quotient, which is at most
-- 1, by 1 / (2 * q) besides. So it is off by at most 5 / (2 * q). Times the difference in the free coordinate, which is at most 2 * q times
-- 2 ^ k units, that makes 5 times 2 ^ k; and this difference, the product and the sum are rounded by at most 2 ^ k each.
use mathlib.Core.Path.{◌≡◌, refl, sym, ap, ◌∙◌}
use mathlib.Core.Logic.{inl, inr}
use Prim.Native.Nat.{ℕ, suc, ◌+◌, ◌-◌, ◌*◌, ◌^◌, ◌≤◌, ◌<◌}
use native.Mathlib.Nat.{le_trans, le_of_eq, lt_of_le_of_lt, eq-zero-or-pos, mul-le-mul_right, mul-le-mul_left}
use native.Mathlib.Nat.{le_of_mul-le-mul_right, two-pow-succ}
use native.Mathlib.Omega.{arith}
use lib.Pow.{pow-add, pow_pos, pow-lt}
use lib.Ieee.{Float, Format, binary32, binary64, prec, low, add, sub, mul, div}
use lib.Ieee.Scale.{overflow}
use Rattle.binary64.specs.Interpolation.{interpolate}
use Rattle.binary64.specs.Scaled.{mag, above_zero, below_zero}
use Rattle.binary64.specs.ExactCrossing.{units_apart, Fraction, exact_crossing, OffAtMost}
use Rattle.binary64.proofs.Value.{mag-parts}
use Rattle.binary64.proofs.Rounding.{rnd, rnd_mono, rnd_small, rnd_le, rnd_pos, in_format_power, Off, Room, rnd_off}
use Rattle.binary64.proofs.Arithmetic.{rounded_mag, mul_shrinks}
use Rattle.binary64.proofs.Cut.{Small, Between, apart-le, sub_small, rnd_of-zero, part_of, ratio, mixed}
use Rattle.binary64.proofs.Errors.{rnd_part, div_off, mul_off}

-- what is off by at most d is off by at most e, if that is more
pub off_wider : {f : Format} {x : Float} {q : Fraction} {d e : ℕ} → d ≤ e → OffAtMost f x q d → OffAtMost f x q e
off_wider {q = q} h o =
    let more = mul-le-mul_left q.divisor h in
    record { is_finite = o.is_finite; is_fraction = o.is_fraction; above-by = omega arith; below_by = omega arith }

-- ---- in whole numbers: n / m is the exact ratio, N / M that of the rounded differences, and t / L the computed one
ratio_off : (n m N M q t L g : ℕ) → n ≤ m → N ≤ M → 0 < M → q * (g + g) ≡ L → Off (N * q) (n * q) n → Off (M * q) (m * q) m
    → Off (t * M) (N * L) (M * g) → Off (t * m * (q + q)) (n * (q + q) * L) (5 * (m * L))
ratio_off n m N M q t L g h H P e a b c =
    let a1 : N * q * M ≤ (n * q + n) * M = mul-le-mul_right M a.0 in
    let a2 : n * q * M ≤ (N * q + n) * M = mul-le-mul_right M a.1 in
    let b1 : M * q * N ≤ (m * q + m) * N = mul-le-mul_right N b.0 in
    let b2 : m * q * N ≤ (M * q + m) * N = mul-le-mul_right N b.1 in
    let u : n * M ≤ m * M = mul-le-mul_right M h in
    let v : N * m ≤ M * m = mul-le-mul_right m H in
    let r1 : N * m * q ≤ n * M * q + 2 * (m * M) = omega arith in
    let r2 : n * M * q ≤ N * m * q + 2 * (m * M) = omega arith in
    let s1 : N * m * q * L ≤ (n * M * q + 2 * (m * M)) * L = mul-le-mul_right L r1 in
    let s2 : n * M * q * L ≤ (N * m * q + 2 * (m * M)) * L = mul-le-mul_right L r2 in
    let c1 : t * M * (m * q) ≤ (N * L + M * g) * (m * q) = mul-le-mul_right (m * q) c.0 in
    let c2 : N * L * (m * q) ≤ (t * M + M * g) * (m * q) = mul-le-mul_right (m * q) c.1 in
    let e1 : M * m * (q * (g + g)) ≡ M * m * L = ap (λ (x : ℕ). M * m * x) e in
    (le_of_mul-le-mul_right {k = M} (omega arith) P, le_of_mul-le-mul_right {k = M} (omega arith) P)

-- p is the rounded product of t / L and d, which is the exact difference D, rounded
product_off : (n m q t L p d D e : ℕ) → 0 < L → 0 < q → n ≤ m → Off (t * m * (q + q)) (n * (q + q) * L) (5 * (m * L))
    → Off (p * L) (t * d) (L * e) → Off d D e → d ≤ q * (e + e) → Off (p * m) (n * D) (7 * (m * e))
product_off n m q t L p d D e l Q h r a b c =
    let r1 : t * m * (q + q) * d ≤ (n * (q + q) * L + 5 * (m * L)) * d = mul-le-mul_right d r.0 in
    let r2 : n * (q + q) * L * d ≤ (t * m * (q + q) + 5 * (m * L)) * d = mul-le-mul_right d r.1 in
    let a1 : p * L * (m * (q + q)) ≤ (t * d + L * e) * (m * (q + q)) = mul-le-mul_right (m * (q + q)) a.0 in
    let a2 : t * d * (m * (q + q)) ≤ (p * L + L * e) * (m * (q + q)) = mul-le-mul_right (m * (q + q)) a.1 in
    let s1 : p * m * (q + q) ≤ n * d * (q + q) + 5 * (m * d) + m * e * (q + q) = le_of_mul-le-mul_right {k = L} (omega arith) l in
    let s2 : n * d * (q + q) ≤ p * m * (q + q) + 5 * (m * d) + m * e * (q + q) = le_of_mul-le-mul_right {k = L} (omega arith) l in
    let c1 : m * d ≤ m * (q * (e + e)) = mul-le-mul_left m c in
    let t1 : p * m ≤ n * d + 6 * (m * e) = le_of_mul-le-mul_right {k = q} (omega arith) Q in
    let t2 : n * d ≤ p * m + 6 * (m * e) = le_of_mul-le-mul_right {k = q} (omega arith) Q in
    let b1 : n * d ≤ n * (D + e) = mul-le-mul_left n b.0 in
    let b2 : n * D ≤ n * (d + e) = mul-le-mul_left n b.1 in
    let h1 : n * e ≤ m * e = mul-le-mul_right e h in
    (omega arith, omega arith)

-- x is y and p, rounded; p is n / m of D, which is how far high is above low
sum_off : (m n x y p low high D e : ℕ) → low + D ≡ high → Off x (y + p) e → Off (p * m) (n * D) (7 * (m * e))
    → Off (m * x + n * low) (m * y + n * high) (m * (8 * e))
sum_off m n x y p low high D e z a o =
    let z1 : n * (low + D) ≡ n * high = ap (λ (w : ℕ). n * w) z in
    let a1 : m * x ≤ m * (y + p + e) = mul-le-mul_left m a.0 in
    let a2 : m * (y + p) ≤ m * (x + e) = mul-le-mul_left m a.1 in
    (omega arith, omega arith)

-- 2 ^ (prec + k + 1) as a product
power : (f : Format) (k : ℕ) → 2 ^ (prec f + suc k) ≡ 2 ^ prec f * (2 ^ k + 2 ^ k)
power f k = pow-add 2 (prec f) (suc k) ∙ ap (λ (x : ℕ). 2 ^ prec f * x) (two-pow-succ k)

-- the last digit of 1, of which the quotient is off by half at most
last-digit : (f : Format) → (j : ℕ) × (low f ≡ prec f + suc j)
last-digit binary32 = (124, refl)
last-digit binary64 = (1020, refl)

-- ---- the differences
module _ (f : Format) (k : ℕ) (room : Room f (suc k)) where
  room_k : Room f k
  room_k = omega arith

  -- the line lies between the ends: it is no further from the one than the other is
  between_le : (c va vb : Float) → Between f va c vb → (units_apart f c va ≤ units_apart f vb va) × (0 < units_apart f vb va)
  between_le c va vb (inl w) = omega arith
  between_le c va vb (inr w) = omega arith

  sub-mag : {x y : Float} → Small f k x → Small f k y → mag f (sub f x y) ≡ rnd f (units_apart f x y)
  sub-mag {x} {y} hx hy =
      rounded_mag (above_zero f x + below_zero f y) (below_zero f x + above_zero f y) (sub_small room_k hx hy)

  apart-part : {x y : Float} → Small f k x → Small f k y → Off (rnd f (units_apart f x y) * 2 ^ prec f) (units_apart f x y * 2 ^ prec f)
      (units_apart f x y)
  apart-part {x} {y} hx hy = rnd_part f (suc k) (units_apart f x y) room (lt_of_le_of_lt (apart-le hx hy) (pow-lt (omega arith)))

  computed_ratio : {c va vb : Float} → Small f k c → Small f k va → Small f k vb → Between f va c vb
      → Off (mag f (div f (sub f c va) (sub f vb va)) * units_apart f vb va * (2 ^ prec f + 2 ^ prec f))
      (units_apart f c va * (2 ^ prec f + 2 ^ prec f) * 2 ^ low f) (5 * (units_apart f vb va * 2 ^ low f))
  computed_ratio {c} {va} {vb} hc ha hb w =
      let n = units_apart f c va in
      let m = units_apart f vb va in
      let j = last-digit f in
      let b = between_le c va vb w in
      let small : rnd f m < overflow f = rnd_small f (apart-le hb ha) room_k in
      let off : Off (mag f (div f (sub f c va) (sub f vb va)) * rnd f m) (rnd f n * 2 ^ low f) (rnd f m * 2 ^ j.0) =
      rw (← sub-mag hb ha, ← sub-mag hc ha) (div_off j.0 j.1 (sub_small room_k hc ha).number (sub_small room_k hb ha).number
      (part_of room_k hc ha hb w)) in
      ratio_off n m (rnd f n) (rnd f m) (2 ^ prec f) (mag f (div f (sub f c va) (sub f vb va))) (2 ^ low f) (2 ^ j.0) b.0
      (rnd_mono f n m b.0 small) (rnd_pos f m b.1 small) (sym (ap (λ (x : ℕ). 2 ^ x) j.1 ∙ power f j.0)) (apart-part hc ha)
      (apart-part hb ha) off

  computed_product : {c va vb ua ub : Float} → Small f k c → Small f k va → Small f k vb → Small f k ua → Small f k ub → Between f va c vb
      → Off (mag f (mul f (div f (sub f c va) (sub f vb va)) (sub f ub ua)) * units_apart f vb va) (units_apart f c va * units_apart f ub ua)
      (7 * (units_apart f vb va * 2 ^ k))
  computed_product {c} {va} {vb} {ua} {ub} hc hva hvb hua hub w =
      let D = units_apart f ub ua in
      let t = div f (sub f c va) (sub f vb va) in
      let d = sub f ub ua in
      let d_le : rnd f D ≤ 2 ^ (prec f + suc k) = rnd_le D (apart-le hub hua) (in_format_power f (prec f + suc k) room_k) in
      let off : Off (mag f (mul f t d) * 2 ^ low f) (mag f t * rnd f D) (2 ^ low f * 2 ^ k) =
      rw (← sub-mag hub hua) (mul_off k room_k (ratio room_k hc hva hvb w) (sub_small room_k hub hua).number
      (rw (sub-mag hub hua) d_le)) in
      product_off (units_apart f c va) (units_apart f vb va) (2 ^ prec f) (mag f t) (2 ^ low f) (mag f (mul f t d)) (rnd f D) D (2 ^ k)
      (pow_pos (low f)) (pow_pos (prec f)) (between_le c va vb w).0 (computed_ratio hc hva hvb w) off
      (rnd_off f k D room_k (apart-le hub hua))
      (le_trans d_le (le_of_eq (power f k)))

  -- ---- the law
  pub interpolate_off : {c va vb ua ub : Float} → Small f k c → Small f k va → Small f k vb → Small f k ua → Small f k ub
      → Between f va c vb → OffAtMost f (interpolate f c va vb ua ub) (exact_crossing f c va vb ua ub) (8 * 2 ^ k)
  unfolding interpolate
  interpolate_off {c} {va} {vb} {ua} {ub} hc hva hvb hua hub w =
      let n = units_apart f c va in
      let m = units_apart f vb va in
      let t = ratio room_k hc hva hvb w in
      let d = sub_small room_k hub hua in
      let p = mul f (div f (sub f c va) (sub f vb va)) (sub f ub ua) in
      let u = add f ua p in
      let s = mixed room_k t hua hub in
      let shrinks = mul_shrinks t d.number in
      let parts = (mag-parts f p).0 in
      let off = computed_product hc hva hvb hua hub w in
      let high = above_zero f ub + below_zero f ua in
      let low = below_zero f ub + above_zero f ua in
      let both : Off (m * (above_zero f u + below_zero f ua) + n * low) (m * (above_zero f ua + below_zero f u) + n * high) (m * (8 * 2 ^ k)) =
      elim (eq-zero-or-pos (low - high)) [
        | inl e ↦
            let z : below_zero f (sub f ub ua) ≡ 0 = d.minus_is ∙ rnd_of-zero f (low - high) e in
            sum_off m n (above_zero f u + below_zero f ua) (above_zero f ua + below_zero f u) (mag f p) low high (units_apart f ub ua) (2 ^ k)
            (omega arith) (omega (arith, s.sum, shrinks.minus-le)) off
        | inr l ↦
            let z : above_zero f (sub f ub ua) ≡ 0 = d.plus-is ∙ rnd_of-zero f (high - low) (omega arith) in
            let o = sum_off m n (above_zero f ua + below_zero f u) (above_zero f u + below_zero f ua) (mag f p) high low (units_apart f ub ua)
            (2 ^ k) (omega arith) (omega (arith, s.sum, shrinks.plus-le)) off in
            (o.1, o.0)
      ] in
      record { is_finite = s.number.is_finite; is_fraction = (between_le c va vb w).1; above-by = omega arith; below_by = omega arith }
