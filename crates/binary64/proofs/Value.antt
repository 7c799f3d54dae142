-- A finite number of a format, in whole numbers (specs/Scaled.antt): which whole numbers the format holds, a number's two parts, and its
-- order as theirs.
-- A unit is the format's smallest value, 1 / 2 ^ low. Assumes nothing.
use mathlib.Core.Path.{◌≡◌, refl, sym, ap, ap₂, ◌∙◌}
use mathlib.Core.Bool.{Bool, true, false, not, ◌&&◌}
use Prim.Native.Nat.{ℕ, zero, suc, ◌+◌, ◌-◌, ◌*◌, ◌/◌, ◌%◌, ◌^◌, ◌≤◌, ◌<◌}
use native.Mathlib.Nat.{le_of_suc-le-suc, le_of_eq, lt_of_lt_of_le, lt_of_not-le, not-le_of_lt, zero-mul, mul-one, mul_assoc}
use native.Mathlib.Nat.{mul-le-mul_right, le_of_mul-le-mul_right, lt_of_mul-lt-mul_right, mul-lt-mul_of_pos_right, mul-pos, mul-div_cancel}
use native.Mathlib.Omega.{arith}
use lib.IntN.{ℤ, pos, negsuc}
use lib.Dec.{T, leb, ltb, eqb, leb→le, ltb→lt, T_not}
use lib.Pow.{pow-add, pow_pos, pow-lt}
use lib.Ieee.{Float, nan, inf, fin, Format, prec, emax, low, up, down, fits, le}
use lib.Ieee.Digits.{back}
use lib.Ieee.Exact.{HasValue}
use lib.Ieee.Fits.{down_pos, and_l, and_r}
use lib.Ieee.Positive.{num, den, den_pos}
use lib.Ieee.Scale.{overflow, finite}
use Rattle.binary64.specs.Scaled.{sign, mag, above_zero, below_zero}
use Rattle.binary64.specs.ExactCrossing.{distance}
use Rattle.binary64.proofs.Order.{above, under, plus_num, minus_num, le-is_fractions}

-- x ≤ y and x < y, of the whole numbers
abbrev pub Le : Format → Float → Float → Type 0
Le f x y = above_zero f x + below_zero f y ≤ above_zero f y + below_zero f x

abbrev pub Lt : Format → Float → Float → Type 0
Lt f x y = above_zero f x + below_zero f y < above_zero f y + below_zero f x

-- a finite number of the format
pub record Number (f : Format) (x : Float) : Type 0 where
  pub is_finite : T (finite x)
  pub in_format : T (fits f x)

-- ... whose part above zero is p units, and whose part below zero is n
pub record Parts (f : Format) (x : Float) (p n : ℕ) : Type 0 where
  pub number : Number f x
  pub plus-is : above_zero f x ≡ p
  pub minus_is : below_zero f x ≡ n

-- the format holds w units: they have at most prec digits, then zeros, and do not overflow
pub record InFormat (f : Format) (w : ℕ) : Type 0 where
  pub digits : ℕ
  pub zeros : ℕ
  pub is : w ≡ digits * 2 ^ zeros
  pub few : digits < 2 ^ prec f
  pub small : w < overflow f

-- ---- a number of the format is a whole number of units that the format holds
abbrev Whole : Format → ℕ → ℤ → Type 0
Whole f m e = (w : ℕ) × (m * up e * 2 ^ low f ≡ w * down e) × InFormat f w

exponent_le : (k l : ℕ) → 2 ^ k ≤ 2 ^ l → k ≤ l
exponent_le k l h = le_of_suc-le-suc (lt_of_not-le (λ (g : suc l ≤ k). not-le_of_lt (pow-lt g) h))

under_overflow : (f : Format) (a w d : ℕ) → a * 2 ^ low f ≡ w * d → a < 2 ^ suc (emax f) * d → w < overflow f
under_overflow f a w d e h =
    let g : a * 2 ^ low f < 2 ^ suc (emax f) * d * 2 ^ low f = mul-lt-mul_of_pos_right h (pow_pos (low f)) in
    lt_of_lt_of_le (lt_of_mul-lt-mul_right d (omega arith)) (le_of_eq (sym (pow-add 2 (low f) (suc (emax f)))))

whole-at : (f : Format) (m : ℕ) (e : ℤ) → m < 2 ^ prec f → down e ≤ 2 ^ low f → m * up e < 2 ^ suc (emax f) * down e → Whole f m e
whole-at f m (pos k) few fine small =
    let q : m * 2 ^ k * 2 ^ low f ≡ m * 2 ^ (k + low f) * 1 = simp (mul_assoc, mul-one, pow-add) in (
      m * 2 ^ (k + low f),
      q,
      record {
        digits = m;
        zeros = k + low f;
        is = refl;
        few = few;
        small = under_overflow f (m * 2 ^ k)
            (m * 2 ^ (k + low f)) 1 q small;
      },
    )
whole-at f m (negsuc k) few fine small =
    let j = low f - suc k in
    let q : m * 1 * 2 ^ low f ≡ m * 2 ^ j * 2 ^ suc k =
    ap (λ (x : ℕ). x * 2 ^ low f) (mul-one m) ∙ ap (λ (x : ℕ). m * x)
    (ap (λ (x : ℕ). 2 ^ x) (sym (back (low f) (suc k) (exponent_le (suc k) (low f) fine))) ∙ pow-add 2 j (suc k))
    ∙ sym (mul_assoc m (2 ^ j) (2 ^ suc k)) in
    (m * 2 ^ j, q, record { digits = m; zeros = j; is = refl; few = few; small = under_overflow f (m * 1) (m * 2 ^ j) (2 ^ suc k) q small })

pub in_format_zero : (f : Format) → InFormat f 0
in_format_zero f = record { digits = 0; zeros = 0; is = refl; few = pow_pos (prec f); small = pow_pos (low f + suc (emax f)) }

whole : (f : Format) (s : Bool) (m : ℕ) (e : ℤ) → T (fits f (fin s m e)) → Whole f m e
unfolding fits
whole f s zero e t = (0, ap (λ (x : ℕ). x * 2 ^ low f) (zero-mul (up e)) ∙ zero-mul (2 ^ low f) ∙ sym (zero-mul (down e)), in_format_zero f)
whole f s (suc m) e t =
    let a : Bool = eqb (suc m % 2) 1 in
    let b : Bool = ltb (suc m) (2 ^ prec f) in
    let c : Bool = leb (down e) (2 ^ low f) in
    let d : Bool = ltb (suc m * up e) (2 ^ suc (emax f) * down e) in
    let abc : T (a && b && c) = and_l (a && b && c) d t in
    whole-at f (suc m) e (ltb→lt (suc m) (2 ^ prec f) (and_r a b (and_l (a && b) c abc)))
    (leb→le (down e) (2 ^ low f) (and_r (a && b) c abc))
    (ltb→lt (suc m * up e) (2 ^ suc (emax f) * down e) (and_r (a && b && c) d t))

mag_is : (f : Format) (s : Bool) (m : ℕ) (e : ℤ) (w : ℕ) → m * up e * 2 ^ low f ≡ w * down e → mag f (fin s m e) ≡ w
mag_is f s m e w h = ap (λ (x : ℕ). x / down e) h ∙ mul-div_cancel w (down_pos e)

-- so a number's size is whole, and whole-in
pub mag-whole : {f : Format} {x : Float} → Number f x → (num x * 2 ^ low f ≡ mag f x * den x) × InFormat f (mag f x)
mag-whole {x = nan} h = absurd h.is_finite
mag-whole {x = inf s} h = absurd h.is_finite
mag-whole {f} {x = fin s m e} h =
    let w = whole f s m e h.in_format in
    let is : mag f (fin s m e) ≡ w.0 = mag_is f s m e w.0 w.1 in
    (rw is w.1, rw is w.2)

-- ---- the two parts
-- one of them is the size, and the other is 0
pub above_under : (s : Bool) (a : ℕ) → (above s a + under s a ≡ a) × (distance (above s a) (under s a) ≡ a)
above_under true a = omega arith
above_under false a = omega arith

pub mag-parts : (f : Format) (x : Float) → (above_zero f x + below_zero f x ≡ mag f x) × (distance (above_zero f x) (below_zero f x) ≡ mag f x)
unfolding above_zero below_zero
mag-parts f x = above_under (sign x) (mag f x)

pub parts-of-value : (f : Format) (x : Float) (s : Bool) (a : ℕ) → HasValue x s a (2 ^ low f) → T (fits f x)
    → Parts f x (above s a) (under s a)
unfolding above_zero below_zero
parts-of-value f nan s a h k = absurd h
parts-of-value f (inf t) s a h k = absurd h
parts-of-value f (fin t m e) s a h k =
    let is : mag f (fin t m e) ≡ a = mag_is f t m e a h.1 in
    record { number = record { is_finite = tt; in_format = k }; plus-is = ap₂ above h.0 is; minus_is = ap₂ under h.0 is }

-- ---- the order of two numbers is that of the whole numbers
parts_whole : {f : Format} {x : Float} → Number f x → (plus_num x * 2 ^ low f ≡ above_zero f x * den x)
    × (minus_num x * 2 ^ low f ≡ below_zero f x * den x)
unfolding above_zero below_zero
parts_whole {f} {x} h = go (sign x) (num x) (mag f x) (den x) (mag-whole h).0
  where
    go : (s : Bool) (n a d : ℕ) → n * 2 ^ low f ≡ a * d → (above s n * 2 ^ low f ≡ above s a * d) × (under s n * 2 ^ low f ≡ under s a * d)
    go true n a d e = (omega arith, e)
    go false n a d e = (e, omega arith)

-- x - y, over the product of the denominators and in units
scaled : {f : Format} {x y : Float} → Number f x → Number f y → (plus_num x * den y + minus_num y * den x) * 2 ^ low f
    ≡ (above_zero f x + below_zero f y) * (den x * den y)
scaled {f} {x} {y} hx hy =
    let p : plus_num x * 2 ^ low f * den y ≡ above_zero f x * den x * den y = ap (λ (z : ℕ). z * den y) (parts_whole hx).0 in
    let n : minus_num y * 2 ^ low f * den x ≡ below_zero f y * den y * den x = ap (λ (z : ℕ). z * den x) (parts_whole hy).1 in
    omega arith

pub Le-of-le : {f : Format} {x y : Float} → Number f x → Number f y → T (le x y) → Le f x y
Le-of-le {f} {x} {y} hx hy h =
    let g = mul-le-mul_right (2 ^ low f) ((le-is_fractions x y hx.is_finite hy.is_finite).0 h) in
    let a = scaled hx hy in
    let b = scaled hy hx in
    le_of_mul-le-mul_right {k = den x * den y} (omega arith) (mul-pos (den_pos x) (den_pos y))

le-of_Le : {f : Format} {x y : Float} → Number f x → Number f y → Le f x y → T (le x y)
le-of_Le {f} {x} {y} hx hy h =
    let g : (above_zero f x + below_zero f y) * (den x * den y) ≤ (above_zero f y + below_zero f x) * (den x * den y) =
    mul-le-mul_right (den x * den y) h in
    let a = scaled hx hy in
    let b = scaled hy hx in
    (le-is_fractions x y hx.is_finite hy.is_finite).1 (le_of_mul-le-mul_right {k = 2 ^ low f} (omega arith) (pow_pos (low f)))

pub Lt-of-not-le : {f : Format} {x y : Float} → Number f x → Number f y → T (not (le x y)) → Lt f y x
Lt-of-not-le {f} {x} {y} hx hy t = lt_of_not-le (λ (g : Le f x y). T_not (le x y) t (le-of_Le hx hy g))
