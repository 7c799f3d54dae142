-- The order of doubles, with NaN and infinities: a number below one that is not above a third is below the third; what a comparison says of
-- NaN;
-- a NaN goes through differences and products. Assumes nothing.
use mathlib.Core.Path.{◌≡◌, refl, sym, ◌∙◌}
use mathlib.Core.Bool.{Bool, true, false, ◌||◌, cond, true≢false, false≢true}
use Prim.Native.Nat.{ℕ, zero, suc, ◌+◌, ◌*◌, ◌≤◌, ◌<◌}
use native.Mathlib.Nat.{mul_right_comm, mul-le-mul_right, mul-lt-mul_of_pos_right, zero-mul, suc-mul}
use native.Mathlib.Decide.{dec_lt}
use native.Mathlib.Omega.{arith}
use lib.Dec.{ltb}
use lib.Ieee.{Float, nan, inf, fin, binary64, lt, sub, add, neg, mul, up, down, below, is_nan}
use lib.Ieee.Fits.{down_pos}
use borrow.Author.Tests.{ltb-true, ltb-false, lt-ltb, le-ltb}
use Rattle.binary64.specs.Compare.{minimum, maximum}
use Rattle.binary64.proofs.KeyOrder.{lt_irreflexive}

-- ---- finite numbers: `below` on magnitudes brought to one denominator

ltb_scale : (a b c : ℕ) → 0 < c → ltb (a * c) (b * c) ≡ ltb a b
ltb_scale a b c p =
    elim (dec_lt a b) [
      | yes l ↦ lt-ltb (a * c) (b * c) (mul-lt-mul_of_pos_right l p) ∙ sym (lt-ltb a b l)
      | no n ↦ let h : b ≤ a = omega arith in le-ltb (a * c) (b * c) (mul-le-mul_right c h) ∙ sym (le-ltb a b h)
    ]

sum_scale : (a b c : ℕ) → 0 < c → ltb 0 (a * c + b * c) ≡ ltb 0 (a + b)
sum_scale zero zero c p = simp zero-mul
sum_scale (suc a) b c p =
    let h : suc a * c ≡ a * c + c = suc-mul a c in
    lt-ltb 0 (suc a * c + b * c) (omega arith) ∙ sym (lt-ltb 0 (suc a + b) (omega arith))
sum_scale zero (suc b) c p =
    let h : suc b * c ≡ b * c + c = suc-mul b c in
    lt-ltb 0 (zero * c + suc b * c) (omega arith) ∙ sym (lt-ltb 0 (zero + suc b) (omega arith))

below_scale : (s : Bool) (a : ℕ) (t : Bool) (b c : ℕ) → 0 < c → below s (a * c) t (b * c) ≡ below s a t b
below_scale false a false b c p = ltb_scale a b c p
below_scale false a true b c p = refl
below_scale true a false b c p = sum_scale a b c p
below_scale true a true b c p = ltb_scale b a c p

below_trans : (s : Bool) (x : ℕ) (t : Bool) (y : ℕ) (u : Bool) (z : ℕ) → below s x t y ≡ true → below u z t y ≡ false → below s x u z ≡ true
below_trans false x false y false z p q = lt-ltb x z (omega (arith, ltb-true x y p, ltb-false z y q))
below_trans false x false y true z p q = absurd (omega (arith, ltb-true x y p, ltb-false 0 (z + y) q))
below_trans false x true y u z p q = absurd (false≢true p)
below_trans true x false y false z p q = lt-ltb 0 (x + z) (omega (arith, ltb-true 0 (x + y) p, ltb-false z y q))
below_trans true x false y true z p q = lt-ltb z x (omega (arith, ltb-true 0 (x + y) p, ltb-false 0 (z + y) q))
below_trans true x true y false z p q = lt-ltb 0 (x + z) (omega (arith, ltb-true y x p))
below_trans true x true y true z p q = lt-ltb z x (omega (arith, ltb-true y x p, ltb-false y z q))

fin_trans : (s : Bool) (x de : ℕ) (t : Bool) (y dd : ℕ) (u : Bool) (z df : ℕ) → 0 < de → 0 < dd → 0 < df
    → below s (x * dd) t (y * de) ≡ true → below u (z * dd) t (y * df) ≡ false → below s (x * df) u (z * de) ≡ true
fin_trans s x de t y dd u z df pe pd pf p q =
    let p' : below s (x * dd * df) t (y * de * df) ≡ true = below_scale s (x * dd) t (y * de) df pf ∙ p in
    let q₀ : below u (z * dd * de) t (y * df * de) ≡ false = below_scale u (z * dd) t (y * df) de pe ∙ q in
    let q' : below u (z * de * dd) t (y * de * df) ≡ false = rw (mul_right_comm z de dd, mul_right_comm y de df) q₀ in
    let r : below s (x * dd * df) u (z * de * dd) ≡ true = below_trans s (x * dd * df) t (y * de * df) u (z * de * dd) p' q' in
    sym (below_scale s (x * df) u (z * de) dd pd) ∙ rw (mul_right_comm x df dd) r

-- ---- the order

-- a number below one that is not above a third is below the third
pub lt-not-above : (a b c : Float) → is_nan c ≡ false → lt a b ≡ true → lt c b ≡ false → lt a c ≡ true
unfolding lt is_nan
lt-not-above a b nan n p q = absurd (true≢false n)
lt-not-above nan b (inf u) n p q = absurd (false≢true p)
lt-not-above nan b (fin u o f) n p q = absurd (false≢true p)
lt-not-above (inf s) nan (inf u) n p q = absurd (false≢true p)
lt-not-above (inf s) nan (fin u o f) n p q = absurd (false≢true p)
lt-not-above (inf true) (inf true) (inf u) n p q = absurd (false≢true p)
lt-not-above (inf true) (inf false) (inf true) n p q = absurd (true≢false q)
lt-not-above (inf true) (inf false) (inf false) n p q = refl
lt-not-above (inf false) (inf t) (inf u) n p q = absurd (false≢true p)
lt-not-above (inf true) (inf t) (fin u o f) n p q = refl
lt-not-above (inf false) (inf t) (fin u o f) n p q = absurd (false≢true p)
lt-not-above (inf true) (fin t m e) (inf true) n p q = absurd (true≢false q)
lt-not-above (inf true) (fin t m e) (inf false) n p q = refl
lt-not-above (inf false) (fin t m e) (inf u) n p q = absurd (false≢true p)
lt-not-above (inf true) (fin t m e) (fin u o f) n p q = refl
lt-not-above (inf false) (fin t m e) (fin u o f) n p q = absurd (false≢true p)
lt-not-above (fin s m e) nan (inf u) n p q = absurd (false≢true p)
lt-not-above (fin s m e) nan (fin u o f) n p q = absurd (false≢true p)
lt-not-above (fin s m e) (inf true) (inf u) n p q = absurd (false≢true p)
lt-not-above (fin s m e) (inf false) (inf true) n p q = absurd (true≢false q)
lt-not-above (fin s m e) (inf false) (inf false) n p q = refl
lt-not-above (fin s m e) (inf true) (fin u o f) n p q = absurd (false≢true p)
lt-not-above (fin s m e) (inf false) (fin u o f) n p q = absurd (true≢false q)
lt-not-above (fin s m e) (fin t k d) (inf true) n p q = absurd (true≢false q)
lt-not-above (fin s m e) (fin t k d) (inf false) n p q = refl
lt-not-above (fin s m e) (fin t k d) (fin u o f) n p q =
    fin_trans s (m * up e) (down e) t (k * up d) (down d) u (o * up f) (down f) (down_pos e) (down_pos d) (down_pos f) p q

-- what a comparison that holds says of NaN
pub lt-left : (a b : Float) → lt a b ≡ true → is_nan a ≡ false
unfolding lt is_nan
lt-left nan b p = absurd (false≢true p)
lt-left (inf s) b p = refl
lt-left (fin s m e) b p = refl

pub lt-right : (a b : Float) → lt a b ≡ true → is_nan b ≡ false
unfolding lt is_nan
lt-right nan nan p = absurd (false≢true p)
lt-right (inf s) nan p = absurd (false≢true p)
lt-right (fin s m e) nan p = absurd (false≢true p)
lt-right a (inf s) p = refl
lt-right a (fin s m e) p = refl

below_asym : (s : Bool) (a : ℕ) (t : Bool) (b : ℕ) → below s a t b ≡ true → below t b s a ≡ false
below_asym false a false b p = le-ltb b a (omega (arith, ltb-true a b p))
below_asym false a true b p = absurd (false≢true p)
below_asym true a false b p = refl
below_asym true a true b p = le-ltb a b (omega (arith, ltb-true b a p))

-- no two numbers are each below the other
pub lt_asym : (a b : Float) → lt a b ≡ true → lt b a ≡ false
unfolding lt
lt_asym nan b p = absurd (false≢true p)
lt_asym (inf s) nan p = absurd (false≢true p)
lt_asym (inf true) (inf true) p = absurd (false≢true p)
lt_asym (inf true) (inf false) p = refl
lt_asym (inf false) (inf t) p = absurd (false≢true p)
lt_asym (inf true) (fin t n d) p = refl
lt_asym (inf false) (fin t n d) p = absurd (false≢true p)
lt_asym (fin s m e) nan p = absurd (false≢true p)
lt_asym (fin s m e) (inf true) p = absurd (false≢true p)
lt_asym (fin s m e) (inf false) p = refl
lt_asym (fin s m e) (fin t n d) p = below_asym s (m * up e * down d) t (n * up d * down e) p

-- ---- NaN

-- a difference and a product that are no NaN have operands that are none
pub sub_nan : (a : Float) → sub binary64 a nan ≡ nan
unfolding sub add neg
sub_nan nan = refl
sub_nan (inf s) = refl
sub_nan (fin s m e) = refl

nan_sub : (b : Float) → sub binary64 nan b ≡ nan
unfolding sub add neg
nan_sub b = refl

mul_nan : (a : Float) → mul binary64 a nan ≡ nan
unfolding mul
mul_nan nan = refl
mul_nan (inf s) = refl
mul_nan (fin s m e) = refl

nan_mul : (b : Float) → mul binary64 nan b ≡ nan
unfolding mul
nan_mul b = refl

-- of an operation that gives NaN at NaN
number-from : (f : Float → Float) → f nan ≡ nan → (a : Float) → is_nan (f a) ≡ false → is_nan a ≡ false
unfolding is_nan
number-from f e nan h = absurd (true≢false (rw e at h))
number-from f e (inf s) h = refl
number-from f e (fin s m d) h = refl

pub sub-numbers : (a b : Float) → is_nan (sub binary64 a b) ≡ false → (is_nan a ≡ false) × (is_nan b ≡ false)
sub-numbers a b h = (number-from (λ z. sub binary64 z b) (nan_sub b) a h, number-from (λ z. sub binary64 a z) (sub_nan a) b h)

pub mul-numbers : (a b : Float) → is_nan (mul binary64 a b) ≡ false → (is_nan a ≡ false) × (is_nan b ≡ false)
mul-numbers a b h = (number-from (λ z. mul binary64 z b) (nan_mul b) a h, number-from (λ z. mul binary64 a z) (mul_nan a) b h)

-- ---- the lower and the higher of two numbers

-- the lower and the higher of a and b are two of them in order, or both the same one
pub data Ends (a b : Float) : Float → Float → Type 0 where
  rising : lt a b ≡ true → Ends a b a b
  falling : lt b a ≡ true → Ends a b b a
  first : Ends a b a a
  second : Ends a b b b

pub ends : (a b : Float) → Ends a b (minimum a b) (maximum a b)
unfolding minimum maximum
ends a b = go (lt b a) refl (lt a b) refl (is_nan a) refl
  where
    go : (p : Bool) → lt b a ≡ p → (q : Bool) → lt a b ≡ q → (n : Bool) → is_nan a ≡ n →
        Ends a b (cond (lt b a || is_nan a) b a) (cond (lt a b || is_nan a) b a)
    go true e q f n g = rw (e, lt_asym b a e, lt-right b a e) (falling e)
    go false e true f n g = rw (e, f, lt-left a b f) (rising f)
    go false e false f true g = rw (e, f, g) second
    go false e false f false g = rw (e, f, g) first

-- the higher is not below the lower
pub ends-order : {a b l h : Float} → Ends a b l h → lt h l ≡ false
ends-order {a} {b} (rising p) = lt_asym a b p
ends-order {a} {b} (falling p) = lt_asym b a p
ends-order {a} {b} first = lt_irreflexive a
ends-order {a} {b} second = lt_irreflexive b

-- what holds of both holds of the lower
pub ends_low : {a b l h : Float} (P : Float → Type 0) → Ends a b l h → P a → P b → P l
ends_low P (rising p) x y = x
ends_low P (falling p) x y = y
ends_low P first x y = x
ends_low P second x y = y

pub ends_high : {a b l h : Float} (P : Float → Type 0) → Ends a b l h → P a → P b → P h
ends_high P (rising p) x y = y
ends_high P (falling p) x y = x
ends_high P first x y = x
ends_high P second x y = y
