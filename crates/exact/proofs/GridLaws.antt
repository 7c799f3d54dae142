-- A number from 0 to 256, taken times 2^48, is exact; the steps read from it are the number's, and read back they are the same where it is
-- on the grid, and only there. Assumes nothing.
use Rattle.std.proofs.Common.{◌≡◌, ℕ, zero, suc, ◌+◌, ◌-◌, ◌*◌, ◌/◌, ◌%◌, ◌^◌, ◌<◌, ◌≤◌, min, Bool, true, false, cond, ◌&&◌, ◌||◌, T, eqb, ltb, leb, ℤ, pos, negsuc, sym, refl, ap, ◌∙◌, subst, ap₂, true≢false, le_trans, le_of_eq, lt_of_le_of_lt, mul-le-mul_right, zero-lt-suc, lt_of_mul-lt-mul_right, mul-lt-mul_of_pos_right, mul-pos, div-add-mod', mul-one, le_of_mul-le-mul_right, arith, lit<, lit≤, eqb→eq, ltb→lt, lt→ltb, pow_pos, pow-add, ltb-false, ltb-true, le-ltb, lt-ltb, eq-eqb, ne_eqb, eqb-true, le-leb, leb-true}
use mathlib.Mathlib.Data.Bool.Basic.{eq-false_of_not-eq-true}
use mathlib.Core.Bool.{beq, and-true, and-false}
use native.Mathlib.Nat.{eq_of_mul-eq-mul_right, mul-mod_left, zero-div, zero-mod}
use native.Mathlib.Decide.{ℕ_discrete, dec_lt}
use lib.Pow.{pow-lt}
use lib.Ieee.{Float, nan, inf, fin, Format, binary32, binary64, prec, emax, low, up, down, fits, round, neg, mul, eq, lt, le, to_unsigned}
use lib.Ieee.{of_int}
use lib.Ieee.Exact.{HasValue, round_exact}
use lib.Ieee.Nearest.{div_same}
use lib.Ieee.Back.{round_whole, whole_unique}
use lib.Ieee.Fits.{down_pos, and_l, and_r, round-fits}
use lib.Ieee.Scale.{finite}
use borrow.Author.Tests.{lt-leb}
use Rattle.binary64.proofs.Value.{mag-whole}
use Rattle.binary64.proofs.Booleans.{both, never_both}
use Rattle.binary64.specs.Scaled.{mag, sign, above_zero, below_zero}
use Rattle.std.specs.Prelude.{Some, None}
use Rattle.std.proofs.lemmas.Option.{cond_some, none-some}
use Rattle.exact.specs.Grid.{on_grid, grid_steps, from_lowest}
use Rattle.exact.specs.Internal.{steps_of, grid_number_of}

-- ---- taken times 2^48

far : (f : Format) → 57 ≤ suc (emax f)
far binary32 = lit< tt
far binary64 = lit< tt

-- at most 2^8 in size
small-mag : (f : Format) (s : Bool) (m : ℕ) (e : ℤ) → T (fits f (fin s m e)) → m * up e ≤ 2 ^ 8 * down e
    → mag f (fin s m e) ≤ 2 ^ 8 * 2 ^ low f
small-mag f s m e t h =
    let w = mag-whole {f = f} {x = fin s m e} (record { is_finite = tt; in_format = t }) in
    let g : m * up e * 2 ^ low f ≤ 2 ^ 8 * down e * 2 ^ low f = mul-le-mul_right (2 ^ low f) h in
    le_of_mul-le-mul_right {k = down e} (omega (arith, w.0, g)) (down_pos e)

pub scaled : (f : Format) (s : Bool) (m : ℕ) (e : ℤ) → T (fits f (fin s m e)) → m * up e ≤ 2 ^ 8 * down e
    → HasValue (round f s (m * up e * 2 ^ 48) (down e)) s (m * up e * 2 ^ 48) (down e)
scaled f s m e t h =
    let w = mag-whole {f = f} {x = fin s m e} (record { is_finite = tt; in_format = t }) in
    let k = w.1 in
    let p : 2 ^ (k.zeros + 48) ≡ 2 ^ k.zeros * 2 ^ 48 = pow-add 2 k.zeros 48 in
    let q : k.digits * 2 ^ (k.zeros + 48) ≡ mag f (fin s m e) * 2 ^ 48 = ap (λ (x : ℕ). k.digits * x) p ∙ (omega arith)
    ∙ ap (λ (x : ℕ). x * 2 ^ 48) (sym k.is) in
    let b : k.digits * 2 ^ (k.zeros + 48) ≤ 2 ^ (low f + 56) = le_trans (le_of_eq q)
    (le_trans (mul-le-mul_right (2 ^ 48) (small-mag f s m e t h)) (le_of_eq (omega (arith, pow-add 2 (low f) 56)))) in
    let r : m * up e * 2 ^ 48 * 2 ^ low f ≡ k.digits * 2 ^ (k.zeros + 48) * down e = omega
    (arith, ap (λ (x : ℕ). x * 2 ^ 48) w.0, ap (λ (x : ℕ). x * down e) q) in
    round_exact f s (m * up e * 2 ^ 48) (down e) k.digits (k.zeros + 48) (down_pos e) k.few
    (lt_of_le_of_lt b (pow-lt (omega (arith, far f)))) r

-- ---- the steps read from it

pub read-steps : (y : Float) (A D : ℕ) → 0 < D → A / D < 2 ^ 64 → HasValue y false A D → to_unsigned 64 y ≡ A / D
unfolding to_unsigned
read-steps nan A D p l v = absurd v
read-steps (inf s) A D p l v = absurd v
read-steps (fin s m e) A D p l v =
    let q : m * up e / down e ≡ A / D = div_same (m * up e) (down e) A D (down_pos e) p v.1 in
    rw (v.0, q) (least (A / D) l)
  where
    least : (n : ℕ) → n < 2 ^ 64 → min n (2 ^ 64 - 1) ≡ n
    least n h = omega arith

-- ---- read back

self : (x : Float) → T (finite x) → eq x x ≡ true
unfolding eq
self nan p = absurd p
self (inf s) p = absurd p
self (fin true m e) p = rw (eq-eqb (m * up e * down e) (m * up e * down e) refl)
self (fin false m e) p = rw (eq-eqb (m * up e * down e) (m * up e * down e) refl)

valued : (y : Float) (s : Bool) (A D : ℕ) → HasValue y s A D → T (finite y)
valued nan s A D v = absurd v
valued (inf t) s A D v = absurd v
valued (fin t m e) s A D v = tt

-- y is a whole number of steps
whole-value : (y : Float) (A D : ℕ) → 0 < D → A % D ≡ 0 → HasValue y false A D → HasValue y false (A / D) 1
whole-value nan A D p z v = absurd v
whole-value (inf t) A D p z v = absurd v
whole-value (fin t m e) A D p z v =
    let is : A / D * D ≡ A = omega (arith, div-add-mod' A D, z) in
    (v.0, eq_of_mul-eq-mul_right D p (m * up e * 1) (A / D * down e) (omega (arith, v.1, ap (λ (x : ℕ). x * down e) is)))

-- a whole number that the format holds is its own rounding
round_held : (f : Format) (y : Float) (N : ℕ) → T (fits f y) → HasValue y false N 1 → HasValue (round f false N 1) false N 1
round_held f nan N t v = absurd v
round_held f (inf u) N t v = absurd v
round_held f (fin u m e) N t v =
    let w = mag-whole {f = f} {x = fin u m e} (record { is_finite = tt; in_format = t }) in
    let k = w.1 in
    let is : N * 2 ^ low f ≡ mag f (fin u m e) = eq_of_mul-eq-mul_right (down e) (down_pos e) (N * 2 ^ low f) (mag f (fin u m e))
    (omega (arith, w.0, ap (λ (x : ℕ). x * 2 ^ low f) v.1)) in
    round_exact f false N 1 k.digits k.zeros (zero-lt-suc 0) k.few (rw (← k.is) k.small)
    (is ∙ k.is ∙ sym (mul-one (k.digits * 2 ^ k.zeros)))

pub back_whole : (f : Format) (y : Float) (A D : ℕ) → 0 < D → T (fits f y) → HasValue y false A D → A % D ≡ 0
    → eq (round f false (A / D) 1) y ≡ true
back_whole f y A D p t v z =
    let w = whole-value y A D p z v in
    rw (whole_unique f (round f false (A / D) 1) y false (A / D) (round-fits f false (A / D) 1) t (round_held f y (A / D) t w) w)
    (self y (valued y false A D v))

-- equal numbers have equal values
eq_values : (x y : Float) (N A D : ℕ) → HasValue x false N 1 → HasValue y false A D → eq x y ≡ true → N * D ≡ A
unfolding eq
eq_values nan y N A D v w h = absurd v
eq_values (inf s) y N A D v w h = absurd v
eq_values (fin s m e) nan N A D v w h = absurd w
eq_values (fin s m e) (inf t) N A D v w h = absurd w
eq_values (fin s m e) (fin t n d) N A D v w h =
    let q : m * up e * down d ≡ n * up d * down e = eqb→eq (m * up e * down d) (n * up d * down e)
    (and_l (eqb (m * up e * down d) (n * up d * down e)) (beq s t || eqb (m * up e * down d) 0) (subst T (sym h) tt)) in
    eq_of_mul-eq-mul_right (down e * down d) (mul-pos (down_pos e) (down_pos d)) (N * D) A
    (omega (arith, ap (λ (x : ℕ). x * (D * down d)) v.1, ap (λ (x : ℕ). x * D) q, ap (λ (x : ℕ). x * down e) w.1))

-- from 2 ^ prec on every number of the format is whole
whole_beyond : (f : Format) (y : Float) (A D : ℕ) → 0 < D → T (fits f y) → HasValue y false A D → 2 ^ prec f ≤ A / D → A % D ≡ 0
unfolding fits
whole_beyond f nan A D p t v h = absurd v
whole_beyond f (inf s) A D p t v h = absurd v
whole_beyond f (fin s m (pos k)) A D p t v h = ap (λ (x : ℕ). x % D) (let q : A ≡ m * 2 ^ k * D = omega (arith, v.1) in q)
    ∙ mul-mod_left (m * 2 ^ k) D
whole_beyond f (fin s zero (negsuc k)) A D p t v h =
    let q : A * 2 ^ suc k ≡ 0 * 2 ^ suc k = omega (arith, v.1) in
    let a : A ≡ 0 * D = eq_of_mul-eq-mul_right (2 ^ suc k) (pow_pos (suc k)) A 0 q ∙ omega arith in
    ap (λ (x : ℕ). x % D) a ∙ mul-mod_left 0 D
whole_beyond f (fin s (suc m) (negsuc k)) A D p t v h =
    let few : suc m < 2 ^ prec f = ltb→lt (suc m) (2 ^ prec f)
    (and_r (eqb (suc m % 2) 1) (ltb (suc m) (2 ^ prec f))
    (and_l (eqb (suc m % 2) 1 && ltb (suc m) (2 ^ prec f)) (leb (2 ^ suc k) (2 ^ low f))
    (and_l (eqb (suc m % 2) 1 && ltb (suc m) (2 ^ prec f) && leb (2 ^ suc k) (2 ^ low f))
    (ltb (suc m * 1) (2 ^ suc (emax f) * 2 ^ suc k)) t))) in
    let a : A / D * D ≤ A = omega (arith, div-add-mod' A D) in
    let b : suc m * D ≡ A * 2 ^ suc k = omega (arith, v.1) in
    let c : 2 ^ prec f * D ≤ A / D * D = mul-le-mul_right D h in
    let d : suc m * D < 2 ^ prec f * D = mul-lt-mul_of_pos_right few p in
    let g : A * 1 ≤ A * 2 ^ suc k = let o : 1 ≤ 2 ^ suc k = pow_pos (suc k) in omega (arith, mul-le-mul_right A o) in
    absurd (omega arith)

pub back_part : (f : Format) (y : Float) (A D : ℕ) → 0 < D → T (fits f y) → HasValue y false A D → (A % D ≡ 0 → ⊥)
    → eq (round f false (A / D) 1) y ≡ true → ⊥
back_part f y A D p t v z h =
    elim (dec_lt (A / D) (2 ^ prec f)) [
      | yes l ↦ z (ap (λ (x : ℕ). x % D) (sym (eq_values (round f false (A / D) 1) y (A / D) A D
          (round_whole f false (A / D) (omega arith)) v h)) ∙ mul-mod_left (A / D) D)
      | no n ↦ z (whole_beyond f y A D p t v (omega arith))
    ]

-- ---- a number above 0 and up to 256

-- at most 256
le_256 : (m : ℕ) (e : ℤ) → le (fin false m e) (fin false 1 (pos 8)) ≡ leb (m * up e) (256 * down e)
unfolding le lt eq
le_256 m e =
    ap₂ (λ (a b : ℕ). ltb a b || (eqb a b && true)) (let q : m * up e * 1 ≡ m * up e = omega arith in q)
    (let q : 1 * 2 ^ 8 * down e ≡ 256 * down e = omega arith in q)
    ∙ at_most (m * up e) (256 * down e)
  where
    at_most : (a b : ℕ) → ltb a b || (eqb a b && true) ≡ leb a b
    at_most a b = elim (dec_lt a b) [
      | yes l ↦ rw (lt-ltb a b l, le-leb a b (omega arith))
      | no n ↦ elim (ℕ_discrete a b) [
        | yes e ↦ rw (le-ltb a b (omega arith), eq-eqb a b e, le-leb a b (omega arith))
        | no m ↦ rw (le-ltb a b (omega arith), ne_eqb a b m, lt-leb a b (omega arith))
      ]
    ]

data Within : Float → Type 0 where
  within : (m : ℕ) (e : ℤ) → m * up e ≤ 256 * down e → Within (fin false m e)

within_256 : (x : Float) → T (lt (fin false 0 (pos 0)) x) → le x (fin false 1 (pos 8)) ≡ true → Within x
unfolding lt le eq
within_256 nan p h = absurd p
within_256 (inf true) p h = absurd p
within_256 (inf false) p h = absurd (subst T (sym h) tt)
within_256 (fin true m e) p h = absurd p
within_256 (fin false m e) p h = within m e (leb-true (m * up e) (256 * down e) (sym (le_256 m e) ∙ h))

pub beyond_256 : (x : Float) → T (lt (fin false 0 (pos 0)) x) → le x (fin false 1 (pos 8)) ≡ false → None ≡ steps_of x
unfolding lt on_grid steps_of
beyond_256 nan p h = absurd p
beyond_256 (inf s) p h = refl
beyond_256 (fin true m e) p h = absurd p
beyond_256 (fin false m e) p h = rw (← le_256 m e, h, and-false)

-- taken times 2^48
abbrev times : Float → Float
times x = mul binary64 x (fin false 1 (pos 48))

times_is : (m : ℕ) (e : ℤ) → times (fin false m e) ≡ round binary64 false (m * up e * 2 ^ 48) (down e)
unfolding mul
times_is m e = rw (mul-one (down e))

module _ (m : ℕ) (e : ℤ) (t : T (fits binary64 (fin false m e))) (h : m * up e ≤ 256 * down e) where
  few-steps : m * up e * 2 ^ 48 ≤ 2 ^ 56 * down e
  few-steps = omega (arith, h)

  value_of : HasValue (times (fin false m e)) false (m * up e * 2 ^ 48) (down e)
  value_of = rw (times_is m e) (scaled binary64 false m e t h)

  fits_times : T (fits binary64 (times (fin false m e)))
  fits_times = rw (times_is m e) (round-fits binary64 false (m * up e * 2 ^ 48) (down e))

  read_is : to_unsigned 64 (times (fin false m e)) ≡ m * up e * 2 ^ 48 / down e
  read_is =
      let a = div-add-mod' (m * up e * 2 ^ 48) (down e) in
      let l : m * up e * 2 ^ 48 / down e < 2 ^ 64 = lt_of_le_of_lt
      (le_of_mul-le-mul_right {m = m * up e * 2 ^ 48 / down e} {n = 2 ^ 56} {k = down e} (omega (arith, a, few-steps)) (down_pos e))
      (lit< tt) in
      read-steps (times (fin false m e)) (m * up e * 2 ^ 48) (down e) (down_pos e) l value_of

  back_is : eq (round binary64 false (m * up e * 2 ^ 48 / down e) 1) (times (fin false m e)) ≡ eqb (m * up e * 2 ^ 48 % down e) 0
  back_is = elim (ℕ_discrete (m * up e * 2 ^ 48 % down e) 0) [
    | yes z ↦ back_whole binary64 (times (fin false m e)) (m * up e * 2 ^ 48) (down e) (down_pos e) fits_times value_of z
        ∙ sym (eq-eqb (m * up e * 2 ^ 48 % down e) 0 z)
    | no n ↦ eq-false_of_not-eq-true (λ (q : eq (round binary64 false (m * up e * 2 ^ 48 / down e) 1) (times (fin false m e)) ≡ true).
        back_part binary64 (times (fin false m e)) (m * up e * 2 ^ 48) (down e) (down_pos e) fits_times value_of n q)
        ∙ sym (ne_eqb (m * up e * 2 ^ 48 % down e) 0 n)
  ]

-- a value up to 2^56 is one that can be cut to a u64
in_u64 : (y : Float) (A D : ℕ) → 0 < D → A ≤ 2 ^ 56 * D → HasValue y false A D
    → T (lt (fin true 1 (pos 0)) y) × T (lt y (fin false 1 (pos 64)))
unfolding lt
in_u64 nan A D p h v = absurd v
in_u64 (inf s) A D p h v = absurd v
in_u64 (fin true m e) A D p h v = absurd (true≢false v.0)
in_u64 (fin false m e) A D p h v = (
  lt→ltb 0 (1 * 1 * down e + m * up e * 1) (omega (arith, down_pos e)),
  lt→ltb (m * up e * 1) (1 * 2 ^ 64 * down e)
      (lt_of_mul-lt-mul_right D (omega (arith, v.1, mul-le-mul_right (down e) h, mul-pos (down_pos e) p))),
)

-- ---- the ways out of `steps_of`

pub can-cut : (x : Float) → T (fits binary64 x) → T (lt (fin false 0 (pos 0)) x) → le x (fin false 1 (pos 8)) ≡ true
    → T (lt (fin true 1 (pos 0)) (times x)) × T (lt (times x) (fin false 1 (pos 64)))
can-cut x t p h = go x t (within_256 x p h)
  where
    go : (x : Float) → T (fits binary64 x) → Within x → T (lt (fin true 1 (pos 0)) (times x)) × T (lt (times x) (fin false 1 (pos 64)))
    go _ t (within m e l) = in_u64 (times (fin false m e)) (m * up e * 2 ^ 48) (down e) (down_pos e) (few-steps m e t l) (value_of m e t l)

-- what is cut off `times x` are the steps, and they make it again exactly if x is on the grid
steps-read : (x : Float) → T (fits binary64 x) → Within x → to_unsigned 64 (times x) ≡ grid_steps x
unfolding grid_steps
steps-read _ t (within m e l) = read_is m e t l

steps_back : (x : Float) → T (fits binary64 x) → Within x → eq (of_int binary64 (pos (grid_steps x))) (times x) ≡ on_grid x
unfolding grid_steps on_grid of_int
steps_back _ t (within m e l) = rw (back_is m e t l, le-leb (m * up e) (256 * down e) l)
    (sym (and-true (eqb (m * up e * 2 ^ 48 % down e) 0)))

pub steps-answer : (x : Float) → T (fits binary64 x) → T (lt (fin false 0 (pos 0)) x) → le x (fin false 1 (pos 8)) ≡ true
    → (n : ℕ) → n ≡ to_unsigned 64 (times x) → (back : Float) → back ≡ of_int binary64 (pos n)
    → cond (eq back (times x)) (Some n) None ≡ steps_of x
unfolding steps_of
steps-answer x t p h n r back b =
    let w = within_256 x p h in
    rw (b, r, steps-read x t w, steps_back x t w)

-- ---- what an answer tells

pub none_told : {A : Type 0} (b : Bool) (v : A) → cond b (Some v) None ≡ None → b ≡ false
none_told true v e = absurd (none-some v (sym e))
none_told false v e = refl

pub steps-small : (x : Float) → on_grid x ≡ true → grid_steps x ≤ 2 ^ 56
unfolding on_grid grid_steps
steps-small nan h = lit≤ tt
steps-small (inf s) h = lit≤ tt
steps-small (fin s m e) h =
    let l = leb-true (m * up e) (256 * down e) (both (eqb (m * up e * 2 ^ 48 % down e) 0) (leb (m * up e) (256 * down e)) h).1 in
    let a = div-add-mod' (m * up e * 2 ^ 48) (down e) in
    le_of_mul-le-mul_right {m = m * up e * 2 ^ 48 / down e} {n = 2 ^ 56} {k = down e} (omega (arith, a, l)) (down_pos e)

pub told-small : (x : Float) (n : ℕ) → steps_of x ≡ Some n → n ≤ 2 ^ 56
unfolding steps_of
told-small x n e = let k = cond_some (on_grid x) (grid_steps x) n e in omega (arith, steps-small x k.0, k.1)

-- ---- the ways out of `grid_number_of`

sign_above : (x : Float) → T (lt (fin false 0 (pos 0)) x) → sign x ≡ false
unfolding lt
sign_above nan p = absurd p
sign_above (inf true) p = absurd p
sign_above (inf false) p = refl
sign_above (fin true m e) p = absurd p
sign_above (fin false m e) p = refl

-- y is x, or x on the other side of 0: the steps are the same
steps_off : (x y : Float) → on_grid y ≡ on_grid x → steps_of y ≡ None → None ≡ grid_number_of x
unfolding steps_of grid_number_of
steps_off x y o e = rw (← o, none_told (on_grid y) (grid_steps y) e)

steps_on : (x y : Float) (n : ℕ) → on_grid y ≡ on_grid x → grid_steps y ≡ grid_steps x → steps_of y ≡ Some n
    → Some (cond (sign x) (2 ^ 56 - n) (2 ^ 56 + n)) ≡ grid_number_of x
unfolding steps_of grid_number_of from_lowest
steps_on x y n o s e =
    let k = cond_some (on_grid y) (grid_steps y) n e in
    rw (← o, ← s, k.0, k.1)

pub above_off : (x : Float) → steps_of x ≡ None → None ≡ grid_number_of x
above_off x e = steps_off x x refl e

pub above_on : (x : Float) (n : ℕ) → T (lt (fin false 0 (pos 0)) x) → steps_of x ≡ Some n → Some (2 ^ 56 + n) ≡ grid_number_of x
above_on x n p e = rw (sign_above x p) at (steps_on x x n refl refl e)

-- the other side of 0

pub below-above : (x : Float) → lt x (fin false 0 (pos 0)) ≡ true → T (lt (fin false 0 (pos 0)) (neg x))
unfolding lt neg
below-above nan h = subst T (sym h) tt
below-above (inf true) h = tt
below-above (inf false) h = absurd (true≢false (sym h))
below-above (fin false m e) h = absurd (omega (arith, ltb-true (m * up e * 1) (0 * 1 * down e) h))
below-above (fin true m e) h = lt→ltb (0 * 1 * down e) (m * up e * 1) (omega (arith, ltb-true 0 (m * up e * 1 + 0 * 1 * down e) h))

sign_below : (x : Float) → lt x (fin false 0 (pos 0)) ≡ true → sign x ≡ true
unfolding lt
sign_below nan h = h
sign_below (inf s) h = h
sign_below (fin false m e) h = absurd (omega (arith, ltb-true (m * up e * 1) (0 * 1 * down e) h))
sign_below (fin true m e) h = refl

neg_grid : (x : Float) → (on_grid (neg x) ≡ on_grid x) × (grid_steps (neg x) ≡ grid_steps x)
unfolding neg on_grid grid_steps
neg_grid nan = (refl, refl)
neg_grid (inf s) = (refl, refl)
neg_grid (fin s m e) = (refl, refl)

pub below_off : (x : Float) → steps_of (neg x) ≡ None → None ≡ grid_number_of x
below_off x e = steps_off x (neg x) (neg_grid x).0 e

pub below_on : (x : Float) (n : ℕ) → lt x (fin false 0 (pos 0)) ≡ true → steps_of (neg x) ≡ Some n → Some (2 ^ 56 - n) ≡ grid_number_of x
below_on x n p e = rw (sign_below x p) at (steps_on x (neg x) n (neg_grid x).0 (neg_grid x).1 e)

-- both zeros
pub zero-on : (x : Float) → eq x (fin false 0 (pos 0)) ≡ true → Some (2 ^ 56) ≡ grid_number_of x
unfolding eq grid_number_of on_grid grid_steps from_lowest
zero-on nan h = absurd (true≢false (sym h))
zero-on (inf s) h = absurd (true≢false (sym h))
zero-on (fin s m e) h =
    let z : m * up e ≡ 0 = omega (
      arith,
      eqb-true (m * up e * 1) (0 * 1 * down e)
          (both (eqb (m * up e * 1) (0 * 1 * down e)) (beq s false || eqb (m * up e * 1) 0) h).0,
    ) in
    rw z (sides s (down e) (down_pos e))
  where
    sides : (s : Bool) (d : ℕ) → 0 < d → Some (2 ^ 56) ≡ cond (eqb (0 * 2 ^ 48 % d) 0 && leb 0 (256 * d))
        (Some (cond s (2 ^ 56 - 0 * 2 ^ 48 / d) (2 ^ 56 + 0 * 2 ^ 48 / d))) None
    sides true d p = rw (zero-mod d, zero-div d, le-leb 0 (256 * d) (omega arith))
    sides false d p = rw (zero-mod d, zero-div d, le-leb 0 (256 * d) (omega arith))

-- what is neither above nor below nor 0 is a NaN
pub nan_off : (x : Float) → lt (fin false 0 (pos 0)) x ≡ false → lt x (fin false 0 (pos 0)) ≡ false → eq x (fin false 0 (pos 0)) ≡ false
    → None ≡ grid_number_of x
unfolding lt eq grid_number_of on_grid
nan_off nan p q h = refl
nan_off (inf s) p q h = refl
nan_off (fin false m e) p q h =
    let z : m * up e * 1 ≡ 0 * 1 * down e = omega (arith, ltb-false (0 * 1 * down e) (m * up e * 1) p) in
    absurd (never_both (rw (eq-eqb (m * up e * 1) (0 * 1 * down e) z)) h)
nan_off (fin true m e) p q h =
    let l = ltb-false 0 (m * up e * 1 + 0 * 1 * down e) q in
    let z : m * up e * 1 ≡ 0 * 1 * down e = omega arith in
    let y : m * up e * 1 ≡ 0 = omega arith in
    absurd (never_both (rw (eq-eqb (m * up e * 1) (0 * 1 * down e) z, eq-eqb (m * up e * 1) 0 y)) h)

-- ---- a number on the grid and its whole number are the same number: n / 2^48 is x + 256, where x is `above_zero` less `below_zero` units of
-- 1 / 2^low

steps-value : (f : Format) (x : Float) → T (fits f x) → on_grid x ≡ true → grid_steps x * 2 ^ low f ≡ mag f x * 2 ^ 48
unfolding on_grid grid_steps
steps-value f nan t h = absurd (true≢false (sym h))
steps-value f (inf s) t h = absurd (true≢false (sym h))
steps-value f (fin s m e) t h =
    let z = eqb-true (m * up e * 2 ^ 48 % down e) 0 (both (eqb (m * up e * 2 ^ 48 % down e) 0) (leb (m * up e) (256 * down e)) h).0 in
    let w = mag-whole {f = f} {x = fin s m e} (record { is_finite = tt; in_format = t }) in
    go (m * up e) (down e) (m * up e * 2 ^ 48 / down e) (2 ^ low f) (mag f (fin s m e)) (down_pos e)
    (omega (arith, div-add-mod' (m * up e * 2 ^ 48) (down e), z)) w.0
  where
    go : (a d n u g : ℕ) → 0 < d → n * d ≡ a * 2 ^ 48 → a * u ≡ g * d → n * u ≡ g * 2 ^ 48
    go a d n u g p h k = eq_of_mul-eq-mul_right d p (n * u) (g * 2 ^ 48) (omega (arith, ap (λ (x : ℕ). x * u) h, k))

pub grid_value : (f : Format) (x : Float) → T (fits f x) → on_grid x ≡ true
    → from_lowest x * 2 ^ low f + below_zero f x * 2 ^ 48 ≡ above_zero f x * 2 ^ 48 + 2 ^ 56 * 2 ^ low f
unfolding from_lowest above_zero below_zero
grid_value f x t h = go (sign x) (grid_steps x) (mag f x) (2 ^ low f) (steps-small x h) (steps-value f x t h)
  where
    go : (s : Bool) (n g u : ℕ) → n ≤ 2 ^ 56 → n * u ≡ g * 2 ^ 48
        → cond s (2 ^ 56 - n) (2 ^ 56 + n) * u + cond s g 0 * 2 ^ 48 ≡ cond s 0 g * 2 ^ 48 + 2 ^ 56 * u
    go false n g u l e = omega (arith, e)
    go true n g u l e = let q : (2 ^ 56 - n) + n ≡ 2 ^ 56 = omega arith in omega (arith, e, ap (λ (x : ℕ). x * u) q)
