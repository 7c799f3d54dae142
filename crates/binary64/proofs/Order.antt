-- The test `le` on every float, infinities, huge numbers and NaN too: no format, nothing rounded.
-- It is an order of all that is not NaN, and of two finite numbers it is the order of their fractions. Assumes nothing.
use mathlib.Core.Path.{◌≡◌, sym}
use mathlib.Core.Logic.{◌↔◌, ◌⊎◌, inl, inr}
use mathlib.Core.Bool.{Bool, true, false, not, ◌&&◌, ◌||◌, cond}
use Prim.Native.Nat.{ℕ, ◌+◌, ◌*◌, ◌≤◌, ◌<◌, zero-le}
use native.Mathlib.Nat.{le_refl, le_of_eq, le_of_lt, eq-or-lt_of_le}
use native.Mathlib.Omega.{arith}
use lib.Dec.{T, ltb, eqb, ltb→lt, lt→ltb, eqb→eq}
use lib.Ieee.{Float, nan, inf, fin, up, down, below, level, is_nan, le}
use lib.Ieee.Fits.{and_l, and_r, and_i, eq→eqb}
use lib.Ieee.Positive.{num, den}
use lib.Ieee.Scale.{finite}
use Rattle.binary64.specs.Scaled.{sign}

-- ---- ±a, as a part above zero less a part below zero
abbrev pub above : Bool → ℕ → ℕ
above s a = cond s 0 a

abbrev pub under : Bool → ℕ → ℕ
under s a = cond s a 0

-- ±a / c ≤ ±b / d
abbrev Ord : Bool → ℕ → ℕ → Bool → ℕ → ℕ → Type 0
Ord s a c t b d = above s a * d + under t b * c ≤ above t b * c + under s a * d

-- ---- the test on two fractions
le-of-test : (a b : ℕ) (same : Bool) → (T same → a ≡ b) → T (ltb a b || same) → a ≤ b
le-of-test a b same e = go (ltb a b) (ltb→lt a b)
  where
    go : (less : Bool) → (T less → a < b) → T (less || same) → a ≤ b
    go true l t = le_of_lt (l tt)
    go false l t = le_of_eq (e t)

test-of-le : (a b : ℕ) (same : Bool) → (a ≡ b → T same) → a ≤ b → T (ltb a b || same)
test-of-le a b same e h = go (ltb a b) same (elim (eq-or-lt_of_le h) [ inl p ↦ inr (e p) | inr l ↦ inl (lt→ltb a b l) ])
  where
    go : (less same : Bool) → T less ⊎ T same → T (less || same)
    go true same t = tt
    go false true t = tt
    go false false (inl t) = t
    go false false (inr t) = t

eq-of_level : (a b : ℕ) (z : Bool) → T (eqb a b && z) → a ≡ b
eq-of_level a b z t = eqb→eq a b (and_l (eqb a b) z t)

level_of-eq : (a b : ℕ) → a ≡ b → T (eqb a b && true)
level_of-eq a b p = and_i (eqb a b) true (eq→eqb p) tt

both_zero : (a b : ℕ) → a ≡ b → a ≡ 0 → T (eqb a b && eqb a 0)
both_zero a b p q = and_i (eqb a b) (eqb a 0) (eq→eqb p) (eq→eqb q)

ord_of-test : (s : Bool) (a c : ℕ) (t : Bool) (b d : ℕ) → T (below s (a * d) t (b * c) || level s (a * d) t (b * c)) → Ord s a c t b d
ord_of-test false a c false b d h =
    let g : a * d ≤ b * c = le-of-test (a * d) (b * c) (eqb (a * d) (b * c) && true) (eq-of_level (a * d) (b * c) true) h in omega arith
ord_of-test false a c true b d h =
    let p : a * d ≡ b * c = eq-of_level (a * d) (b * c) (eqb (a * d) 0) h in
    let q : a * d ≡ 0 = eqb→eq (a * d) 0 (and_r (eqb (a * d) (b * c)) (eqb (a * d) 0) h) in
    omega arith
ord_of-test true a c false b d h = omega arith
ord_of-test true a c true b d h =
    let g : b * c ≤ a * d = le-of-test (b * c) (a * d) (eqb (a * d) (b * c) && true) (λ t. sym (eq-of_level (a * d) (b * c) true t)) h
    in omega arith

test-of_ord : (s : Bool) (a c : ℕ) (t : Bool) (b d : ℕ) → Ord s a c t b d → T (below s (a * d) t (b * c) || level s (a * d) t (b * c))
test-of_ord false a c false b d h = test-of-le (a * d) (b * c) (eqb (a * d) (b * c) && true) (level_of-eq (a * d) (b * c)) (omega arith)
test-of_ord false a c true b d h = both_zero (a * d) (b * c) (omega arith) (omega arith)
test-of_ord true a c false b d h =
    test-of-le 0 (a * d + b * c) (eqb (a * d) (b * c) && eqb (a * d) 0) (λ p. both_zero (a * d) (b * c) (omega arith) (omega arith)) zero-le
test-of_ord true a c true b d h =
    test-of-le (b * c) (a * d) (eqb (a * d) (b * c) && true) (λ p. level_of-eq (a * d) (b * c) (sym p)) (omega arith)

-- ---- the numerators of a float's part above zero and of its part below zero; the denominator is `den`
abbrev pub plus_num : Float → ℕ
plus_num x = above (sign x) (num x)

abbrev pub minus_num : Float → ℕ
minus_num x = under (sign x) (num x)

abbrev pub LeFraction : Float → Float → Type 0
LeFraction x y = plus_num x * den y + minus_num y * den x ≤ plus_num y * den x + minus_num x * den y

pub le-is_fractions : (x y : Float) → T (finite x) → T (finite y) → T (le x y) ↔ LeFraction x y
unfolding le
le-is_fractions nan y p q = absurd p
le-is_fractions (inf s) y p q = absurd p
le-is_fractions (fin s m e) nan p q = absurd q
le-is_fractions (fin s m e) (inf t) p q = absurd q
le-is_fractions (fin s m e) (fin t n d) p q =
    (ord_of-test s (m * up e) (down e) t (n * up d) (down d), test-of_ord s (m * up e) (down e) t (n * up d) (down d))

-- ---- the order
pub le-not_nan : (x y : Float) → T (le x y) → T (not (is_nan x)) × T (not (is_nan y))
unfolding le is_nan
le-not_nan nan y h = absurd h
le-not_nan (inf s) nan h = absurd h
le-not_nan (inf s) (inf t) h = (tt, tt)
le-not_nan (inf s) (fin t n d) h = (tt, tt)
le-not_nan (fin s m e) nan h = absurd h
le-not_nan (fin s m e) (inf t) h = (tt, tt)
le-not_nan (fin s m e) (fin t n d) h = (tt, tt)

pub le_self : (x : Float) → T (not (is_nan x)) → T (le x x)
unfolding le is_nan
le_self nan h = h
le_self (inf true) h = tt
le_self (inf false) h = tt
le_self (fin s m e) h =
    (le-is_fractions (fin s m e) (fin s m e) tt tt).1
    (le_refl (plus_num (fin s m e) * den (fin s m e) + minus_num (fin s m e) * den (fin s m e)))

-- what is compared and found in order is at most itself
pub le_self_of-le : (x y : Float) → T (le x y) → T (le x x) × T (le y y)
le_self_of-le x y h = (le_self x (le-not_nan x y h).0, le_self y (le-not_nan x y h).1)

-- what lies between finite numbers is finite
pub finite-between : (l x h : Float) → T (finite l) → T (finite h) → T (le l x) → T (le x h) → T (finite x)
unfolding le
finite-between nan x h p q a b = absurd p
finite-between (inf s) x h p q a b = absurd p
finite-between (fin s m e) nan h p q a b = absurd b
finite-between (fin s m e) (inf true) h p q a b = absurd a
finite-between (fin s m e) (inf false) nan p q a b = absurd q
finite-between (fin s m e) (inf false) (inf t) p q a b = absurd q
finite-between (fin s m e) (inf false) (fin t n d) p q a b = absurd b
finite-between (fin s m e) (fin t n d) h p q a b = tt
