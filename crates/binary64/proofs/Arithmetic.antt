-- The four operations on numbers of a format, in whole numbers of units: a sum and a difference are the exact one, rounded; the quotient of
-- a number by one that is no nearer to zero, on its side, is from 0 to 1; and a product with a factor from 0 to 1 goes no further from zero
-- than the other factor. Assumes nothing.
use mathlib.Core.Path.{◌≡◌, refl, sym, ap, ap₂, ◌∙◌}
use mathlib.Core.Logic.{◌⊎◌, inl, inr}
use mathlib.Core.Bool.{Bool, true, false, not, cond}
use Prim.Native.Nat.{ℕ, ◌+◌, ◌-◌, ◌*◌, ◌^◌, ◌≤◌, ◌<◌}
use native.Mathlib.Nat.{le_trans, le_of_eq, le_of_lt, lt_of_le_of_lt, eq-zero-or-pos, zero-add, add-zero, mul_comm, mul-sub, mul-pos}
use native.Mathlib.Nat.{mul-le-mul_right, le_of_mul-le-mul_right}
use native.Mathlib.Omega.{arith}
use lib.Dec.{T, ltb, eqb, ltb→lt, nltb→le, eqb→eq, not_T}
use lib.Pow.{pow_pos}
use lib.Ieee.{Float, nan, inf, fin, Format, low, unlike, up, down, round, sum, neg, add, sub, mul, div}
use lib.Ieee.Bits.{cond_no}
use lib.Ieee.Fits.{down_pos, neg-fits}
use lib.Ieee.Positive.{num, den, first_pos}
use lib.Ieee.Scale.{grid, overflow, round_same}
use Rattle.binary64.specs.Scaled.{mag, above_zero, below_zero}
use Rattle.binary64.specs.ExactCrossing.{distance}
use Rattle.binary64.proofs.Order.{above, under}
use Rattle.binary64.proofs.Value.{Number, Parts, InFormat, in_format_zero, mag-whole, mag-parts}
use Rattle.binary64.proofs.Rounding.{rnd, rnd_zero, round_parts, round_units, in_format_power, grid_le-in_format}

-- a number over a denominator that is its own times d
over : {f : Format} {x : Float} → Number f x → (d c : ℕ) → c ≡ den x * d → num x * d * 2 ^ low f ≡ mag f x * c
over {f} {x} h d c e =
    let g : num x * 2 ^ low f * d ≡ mag f x * den x * d = ap (λ (z : ℕ). z * d) (mag-whole h).0 in
    rw e (omega arith)

-- ---- sums
-- z is p - n units, rounded
abbrev pub Rounded : Format → Float → ℕ → ℕ → Type 0
Rounded f z p n = Parts f z (rnd f (p - n)) (rnd f (n - p))

rnd_above : (f : Format) (s : Bool) (n : ℕ) → above s (rnd f n) ≡ rnd f (above s n)
rnd_above f true n = sym (rnd_zero f)
rnd_above f false n = refl

rnd_under : (f : Format) (s : Bool) (n : ℕ) → under s (rnd f n) ≡ rnd f (under s n)
rnd_under f true n = refl
rnd_under f false n = sym (rnd_zero f)

-- the fraction N / C with the sign s is ±n units, and that is p - q
round_sum : (f : Format) (s : Bool) (N C n p q : ℕ) → 0 < C → N * 2 ^ low f ≡ n * C → above s n ≡ p - q → under s n ≡ q - p
    → rnd f (distance p q) < overflow f → Rounded f (round f s N C) p q
round_sum f s N C n p q c e a u o =
    let r = round_units f s n (rw (size s a u) o) in
    rw (round_same f s N C n (2 ^ low f) c (pow_pos (low f)) e)
    (record {
      number = r.number;
      plus-is = r.plus-is ∙ rnd_above f s n ∙ ap (rnd f) a;
      minus_is = r.minus_is ∙ rnd_under f s n
          ∙ ap (rnd f) u;
    })
  where
    size : (s : Bool) → above s n ≡ p - q → under s n ≡ q - p → n ≡ distance p q
    size true a u = omega arith
    size false a u = omega arith

-- two fractions X / C and Y / C that are a and b units
module _ (f : Format) (X Y a b C : ℕ) (c : 0 < C) (p : X * 2 ^ low f ≡ a * C) (q : Y * 2 ^ low f ≡ b * C) where
  together : (X + Y) * 2 ^ low f ≡ (a + b) * C
  together = omega arith

  in_order : X ≤ Y → a ≤ b
  in_order h = let g : X * 2 ^ low f ≤ Y * 2 ^ low f = mul-le-mul_right (2 ^ low f) h in le_of_mul-le-mul_right {k = C} (omega arith) c

  apart : (X - Y) * 2 ^ low f ≡ (a - b) * C
  apart = sub-mul X Y (2 ^ low f) ∙ ap₂ ◌-◌ p q ∙ sym (sub-mul a b C)
    where
      sub-mul : (x y l : ℕ) → (x - y) * l ≡ x * l - y * l
      sub-mul x y l = mul_comm (x - y) l ∙ mul-sub l x y ∙ ap₂ ◌-◌ (mul_comm l x) (mul_comm l y)

sum_rounded : (f : Format) (s : Bool) (X : ℕ) (t : Bool) (Y a b C : ℕ) → 0 < C → X * 2 ^ low f ≡ a * C → Y * 2 ^ low f ≡ b * C
    → rnd f (distance (above s a + above t b) (under s a + under t b)) < overflow f
    → Rounded f (sum f s X t Y C) (above s a + above t b) (under s a + under t b)
unfolding sum
sum_rounded f false X false Y a b C c p q o =
    round_sum f false (X + Y) C (a + b) (a + b) (0 + 0) c (together f X Y a b C c p q) (omega arith) (omega arith) o
sum_rounded f true X true Y a b C c p q o =
    round_sum f true (X + Y) C (a + b) (0 + 0) (a + b) c (together f X Y a b C c p q) (omega arith) (omega arith) o
sum_rounded f false X true Y a b C c p q o =
    go (ltb X Y) (λ t. in_order f X Y a b C c p q (le_of_lt (ltb→lt X Y t))) (λ t. in_order f Y X b a C c q p (nltb→le X Y t))
  where
    go : (less : Bool) → (T less → a ≤ b) → (T (not less) → b ≤ a)
        → Rounded f (cond less (round f true (Y - X) C) (round f false (X - Y) C)) (a + 0) (0 + b)
    go true l g =
        let h = l tt in round_sum f true (Y - X) C (b - a) (a + 0) (0 + b) c (apart f Y X b a C c q p) (omega arith) (omega arith) o
    go false l g =
        let h = g tt in round_sum f false (X - Y) C (a - b) (a + 0) (0 + b) c (apart f X Y a b C c p q) (omega arith) (omega arith) o
sum_rounded f true X false Y a b C c p q o =
    go (ltb X Y) (ltb Y X) (λ t. in_order f X Y a b C c p q (le_of_lt (ltb→lt X Y t))) (λ t. in_order f Y X b a C c q p (nltb→le X Y t))
    (λ t. in_order f X Y a b C c p q (nltb→le Y X t))
  where
    go : (less more : Bool) → (T less → a ≤ b) → (T (not less) → b ≤ a) → (T (not more) → a ≤ b)
        → Rounded f (cond less (round f false (Y - X) C) (round f more (X - Y) C)) (0 + b) (a + 0)
    go true more l g m =
        let h = l tt in round_sum f false (Y - X) C (b - a) (0 + b) (a + 0) c (apart f Y X b a C c q p) (omega arith) (omega arith) o
    go false true l g m =
        let h = g tt in round_sum f true (X - Y) C (a - b) (0 + b) (a + 0) c (apart f X Y a b C c p q) (omega arith) (omega arith) o
    go false false l g m =
        let h = g tt in let k = m tt in round_sum f false (X - Y) C (a - b) (0 + b) (a + 0) c (apart f X Y a b C c p q) (omega arith)
        (omega arith) o

pub add_rounded : {f : Format} {x y : Float} → Number f x → Number f y
    → rnd f (distance (above_zero f x + above_zero f y) (below_zero f x + below_zero f y)) < overflow f
    → Rounded f (add f x y) (above_zero f x + above_zero f y) (below_zero f x + below_zero f y)
unfolding add above_zero below_zero
add_rounded {x = nan} hx hy = absurd hx.is_finite
add_rounded {x = inf s} hx hy = absurd hx.is_finite
add_rounded {x = fin s m e} {y = nan} hx hy = absurd hy.is_finite
add_rounded {x = fin s m e} {y = inf t} hx hy = absurd hy.is_finite
add_rounded {f} {x = fin s m e} {y = fin t n d} hx hy =
    sum_rounded f s (m * up e * down d) t (n * up d * down e) (mag f (fin s m e)) (mag f (fin t n d)) (down e * down d)
    (mul-pos (down_pos e) (down_pos d))
    (over hx (down d) (down e * down d) refl) (over hy (down e) (down e * down d) (mul_comm (down e) (down d)))

pub sub_rounded : {f : Format} {x y : Float} → Number f x → Number f y
    → rnd f (distance (above_zero f x + below_zero f y) (below_zero f x + above_zero f y)) < overflow f
    → Rounded f (sub f x y) (above_zero f x + below_zero f y) (below_zero f x + above_zero f y)
unfolding sub neg above_zero below_zero
sub_rounded {y = nan} hx hy = absurd hy.is_finite
sub_rounded {y = inf t} hx hy = absurd hy.is_finite
sub_rounded {f} {y = fin true n d} hx hy =
    add_rounded {y = fin false n d} hx (record { is_finite = tt; in_format = neg-fits f (fin true n d) hy.in_format })
sub_rounded {f} {y = fin false n d} hx hy =
    add_rounded {y = fin true n d} hx (record { is_finite = tt; in_format = neg-fits f (fin false n d) hy.in_format })

-- its size is theirs, rounded
pub rounded_mag : {f : Format} {z : Float} (p n : ℕ) → Rounded f z p n → mag f z ≡ rnd f (distance p n)
rounded_mag {f} {z} p n h =
    sym (mag-parts f z).0 ∙ ap₂ ◌+◌ h.plus-is h.minus_is
    ∙ elim (eq-zero-or-pos (p - n)) [
      | inl e ↦ rw (e, rnd_zero f, zero-add (n - p)) (zero-add (rnd f (n - p)))
      | inr l ↦ rw (less p n l, rnd_zero f, add-zero (p - n)) (add-zero (rnd f (p - n)))
    ]
  where
    less : (p n : ℕ) → 0 < p - n → n - p ≡ 0
    less p n l = omega arith

-- ---- what goes no further from zero
-- z is a number whose part above zero is at most p units, and whose part below zero is at most n
pub record AtMost (f : Format) (z : Float) (p n : ℕ) : Type 0 where
  pub number : Number f z
  pub plus-le : above_zero f z ≤ p
  pub minus-le : below_zero f z ≤ n

weaken : {f : Format} {z : Float} {p n q m : ℕ} → AtMost f z p n → (p ≤ q) × (n ≤ m) → AtMost f z q m
weaken h k = record { number = h.number; plus-le = le_trans h.plus-le k.0; minus-le = le_trans h.minus-le k.1 }

in_format_above : {f : Format} {w : ℕ} (s : Bool) → InFormat f w → InFormat f (above s w)
in_format_above {f} true h = in_format_zero f
in_format_above false h = h

-- a fraction that is at most w units, w being whole_in, rounds to at most w units
round_at-most : {f : Format} {w : ℕ} (s : Bool) (X Y : ℕ) → 0 < Y → X * 2 ^ low f ≤ w * Y → InFormat f w
    → AtMost f (round f s X Y) (above s w) (under s w)
round_at-most {f} {w} s X Y y h whole_in =
    let g : grid f X Y ≤ w = grid_le-in_format X Y y h whole_in in
    let r = round_parts f s X Y (lt_of_le_of_lt g whole_in.small) in
    weaken (record { number = r.number; plus-le = le_of_eq r.plus-is; minus-le = le_of_eq r.minus_is }) (side s (grid f X Y) g)
  where
    side : (s : Bool) (a : ℕ) → a ≤ w → (above s a ≤ above s w) × (under s a ≤ under s w)
    side true a h = omega arith
    side false a h = omega arith

-- ---- quotients
-- from 0 to 1
abbrev pub Ratio : Format → Float → Type 0
Ratio f t = AtMost f t (2 ^ low f) 0

-- x lies from 0 to y, which is not 0: for y above zero, by the parts px, nx, py, ny; below zero the parts change places
abbrev pub Inside : ℕ → ℕ → ℕ → ℕ → Type 0
Inside px nx py ny = (nx ≡ 0) × (ny ≡ 0) × (px ≤ py) × (0 < py)

abbrev pub PartOf : Format → Float → Float → Type 0
PartOf f x y =
    Inside (above_zero f x) (below_zero f x) (above_zero f y) (below_zero f y) ⊎ Inside (below_zero f x) (above_zero f x) (below_zero f y)
    (above_zero f y)

-- of ±a and ±b: the signs are alike and a is at most b, or a is 0
sizes : (s t : Bool) (a b : ℕ) → Inside (above s a) (under s a) (above t b) (under t b) ⊎ Inside (under s a) (above s a) (under t b)
    (above t b) → (a ≤ above (unlike s t) b) × (0 < b)
sizes true true a b (inl h) = omega arith
sizes true true a b (inr h) = omega arith
sizes true false a b (inl h) = omega arith
sizes true false a b (inr h) = omega arith
sizes false true a b (inl h) = omega arith
sizes false true a b (inr h) = omega arith
sizes false false a b (inl h) = omega arith
sizes false false a b (inr h) = omega arith

not-zero : (n : ℕ) → 0 < n → T (not (eqb n 0))
not-zero n h = not_T (eqb n 0) (λ (t : T (eqb n 0)). let e : n ≡ 0 = eqb→eq n 0 t in omega arith)

ratio_of_sizes : (f : Format) (u : Bool) (X Y a b C : ℕ) → 0 < Y → X * 2 ^ low f ≡ a * C → Y * 2 ^ low f ≡ b * C → a ≤ above u b
    → Ratio f (round f u X Y)
ratio_of_sizes f u X Y a b C y p q h =
    weaken (round_at-most u X Y y (bound u h) (in_format_above u (in_format_power f (low f) (omega arith)))) (side u)
  where
    bound : (u : Bool) → a ≤ above u b → X * 2 ^ low f ≤ above u (2 ^ low f) * Y
    bound true h = let g : a * C ≤ 0 * C = mul-le-mul_right C h in omega arith
    bound false h = let g : a * C ≤ b * C = mul-le-mul_right C h in omega arith

    side : (u : Bool) → (above u (above u (2 ^ low f)) ≤ 2 ^ low f) × (under u (above u (2 ^ low f)) ≤ 0)
    side true = omega arith
    side false = omega arith

-- the quotient is the fraction X / Y, rounded once; with C for the denominator, X is the size of x and Y that of y
pub record Quotient (f : Format) (x y : Float) : Type 0 where
  pub negative : Bool
  pub X : ℕ
  pub Y : ℕ
  pub C : ℕ
  pub is : div f x y ≡ round f negative X Y
  pub Y-pos : 0 < Y
  pub C-pos : 0 < C
  pub X-is : X * 2 ^ low f ≡ mag f x * C
  pub Y-is : Y * 2 ^ low f ≡ mag f y * C
  pub size : mag f x ≤ above negative (mag f y)

pub quotient : {f : Format} {x y : Float} → Number f x → Number f y → PartOf f x y → Quotient f x y
unfolding div above_zero below_zero
quotient {x = nan} hx hy h = absurd hx.is_finite
quotient {x = inf s} hx hy h = absurd hx.is_finite
quotient {x = fin s m e} {y = nan} hx hy h = absurd hy.is_finite
quotient {x = fin s m e} {y = inf t} hx hy h = absurd hy.is_finite
quotient {f} {x = fin s m e} {y = fin t n d} hx hy h =
    let X = m * up e * down d in
    let Y = n * up d * down e in
    let C = down e * down d in
    let c : 0 < C = mul-pos (down_pos e) (down_pos d) in
    let q : Y * 2 ^ low f ≡ mag f (fin t n d) * C = over hy (down e) C (mul_comm (down e) (down d)) in
    let g = sizes s t (mag f (fin s m e)) (mag f (fin t n d)) h in
    let y_pos : 0 < Y = first_pos Y (2 ^ low f) (rw q (mul-pos g.1 c)) in
    let n_pos : 0 < n = first_pos n (up d) (first_pos (n * up d) (down e) y_pos) in
    record {
      negative = unlike s t;
      X = X;
      Y = Y;
      C = C;
      is = cond_no (eqb n 0) (cond (eqb m 0) nan (inf (unlike s t))) (round f (unlike s t) X Y) (not-zero n n_pos);
      Y-pos = y_pos;
      C-pos = c;
      X-is = over hx (down d) C refl;
      Y-is = q;
      size = g.0;
    }

pub div_ratio : {f : Format} {x y : Float} → Number f x → Number f y → PartOf f x y → Ratio f (div f x y)
div_ratio {f} {x} {y} hx hy h =
    let q = quotient hx hy h in
    rw q.is (ratio_of_sizes f q.negative q.X q.Y (mag f x) (mag f y) q.C q.Y-pos q.X-is q.Y-is q.size)

-- ---- products
-- A / c is ±a units, from 0 to 1, and B / d is b units
pub product_le : (s : Bool) (A B c d a b L : ℕ) → 0 < L → A * L ≡ a * c → B * L ≡ b * d → above s a ≤ L → under s a ≤ 0
    → A * B * L ≤ above s b * (c * d)
product_le true A B c d a b L l p q u v =
    let g : a * c ≤ 0 * c = mul-le-mul_right c v in
    let h : A * L * B ≤ 0 * B = mul-le-mul_right B (omega arith) in
    omega arith
product_le false A B c d a b L l p q u v =
    let g : a * c ≤ L * c = mul-le-mul_right c u in
    let small : A ≤ c = le_of_mul-le-mul_right {k = L} (omega arith) l in
    let h : A * (b * d) ≤ c * (b * d) = mul-le-mul_right (b * d) small in
    let k : A * (B * L) ≡ A * (b * d) = ap (λ (z : ℕ). A * z) q in
    omega arith

pub mul_shrinks : {f : Format} {t y : Float} → Ratio f t → Number f y → AtMost f (mul f t y) (above_zero f y) (below_zero f y)
unfolding mul above_zero below_zero
mul_shrinks {t = nan} ht hy = absurd ht.number.is_finite
mul_shrinks {t = inf s} ht hy = absurd ht.number.is_finite
mul_shrinks {t = fin s m e} {y = nan} ht hy = absurd hy.is_finite
mul_shrinks {t = fin s m e} {y = inf r} ht hy = absurd hy.is_finite
mul_shrinks {f} {t = fin s m e} {y = fin r n d} ht hy =
    let b = mag f (fin r n d) in
    weaken
    (round_at-most (unlike s r) (m * up e * (n * up d)) (down e * down d) (mul-pos (down_pos e) (down_pos d))
    (product_le s (m * up e) (n * up d) (down e) (down d) (mag f (fin s m e)) b (2 ^ low f) (pow_pos (low f))
    (mag-whole ht.number).0 (mag-whole hy).0 ht.plus-le ht.minus-le)
    (in_format_above s (mag-whole hy).1))
    (side s r b)
  where
    side : (s r : Bool) (b : ℕ) → (above (unlike s r) (above s b) ≤ above r b) × (under (unlike s r) (above s b) ≤ under r b)
    side true true b = omega arith
    side true false b = omega arith
    side false true b = omega arith
    side false false b = omega arith
