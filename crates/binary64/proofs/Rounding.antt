-- A fraction rounded to a format, in units: `grid f a c` is a / c rounded, `rnd f n` is n units rounded. Rounding leaves what the format
-- holds, keeps the order, and up to 2 ^ (prec + k + 1) units it is at most 2 ^ k units off. Assumes nothing.
use mathlib.Core.Path.{◌≡◌, sym, ap, ◌∙◌}
use mathlib.Core.Logic.{inl, inr}
use mathlib.Core.Bool.{Bool, false, not}
use Prim.Native.Nat.{ℕ, suc, ◌+◌, ◌*◌, ◌/◌, ◌%◌, ◌^◌, ◌≤◌, ◌<◌, compare, Ordering}
use native.Mathlib.Nat.{le_trans, le_of_eq, lt_of_le_of_lt, mod-lt, one-mul, zero-mul, mul-le-mul_right, mul-le-mul_left}
use native.Mathlib.Nat.{eq-or-lt_of_le, le_of_mul-le-mul_right, mul-pos, div-add-mod', div-lt_iff_lt-mul, two-pow-succ}
use native.Mathlib.Omega.{arith}
use lib.Dec.{T, is_le, compare_is_eq, leb→le, nleb→lt, eqb→eq}
use lib.Pow.{pow_pos, pow_mono, pow-lt}
use lib.Ieee.{Float, nan, inf, fin, Format, prec, emax, low, size, nearest, round, le}
use lib.Ieee.Digits.{size-le}
use lib.Ieee.Exact.{HasValue, units_val, round_exact}
use lib.Ieee.Fits.{two, two-le_pos, round_is, round-fits}
use lib.Ieee.Nearest.{closest}
use lib.Ieee.Order.{drop, kept, round_mono}
use lib.Ieee.Scale.{grid, overflow, finite, round_under}
use Rattle.binary64.proofs.Value.{Le}
use Rattle.binary64.proofs.Order.{above, under, finite-between}
use Rattle.binary64.proofs.Value.{Parts, InFormat, in_format_zero, parts-of-value, Le-of-le}

pub rnd : Format → ℕ → ℕ
rnd f n = grid f n (2 ^ low f)

-- ---- `round`, by its parts
pub round_parts : (f : Format) (s : Bool) (a c : ℕ) → grid f a c < overflow f → Parts f (round f s a c) (above s (grid f a c))
    (under s (grid f a c))
round_parts f s a c h =
    let n = a * 2 ^ low f in
    let v : HasValue (round f s a c) s (grid f a c) (2 ^ low f) = rw (round_is f s a c)
    (units_val f s (kept (prec f) n c) (drop (prec f) n c) h) in
    parts-of-value f (round f s a c) s (grid f a c) v (round-fits f s a c)

pub round_units : (f : Format) (s : Bool) (n : ℕ) → rnd f n < overflow f → Parts f (round f s n (2 ^ low f)) (above s (rnd f n))
    (under s (rnd f n))
unfolding rnd
round_units f s n = round_parts f s n (2 ^ low f)

finite-of-value : (x : Float) (s : Bool) (a c : ℕ) → HasValue x s a c → T (finite x)
finite-of-value nan s a c h = absurd h
finite-of-value (inf t) s a c h = absurd h
finite-of-value (fin t m e) s a c h = tt

-- ---- what the format holds stays
pub rnd_in_format : {f : Format} {w : ℕ} → InFormat f w → rnd f w ≡ w
unfolding rnd
rnd_in_format {f} {w} h =
    let l = 2 ^ low f in
    let x = round f false w l in
    let v : HasValue x false w l = round_exact f false w l h.digits h.zeros (pow_pos (low f)) h.few (rw (← h.is) h.small)
    (ap (λ (z : ℕ). z * l) h.is) in
    sym (round_parts f false w l (round_under f w l (finite-of-value x false w l v))).plus-is ∙ (parts-of-value f x false w v
    (round-fits f false w l)).plus-is

pub rnd_zero : (f : Format) → rnd f 0 ≡ 0
rnd_zero f = rnd_in_format (in_format_zero f)

pub in_format_power : (f : Format) (j : ℕ) → j < low f + suc (emax f) → InFormat f (2 ^ j)
in_format_power f j h =
    record { digits = 1; zeros = j; is = sym (one-mul (2 ^ j)); few = pow-lt (two-le_pos (prec f) (two f)); small = pow-lt h }

-- ---- the order stays, as long as nothing overflows
zero-finite : (f : Format) → T (finite (round f false 0 1))
zero-finite f =
    finite-of-value (round f false 0 1) false 0 1 (round_exact f false 0 1 0 0 (pow_pos 0) (pow_pos (prec f))
    (pow_pos (low f + suc (emax f))) (zero-mul (2 ^ low f)))

grid_mono : (f : Format) (a b c d : ℕ) → 0 < b → 0 < d → a * d ≤ c * b → grid f c d < overflow f → grid f a b ≤ grid f c d
grid_mono f a b c d B D h o =
    let x = round f false a b in
    let y = round f false c d in
    let py = round_parts f false c d o in
    let l : T (le x y) = round_mono f a b c d B D h in
    let x_finite : T (finite x) = finite-between (round f false 0 1) x y (zero-finite f) py.number.is_finite
    (round_mono f 0 1 a b (pow_pos 0) B (omega arith)) l in
    let px = round_parts f false a b (round_under f a b x_finite) in
    let g : Le f x y = Le-of-le px.number py.number l in
    let x1 = px.plus-is in
    let x2 = px.minus_is in
    let y1 = py.plus-is in
    let y2 = py.minus_is in
    omega arith

pub rnd_mono : (f : Format) (a b : ℕ) → a ≤ b → rnd f b < overflow f → rnd f a ≤ rnd f b
unfolding rnd
rnd_mono f a b h = let l = 2 ^ low f in grid_mono f a l b l (pow_pos (low f)) (pow_pos (low f)) (mul-le-mul_right l h)

-- a fraction that is at most what the format holds rounds to at most that
pub grid_le-in_format : {f : Format} {w : ℕ} (a c : ℕ) → 0 < c → a * 2 ^ low f ≤ w * c → InFormat f w → grid f a c ≤ w
unfolding rnd
grid_le-in_format {f} {w} a c C h whole_in =
    let e : grid f w (2 ^ low f) ≡ w = rnd_in_format whole_in in
    le_trans (grid_mono f a c w (2 ^ low f) C (pow_pos (low f)) h (lt_of_le_of_lt (le_of_eq e) whole_in.small)) (le_of_eq e)

-- and one that is what the format holds rounds to that
grid_in_format : {f : Format} {w : ℕ} (a c : ℕ) → 0 < c → a * 2 ^ low f ≡ w * c → InFormat f w → grid f a c ≡ w
unfolding rnd
grid_in_format {f} {w} a c C e whole_in =
    let l = 2 ^ low f in
    let g : grid f a c ≤ w = grid_le-in_format a c C (le_of_eq e) whole_in in
    let h : grid f w l ≤ grid f a c = grid_mono f w l a c (pow_pos (low f)) C (le_of_eq (sym e)) (lt_of_le_of_lt g whole_in.small) in
    let s : grid f w l ≡ w = rnd_in_format whole_in in
    omega arith

pub rnd_le : {f : Format} {w : ℕ} (n : ℕ) → n ≤ w → InFormat f w → rnd f n ≤ w
unfolding rnd
rnd_le {f} n h = grid_le-in_format n (2 ^ low f) (pow_pos (low f)) (mul-le-mul_right (2 ^ low f) h)

pub rnd_small : (f : Format) {n j : ℕ} → n ≤ 2 ^ j → j < low f + suc (emax f) → rnd f n < overflow f
rnd_small f {n} {j} h l = let power = in_format_power f j l in lt_of_le_of_lt (rnd_le n h power) power.small

pub rnd_pos : (f : Format) (n : ℕ) → 0 < n → rnd f n < overflow f → 0 < rnd f n
rnd_pos f n h o = le_trans (le_of_eq (sym (rnd_in_format (in_format_power f 0 (omega arith))))) (rnd_mono f 1 n h o)

-- ---- the error
-- x and y are at most e apart
abbrev pub Off : ℕ → ℕ → ℕ → Type 0
Off x y e = (x ≤ y + e) × (y ≤ x + e)

-- a = q * b + r, over b, to the nearest whole number: at most half of one off
nearest_off : (q r b a : ℕ) (o : Ordering) → q * b + r ≡ a → r < b → (T (is_le o) → r * 2 ≤ b) → (T (not (is_le o)) → b < r * 2)
    → (T (compare_is_eq o) → r * 2 ≡ b) → Off (nearest q o * b * 2) (a * 2) b
nearest_off q r b a Ordering.lt e l less more same = let h = less tt in omega arith
nearest_off q r b a Ordering.eq e l less more same =
    let h = same tt in
    let odd : q % 2 * b ≤ 1 * b = mul-le-mul_right b (omega arith) in
    omega arith
nearest_off q r b a Ordering.gt e l less more same = let h = more tt in omega arith

closest_off : (a b : ℕ) → 0 < b → Off (closest a b * b * 2) (a * 2) b
closest_off a b B =
    nearest_off (a / b) (a % b) b a (compare (a % b * 2) b) (div-add-mod' a b) (mod-lt a B) (leb→le (a % b * 2) b)
    (nleb→lt (a % b * 2) b) (eqb→eq (a % b * 2) b)

drop_le : (p n c k : ℕ) → 0 < c → n < 2 ^ (p + k) * c → drop p n c ≤ k
drop_le p n c k C h = let z : size (n / c) ≤ p + k = size-le (n / c) (p + k) ((div-lt_iff_lt-mul C).1 h) in omega arith

-- twice 2 ^ (prec + k) units do not overflow
abbrev pub Room : Format → ℕ → Type 0
Room f k = prec f + suc k < low f + suc (emax f)

-- a fraction of a / c units, up to 2 ^ (prec + k + 1), which is itself of the format
pub grid_off : (f : Format) (k a c : ℕ) → Room f k → 0 < c → a * 2 ^ low f ≤ 2 ^ (prec f + suc k) * c
    → Off (grid f a c * c) (a * 2 ^ low f) (c * 2 ^ k)
grid_off f k a c room C h = elim (eq-or-lt_of_le h) [ inl e ↦ at e | inr l ↦ under l ]
  where
    n : ℕ
    n = a * 2 ^ low f

    under : n < 2 ^ (prec f + suc k) * c → Off (grid f a c * c) n (c * 2 ^ k)
    under l =
        let j = drop (prec f) n c in
        let off = closest_off n (c * 2 ^ j) (mul-pos C (pow_pos j)) in
        let last : c * 2 ^ j ≤ c * (2 ^ k + 2 ^ k) = rw two-pow-succ at (mul-le-mul_left c (pow_mono (drop_le (prec f) n c (suc k) C l))) in
        omega arith

    at : n ≡ 2 ^ (prec f + suc k) * c → Off (grid f a c * c) n (c * 2 ^ k)
    at e =
        let g : grid f a c ≡ 2 ^ (prec f + suc k) = grid_in_format a c C e (in_format_power f (prec f + suc k) room) in
        let s : grid f a c * c ≡ n = ap (λ (z : ℕ). z * c) g ∙ sym e in
        omega arith

pub rnd_off : (f : Format) (k n : ℕ) → Room f k → n ≤ 2 ^ (prec f + suc k) → Off (rnd f n) n (2 ^ k)
unfolding rnd
rnd_off f k n room h =
    let l = 2 ^ low f in
    let L : 0 < l = pow_pos (low f) in
    let off : Off (grid f n l * l) (n * l) (l * 2 ^ k) = grid_off f k n l room L (mul-le-mul_right l h) in
    (le_of_mul-le-mul_right {k = l} (omega arith) L, le_of_mul-le-mul_right {k = l} (omega arith) L)
