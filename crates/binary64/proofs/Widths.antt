-- Numbers as bytes, for every width: a number of j + k bytes is one of j bytes and one of k bytes above it. Assumes nothing.
use mathlib.Core.Path.{◌≡◌, refl, ap}
use mathlib.Core.List.{List, [], ◌∷◌, ◌++◌, reverse-reverse}
use Prim.Native.Nat.{ℕ, zero, suc, ◌+◌, ◌*◌, ◌/◌, ◌^◌, ◌≤◌, ◌<◌}
use native.Mathlib.Nat.{zero-add, add-zero, suc-add, add-suc, pow-suc, pow-succ', div-one, mod-add-div, div-div-eq-div-mul}
use native.Mathlib.Nat.{div-lt_iff_lt-mul}
use native.Mathlib.Numerals.{add-one}
use native.Mathlib.Omega.{arith}
use lib.Dec.{T, lit<}
use lib.Ieee.{Float, nan, binary64, fits, to_bits}
use lib.Ieee.Bits.{of_bits-to_bits, to_bits-lt}
use Rattle.std.proofs.Math.Pow.{pow_mono}
use Rattle.std.proofs.Common.{◌%◌, pow-add, mul_assoc, mul_comm, mul-le-mul_right}
use Rattle.std.proofs.Math.Nat.{mod-eq_of_lt}
use lib.ListN.{length, take, drop, get_or, set, length-drop}
use lib.Seq.{sets, drop-cons, take-suc, length-take-le, get_or-drop}
use Rattle.binary64.specs.Bytes.{Order, Little, Big, from_low, to_low, number_of, bytes_of, double, double_bytes}

-- ---- reading

-- the i lowest bytes of a number at `at`
pub record Reading (l : List ℕ) (at i n : ℕ) : Type 0 where
  pub here : n ≡ from_low (take i (drop at l))
  pub below : n < 2 ^ (8 * i)

pub read_start : (l : List ℕ) (at : ℕ) → Reading l at 0 0
unfolding from_low
read_start l at = record { here = refl; below = omega arith }

from_low-append : (a : List ℕ) (x : ℕ) → from_low (a ++ (x ∷ [])) ≡ from_low a + 2 ^ (8 * length a) * x
unfolding from_low
from_low-append [] x = omega arith
from_low-append (y ∷ a) x =
    let e : 8 * suc (length a) ≡ 8 + 8 * length a = omega arith in
    rw (e, pow-add 2 8 (8 * length a)) (omega (arith, from_low-append a x, mul_assoc (2 ^ 8) (2 ^ (8 * length a)) x))

-- one byte more, and the number fits
pub read_step : (l : List ℕ) (at i n : ℕ) → at + i < length l → get_or l (at + i) 0 < 256 → Reading l at i n
    → Reading l at (i + 1) (n + get_or l (at + i) 0 * 2 ^ (8 * i))
read_step l at i n room byte r =
    let x = get_or l (at + i) 0 in
    let h : i < length (drop at l) = omega (arith, length-drop at l) in
    let m : length (take i (drop at l)) ≡ i = length-take-le i (drop at l) (omega arith) in
    let t : take (i + 1) (drop at l) ≡ take i (drop at l) ++ (x ∷ []) = rw (add-one, ← get_or-drop at l i 0) (take-suc (drop at l) i 0 h) in
    let a = from_low-append (take i (drop at l)) x in
    record {
      here = rw (t, a, m, ← r.here, mul_comm x (2 ^ (8 * i))) refl;
      below =
          let e : 8 * (i + 1) ≡ 8 + 8 * i = omega arith in
          let q : x * 2 ^ (8 * i) ≤ 255 * 2 ^ (8 * i) = mul-le-mul_right (2 ^ (8 * i)) (omega arith) in
          rw (e, pow-add 2 8 (8 * i)) (omega (arith, r.below));
    }

-- a byte that is shifted keeps its bits
pub shifted : (x i : ℕ) → x < 256 → i < 8 → x * 2 ^ (8 * i) % 2 ^ 64 ≡ x * 2 ^ (8 * i)
shifted x i byte few =
    let p : 2 ^ (8 * i) ≤ 2 ^ 56 = pow_mono {i = 8 * i} {j = 56} (omega arith) in
    let q : x * 2 ^ (8 * i) ≤ 255 * 2 ^ (8 * i) = mul-le-mul_right (2 ^ (8 * i)) (omega arith) in
    mod-eq_of_lt (omega arith)

-- with one byte more it is below 2^64
pub read_fits : (l : List ℕ) (at i n x : ℕ) → x < 256 → i < 8 → Reading l at i n → n + x * 2 ^ (8 * i) < 2 ^ 64
read_fits l at i n x byte few r =
    let p : 2 ^ (8 * i) ≤ 2 ^ 56 = pow_mono {i = 8 * i} {j = 56} (omega arith) in
    let q : x * 2 ^ (8 * i) ≤ 255 * 2 ^ (8 * i) = mul-le-mul_right (2 ^ (8 * i)) (omega arith) in
    omega (arith, r.below)

-- ---- writing

length-to_low : (k n : ℕ) → length (to_low k n) ≡ k
unfolding to_low
length-to_low zero n = refl
length-to_low (suc k) n = ap suc (length-to_low k (n / 256))

to_low_joined : (j k n : ℕ) → to_low (j + k) n ≡ to_low j n ++ to_low k (n / 256 ^ j)
unfolding to_low
to_low_joined zero k n = rw (zero-add, div-one)
to_low_joined (suc j) k n = rw (suc-add, pow-succ' 256 j, ← div-div-eq-div-mul n 256 (256 ^ j), to_low_joined j k (n / 256))

sets_joined : (l : List ℕ) (i : ℕ) (a b : List ℕ) → sets (sets l i a) (i + length a) b ≡ sets l i (a ++ b)
sets_joined l i [] b = rw add-zero
sets_joined l i (x ∷ a) b = rw (add-suc, ← suc-add) (sets_joined (set l i x) (suc i) a b)

-- a number written as its j lowest bytes and then the k above them
pub written_joined : (l d r : List ℕ) (i j k n : ℕ) → d ≡ sets l i (to_low j n) → r ≡ sets d (i + j) (to_low k (n / 256 ^ j))
    → r ≡ sets l i (to_low (j + k) n)
written_joined l d r i j k n p q =
    let e : sets (sets l i (to_low j n)) (i + j) (to_low k (n / 256 ^ j)) ≡ sets l i (to_low j n ++ to_low k (n / 256 ^ j)) =
    rw (length-to_low j n) at (sets_joined l i (to_low j n) (to_low k (n / 256 ^ j))) in
    rw (to_low_joined j k n, ← e, ← p) q

-- the lowest i bytes of n are written, and `rest` is what is left of it
pub record Writing (l : List ℕ) (at n i rest : ℕ) (r : List ℕ) : Type 0 where
  pub here : r ≡ sets l at (to_low i n)
  pub left : rest ≡ n / 256 ^ i

pub write_start : (l : List ℕ) (at n : ℕ) → Writing l at n 0 n l
unfolding to_low
write_start l at n = record { here = refl; left = rw (div-one n) }

pub write_step : (l : List ℕ) (at n i rest : ℕ) (r : List ℕ) → Writing l at n i rest r
    → Writing l at n (i + 1) (rest / 256) (set r (at + i) (rest % 256))
unfolding to_low
write_step l at n i rest r w = record {
  here = written_joined l r (set r (at + i) (rest % 256)) at i 1 n w.here (rw w.left);
  left = rw (w.left, div-div-eq-div-mul n (256 ^ i) 256, add-one i, pow-suc 256 i);
}

-- ---- and back

from_low-to_low : (k n : ℕ) → n < 256 ^ k → from_low (to_low k n) ≡ n
unfolding from_low to_low
from_low-to_low zero n h = omega arith
from_low-to_low (suc k) n h = rw (from_low-to_low k (n / 256) ((div-lt_iff_lt-mul (lit< tt)).1 (rw pow-suc at h))) (mod-add-div n 256)

pub number-bytes : (o : Order) (k n : ℕ) → n < 256 ^ k → number_of o (bytes_of o k n) ≡ n
number-bytes Little k n h = from_low-to_low k n h
number-bytes Big k n h = rw reverse-reverse (from_low-to_low k n h)

pub double-double_bytes : (o : Order) (x : Float) → T (fits binary64 x) → double o (double_bytes o x) ≡ x
double-double_bytes o x h = rw (number-bytes o 8 (to_bits binary64 x) (to_bits-lt binary64 x h)) (of_bits-to_bits binary64 x h)

-- "NaN is written with bits 7ff8000000000000", the lowest byte first
pub nan_bytes : double_bytes Little nan ≡ 0 ∷ 0 ∷ 0 ∷ 0 ∷ 0 ∷ 0 ∷ 0xf8 ∷ 0x7f ∷ []
unfolding to_low to_bits
nan_bytes = refl
