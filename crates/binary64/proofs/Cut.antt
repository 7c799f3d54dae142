-- One cut: `interpolate` leaves no range that both ends lie in by more than 2 ^ (k + 1) units, where the ends and the line are at most 2 ^
-- (prec + k) units in size.
-- For a double and k = 1030: at most 512, at most 1 / 2 ^ 43. Of the line it asks only that it lies between the ends. Assumes nothing.
use mathlib.Core.Path.{◌≡◌, ap, ◌∙◌}
use mathlib.Core.Logic.{◌⊎◌, inl, inr}
use Prim.Native.Nat.{ℕ, suc, ◌+◌, ◌-◌, ◌^◌, ◌≤◌, ◌<◌}
use native.Mathlib.Nat.{le_trans, le_of_eq, eq-zero-or-pos, two-pow-succ, add-suc}
use native.Mathlib.Omega.{arith}
use lib.Pow.{pow_mono}
use lib.Ieee.{Float, Format, prec, add, sub, mul, div}
use lib.Ieee.Scale.{overflow}
use Rattle.binary64.specs.Interpolation.{interpolate}
use Rattle.binary64.specs.Scaled.{mag, above_zero, below_zero}
use Rattle.binary64.specs.ExactCrossing.{distance, units_apart}
use Rattle.binary64.proofs.Value.{Le, Lt}
use Rattle.binary64.proofs.Value.{Number, mag-whole, mag-parts}
use Rattle.binary64.proofs.Rounding.{rnd, rnd_zero, rnd_mono, rnd_small, rnd_pos, Off, Room, rnd_off}
use Rattle.binary64.proofs.Arithmetic.{Rounded, add_rounded, sub_rounded, AtMost, Ratio, Inside, PartOf, div_ratio, mul_shrinks}

-- a number of the format, at most 2 ^ (prec + k) units in size
pub record Small (f : Format) (k : ℕ) (x : Float) : Type 0 where
  pub number : Number f x
  pub size : mag f x ≤ 2 ^ (prec f + k)

twice : (f : Format) (k : ℕ) → 2 ^ (prec f + suc k) ≡ 2 ^ (prec f + k) + 2 ^ (prec f + k)
twice f k = ap (λ (x : ℕ). 2 ^ x) (add-suc (prec f) k) ∙ two-pow-succ (prec f + k)

parts-le : {f : Format} {k : ℕ} {x : Float} → Small f k x → (above_zero f x ≤ 2 ^ (prec f + k)) × (below_zero f x ≤ 2 ^ (prec f + k))
parts-le {f} {x = x} h = let a = mag-parts f x in omega arith

-- ---- differences
pub apart-le : {f : Format} {k : ℕ} {x y : Float} → Small f k x → Small f k y → units_apart f x y ≤ 2 ^ (prec f + suc k)
apart-le {f} {k} hx hy =
    let a = parts-le hx in
    let b = parts-le hy in
    rw (twice f k) (omega arith)

pub sub_small : {f : Format} {k : ℕ} {x y : Float} → Room f k → Small f k x → Small f k y
    → Rounded f (sub f x y) (above_zero f x + below_zero f y) (below_zero f x + above_zero f y)
sub_small {f} r hx hy = sub_rounded hx.number hy.number (rnd_small f (apart-le hx hy) r)

-- ---- the line lies between the ends, from the lower to the higher or the other way, and the ends differ
abbrev pub Upward : Format → Float → Float → Float → Type 0
Upward f a c b = Le f a c × Le f c b × Lt f a b

abbrev pub Between : Format → Float → Float → Float → Type 0
Between f a c b = Upward f a c b ⊎ Upward f b c a

pub rnd_of-zero : (f : Format) (n : ℕ) → n ≡ 0 → rnd f n ≡ 0
rnd_of-zero f n e = ap (rnd f) e ∙ rnd_zero f

-- p - q lies from 0 to r - s, and so do the two when rounded
inside-of_rounded : {px nx py ny : ℕ} (f : Format) (p q r s : ℕ) → px ≡ rnd f (p - q) → nx ≡ rnd f (q - p) → py ≡ rnd f (r - s)
    → ny ≡ rnd f (s - r)
    → py < overflow f → q ≤ p → s < r → p + s ≤ r + q → Inside px nx py ny
inside-of_rounded f p q r s a b c d o u v w =
    let small : rnd f (r - s) < overflow f = rw c at o in (
      b ∙ rnd_of-zero f (q - p) (omega arith),
      d ∙ rnd_of-zero f (s - r) (omega arith),
      rw (a, c) (rnd_mono f (p - q) (r - s) (omega arith) small),
      rw c (rnd_pos f (r - s) (omega arith) small),
    )

-- so the two differences that t is the quotient of, rounded, are on one side of zero, and the divisor is no nearer to it
pub part_of : {f : Format} {k : ℕ} {c va vb : Float} → Room f k → Small f k c → Small f k va → Small f k vb → Between f va c vb
    → PartOf f (sub f c va) (sub f vb va)
part_of {f} {k} {c} {va} {vb} r hc ha hb w = go w
  where
    x : Rounded f (sub f c va) (above_zero f c + below_zero f va) (below_zero f c + above_zero f va)
    x = sub_small r hc ha

    y : Rounded f (sub f vb va) (above_zero f vb + below_zero f va) (below_zero f vb + above_zero f va)
    y = sub_small r hb ha

    small : (above_zero f (sub f vb va) < overflow f) × (below_zero f (sub f vb va) < overflow f)
    small =
        let a = mag-parts f (sub f vb va) in
        let b = (mag-whole y.number).1.small in
        omega arith

    go : Between f va c vb → PartOf f (sub f c va) (sub f vb va)
    go (inl b) =
        inl (inside-of_rounded f (above_zero f c + below_zero f va) (below_zero f c + above_zero f va) (above_zero f vb + below_zero f va)
        (below_zero f vb + above_zero f va) x.plus-is x.minus_is y.plus-is y.minus_is small.0
        (omega arith) (omega arith) (omega arith))
    go (inr b) =
        inr (inside-of_rounded f (below_zero f c + above_zero f va) (above_zero f c + below_zero f va) (below_zero f vb + above_zero f va)
        (above_zero f vb + below_zero f va) x.minus_is x.plus-is y.minus_is y.plus-is small.1
        (omega arith) (omega arith) (omega arith))

-- and t is from 0 to 1
pub ratio : {f : Format} {k : ℕ} {c va vb : Float} → Room f k → Small f k c → Small f k va → Small f k vb → Between f va c vb
    → Ratio f (div f (sub f c va) (sub f vb va))
ratio r hc ha hb w = div_ratio (sub_small r hc ha).number (sub_small r hb ha).number (part_of r hc ha hb w)

-- ---- ranges of whole numbers, from lp - ln to hp - hn
pub record Range : Type 0 where
  pub lp : ℕ
  pub ln : ℕ
  pub hp : ℕ
  pub hn : ℕ

-- a number of the format that lies in the range
pub record In (f : Format) (r : Range) (x : Float) : Type 0 where
  pub number : Number f x
  pub not-below : r.lp + below_zero f x ≤ above_zero f x + r.ln
  pub not-above : above_zero f x + r.hn ≤ r.hp + below_zero f x

-- wider by e at both ends
abbrev pub widen : ℕ → Range → Range
widen e r = record { lp = r.lp; ln = r.ln + e; hp = r.hp + e; hn = r.hn }

-- ---- the cut
rounded_off : {f : Format} {z : Float} (k p n : ℕ) → Room f k → Rounded f z p n → distance p n ≤ 2 ^ (prec f + suc k)
    → Off (above_zero f z + n) (p + below_zero f z) (2 ^ k)
rounded_off {f} {z} k p n room h l =
    let u = h.plus-is in
    let v = h.minus_is in
    let a = rnd_off f k (p - n) room (omega arith) in
    let b = rnd_off f k (n - p) room (omega arith) in
    elim (eq-zero-or-pos (p - n)) [
      | inl d ↦ let e = rnd_of-zero f (p - n) d in omega arith
      | inr d ↦ let e = rnd_of-zero f (n - p) (omega arith) in omega arith
    ]

-- from pa - na, at most as far towards pb - nb as that is, and e: no further than the two, and e
moved_le : (pa na pb nb pp np e w : ℕ) → (pa ≤ w) × (na ≤ w) → (pb ≤ w) × (nb ≤ w) → pp ≤ pb + na - (nb + pa) + e
    → np ≤ nb + pa - (pb + na) + e → e ≤ w → distance (pa + pp) (na + np) ≤ w + w
moved_le pa na pb nb pp np e w a b p n l = omega arith

-- The second half of a cut, for any t from 0 to 1: p is t times (ub - ua), and u is ua and p. On either side of zero p goes no further
-- than ub - ua, but for 2 ^ k units, and u is the sum, but for 2 ^ k units.
pub record Mixed (f : Format) (k : ℕ) (ua ub p u : Float) : Type 0 where
  pub number : Number f u
  pub plus-le : above_zero f p ≤ above_zero f ub + below_zero f ua - (below_zero f ub + above_zero f ua) + 2 ^ k
  pub minus-le : below_zero f p ≤ below_zero f ub + above_zero f ua - (above_zero f ub + below_zero f ua) + 2 ^ k
  pub sum : Off (above_zero f u + (below_zero f ua + below_zero f p)) (above_zero f ua + above_zero f p + below_zero f u) (2 ^ k)

pub mixed : {f : Format} {k : ℕ} {t ua ub : Float} → Room f k → Ratio f t → Small f k ua → Small f k ub
    → Mixed f k ua ub (mul f t (sub f ub ua)) (add f ua (mul f t (sub f ub ua)))
mixed {f} {k} {t} {ua} {ub} room ht ha hb =
    let d = sub f ub ua in
    let hd : Rounded f d (above_zero f ub + below_zero f ua) (below_zero f ub + above_zero f ua) = sub_small room hb ha in
    let p = mul f t d in
    let hp : AtMost f p (above_zero f d) (below_zero f d) = mul_shrinks ht hd.number in
    let l = apart-le hb ha in
    let d1 = rnd_off f k (above_zero f ub + below_zero f ua - (below_zero f ub + above_zero f ua)) room (omega arith) in
    let d2 = rnd_off f k (below_zero f ub + above_zero f ua - (above_zero f ub + below_zero f ua)) room (omega arith) in
    let p1 : above_zero f p ≤ above_zero f ub + below_zero f ua - (below_zero f ub + above_zero f ua) + 2 ^ k = le_trans hp.plus-le
    (le_trans (le_of_eq hd.plus-is) d1.0) in
    let p2 : below_zero f p ≤ below_zero f ub + above_zero f ua - (above_zero f ub + below_zero f ua) + 2 ^ k = le_trans hp.minus-le
    (le_trans (le_of_eq hd.minus_is) d2.0) in
    let sum-le : distance (above_zero f ua + above_zero f p) (below_zero f ua + below_zero f p) ≤ 2 ^ (prec f + suc k) =
    rw (twice f k) (moved_le (above_zero f ua) (below_zero f ua) (above_zero f ub) (below_zero f ub) (above_zero f p) (below_zero f p) (2 ^ k)
    (2 ^ (prec f + k)) (parts-le ha) (parts-le hb) p1 p2 (pow_mono (omega arith))) in
    let hu : Rounded f (add f ua p) (above_zero f ua + above_zero f p) (below_zero f ua + below_zero f p) = add_rounded ha.number
    hp.number (rnd_small f sum-le room) in
    record {
      number = hu.number;
      plus-le = p1;
      minus-le = p2;
      sum = rounded_off k (above_zero f ua + above_zero f p) (below_zero f ua + below_zero f p) room hu sum-le;
    }

mixed_in : {f : Format} {k : ℕ} {ua ub p u : Float} {r : Range} → Mixed f k ua ub p u → In f r ua → In f r ub → In f (widen (2 ^ suc k) r) u
mixed_in {k = k} m ia ib =
    let p1 = m.plus-le in
    let p2 = m.minus-le in
    let s = m.sum in
    let e = two-pow-succ k in
    record { number = m.number; not-below = omega arith; not-above = omega arith }

-- the law of one cut
pub interpolate-in : {f : Format} {k : ℕ} {c va vb ua ub : Float} {r : Range} → Room f k → Small f k c → Small f k va → Small f k vb
    → Small f k ua → Small f k ub
    → Between f va c vb → In f r ua → In f r ub → In f (widen (2 ^ suc k) r) (interpolate f c va vb ua ub)
unfolding interpolate
interpolate-in room hc hva hvb hua hub w = mixed_in (mixed room (ratio room hc hva hvb w) hua hub)
