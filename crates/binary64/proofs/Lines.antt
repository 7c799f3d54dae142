-- One cut at a line, the line as a parameter: `low` says which side it keeps (specs/Interpolation.antt, `within`), c where it stands, k how
-- large the numbers may be.
-- What is kept and the crossing lie in the fixed coordinate exactly on the line's side, and in the free one in the old range, wider by 2 ^
-- (k + 1) units. Assumes nothing.
use mathlib.Core.Path.{◌≡◌}
use mathlib.Core.Logic.{inl, inr}
use mathlib.Core.Bool.{Bool, true, false, not}
use Prim.Native.Nat.{ℕ, suc, ◌+◌, ◌^◌, ◌≤◌}
use native.Mathlib.Nat.{le_refl, le_trans, le_of_lt}
use native.Mathlib.Omega.{arith}
use lib.Dec.{T}
use lib.Ieee.{Float, Format, prec}
use Rattle.binary64.specs.Interpolation.{within, interpolate}
use Rattle.binary64.specs.Scaled.{mag, above_zero, below_zero}
use Rattle.binary64.proofs.Value.{Le, Lt}
use Rattle.binary64.proofs.Value.{Number, mag-parts, Le-of-le, Lt-of-not-le}
use Rattle.binary64.proofs.Rounding.{Room}
use Rattle.binary64.proofs.Cut.{Small, Between, Range, In, widen, interpolate-in}

-- ---- one end in and the other out puts the line between them
in_out : {f : Format} {c va vb : Float} (low : Bool) → Number f c → Number f va → Number f vb → T (within low c va)
    → T (not (within low c vb)) → Between f va c vb
in_out {f} {c} {va} {vb} true hc ha hb i o =
    let a : Le f c va = Le-of-le hc ha i in
    let b : Lt f vb c = Lt-of-not-le hc hb o in
    inr (le_of_lt b, a, omega arith)
in_out {f} {c} {va} {vb} false hc ha hb i o =
    let a : Le f va c = Le-of-le ha hc i in
    let b : Lt f c vb = Lt-of-not-le hb hc o in
    inl (a, le_of_lt b, omega arith)

pub between : {f : Format} {c va vb : Float} (low i : Bool) → Number f c → Number f va → Number f vb → within low c va ≡ i
    → within low c vb ≡ not i → Between f va c vb
between low true hc ha hb p q = in_out low hc ha hb (rw p tt) (rw q tt)
between {f} {c} {va} {vb} low false hc ha hb p q = go (in_out low hc hb ha (rw q tt) (rw p tt))
  where
    go : Between f vb c va → Between f va c vb
    go (inl w) = inr w
    go (inr w) = inl w

-- ---- ranges
-- cut off at c
abbrev pub cut_at : Format → Bool → Float → Range → Range
cut_at f true c r = record { lp = above_zero f c; ln = below_zero f c; hp = r.hp; hn = r.hn }
cut_at f false c r = record { lp = r.lp; ln = r.ln; hp = above_zero f c; hn = below_zero f c }

-- what lies in r is at most g units in size
pub record Reach (g : ℕ) (r : Range) : Type 0 where
  pub low_end : r.ln ≤ g + r.lp
  pub high_end : r.hp ≤ g + r.hn

mag-le_reach : {f : Format} {g : ℕ} {r : Range} {x : Float} → Reach g r → In f r x → mag f x ≤ g
mag-le_reach {f} {x = x} h i = let a = mag-parts f x in omega arith

pub reach_cut_at : {g : ℕ} {r : Range} (f : Format) (low : Bool) (c : Float) → mag f c ≤ g → Reach g r → Reach g (cut_at f low c r)
reach_cut_at f true c l h = let a = mag-parts f c in omega arith
reach_cut_at f false c l h = let a = mag-parts f c in omega arith

pub reach_widen : {g : ℕ} {r : Range} (e : ℕ) → Reach g r → Reach (g + e) (widen e r)
reach_widen e h = omega arith

pub reach_mono : {g far : ℕ} {r : Range} → g ≤ far → Reach g r → Reach far r
reach_mono l h = omega arith

kept_in : {f : Format} {c v : Float} {r : Range} (low : Bool) → Number f c → In f r v → T (within low c v) → In f (cut_at f low c r) v
kept_in true hc h i = record { number = h.number; not-below = Le-of-le hc h.number i; not-above = h.not-above }
kept_in false hc h i = record { number = h.number; not-below = h.not-below; not-above = Le-of-le h.number hc i }

between_in : {f : Format} {c va vb : Float} {r : Range} → Number f c → In f r va → In f r vb → Between f va c vb → In f r c
between_in hc ha hb (inl w) = record { number = hc; not-below = omega arith; not-above = omega arith }
between_in hc ha hb (inr w) = record { number = hc; not-below = omega arith; not-above = omega arith }

line-in : {f : Format} {c : Float} {r : Range} (low : Bool) → In f r c → In f (cut_at f low c r) c
line-in {f} {c} true h = record { number = h.number; not-below = le_refl (above_zero f c + below_zero f c); not-above = h.not-above }
line-in {f} {c} false h = record { number = h.number; not-below = h.not-below; not-above = le_refl (above_zero f c + below_zero f c) }

widen_in : {f : Format} {x : Float} {r : Range} (e : ℕ) → In f r x → In f (widen e r) x
widen_in e h = record { number = h.number; not-below = omega arith; not-above = omega arith }

-- ---- one cut
-- the line at c can cut what lies in v in the fixed coordinate and in u in the free one: nothing here is above g units, and that is at most
-- 2 ^ (prec + k)
pub record Cuttable (f : Format) (k g : ℕ) (c : Float) (v u : Range) : Type 0 where
  pub room : Room f k
  pub reach : g ≤ 2 ^ (prec f + k)
  pub line : Number f c
  pub line-le : mag f c ≤ g
  pub fixed : Reach g v
  pub free : Reach g u

-- where a vertex lies after the cut, x being its fixed coordinate and y its free one
pub record After (f : Format) (k : ℕ) (low : Bool) (c : Float) (v u : Range) (x y : Float) : Type 0 where
  pub fixed : In f (cut_at f low c v) x
  pub free : In f (widen (2 ^ suc k) u) y

pub kept : {f : Format} {k g : ℕ} {c : Float} {v u : Range} {x y : Float} (low : Bool) → Cuttable f k g c v u → In f v x → In f u y
    → T (within low c x) → After f k low c v u x y
kept {k = k} low h hx hy i = record { fixed = kept_in low h.line hx i; free = widen_in (2 ^ suc k) hy }

-- one end is in where i is true, and the other where it is not
pub crossed : {f : Format} {k g : ℕ} {c : Float} {v u : Range} {va vb ua ub : Float} (low i : Bool) → Cuttable f k g c v u → In f v va
    → In f v vb → In f u ua → In f u ub
    → within low c va ≡ i → within low c vb ≡ not i → After f k low c v u c (interpolate f c va vb ua ub)
crossed {f} {k} {g} {c} {v} {u} {va} {vb} low i h hva hvb hua hub p q =
    let w : Between f va c vb = between low i h.line hva.number hvb.number p q in
    record {
      fixed = line-in low (between_in h.line hva hvb w);
      free = interpolate-in h.room (record { number = h.line; size = le_trans h.line-le h.reach })
          (small h.fixed hva) (small h.fixed hvb) (small h.free hua) (small h.free hub) w hua hub;
    }
  where
    small : {r : Range} {x : Float} → Reach g r → In f r x → Small f k x
    small a b = record { number = b.number; size = le_trans (mag-le_reach a b) h.reach }
