-- Whether some pair is hit, by a scan of all pairs and by a sweep in the order of a key: laws over any key, stop and hit. Assumes nothing.
use mathlib.Core.Path.{◌≡◌, refl, sym, ap, subst, ◌∙◌}
use mathlib.Core.Bool.{Bool, true, false, ◌||◌}
use mathlib.Core.List.{List}
use Prim.Native.Nat.{ℕ, zero, suc, ◌+◌, ◌≤◌, ◌<◌, zero-le}
use native.Mathlib.Nat.{le_refl}
use native.Mathlib.Decide.{ℕ_discrete, dec_lt}
use native.Mathlib.Omega.{arith}
use lib.ListN.{get_or}
use Rattle.box_pairs.specs.Internal.{Positions, InOrder, Clear, Passed, at_slots}
use Rattle.box_pairs.specs.Internal.{any_below, any_pair}

-- ---- the definition

or_right : (a b : Bool) → b ≡ true → (a || b) ≡ true
or_right true b e = refl
or_right false b e = e

below-here : (P : ℕ → Bool) (n i : ℕ) → i < n → P i ≡ true → any_below P n ≡ true
unfolding any_below
below-here P zero i l e = absurd (omega arith)
below-here P (suc n) i l e =
    elim (ℕ_discrete i n) [
      | yes q ↦ let h : P n ≡ true = rw q at e in rw h
      | no ne ↦ or_right (P n) (any_below P n) (below-here P n i (omega arith) e)
    ]

below_none : (P : ℕ → Bool) (n : ℕ) → ((i : ℕ) → i < n → P i ≡ false) → any_below P n ≡ false
unfolding any_below
below_none P zero h = refl
below_none P (suc n) h = rw (h n (omega arith), below_none P n (λ i l. h i (omega arith)))

-- a pair that is hit
pub pair_here : (hit : ℕ → ℕ → Bool) (n i j : ℕ) → i < j → j < n → hit i j ≡ true → any_pair hit n ≡ true
unfolding any_pair
pair_here hit n i j ij jn e = below-here (λ j. any_below (λ i. hit i j) j) n j jn (below-here (λ i. hit i j) j i ij e)

-- no pair is hit
pub pair_none : (hit : ℕ → ℕ → Bool) (n : ℕ) → ((i j : ℕ) → i < j → j < n → hit i j ≡ false) → any_pair hit n ≡ false
unfolding any_pair
pair_none hit n h = below_none (λ j. any_below (λ i. hit i j) j) n (λ j jn. below_none (λ i. hit i j) j (λ i ij. h i j ij jn))

-- ---- two loops over the pairs of slots

-- the inner loop, at q
pub record Inner (g : ℕ → ℕ → Bool) (n p q : ℕ) : Type 0 where
  pub after : p < q
  pub inside : q ≤ n
  pub clear : Clear g p q

pub outer_start : (g : ℕ → ℕ → Bool) (n : ℕ) → Passed g n 0
outer_start g n = record { inside = zero-le; clear = λ p l. absurd (omega arith) }

pub inner_start : (g : ℕ → ℕ → Bool) (n p : ℕ) → p < n → Inner g n p (p + 1)
inner_start g n p l = record { after = omega arith; inside = omega arith; clear = λ q a b. absurd (omega arith) }

pub inner_next : (g : ℕ → ℕ → Bool) (n p q : ℕ) → q < n → Inner g n p q → g p q ≡ false → Inner g n p (q + 1)
inner_next g n p q l s e =
    record {
      after = omega (arith, s.after);
      inside = omega arith;
      clear = λ q' a b. elim (ℕ_discrete q' q) [ yes z ↦ rw z e | no ne ↦ s.clear q' a (omega arith) ];
    }

pub outer_next : (g : ℕ → ℕ → Bool) (n p : ℕ) → p < n → Passed g n p → Clear g p n → Passed g n (p + 1)
outer_next g n p l o c =
    record {
      inside = omega arith;
      clear = λ p' a. elim (ℕ_discrete p' p) [ yes z ↦ subst (λ (m : ℕ). Clear g m n) (sym z) c | no ne ↦ o.clear p' (omega arith) ];
    }

-- ---- the sweep: `stop i j` says that the positions from j on, by key, do not hit i

pub record Sweeps (k : ℕ → ℕ) (n : ℕ) (stop hit : ℕ → ℕ → Bool) : Type 0 where
  pub mirror : (i j : ℕ) → hit i j ≡ hit j i
  pub past : (i j l : ℕ) → i < n → j < n → l < n → k j ≤ k l → stop i j ≡ true → hit i l ≡ false

module _ (k : ℕ → ℕ) (n : ℕ) (stop hit : ℕ → ℕ → Bool) (w : Sweeps k n stop hit) (xs : List ℕ) (ps : Positions n xs)
    (so : InOrder k n xs) where
  -- a pair of slots that is hit is a pair of positions that is
  pub sweep_hit : (p q : ℕ) → p < q → q < n → at_slots hit xs p q ≡ true → any_pair hit n ≡ true
  sweep_hit p q pq qn e =
      let i = get_or xs p 0 in
      let j = get_or xs q 0 in
      let li : i < n = ps.below p (omega arith) in
      let lj : j < n = ps.below q qn in
      elim (dec_lt i j) [
        | yes l ↦ pair_here hit n i j l lj e
        | no nl ↦ elim (ℕ_discrete i j) [
          | yes z ↦ absurd (let same : p ≡ q = ps.once p q (omega arith) qn z in omega arith)
          | no ne ↦ pair_here hit n j i (omega arith) li (w.mirror j i ∙ e)
        ]
      ]

  -- where the sweep of slot p stops, the rest is clear
  pub sweep_stop : (p q : ℕ) → p < q → q < n → Clear (at_slots hit xs) p q → at_slots stop xs p q ≡ true → Clear (at_slots hit xs) p n
  sweep_stop p q pq qn c s q' l u =
      elim (dec_lt q' q) [
        | yes z ↦ c q' l z
        | no nz ↦ w.past (get_or xs p 0) (get_or xs q 0) (get_or xs q' 0) (ps.below p (omega arith)) (ps.below q qn) (ps.below q' u)
            (elim (ℕ_discrete q q') [ yes z ↦ rw z (le_refl _) | no ne ↦ so q q' (omega arith) u ]) s
      ]

  -- where all slots are passed, no pair is hit
  pub sweep_done : (p : ℕ) → n ≤ p → Passed (at_slots hit xs) n p → any_pair hit n ≡ false
  sweep_done p np o =
      pair_none hit n (λ i j ij jn.
      let a = ps.found i (omega arith) in
      let b = ps.found j jn in
      let no_slots : (s t : ℕ) → s < t → t < n → hit (get_or xs s 0) (get_or xs t 0) ≡ false = λ s t st tn. o.clear s (omega arith) t st tn in
      elim (dec_lt a.0 b.0) [
        | yes l ↦ rw (a.2, b.2) at (no_slots a.0 b.0 l b.1)
        | no nl ↦ elim (ℕ_discrete a.0 b.0) [
          | yes z ↦ absurd (let e : i ≡ j = sym a.2 ∙ (ap (λ (m : ℕ). get_or xs m 0) z ∙ b.2) in omega arith)
          | no ne ↦ w.mirror i j ∙ (rw (b.2, a.2) at (no_slots b.0 a.0 (omega arith) a.1))
        ]
      ])
