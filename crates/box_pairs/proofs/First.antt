-- The first pair that is hit, lower number first: what it is, that it is one exactly where some pair is hit, and that a sweep that keeps
-- the least number ends with it. Assumes nothing.
use mathlib.Core.Path.{◌≡◌, refl, sym, ap, ap₂, subst, ◌∙◌}
use mathlib.Core.Logic.{inl, inr, ⊎_elim}
use mathlib.Core.Bool.{Bool, true, false, cond, ◌&&◌}
use mathlib.Mathlib.Data.Bool.Basic.{eq-false_of_not-eq-true}
use mathlib.Core.List.{List}
use Prim.Native.Nat.{ℕ, zero, suc, ◌+◌, ◌*◌, ◌/◌, ◌%◌, ◌≤◌, ◌<◌, ◌^◌, zero-le}
use native.Mathlib.Nat.{le_refl}
use native.Mathlib.Decide.{ℕ_discrete, dec_lt}
use native.Mathlib.Omega.{arith}
use borrow.Author.Tests.{lt-ltb, le-ltb, ltb-true, ltb-false, eq-eqb, ne_eqb}
use lib.Dec.{ltb}
use lib.ListN.{get_or}
use Rattle.binary64.proofs.Booleans.{never_both}
use Rattle.box_pairs.specs.declared.pairs.Pair.{Pair}
use Rattle.std.specs.Prelude.{Option, Some, None}
use Rattle.box_pairs.specs.Internal.{Positions, InOrder, Clear, Passed, at_slots}
use Rattle.box_pairs.specs.Internal.{pair_number, no_pair, pair_of, Held, NotBelow, LeastBefore}
use Rattle.box_pairs.specs.Internal.{any_pair}
use Rattle.box_pairs.specs.Pairs.{first_in_row, or_else, first_from}
use Rattle.box_pairs.proofs.Sweep.{Sweeps, pair_here, pair_none}

-- the pair of i and j
abbrev pub At : ℕ → ℕ → Option Pair
At i j = Some (record { lower = i; higher = j })

-- ---- what the definition gives

-- a pair is the first that is hit among those of i with the m numbers from j on
unfoldable RowFirst : (ℕ → ℕ → Bool) → ℕ → ℕ → ℕ → Option Pair → Type 0
RowFirst hit i j m None = (q : ℕ) → j ≤ q → q < j + m → hit i q ≡ false
RowFirst hit i j m (Some x) =
    (x.lower ≡ i) × (j ≤ x.higher) × (x.higher < j + m) × (hit i x.higher ≡ true) × ((q : ℕ) → j ≤ q → q < x.higher → hit i q ≡ false)

row_first : (hit : ℕ → ℕ → Bool) (i j m : ℕ) → RowFirst hit i j m (first_in_row hit i j m)
unfolding first_in_row RowFirst
row_first hit i j zero = λ q a b. absurd (omega arith)
row_first hit i j (suc m) = go (hit i j) refl (row_first hit i (suc j) m)
  where
    later : (x : Option Pair) → hit i j ≡ false → RowFirst hit i (suc j) m x → RowFirst hit i j (suc m) x
    later None e h = λ q a b. elim (ℕ_discrete q j) [ yes z ↦ rw z e | no ne ↦ h q (omega arith) (omega arith) ]
    later (Some x) e h = (
      h.0,
      omega (arith, h.1),
      omega (arith, h.2),
      h.3,
      λ q a b. elim (ℕ_discrete q j)
          [ yes z ↦ rw z e | no ne ↦ h.4 q (omega arith) b ],
    )

    go : (t : Bool) → hit i j ≡ t → RowFirst hit i (suc j) m (first_in_row hit i (suc j) m) → RowFirst hit i j (suc m)
        (cond (hit i j) (At i j) (first_in_row hit i (suc j) m))
    go true e h = rw e (refl, le_refl j, omega arith, e, λ q a b. absurd (omega arith))
    go false e h = rw e (later (first_in_row hit i (suc j) m) e h)

-- a pair is the first that is hit among those of the n numbers from a on: it is hit, no lower number has a hit, and its own has none with a
-- number between
unfoldable pub First : (ℕ → ℕ → Bool) → ℕ → ℕ → Option Pair → Type 0
First hit a n None = (p : ℕ) → a ≤ p → Clear hit p (a + n)
First hit a n (Some x) = (a ≤ x.lower) × (x.lower < x.higher) × (x.higher < a + n) × (hit x.lower x.higher ≡ true)
    × ((p : ℕ) → a ≤ p → p < x.lower → Clear hit p (a + n)) × Clear hit x.lower x.higher

pub first_from_lem : (hit : ℕ → ℕ → Bool) (a n : ℕ) → First hit a n (first_from hit a n)
unfolding first_from First RowFirst
first_from_lem hit a zero = λ p l q u v. absurd (omega arith)
first_from_lem hit a (suc n) = go (first_in_row hit a (suc a) n) (row_first hit a (suc a) n) (first_from_lem hit (suc a) n)
  where
    later : (x : Option Pair) → Clear hit a (a + suc n) → First hit (suc a) n x → First hit a (suc n) x
    later None c h = λ p l q u v. elim (ℕ_discrete p a) [ yes z ↦ rw z (c q (omega arith) v) | no ne ↦ h p (omega arith) q u (omega arith) ]
    later (Some x) c h = (
      omega (arith, h.0),
      h.1,
      omega (arith, h.2),
      h.3,
      λ p l r q u v. elim (ℕ_discrete p a) [ yes z ↦ rw z (c q (omega arith) v) | no ne ↦ h.4 p (omega arith) r q u (omega arith) ],
      h.5,
    )

    go : (x : Option Pair) → RowFirst hit a (suc a) n x → First hit (suc a) n (first_from hit (suc a) n) → First hit a (suc n)
        (or_else x (first_from hit (suc a) n))
    go None h g = later (first_from hit (suc a) n) (λ q u v. h q (omega arith) (omega arith)) g
    go (Some x) h g = rw h.0 (
      le_refl a,
      omega (arith, h.1),
      omega (arith, h.2),
      h.3,
      λ p l r q u v. absurd (omega arith),
      λ q u v. h.4 q (omega arith) v,
    )

-- there is one first pair
pub first_unique : (hit : ℕ → ℕ → Bool) (n : ℕ) (x y : Option Pair) → First hit 0 n x → First hit 0 n y → x ≡ y
unfolding First
first_unique hit n None None f g = refl
first_unique hit n None (Some y) f g = absurd (never_both g.3 (f y.lower zero-le y.higher g.1 g.2))
first_unique hit n (Some x) None f g = absurd (never_both f.3 (g x.lower zero-le x.higher f.1 f.2))
first_unique hit n (Some x) (Some y) f g =
    let i = x.lower in
    let j = x.higher in
    let k = y.lower in
    let l = y.higher in
    elim (ℕ_discrete i k) [
      | no ne ↦ elim (dec_lt i k) [
        | yes u ↦ absurd (never_both f.3 (g.4 i zero-le u j f.1 f.2))
        | no v ↦ absurd (never_both g.3 (f.4 k zero-le (omega arith) l g.1 g.2))
      ]
      | yes z ↦ elim (ℕ_discrete j l) [
        | yes w ↦ ap₂ At z w
        | no ne ↦ elim (dec_lt j l) [
          | yes u ↦ absurd (never_both f.3 (rw (← z) at (g.5 j (omega (arith, f.1)) u)))
          | no v ↦ absurd (never_both g.3 (rw z at (f.5 l (omega (arith, g.1)) (omega arith))))
        ]
      ]
    ]

pub first-is : (hit : ℕ → ℕ → Bool) (n : ℕ) (x : Option Pair) → First hit 0 n x → x ≡ first_from hit 0 n
first-is hit n x f = first_unique hit n x (first_from hit 0 n) f (first_from_lem hit 0 n)

abbrev pub is_pair : Option Pair → Bool
is_pair None = false
is_pair (Some x) = true

-- there is a first pair exactly where some pair is hit
pub first_verdict : (hit : ℕ → ℕ → Bool) (n : ℕ) → is_pair (first_from hit 0 n) ≡ any_pair hit n
unfolding First
first_verdict hit n = go (first_from hit 0 n) (first_from_lem hit 0 n)
  where
    go : (x : Option Pair) → First hit 0 n x → is_pair x ≡ any_pair hit n
    go None f = sym (pair_none hit n (λ i j ij jn. f i zero-le j ij (omega arith)))
    go (Some x) f = sym (pair_here hit n x.lower x.higher f.1 (omega (arith, f.2)) f.3)

-- ---- the scan: where it stops

pub scan-none : (hit : ℕ → ℕ → Bool) (n : ℕ) → ((p : ℕ) → p < n → Clear hit p n) → None ≡ first_from hit 0 n
unfolding First
scan-none hit n c = first-is hit n None (λ p l q u v. c p (omega arith) q u (omega arith))

pub scan-here : (hit : ℕ → ℕ → Bool) (n i j : ℕ) → i < j → j < n → ((p : ℕ) → p < i → Clear hit p n) → Clear hit i j → hit i j ≡ true → At i
    j ≡ first_from hit 0 n
unfolding First
scan-here hit n i j ij jn c d e = first-is hit n (At i j) (zero-le, ij, omega arith, e, λ p l r q u v. c p r q u (omega arith), d)

-- ---- pairs as numbers

pub number_up : (i j : ℕ) → i < j → pair_number i j ≡ 2 ^ 32 * i + j
unfolding pair_number
number_up i j l = rw (lt-ltb i j l)

pub number_down : (i j : ℕ) → j ≤ i → pair_number i j ≡ 2 ^ 32 * j + i
unfolding pair_number
number_down i j l = rw (le-ltb i j l)

number_mirror : (i j : ℕ) → i < j → pair_number j i ≡ pair_number i j
number_mirror i j l = number_down j i (omega arith) ∙ sym (number_up i j l)

-- a number that is held, and is at most that of each pair hit, is the first pair's
pub held_first : (hit : ℕ → ℕ → Bool) (n m : ℕ) → n < 2 ^ 32 → Held hit n m →
    ((i j : ℕ) → i < j → j < n → hit i j ≡ true → m ≤ 2 ^ 32 * i + j) → pair_of m ≡ first_from hit 0 n
unfolding pair_of First
held_first hit n m small h least = ⊎_elim none some h
  where
    none : m ≡ no_pair → pair_of m ≡ first_from hit 0 n
    none e = rw (eq-eqb m no_pair e) (scan-none hit n (λ p l q u v. eq-false_of_not-eq-true (λ t. omega (arith, least p q u v t))))

    some : ((i : ℕ) × (j : ℕ) × (i < j) × (j < n) × (hit i j ≡ true) × (m ≡ 2 ^ 32 * i + j)) → pair_of m ≡ first_from hit 0 n
    some w =
        let i = w.0 in
        let j = w.1 in
        let ne : m ≡ no_pair → ⊥ = λ e. omega (arith, w.2, w.3, w.5) in
        let hi : m / 2 ^ 32 ≡ i = omega (arith, w.2, w.3, w.5) in
        let lo : m % 2 ^ 32 ≡ j = omega (arith, w.2, w.3, w.5) in
        rw (ne_eqb m no_pair ne, hi, lo)
        (scan-here hit n i j w.2 w.3
        (λ p l q u v. eq-false_of_not-eq-true (λ t. omega (arith, least p q u v t, w.5, w.2, w.3)))
        (λ q u v. eq-false_of_not-eq-true (λ t. omega (arith, w.3, least i q u (omega (arith, w.3)) t, w.5)))
        w.4)

-- ---- the sweep that keeps the least number of the pairs passed

-- the inner loop, at q
pub record Row (hit : ℕ → ℕ → Bool) (xs : List ℕ) (n p q m : ℕ) : Type 0 where
  pub after : p < q
  pub inside : q ≤ n
  pub held : Held hit n m
  pub rows : (p' : ℕ) → p' < p → NotBelow hit xs m p' n
  pub row : NotBelow hit xs m p q

-- where the slots before p are passed, no number is kept yet
pub rows_start : (hit : ℕ → ℕ → Bool) (xs : List ℕ) (n p : ℕ) → Passed (at_slots hit xs) n p → LeastBefore hit xs n p no_pair
rows_start hit xs n p o =
    record { inside = o.inside; held = inl refl; rows = λ p' l q u v t. absurd (never_both t (o.clear p' l q u v)) }

pub row_start : (hit : ℕ → ℕ → Bool) (xs : List ℕ) (n p m : ℕ) → p < n → LeastBefore hit xs n p m → Row hit xs n p (p + 1) m
row_start hit xs n p m l o = record
    { after = omega arith; inside = omega arith; held = o.held; rows = o.rows; row = λ q a b. absurd (omega arith) }

pub rows_next : (hit : ℕ → ℕ → Bool) (xs : List ℕ) (n p q m : ℕ) → p < n → Row hit xs n p q m → NotBelow hit xs m p n → LeastBefore hit xs n
    (p + 1) m
rows_next hit xs n p q m l s c =
    record {
      inside = omega arith;
      held = s.held;
      rows = λ p' a. elim (ℕ_discrete p' p)
          [ yes z ↦ subst (λ (k : ℕ). NotBelow hit xs m k n) (sym z) c | no ne ↦ s.rows p' (omega arith) ];
    }

module _ (k : ℕ → ℕ) (n : ℕ) (stop hit : ℕ → ℕ → Bool) (w : Sweeps k n stop hit) (xs : List ℕ) (ps : Positions n xs) (so : InOrder k n xs)
  where
    -- the number of two slots that are hit is held
    slots_held : (p q : ℕ) → p < q → q < n → at_slots hit xs p q ≡ true → Held hit n (pair_number (get_or xs p 0) (get_or xs q 0))
    slots_held p q pq qn e =
        let i = get_or xs p 0 in
        let j = get_or xs q 0 in
        let li : i < n = ps.below p (omega arith) in
        let lj : j < n = ps.below q qn in
        elim (dec_lt i j) [
          | yes l ↦ inr (i, j, l, lj, e, number_up i j l)
          | no nl ↦ elim (ℕ_discrete i j) [
            | yes z ↦ absurd (let same : p ≡ q = ps.once p q (omega arith) qn z in omega arith)
            | no ne ↦ let l : j < i = omega arith in inr (j, i, l, li, w.mirror j i ∙ e, number_down i j (omega arith))
          ]
        ]

    -- a step: the number is that of the slots p and q where they are hit and it is below m, else m
    pub row_next : (p q m : ℕ) → q < n → Row hit xs n p q m
        → Row hit xs n p (q + 1) (cond (ltb (pair_number (get_or xs p 0) (get_or xs q 0)) m && at_slots hit xs p q)
        (pair_number (get_or xs p 0) (get_or xs q 0)) m)
    row_next p q m l s = go (ltb (pair_number (get_or xs p 0) (get_or xs q 0)) m) refl (at_slots hit xs p q) refl
      where
        keep : (at_slots hit xs p q ≡ true → m ≤ pair_number (get_or xs p 0) (get_or xs q 0)) → Row hit xs n p (q + 1) m
        keep f =
            record {
              after = omega (arith, s.after);
              inside = omega arith;
              held = s.held;
              rows = s.rows;
              row = λ q' a b. elim (ℕ_discrete q' q) [ yes z ↦ rw z f | no ne ↦ s.row q' a (omega arith) ];
            }

        less : (m' : ℕ) → m' ≡ pair_number (get_or xs p 0) (get_or xs q 0) → m' < m → Held hit n m' → Row hit xs n p (q + 1) m'
        less m' e u h =
            record {
              after = omega (arith, s.after);
              inside = omega arith;
              held = h;
              rows = λ p' a q' b c t. let r = s.rows p' a q' b c t in omega arith;
              row = λ q' a b t. elim (ℕ_discrete q' q)
                  [ yes z ↦ rw (z, ← e) (le_refl m') | no ne ↦ let r = s.row q' a (omega arith) t in omega arith ];
            }

        go : (t : Bool) → ltb (pair_number (get_or xs p 0) (get_or xs q 0)) m ≡ t → (x : Bool) → at_slots hit xs p q ≡ x
            → Row hit xs n p (q + 1) (cond (ltb (pair_number (get_or xs p 0) (get_or xs q 0)) m && at_slots hit xs p q)
            (pair_number (get_or xs p 0) (get_or xs q 0)) m)
        go true e true f = rw (e, f) (less (pair_number (get_or xs p 0) (get_or xs q 0)) refl (ltb-true _ _ e) (slots_held p q s.after l f))
        go true e false f = rw (e, f) (keep (λ t. absurd (never_both t f)))
        go false e x f = rw e (keep (λ t. ltb-false _ _ e))

    -- where the sweep of slot p stops, the rest is not hit
    pub row-stop : (p q m : ℕ) → q < n → Row hit xs n p q m → at_slots stop xs p q ≡ true → NotBelow hit xs m p n
    row-stop p q m qn s t q' l u e =
        elim (dec_lt q' q) [
          | yes z ↦ s.row q' l z e
          | no nz ↦ absurd (never_both e (w.past (get_or xs p 0) (get_or xs q 0) (get_or xs q' 0) (ps.below p (omega (arith, s.after)))
              (ps.below q qn) (ps.below q' u)
              (elim (ℕ_discrete q q') [ yes z ↦ rw z (le_refl _) | no ne ↦ so q q' (omega arith) u ]) t))
        ]

    pub rows_done : (p m : ℕ) → n < 2 ^ 32 → n ≤ p → LeastBefore hit xs n p m → pair_of m ≡ first_from hit 0 n
    rows_done p m small np o = held_first hit n m small o.held (λ i j ij jn e.
        let a = ps.found i (omega arith) in
        let b = ps.found j jn in
        elim (dec_lt a.0 b.0) [
          | yes l ↦
              let r : hit (get_or xs a.0 0) (get_or xs b.0 0) ≡ true = rw (a.2, b.2) e in
              let g : m ≤ pair_number i j = rw (a.2, b.2) at (o.rows a.0 (omega (arith, a.1)) b.0 l b.1 r) in
              omega (arith, g, number_up i j ij)
          | no nl ↦ elim (ℕ_discrete a.0 b.0) [
            | yes z ↦ absurd (let q : i ≡ j = sym a.2 ∙ (ap (λ (k : ℕ). get_or xs k 0) z ∙ b.2) in omega arith)
            | no ne ↦
                let r : hit (get_or xs b.0 0) (get_or xs a.0 0) ≡ true = rw (a.2, b.2) (w.mirror j i ∙ e) in
                let g : m ≤ pair_number j i = rw (a.2, b.2) at (o.rows b.0 (omega (arith, b.1)) a.0 (omega arith) a.1 r) in
                omega (arith, g, number_mirror i j ij, number_up i j ij)
          ]
        ])
