-- The ways of the two loops through a closed ring: from one coordinate that is kept to the next, and from the first to the closing one.
-- Assumes nothing.
use mathlib.Core.Path.{◌≡◌, refl, sym, ◌∙◌, ap}
use mathlib.Core.Bool.{Bool, true, false}
use mathlib.Core.List.{List, [], ◌∷◌}
use Prim.Native.Nat.{ℕ, suc, ◌+◌, ◌*◌, ◌-◌, ◌/◌, ◌≤◌, ◌<◌}
use native.Mathlib.Numerals.{add-one}
use native.Mathlib.Omega.{arith}
use lib.Dec.{ltb, eqb}
use lib.Ieee.{Float, nan}
use lib.ListN.{length, get_or, take, drop, length-append, drop_of_length-le, get_or-append}
use lib.Seq.{sets, length-sets, drop-cons, drop_at, take_all, take-suc}
use borrow.Author.Tests.{lt-ltb, le-ltb, eqb-true, eqb-false}
use Rattle.binary64.proofs.Fill.{whole-over}
use Rattle.tile.specs.declared.Coord.{Coord}
use Rattle.tile.specs.Ring.{coords, flat, closed, close}
use Rattle.tile.specs.Internal.{coord_at, Written}
use Rattle.tile.proofs.Rings.{length-flat, length_front, front_at, count-coords, coords-at, coords-take, close-closed, close_open}
use Rattle.tile.proofs.Rings.{count-closed, count_open}
use Rattle.sutherland_hodgman.proofs.Offered.{whole_ring}
use Rattle.box_pairs.specs.Cross.{degenerate}
use Rattle.mend.specs.Mend.{kept_after, mend}
use Rattle.mend.specs.Internal.{closed_by, NextKept, FewKept}
use Rattle.mend.proofs.Laws.{kept-some, none_more}

abbrev none : Coord
none = record { x = nan; y = nan }

-- ---- what is kept of a list, from a position on

module _ (c : List Coord) where
  mend-from : (k : ℕ) → k < length c → mend (drop k c) ≡ get_or c k none ∷ kept_after (get_or c k none) (drop (k + 1) c)
  unfolding mend
  mend-from k h = rw (add-one k, drop-cons c k none h)

  -- a coordinate before the closing one: near the last one kept, it is dropped, else kept
  drop-near : (p : Coord) (i : ℕ) → i + 1 < length c → degenerate p (get_or c i none) ≡ true
      → kept_after p (drop i c) ≡ kept_after p (drop (i + 1) c)
  unfolding kept_after
  drop-near p i h e = rw (add-one i, drop-cons c i none (omega arith), drop-cons c (suc i) none (omega arith), e)

  keep_far : (p : Coord) (i : ℕ) → i + 1 < length c → degenerate p (get_or c i none) ≡ false → kept_after p (drop i c) ≡ mend (drop i c)
  unfolding kept_after mend
  keep_far p i h e = rw (drop-cons c i none (omega arith), drop-cons c (suc i) none (omega arith), e)

  keep_closing : (p : Coord) (i : ℕ) → i + 1 ≡ length c → kept_after p (drop i c) ≡ mend (drop i c)
  unfolding kept_after mend
  keep_closing p i h =
      let l : length c ≤ suc i = omega arith in
      rw (drop-cons c i none (omega arith), drop_of_length-le c l)

  from_some : (k : ℕ) → k < length c → 0 < length (mend (drop k c))
  from_some k h = omega (arith, ap length (mend-from k h))

-- ---- from one that is kept to the next

-- behind coordinate k, which is kept, those before coordinate i are dropped
pub record Dropped (s : List Float) (end k i : ℕ) : Type 0 where
  pub later : k < i
  pub most : i ≤ end
  pub rest : (closing : Coord)
      → kept_after (coord_at s k) (drop (k + 1) (closed_by s end closing)) ≡ kept_after (coord_at s k) (drop i (closed_by s end closing))

module _ (s : List Float) (end : ℕ) (fits : 2 * end ≤ length s) where
  length-by : (closing : Coord) → length (closed_by s end closing) ≡ end + 1
  length-by closing = length-append (coords (take (2 * end) s)) (closing ∷ []) ∙ rw (length_front s end fits)

  at-by : (closing : Coord) (i : ℕ) → i < end → get_or (closed_by s end closing) i none ≡ coord_at s i
  at-by closing i h =
      let f = length_front s end fits in
      get_or-append (coords (take (2 * end) s)) (closing ∷ []) none i (omega (arith, f)) ∙ front_at s end i none fits h

  module _ (k i : ℕ) (w : Dropped s end k i) where
    pub dropped-near : i < end → degenerate (coord_at s k) (coord_at s i) ≡ true → Dropped s end k (i + 1)
    dropped-near h e = record {
      later = omega (arith, w.later);
      most = omega arith;
      rest = λ closing.
          w.rest closing ∙ drop-near (closed_by s end closing) (coord_at s k) i (omega (arith, length-by closing)) (rw (at-by closing i h) e);
    }

    -- where the way ends at r, since what is left there is the mended rest
    found : (r : ℕ) → k < r → r ≤ end
        → ((closing : Coord) → kept_after (coord_at s k) (drop i (closed_by s end closing)) ≡ mend (drop r (closed_by s end closing)))
        → NextKept s end k r
    found r l m e = record {
      later = l;
      most = m;
      rest = λ closing.
          mend-from (closed_by s end closing) k (omega (arith, length-by closing))
          ∙ rw (at-by closing k (omega arith)) (ap (λ (t : List Coord). coord_at s k ∷ t) (w.rest closing ∙ e closing));
    }

    pub found-far : i < end → degenerate (coord_at s k) (coord_at s i) ≡ false → NextKept s end k i
    found-far h e =
        found i w.later w.most
        (λ closing. keep_far (closed_by s end closing) (coord_at s k) i (omega (arith, length-by closing)) (rw (at-by closing i h) e))

    pub found_closing : end ≤ i → NextKept s end k end
    found_closing h =
        let e : i ≡ end = omega (arith, w.most) in
        found end (omega (arith, w.later)) (omega arith)
        (λ closing. rw e (keep_closing (closed_by s end closing) (coord_at s k) end (sym (length-by closing))))

  -- ---- whether four are kept

  -- at the closing coordinate only it is left
  left_closing : (closing : Coord) → mend (drop end (closed_by s end closing)) ≡ closing ∷ []
  unfolding mend kept_after
  left_closing closing = rw (drop_at (coords (take (2 * end) s)) (closing ∷ []) end (length_front s end fits))

  -- before it, it is not alone
  from-before : (closing : Coord) (k : ℕ) → k < end → 2 ≤ length (mend (drop k (closed_by s end closing)))
  from-before closing k h =
      let c = closed_by s end closing in
      let l = length-by closing in
      let x = ap length (mend-from c k (omega (arith, l))) in
      let y : 0 < length (kept_after (get_or c k none) (drop (k + 1) c)) =
      rw (drop-cons c (k + 1) none (omega (arith, l))) (kept-some (get_or c k none) (get_or c (k + 1) none) (drop (suc (k + 1)) c)) in
      omega (arith, x, y)

  module _ (i : ℕ) (second : NextKept s end 0 i) where
    -- the first and the closing one
    pub few-two : i ≡ end → FewKept s end true
    few-two e closing =
        let x : length (mend (closed_by s end closing)) ≡ 2 =
        ap length (second.rest closing) ∙ rw (e, left_closing closing) in
        sym (lt-ltb (length (mend (closed_by s end closing))) 4 (omega (arith, x)))

    module _ (j : ℕ) (third : NextKept s end i j) where
      counted : (closing : Coord) → length (mend (closed_by s end closing)) ≡ 2 + length (mend (drop j (closed_by s end closing)))
      counted closing = omega (arith, ap length (second.rest closing), ap length (third.rest closing))

      -- and the third, unless that is the closing one
      pub few_three : FewKept s end (eqb j end)
      few_three closing = go (eqb j end) refl
        where
          go : (t : Bool) → eqb j end ≡ t → t ≡ ltb (length (mend (closed_by s end closing))) 4
          go true e =
              let x : length (mend (drop j (closed_by s end closing))) ≡ 1 = rw (eqb-true j end e, left_closing closing) in
              sym (lt-ltb (length (mend (closed_by s end closing))) 4 (omega (arith, counted closing, x)))
          go false e =
              let x = from-before closing j (omega (arith, eqb-false j end e, third.most)) in
              sym (le-ltb (length (mend (closed_by s end closing))) 4 (omega (arith, counted closing, x)))

-- ---- the closed ring, by its last coordinate

module _ (s : List Float) (m : ℕ) (some : 0 < length (coords s)) (count : m ≡ length (close (coords s))) where
  abbrev ring : List Coord
  ring = coords s

  abbrev n : ℕ
  n = length s / 2

  pub closed_own : m ≡ n → close ring ≡ closed_by s (m - 1) (coord_at s (n - 1))
  closed_own e = go (closed ring) refl
    where
      l : length ring ≡ n
      l = count-coords s

      go : (t : Bool) → closed ring ≡ t → close ring ≡ closed_by s (m - 1) (coord_at s (n - 1))
      go false h = absurd (omega (arith, count, count_open ring h, l))
      go true h =
          let k : suc (m - 1) ≡ n = omega (arith, some, l) in
          let i : m - 1 ≡ n - 1 = omega arith in
          let x : take (suc (m - 1)) ring ≡ ring = take_all (suc (m - 1)) ring (omega (arith, l)) in
          close-closed ring h ∙ sym x ∙ take-suc ring (m - 1) none (omega (arith, l))
          ∙ rw (coords-take (m - 1) s, i, coords-at (n - 1) s none (omega (arith, some, l)))

  pub closed_first : (m ≡ n → ⊥) → close ring ≡ closed_by s (m - 1) (coord_at s 0)
  closed_first e = go (closed ring) refl
    where
      l : length ring ≡ n
      l = count-coords s

      go : (t : Bool) → closed ring ≡ t → close ring ≡ closed_by s (m - 1) (coord_at s 0)
      go true h = absurd (e (count ∙ count-closed ring h ∙ l))
      go false h =
          let k : m - 1 ≡ n = omega (arith, count, count_open ring h, l) in
          close_open ring none h ∙ rw (k, coords-at 0 s none (omega (arith, some, l)), whole_ring s)

  -- one of the two closes it
  pub closes : (closing : Coord) × (close ring ≡ closed_by s (m - 1) closing)
  closes = go (eqb m n) refl
    where
      go : (t : Bool) → eqb m n ≡ t → (closing : Coord) × (close ring ≡ closed_by s (m - 1) closing)
      go true e = (coord_at s (n - 1), closed_own (eqb-true m n e))
      go false e = (coord_at s 0, closed_first (eqb-false m n e))

-- ---- from the first coordinate to the closing one

-- coordinate k is kept, `kept` were written before it, and writing what is kept from it on makes the whole
pub record Writing (s : List Float) (end : ℕ) (closing : Coord) (before d : List Float) (kept k : ℕ) : Type 0 where
  pub inside : k ≤ end
  pub count : kept + length (mend (drop k (closed_by s end closing))) ≡ length (mend (closed_by s end closing))
  pub numbers : sets d (2 * kept) (flat (mend (drop k (closed_by s end closing)))) ≡ sets before 0 (flat (mend (closed_by s end closing)))

two_more : (k : ℕ) → 2 * (k + 1) ≡ suc (suc (2 * k))
two_more k = omega arith

module _ {s : List Float} {end : ℕ} {closing : Coord} {before d : List Float} {kept k : ℕ} (w : Writing s end closing before d kept k) where
  writing_same : length d ≡ length before
  writing_same =
      sym (length-sets d (2 * kept) (flat (mend (drop k (closed_by s end closing))))) ∙ ap length w.numbers
      ∙ length-sets before 0 (flat (mend (closed_by s end closing)))

  -- one coordinate at least is still to be written
  pub writing_fits : 2 * end ≤ length s → kept ≤ end
  writing_fits fits =
      let l = length-by s end fits closing in
      omega (arith, l, w.count, from_some (closed_by s end closing) k (omega (arith, l, w.inside)), none_more (closed_by s end closing))

  pub writing_room : 2 * end ≤ length s → 2 * end + 2 ≤ length before → 2 * kept + 1 < length d
  writing_room fits h = omega (arith, writing_same, writing_fits fits)

  module _ (p : Coord) (d' : List Float) (put : d' ≡ sets d (2 * kept) (p.x ∷ p.y ∷ [])) where
    pub writing_on : (r : ℕ) → p ≡ coord_at s k → NextKept s end k r → Writing s end closing before d' (kept + 1) r
    unfolding flat
    writing_on r at n =
        let e : mend (drop k (closed_by s end closing)) ≡ p ∷ mend (drop r (closed_by s end closing)) = n.rest closing ∙ rw at in
        record {
          inside = n.most;
          count = omega (arith, w.count, ap length e);
          numbers = rw (put, two_more kept) (rw e at w.numbers);
        }

  pub writing_end : 2 * end ≤ length s → 2 * end + 2 ≤ length before → end ≤ k → (d' : List Float)
      → d' ≡ sets d (2 * kept) (closing.x ∷ closing.y ∷ []) → Written (mend (closed_by s end closing)) before (kept + 1) d'
  unfolding flat
  writing_end fits room h d' put =
      let c = closed_by s end closing in
      let k≡ : k ≡ end = omega (arith, w.inside) in
      let e : mend (drop k c) ≡ closing ∷ [] = rw k≡ (left_closing s end fits closing) in
      let n : kept + 1 ≡ length (mend c) = omega (arith, w.count, ap length e) in
      let l : length (flat (mend c)) ≡ 2 * (kept + 1) = length-flat (mend c) ∙ rw n in
      let x : d' ≡ sets before 0 (flat (mend c)) = put ∙ (rw e at w.numbers) in
      let most = length-by s end fits closing in
      record { count = n; numbers = x ∙ rw l at (whole-over (flat (mend c)) before (omega (arith, none_more c, length-flat (mend c), most))) }
