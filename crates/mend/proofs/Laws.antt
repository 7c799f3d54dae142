-- Laws of mending (document 02, Point 7): no neighbours repeat in a mended ring, mending it again drops none, its first and its closing
-- coordinate are those of the ring, and what is kept keeps its order. Assumes nothing.
use mathlib.Core.Path.{◌≡◌, refl, sym, ◌∙◌, ap}
use mathlib.Core.Bool.{Bool, true, false, cond}
use mathlib.Core.List.{List, [], ◌∷◌, ◌++◌}
use Prim.Native.Nat.{suc, ◌-◌, ◌≤◌, ◌<◌}
use native.Mathlib.Omega.{arith}
use lib.ListN.{length, get_or}
use Rattle.std.specs.Prelude.{None}
use Rattle.tile.specs.declared.Coord.{Coord}
use Rattle.tile.specs.Ring.{same, last, closed, close}
use Rattle.tile.proofs.Rings.{close-closed, last-at, last-append}
use Rattle.box_pairs.specs.Cross.{degenerate}
use Rattle.box_pairs.specs.Internal.{repeated}
use Rattle.box_pairs.specs.Issue.{first_repeated}
use Rattle.box_pairs.proofs.Offered.{repeated-few, repeated-from, repeated-none, near_none}
use Rattle.mend.specs.Mend.{kept_after, mend, Subsequence}

-- ---- behind a coordinate that is kept

some-kept : (q : Coord) (t : Bool) (a b : List Coord) → 0 < length a → 0 < length (cond t a (q ∷ b))
some-kept q true a b h = h
some-kept q false a b h = omega arith

-- of what has a coordinate something is kept
pub kept-some : (p q : Coord) (r : List Coord) → 0 < length (kept_after p (q ∷ r))
unfolding kept_after
kept-some p q [] = omega arith
kept-some p q (s ∷ r) = some-kept q (degenerate p q) _ _ (kept-some _ s r)

-- What holds of every coordinate p, the list behind it and what is kept of that: nothing behind it; the closing one; one that is dropped;
-- one that is kept, behind which something is.
module _ (P : Coord → List Coord → List Coord → Type 0) (nothing : (p : Coord) → P p [] [])
    (closing : (p q : Coord) → P p (q ∷ []) (q ∷ []))
    (dropped : (p q s : Coord) (r k : List Coord) → degenerate p q ≡ true → P p (s ∷ r) k → P p (q ∷ s ∷ r) k)
    (kept : (p q s : Coord) (r : List Coord) (t : Coord) (k : List Coord) → degenerate p q ≡ false → P q (s ∷ r) (t ∷ k)
    → P p (q ∷ s ∷ r) (q ∷ t ∷ k)) where
  by_ways : (p : Coord) (r : List Coord) → P p r (kept_after p r)
  unfolding kept_after
  by_ways p [] = nothing p
  by_ways p (q ∷ []) = closing p q
  by_ways p (q ∷ s ∷ r) = go (degenerate p q) refl (by_ways p (s ∷ r)) (by_ways q (s ∷ r)) (kept-some q s r)
    where
      some : (k : List Coord) → degenerate p q ≡ false → P q (s ∷ r) k → 0 < length k → P p (q ∷ s ∷ r) (q ∷ k)
      some [] e y h = absurd (omega arith)
      some (t ∷ k) e y h = kept p q s r t k e y

      go : (b : Bool) → degenerate p q ≡ b → P p (s ∷ r) (kept_after p (s ∷ r)) → P q (s ∷ r) (kept_after q (s ∷ r))
          → 0 < length (kept_after q (s ∷ r)) → P p (q ∷ s ∷ r) (cond b (kept_after p (s ∷ r)) (q ∷ kept_after q (s ∷ r)))
      go true e x y h = dropped p q s r (kept_after p (s ∷ r)) e x
      go false e x y h = some (kept_after q (s ∷ r)) e y h

kept_again : (p : Coord) (r : List Coord) → kept_after p (kept_after p r) ≡ kept_after p r
unfolding kept_after
kept_again =
    by_ways (λ p r k. kept_after p k ≡ k) (λ p. refl) (λ p q. refl) (λ p q s r k e h. h)
    (λ p q s r t k e h. rw e (ap (λ (l : List Coord). q ∷ l) h))

kept_new : (p : Coord) (r : List Coord) → repeated (p ∷ kept_after p r) ≡ false
kept_new =
    by_ways (λ p r k. repeated (p ∷ k) ≡ false) (λ p. repeated-few (p ∷ []) (omega arith)) (λ p q. repeated-few (p ∷ q ∷ []) (omega arith))
    (λ p q s r k e h. h) (λ p q s r t k e h. repeated-from (p ∷ q ∷ t ∷ k) 0 p (omega arith) ∙ rw e h)

kept-last : (p : Coord) (r : List Coord) → last p (kept_after p r) ≡ last p r
unfolding last
kept-last = by_ways (λ p r k. last p k ≡ last p r) (λ p. refl) (λ p q. refl) (λ p q s r k e h. h) (λ p q s r t k e h. h)

kept-most : (p : Coord) (r : List Coord) → length (kept_after p r) ≤ length r
kept-most =
    by_ways (λ p r k. length k ≤ length r) (λ p. omega arith) (λ p q. omega arith) (λ p q s r k e h. omega arith)
    (λ p q s r t k e h. omega arith)

kept-order : (p : Coord) (r : List Coord) → Subsequence (kept_after p r) r
kept-order =
    by_ways (λ p r k. Subsequence k r) (λ p. Subsequence.empty) (λ p q. Subsequence.keeps q Subsequence.empty)
    (λ p q s r k e h. Subsequence.drops q h) (λ p q s r t k e h. Subsequence.keeps q h)

-- one more behind a closing coordinate that is near none
kept-one_more : (z p : Coord) (r : List Coord) → ((a : Coord) → degenerate a (last p r) ≡ false)
    → kept_after p (kept_after p r ++ (z ∷ [])) ≡ kept_after p r ++ (z ∷ [])
unfolding kept_after last
kept-one_more z =
    by_ways (λ p r k. ((a : Coord) → degenerate a (last p r) ≡ false) → kept_after p (k ++ (z ∷ [])) ≡ k ++ (z ∷ [])) (λ p far. refl)
    (λ p q far. rw (far p)) (λ p q s r k e h far. h far) (λ p q s r t k e h far. rw e (ap (λ (l : List Coord). q ∷ l) (h far)))

-- ---- mending

-- "its first coordinate, which it keeps"
pub first-kept : (p : Coord) (r : List Coord) (z : Coord) → get_or (mend (p ∷ r)) 0 z ≡ p
unfolding mend
first-kept p r z = refl

-- "The mended ring has no repeated neighbours by document 01's rule"
pub none-repeated : (ring : List Coord) → repeated (mend ring) ≡ false
unfolding mend
none-repeated [] = repeated-few [] (omega arith)
none-repeated (p ∷ r) = kept_new p r

pub none_told : (ring : List Coord) → first_repeated (mend ring) ≡ None
none_told ring = repeated-none (mend ring) (none-repeated ring)

-- "except the closing one"
pub closing_kept : (p : Coord) (r : List Coord) (z : Coord) → get_or (mend (p ∷ r)) (length (mend (p ∷ r)) - 1) z ≡ last p r
unfolding mend
closing_kept p r z =
    let e : suc (length (kept_after p r)) - 1 ≡ length (kept_after p r) = omega arith in
    rw e (sym (last-at p (kept_after p r) z) ∙ kept-last p r)

-- "It writes the kept coordinates in their order"
pub order-kept : (ring : List Coord) → Subsequence (mend ring) ring
unfolding mend
order-kept [] = Subsequence.empty
order-kept (p ∷ r) = Subsequence.keeps p (kept-order p r)

pub none_more : (ring : List Coord) → length (mend ring) ≤ length ring
unfolding mend
none_more [] = omega arith
none_more (p ∷ r) = omega (arith, kept-most p r)

-- ---- mending again

module _ (p : Coord) (r : List Coord) where
  again_closed : same p (last p r) ≡ true → mend (close (mend (p ∷ r))) ≡ close (mend (p ∷ r))
  unfolding mend closed
  again_closed e =
      let h : closed (p ∷ kept_after p r) ≡ true = rw (kept-last p r) e in
      rw (close-closed (p ∷ kept_after p r) h) (ap (λ (l : List Coord). p ∷ l) (kept_again p r))

  -- a ring whose first coordinate holds a NaN is closed again, and grows: its closing coordinate is near none
  again_open : ((a : Coord) → degenerate a (last p r) ≡ false) → same p (last p r) ≡ false
      → mend (close (mend (p ∷ r))) ≡ close (mend (p ∷ r))
  unfolding mend close closed
  again_open far e =
      let h : same p (last p (kept_after p r)) ≡ false = rw (kept-last p r) e in
      rw h (ap (λ (l : List Coord). p ∷ l) (kept-one_more p p r far))

-- "mending it again drops none", of the ring closed again, NaN included
pub mend_again : (ring : List Coord) → mend (close (mend (close ring))) ≡ close (mend (close ring))
unfolding mend close closed
mend_again [] = refl
mend_again (p ∷ r) = go (same p (last p r)) refl
  where
    appended : (t : Bool) → same p p ≡ t → mend (close (mend (p ∷ (r ++ (p ∷ []))))) ≡ close (mend (p ∷ (r ++ (p ∷ []))))
    appended true e = again_closed p (r ++ (p ∷ [])) (rw (last-append p r p) e)
    appended false e = again_open p (r ++ (p ∷ [])) (λ a. rw (last-append p r p) (near_none a p e)) (rw (last-append p r p) e)

    go : (t : Bool) → same p (last p r) ≡ t
        → mend (close (mend (cond t (p ∷ r) ((p ∷ r) ++ (p ∷ []))))) ≡ close (mend (cond t (p ∷ r) ((p ∷ r) ++ (p ∷ []))))
    go true e = again_closed p r e
    go false e = appended (same p p) refl
