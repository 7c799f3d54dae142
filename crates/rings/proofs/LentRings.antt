-- The rings of a lent polygon, one ring further and past the last. Assumes nothing.
use mathlib.Core.Path.{◌≡◌, refl, ap}
use mathlib.Core.Bool.{false, ◌||◌}
use mathlib.Core.List.{List, [], ◌∷◌}
use Prim.Native.Nat.{ℕ, suc, ◌+◌, ◌*◌, ◌^◌, ◌<◌, ◌≤◌, max}
use native.Mathlib.Omega.{arith}
use lib.Ieee.{Float}
use lib.ListN.{length, get_or, take, drop, length-drop}
use Rattle.std.specs.List.{sum_by}
use Rattle.std.proofs.lemmas.List.Recursion.{is_sum_by}
use Rattle.tile.specs.declared.Coord.{Coord}
use Rattle.tile.specs.Ring.{coords, close}
use Rattle.tile.proofs.Rings.{length_front, close-most}
use Rattle.sutherland_hodgman.specs.Growth.{most_coordinates}
use Rattle.sutherland_hodgman.proofs.Offered.{B-le}
use Rattle.rings.specs.declared.rectangle.Rect.{Rect}
use Rattle.rings.specs.Rectangle.{with_ring, with_rings}
use Rattle.rings.specs.Representable.{any_huge, any_huge_ring}
use Rattle.rings.specs.LentRings.{Lent, sum, closed_rings, total, largest, ring_room}
use Rattle.rings.proofs.Closing.{rect_close, huge-close}

-- ---- the first ring is read off the front

pub no_rings : (ns : List ℕ) (s : List Float) → length ns ≡ 0 → closed_rings ns s ≡ []
unfolding closed_rings
no_rings [] s e = refl
no_rings (n ∷ ns) s e = absurd (omega arith)

pub first-fits : (ns : List ℕ) (s : List Float) (n : ℕ) (others : List ℕ) → ns ≡ n ∷ others → Lent ns s → 2 * n ≤ length s
unfolding sum
first-fits ns s n others e l = omega (arith, l.fits, ap sum e)

pub others_lent : (ns : List ℕ) (s : List Float) (n : ℕ) (others : List ℕ) (rest : List Float) → ns ≡ n ∷ others → rest ≡ drop (2 * n) s
    → Lent ns s → Lent others rest
unfolding sum
others_lent ns s n others rest e behind l = record {
  few = omega (arith, l.few, ap length e);
  fits = omega (arith, l.fits, ap sum e, ap length behind, length-drop (2 * n) s);
}

pub first_ring : (ns : List ℕ) (s : List Float) (n : ℕ) (others : List ℕ) (ring rest : List Float) → ns ≡ n ∷ others
    → ring ≡ take (2 * n) s → rest ≡ drop (2 * n) s → closed_rings ns s ≡ close (coords ring) ∷ closed_rings others rest
unfolding closed_rings
first_ring ns s n others ring rest e front behind = rw (e, front, behind) refl

pub fewer-rings : {A : Type 0} {l r : List A} {x : A} → l ≡ x ∷ r → length r < length l
fewer-rings e = omega (arith, ap length e)

-- the sum is std's
pub sum_std : (ns : List ℕ) → sum ns ≡ sum_by (λ n. n) ns
unfolding sum
sum_std = is_sum_by sum (λ n. n) refl (λ _ _. refl)

-- ---- what is found in all rings is found in the first and in those behind it

module _ (rings : List (List Coord)) (ring : List Coord) (others : List (List Coord)) (e : rings ≡ close ring ∷ others) where
  pub total-step : (f : List Coord → ℕ) → total f rings ≡ f (close ring) + total f others
  unfolding total
  total-step f = ap (total f) e

  pub largest_step : (f : List Coord → ℕ) → largest f rings ≡ max (f (close ring)) (largest f others)
  unfolding largest
  largest_step f = ap (largest f) e

  pub rect_step : (r : Rect) → with_rings r rings ≡ with_rings (with_ring r ring) others
  unfolding with_rings
  rect_step r = rw e (ap (λ (q : Rect). with_rings q others) (rect_close r ring))

  pub huge-step : any_huge_ring rings ≡ (any_huge ring || any_huge_ring others)
  unfolding any_huge_ring
  huge-step = rw (e, huge-close ring)

module _ (rings : List (List Coord)) (e : rings ≡ []) where
  pub total_end : (f : List Coord → ℕ) → total f rings ≡ 0
  unfolding total
  total_end f = ap (total f) e

  pub largest_end : (f : List Coord → ℕ) → largest f rings ≡ 0
  unfolding largest
  largest_end f = ap (largest f) e

  pub rect_end : (r : Rect) → with_rings r rings ≡ r
  unfolding with_rings
  rect_end r = ap (with_rings r) e

  pub huge_end : any_huge_ring rings ≡ false
  unfolding any_huge_ring
  huge_end = ap any_huge_ring e

-- the larger of two
pub larger_least : (a b : ℕ) → (a ≤ max a b) × (b ≤ max a b)
larger_least a b = (omega arith, omega arith)

pub larger-most : (m a b : ℕ) → a ≤ m → b ≤ m → max a b ≤ m
larger-most m a b ha hb = omega arith

-- ---- how much it can be

pub length-closed : (ns : List ℕ) (s : List Float) → length (closed_rings ns s) ≡ length ns
unfolding closed_rings
length-closed [] s = refl
length-closed (n ∷ ns) s = ap suc (length-closed ns (drop (2 * n) s))

-- the sum of a few u32
pub sum_below : (ns : List ℕ) → ((i : ℕ) → get_or ns i 0 < 2 ^ 32) → sum ns ≤ length ns * 2 ^ 32
unfolding sum
sum_below [] h = omega arith
sum_below (n ∷ ns) h = let e = sum_below ns (λ i. h (suc i)) in let m = h 0 in omega arith

-- closing adds at most one coordinate to each ring
pub closed_most : (ns : List ℕ) (s : List Float) → 2 * sum ns ≤ length s → total length (closed_rings ns s) ≤ sum ns + length ns
unfolding sum closed_rings total
closed_most [] s h = omega arith
closed_most (n ∷ ns) s h =
    let e = closed_most ns (drop (2 * n) s) (omega (arith, length-drop (2 * n) s)) in
    omega (arith, e, close-most (coords (take (2 * n) s)), length_front s n (omega arith))

pub largest-total : (f : List Coord → ℕ) (rings : List (List Coord)) → largest f rings ≤ total f rings
unfolding largest total
largest-total f [] = omega arith
largest-total f (r ∷ rings) = let e = largest-total f rings in omega arith

pub rooms_below : (rings : List (List Coord)) → total length rings ≤ most_coordinates → total ring_room rings ≤ length rings
    * (8 * most_coordinates)
unfolding total
rooms_below [] h = omega arith
rooms_below (r ∷ rings) h = let e = rooms_below rings (omega arith) in let b = B-le (length r) (omega arith) in omega arith
