-- The loops over a ring's coordinates and edges: what is found in the rest of the ring is what is found in the whole. Assumes nothing.
use mathlib.Core.Path.{◌≡◌, refl}
use mathlib.Core.Bool.{Bool, true, false, cond, ◌||◌}
use mathlib.Core.List.{List, [], ◌∷◌}
use Prim.Native.Nat.{ℕ, suc, ◌+◌, ◌<◌, ◌≤◌}
use native.Mathlib.Numerals.{add-one}
use native.Mathlib.Omega.{arith}
use lib.ListN.{length, get_or, drop, length-drop, drop_of_length-le}
use lib.Seq.{drop-cons}
use Rattle.tile.specs.declared.Coord.{Coord}
use Rattle.tile.specs.declared.TileBounds.{TileBounds}
use Rattle.tile.specs.declared.Edge.{Edge}
use Rattle.tile.specs.declared.Edge.TheVariants.{Left, Right, Bottom, Top}
use Rattle.std.specs.Prelude.{None, Some, Option, find}
use Rattle.std.proofs.lemmas.List.Recursion.{found_nowhere}
use Rattle.binary64.specs.Compare.{near}
use Rattle.binary64.proofs.Booleans.{neither}
use Rattle.box_pairs.specs.Cross.{degenerate}
use Rattle.rings.specs.Bridge.{runs_along, edges, bridge_of, first_bridge}
use Rattle.rings.specs.Internal.{near_bound}
use Rattle.rings.specs.Representable.{huge_coord, any_huge}

-- ---- huge coordinates

module _ (r : List Coord) (i : ℕ) (z : Coord) (h : i < length r) where
  pub huge-here : huge_coord (get_or r i z) ≡ true → any_huge (drop i r) ≡ true
  unfolding any_huge
  huge-here e = rw (drop-cons r i z h, e)

  pub huge-later : huge_coord (get_or r i z) ≡ false → any_huge (drop i r) ≡ any_huge (drop (i + 1) r)
  unfolding any_huge
  huge-later e = rw (add-one, drop-cons r i z h, e)

pub huge-none : (r : List Coord) (i : ℕ) → length r ≤ i → any_huge (drop i r) ≡ false
unfolding any_huge
huge-none r i h = rw (drop_of_length-le r h)

-- ---- bridges

-- no edge from a coordinate that is near no bound runs along one
module _ (b : TileBounds) (p q : Coord) (e : near_bound b p ≡ false) where
  far-along : (l : Edge) → runs_along l b p q ≡ false
  unfolding runs_along near_bound
  far-along l = go l (neither (near p.x b.lng_min) _ e)
    where
      go : (l : Edge) → (near p.x b.lng_min ≡ false) × (near p.x b.lng_max || (near p.y b.lat_min || near p.y b.lat_max) ≡ false)
          → runs_along l b p q ≡ false
      go Left n = rw n.0
      go Right n = rw (neither (near p.x b.lng_max) _ n.1).0
      go Bottom n = rw (neither (near p.y b.lat_min) _ (neither (near p.x b.lng_max) _ n.1).1).0
      go Top n = rw (neither (near p.y b.lat_min) _ (neither (near p.x b.lng_max) _ n.1).1).1

  pub bridge_far : bridge_of b p q ≡ None
  unfolding bridge_of
  bridge_far = go (degenerate p q)
    where
      test : Edge → Bool
      test l = runs_along l b p q

      go : (t : Bool) → cond t None (find test edges) ≡ None
      go true = refl
      go false = found_nowhere (find test) test Some None refl (λ _ _. refl) edges Left (λ k h. far-along (get_or edges k Left))

module _ (b : TileBounds) (r : List Coord) (i k : ℕ) (z : Coord) (e : k ≡ i + 1) (h : k < length r) where
  two : drop i r ≡ get_or r i z ∷ get_or r k z ∷ drop (suc k) r
  two = rw (e, add-one, drop-cons r i z (omega arith), drop-cons r (suc i) z (omega arith))

  pub bridge_here : (l : Edge) → bridge_of b (get_or r i z) (get_or r k z) ≡ Some l → first_bridge b (drop i r) ≡ Some l
  unfolding first_bridge
  bridge_here l f = rw (two, f)

  pub bridge_later : bridge_of b (get_or r i z) (get_or r k z) ≡ None → first_bridge b (drop i r) ≡ first_bridge b (drop k r)
  unfolding first_bridge
  bridge_later f = rw (two, f) (rw (drop-cons r k z h))

pub bridge_none : (b : TileBounds) (r : List Coord) (i : ℕ) → length r ≤ suc i → first_bridge b (drop i r) ≡ None
unfolding first_bridge
bridge_none b r i h = go (drop i r) (omega (arith, length-drop i r))
  where
    go : (l : List Coord) → length l ≤ 1 → first_bridge b l ≡ None
    go [] h = refl
    go (p ∷ []) h = refl
    go (p ∷ q ∷ l) h = absurd (omega arith)
