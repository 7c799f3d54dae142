-- Laws of the issue finder: neighbours that repeat, by place, the cases of `issue_of`, and whether it is an issue. Assumes nothing.
use mathlib.Core.Path.{◌≡◌, refl, sym, ap, ◌∙◌}
use mathlib.Core.Bool.{Bool, true, false, not, ◌||◌, ◌&&◌, cond, and-false, true≢false}
use mathlib.Core.List.{List, [], ◌∷◌}
use Prim.Native.Nat.{ℕ, suc, ◌+◌, ◌/◌, ◌≤◌, ◌<◌}
use native.Mathlib.Numerals.{add-one}
use native.Mathlib.Omega.{arith}
use lib.ListN.{length, get_or, drop, length-drop}
use lib.Seq.{drop-cons}
use lib.Ieee.{Float, nan, eq, ne, lt}
use lib.Ieee.Compare.{differs_from_itself}
use lib.Dec.{ltb}
use borrow.Author.Tests.{lt-ltb, le-ltb}
use Rattle.binary64.specs.Compare.{magnitude, near}
use Rattle.binary64.proofs.Booleans.{never_both}
use Rattle.binary64.proofs.FloatOrder.{sub_nan}
use Rattle.tile.specs.declared.Coord.{Coord}
use Rattle.tile.specs.Internal.{coord_at}
use Rattle.tile.specs.Ring.{same}
use Rattle.tile.specs.Ring.{coords}
use Rattle.tile.proofs.Rings.{coords-at, count-coords}
use Rattle.box_pairs.specs.declared.Issue.TheVariants.{Sound, Short}
use Rattle.box_pairs.specs.declared.pairs.Pair.{Pair}
use Rattle.std.specs.Prelude.{Option, Some, None}
use Rattle.box_pairs.specs.Cross.{degenerate}
use Rattle.box_pairs.specs.Internal.{PairBelow, IssueBelow}
use Rattle.box_pairs.specs.Internal.{repeated, self_intersecting}
use Rattle.box_pairs.specs.Pairs.{first_pair}
use Rattle.box_pairs.specs.Issue.{repeated_from, first_repeated, crossing_at, crossing_of, repeated_or, issue_of, has_issue}
use Rattle.box_pairs.proofs.First.{is_pair}
use Rattle.box_pairs.proofs.EdgeLaws.{crossing_first, pair_below}

-- ---- neighbours

near_nan : (a : Float) → near a nan ≡ false
unfolding near magnitude lt
near_nan a = rw (sub_nan a)

differs_nan : (x : Float) → eq x x ≡ false → x ≡ nan
unfolding ne
differs_nan x e = differs_from_itself x (rw e tt)

-- a coordinate that differs from itself, since it holds a NaN, is near none
pub near_none : (a p : Coord) → same p p ≡ false → degenerate a p ≡ false
unfolding degenerate same
near_none a p e = go (eq p.x p.x) (eq p.y p.y) refl refl e
  where
    go : (u v : Bool) → eq p.x p.x ≡ u → eq p.y p.y ≡ v → u && v ≡ false → near a.x p.x && near a.y p.y ≡ false
    go true true f g h = absurd (true≢false h)
    go true false f g h = rw (differs_nan p.y g, near_nan a.y) (and-false (near a.x p.x))
    go false v f g h = rw (differs_nan p.x f, near_nan a.x)

pub few : (l : List Coord) → length l ≤ 2 → repeated l ≡ false
unfolding repeated
few [] h = refl
few (p ∷ []) h = refl
few (p ∷ q ∷ []) h = refl
few (p ∷ q ∷ s ∷ l) h = absurd (omega arith)

pub one_more : (l : List Coord) (k : ℕ) (z : Coord) → k + 2 < length l → repeated (drop k l) ≡ degenerate (get_or l k z) (get_or l (k + 1) z) ||
    repeated (drop (k + 1) l)
unfolding repeated
one_more l k z h = rw (
  add-one k,
  drop-cons l k z (omega arith),
  drop-cons l (suc k) z (omega arith),
  drop-cons l (suc (suc k)) z
      (omega arith),
)

-- the same of the place
few-place : (j : ℕ) (l : List Coord) → length l ≤ 2 → repeated_from j l ≡ None
unfolding repeated_from
few-place j [] h = refl
few-place j (p ∷ []) h = refl
few-place j (p ∷ q ∷ []) h = refl
few-place j (p ∷ q ∷ s ∷ l) h = absurd (omega arith)

one_more_place : (j : ℕ) (l : List Coord) (k : ℕ) (z : Coord) → k + 2 < length l
    → repeated_from j (drop k l) ≡ cond (degenerate (get_or l k z) (get_or l (k + 1) z)) (Some j) (repeated_from (j + 1) (drop (k + 1) l))
unfolding repeated_from
one_more_place j l k z h = rw (
  add-one j,
  add-one k,
  drop-cons l k z (omega arith),
  drop-cons l (suc k) z (omega arith),
  drop-cons l
      (suc (suc k)) z (omega arith),
)

abbrev pub is_repeat : Option ℕ → Bool
is_repeat None = false
is_repeat (Some k) = true

-- there is a first place exactly where neighbours repeat
place_verdict : (j : ℕ) (l : List Coord) → is_repeat (repeated_from j l) ≡ repeated l
unfolding repeated repeated_from
place_verdict j [] = refl
place_verdict j (p ∷ []) = refl
place_verdict j (p ∷ q ∷ []) = refl
place_verdict j (p ∷ q ∷ s ∷ l) = go (degenerate p q) (place_verdict (suc j) (q ∷ s ∷ l))
  where
    go : (b : Bool) → is_repeat (repeated_from (suc j) (q ∷ s ∷ l)) ≡ repeated (q ∷ s ∷ l) → is_repeat
        (cond b (Some j) (repeated_from (suc j) (q ∷ s ∷ l))) ≡ b || repeated (q ∷ s ∷ l)
    go true h = refl
    go false h = h

pub repeated_first : (l : List Coord) → is_repeat (first_repeated l) ≡ repeated l
repeated_first l = place_verdict 0 l

no_place : (x : Option ℕ) → is_repeat x ≡ false → x ≡ None
no_place None e = refl
no_place (Some k) e = absurd (true≢false e)

pub first-none : (l : List Coord) → repeated l ≡ false → first_repeated l ≡ None
first-none l e = no_place (first_repeated l) (repeated_first l ∙ e)

module _ (s : List Float) where
  pub repeated-next : (k : ℕ) → k + 2 < length s / 2
      → repeated_from k (drop k (coords s)) ≡ cond (degenerate (coord_at s k) (coord_at s (k + 1))) (Some k)
      (repeated_from (k + 1) (drop (k + 1) (coords s)))
  repeated-next k l =
      let z : Coord = record { x = nan; y = nan } in
      one_more_place k (coords s) k z (omega (arith, count-coords s)) ∙
      rw (coords-at k s z (omega arith), coords-at (k + 1) s z (omega arith))

  pub repeated_end : (k : ℕ) → length s / 2 ≤ k + 2 → repeated_from k (drop k (coords s)) ≡ None
  repeated_end k l = few-place k (drop k (coords s)) (omega (arith, length-drop k (coords s), count-coords s))

  -- ---- the cases

  pub issue_short : (b : Bool) → length s / 2 < 4 → issue_of b (coords s) ≡ Short
  unfolding issue_of
  issue_short b l = rw (count-coords s, lt-ltb (length s / 2) 4 l)

  pub issue_long : (b : Bool) → 4 ≤ length s / 2 → issue_of b (coords s) ≡ repeated_or (first_repeated (coords s)) (crossing_of b (coords s))
  unfolding issue_of
  issue_long b l = rw (count-coords s, le-ltb (length s / 2) 4 l)

-- ---- the verdict, in the words of document 01

pub issue_verdict : (b : Bool) (r : List Coord) → has_issue (issue_of b r) ≡ ltb (length r) 4 || (repeated r || (not b && self_intersecting r))
unfolding issue_of has_issue
issue_verdict b r = rw (← repeated_first r, ← crossing_first r) (go (ltb (length r) 4) (first_repeated r) b (first_pair r))
  where
    go : (t : Bool) (x : Option ℕ) (c : Bool) (y : Option Pair)
        → has_issue (cond t Short (repeated_or x (cond c Sound (crossing_at y)))) ≡ t || (is_repeat x || (not c && is_pair y))
    go true x c y = refl
    go false (Some k) c y = refl
    go false None true y = refl
    go false None false None = refl
    go false None false (Some p) = refl

-- ---- the positions that are told

abbrev position-of : ℕ → Option ℕ → ℕ
position-of z None = z
position-of z (Some k) = k

position-below : (j : ℕ) (l : List Coord) (k : ℕ) → repeated_from j l ≡ Some k → k < j + length l
unfolding repeated_from
position-below j [] k e = absurd (never_both refl (sym (ap is_repeat e)))
position-below j (p ∷ []) k e = absurd (never_both refl (sym (ap is_repeat e)))
position-below j (p ∷ q ∷ []) k e = absurd (never_both refl (sym (ap is_repeat e)))
position-below j (p ∷ q ∷ s ∷ l) k e = go (degenerate p q) (λ h. position-below (suc j) (q ∷ s ∷ l) k h) e
  where
    go : (b : Bool) → (repeated_from (suc j) (q ∷ s ∷ l) ≡ Some k → k < suc j + length (q ∷ s ∷ l))
        → cond b (Some j) (repeated_from (suc j) (q ∷ s ∷ l)) ≡ Some k → k < j + length (p ∷ q ∷ s ∷ l)
    go true later h = let z : j ≡ k = ap (position-of j) h in omega arith
    go false later h = omega (arith, later h)

pub issue_below : (n : ℕ) (b : Bool) (r : List Coord) → length r ≤ n → IssueBelow n (issue_of b r)
unfolding issue_of
issue_below n b r l = go (ltb (length r) 4) (first_repeated r) refl b (first_pair r) (pair_below n r l)
  where
    go : (t : Bool) (x : Option ℕ) → first_repeated r ≡ x → (c : Bool) (y : Option Pair) → PairBelow n y
        → IssueBelow n (cond t Short (repeated_or x (cond c Sound (crossing_at y))))
    go true x e c y h = tt
    go false (Some k) e c y h = omega (arith, position-below 0 r k e)
    go false None e true y h = tt
    go false None e false None h = tt
    go false None e false (Some p) h = h
