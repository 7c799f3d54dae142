-- The origins over two slices in turn, and the closing: after each pass they stand at the front of a slice beside the ring. Assumes
-- nothing.
use mathlib.Core.Path.{◌≡◌, refl, sym, ◌∙◌}
use mathlib.Core.Bool.{Bool, true, false, true≢false}
use mathlib.Core.List.{List, [], ◌∷◌, ◌++◌, append_assoc}
use Prim.Native.Nat.{ℕ, suc, ◌+◌, ◌*◌, ◌≤◌, ◌<◌}
use native.Mathlib.Omega.{arith}
use lib.Ieee.{Float}
use lib.ListN.{length, get_or, take, drop, set, take-append-drop}
use lib.Seq.{take_at, set_split, get_or-take}
use borrow.Author.Tests.{le-leb, lt-leb}
use Rattle.tile.specs.declared.Coord.{Coord}
use Rattle.tile.specs.declared.TileBounds.{TileBounds}
use Rattle.tile.specs.declared.Edge.{Edge}
use Rattle.tile.specs.declared.Edge.TheVariants.{Top}
use Rattle.tile.specs.Ring.{coords, closed, close}
use Rattle.tile.specs.Internal.{Stands, Written}
use Rattle.tile.proofs.Rings.{length_front, stands-front, written-front, count-closed, count_open}
use Rattle.edge_pass.specs.Pass.{pass}
use Rattle.edge_pass.specs.Growth.{half_growth}
use Rattle.edge_pass.specs.Origins.{pass_origins}
use Rattle.edge_pass.proofs.OriginWalking.{pass_many}
use Rattle.sutherland_hodgman.specs.Clip.{passes, finish}
use Rattle.sutherland_hodgman.specs.Internal.{three_passes, three_passes_origins, top_origins}
use Rattle.sutherland_hodgman.specs.Growth.{B}
use Rattle.sutherland_hodgman.specs.Origins.{passes_origins, positions_from, close_origins, finish_origins, clip_origins}
use Rattle.sutherland_hodgman.proofs.Stages.{Stage, stage_room, stage_last}
use Rattle.sutherland_hodgman.proofs.Positions.{length-positions}
use Rattle.sutherland_hodgman.proofs.OriginLaws.{finish_many}

-- the positions, at the front
pub numbered : (n : ℕ) (d d' : List ℕ) → d' ≡ positions_from 0 n ++ drop n d → take n d' ≡ positions_from 0 n
numbered n d d' h = rw h (take_at (positions_from 0 n) (drop n d) n (length-positions 0 n))

-- a pass over the ring r, k vertices at the front of d, with the origins os at the front of o
pub origins_next : (l : Edge) (b : TileBounds) {r : List Coord} {k : ℕ} {d : List Float} {os : List ℕ} (o o0 o' : List ℕ)
    (d0 d' : List Float) (k' : ℕ) → Stands r k d → take k o ≡ os
    → Written (pass l b (coords (take (2 * k) d))) d0 k' d' → o' ≡ pass_origins l b (coords (take (2 * k) d)) (take k o) ++ drop k' o0
    → take k' o' ≡ pass_origins l b r os
origins_next l b {r} {k} {d} {os} o o0 o' d0 d' k' s e w h =
    let q = stands-front s in
    let p : o' ≡ pass_origins l b r os ++ drop k' o0 = rw (q, e) at h in
    let n : length (pass_origins l b r os) ≡ k' = pass_many l b r os ∙ sym (rw q at w.count) in
    rw p (take_at (pass_origins l b r os) (drop k' o0) k' n)

-- the room for the origins is half that for the numbers
pub origins-room : {j n : ℕ} {r : List Coord} {d : List Float} {k : ℕ} (here there : ℕ) → suc j ≤ 4 → B n ≤ here → B n ≤ there
    → Stage j n r d k → (k ≤ here) × (half_growth k ≤ there)
origins-room here there h p q s = let m = stage_room (2 * here) (2 * there) h (omega arith) (omega arith) s in (
  omega (arith, m.0),
  omega
      (arith, m.1),
)

pub origins-last : {n : ℕ} {r : List Coord} {d : List Float} {k : ℕ} (here there : ℕ) → B n ≤ here → B n ≤ there → Stage 3 n r d k
    → (k ≤ here) × (half_growth k ≤ there) × (0 < k → half_growth k + 1 ≤ there)
origins-last here there p q s = let m = stage_last (2 * here) (2 * there) (omega arith) (omega arith) s in (
  omega (arith, m.0),
  omega
      (arith, m.1),
  λ t. omega (arith, m.2 t),
)

-- ---- closing and finishing the n vertices at the front of a slice

open_some : (r : List Coord) → closed r ≡ false → 0 < length r
unfolding closed
open_some [] e = absurd (true≢false e)
open_some (p ∷ r) e = omega arith

module _ (s : List Float) (n : ℕ) (h : 2 * n ≤ length s) where
  pub close-origins-closed : (o : List ℕ) (r : ℕ) → r ≡ length (close (coords (take (2 * n) s))) → r ≡ n
      → o ≡ close_origins (coords (take (2 * n) s)) (take n o) ++ drop r o
  unfolding close_origins
  close-origins-closed o r c e = go (closed (coords (take (2 * n) s))) refl
    where
      go : (t : Bool) → closed (coords (take (2 * n) s)) ≡ t → o ≡ close_origins (coords (take (2 * n) s)) (take n o) ++ drop r o
      go true t = rw (t, e) (sym (take-append-drop n o))
      go false t = absurd (omega (arith, count_open (coords (take (2 * n) s)) t, length_front s n h))

  pub close-origins_open : (o : List ℕ) (r : ℕ) → n < length o → r ≡ length (close (coords (take (2 * n) s))) → (r ≡ n → ⊥)
      → set o n (get_or o 0 0) ≡ close_origins (coords (take (2 * n) s)) (take n o) ++ drop r o
  unfolding close_origins
  close-origins_open o r k c e = go (closed (coords (take (2 * n) s))) refl
    where
      go : (t : Bool) → closed (coords (take (2 * n) s)) ≡ t
          → set o n (get_or o 0 0) ≡ close_origins (coords (take (2 * n) s)) (take n o) ++ drop r o
      go true t = absurd (e (omega (arith, count-closed (coords (take (2 * n) s)) t, length_front s n h)))
      go false t =
          let l = length_front s n h in
          let m : r ≡ suc n = omega (arith, count_open (coords (take (2 * n) s)) t) in
          let some : 0 < n = omega (arith, open_some (coords (take (2 * n) s)) t) in
          rw (t, m, get_or-take n o 0 0 some, append_assoc) (set_split o n (get_or o 0 0) k)

  pub finish-origins-few : (o : List ℕ) → n < 3 → o ≡ finish_origins (coords (take (2 * n) s)) (take n o) ++ drop 0 o
  unfolding finish_origins
  finish-origins-few o l = rw (lt-leb 3 (length (coords (take (2 * n) s))) (omega (arith, length_front s n h)))

  pub finish-origins-close : (os : List ℕ) → 3 ≤ n
      → finish_origins (coords (take (2 * n) s)) os ≡ close_origins (coords (take (2 * n) s)) os
  unfolding finish_origins
  finish-origins-close os l = rw (le-leb 3 (length (coords (take (2 * n) s))) (omega (arith, length_front s n h)))

-- ---- the last pass and the closing

pub origins_topped : (b : TileBounds) (r : List Coord) (os o o₁ o₂ : List ℕ) (d d₁ d₂ : List Float) (k₁ k₂ : ℕ)
    → Written (pass Top b r) d k₁ d₁ → o₁ ≡ pass_origins Top b r os ++ drop k₁ o
    → Written (finish (coords (take (2 * k₁) d₁))) d₁ k₂ d₂ → o₂ ≡ finish_origins (coords (take (2 * k₁) d₁)) (take k₁ o₁) ++ drop k₂ o₁
    → take k₂ o₂ ≡ top_origins b r os
unfolding top_origins
origins_topped b r os o o₁ o₂ d d₁ d₂ k₁ k₂ w h f g =
    let P = pass Top b r in
    let O = pass_origins Top b r os in
    let q = written-front w in
    let n : length O ≡ k₁ = pass_many Top b r os ∙ sym w.count in
    let t : take k₁ o₁ ≡ O = rw h (take_at O (drop k₁ o) k₁ n) in
    let e : o₂ ≡ finish_origins P O ++ drop k₂ o₁ = rw (q, t) at g in
    let c : k₂ ≡ length (finish P) = rw q at f.count in
    rw e (take_at (finish_origins P O) (drop k₂ o₁) k₂ (finish_many P O (pass_many Top b r os) ∙ sym c))

pub origins-cut : (b : TileBounds) (ring : List Coord) (k : ℕ) (d : List Float) (three top : List ℕ) → Stands (three_passes b ring) k d
    → three ≡ three_passes_origins b ring
    → top ≡ top_origins b (coords (take (2 * k) d)) three → top ≡ clip_origins b ring
unfolding clip_origins passes_origins passes top_origins three_passes three_passes_origins
origins-cut b ring k d three top s e t = t ∙ rw (stands-front s, e)
