-- No pass outgrows its room: it has at most half as many vertices again as its ring. And laws of half-growth. Assumes nothing.
use mathlib.Core.Bool.{Bool, true, false, cond}
use mathlib.Core.List.{List, [], ◌∷◌}
use Prim.Native.Nat.{ℕ, ◌+◌, ◌*◌, ◌-◌, ◌≤◌, zero-le}
use native.Mathlib.Nat.{le_refl, le_trans}
use native.Mathlib.Omega.{arith}
use lib.ListN.{length, take, length-append}
use lib.Seq.{length-take-le}
use Rattle.tile.specs.declared.Coord.{Coord}
use Rattle.tile.specs.declared.TileBounds.{TileBounds}
use Rattle.tile.specs.declared.Edge.{Edge}
use Rattle.tile.specs.Ring.{last, closed}
use Rattle.cutting_lines.specs.CuttingLines.{inside, crossing}
use Rattle.edge_pass.specs.Pass.{step, steps, leave_off, around, pass}
use Rattle.edge_pass.specs.Growth.{half_growth}

-- ---- half-growth

pub half_growth_mono : {m n : ℕ} → m ≤ n → half_growth m ≤ half_growth n
unfolding half_growth
half_growth_mono {m} {n} h = omega arith

pub le-half_growth : (n : ℕ) → n ≤ half_growth n
unfolding half_growth
le-half_growth n = omega arith

pub half_growth-le : (n : ℕ) → 2 * half_growth n ≤ 3 * n
unfolding half_growth
half_growth-le n = omega arith

-- ---- one pass: what a step gives beyond one vertex and a half is paid for by the verdicts, which are the same at both ends of the ring

weight : Bool → ℕ
weight true = 1
weight false = 0

step_grows : (v w : Bool) (cross end : Coord) → 2 * length (step v w cross end) + weight v ≤ 3 + weight w
unfolding weight
step_grows true true cross end = omega arith
step_grows true false cross end = omega arith
step_grows false true cross end = omega arith
step_grows false false cross end = omega arith

module _ (l : Edge) (b : TileBounds) where
  steps_grow : (v : Bool) (s e : Coord) (r : List Coord) → 2 * length (steps l b v s (e ∷ r)) + weight v ≤ 3 * length (e ∷ r) + weight
      (inside l b (last e r))
  unfolding steps last
  steps_grow v s e [] =
      omega (arith, length-append (step v (inside l b e) (crossing l b s e) e) [], step_grows v (inside l b e) (crossing l b s e) e)
  steps_grow v s e (q ∷ r) =
      omega (
        arith,
        length-append (step v (inside l b e) (crossing l b s e) e) (steps l b (inside l b e) e (q ∷ r)),
        step_grows v
            (inside l b e) (crossing l b s e) e,
        steps_grow (inside l b e) e q r,
      )

  around_grows : (r : List Coord) → length (around l b r) ≤ half_growth (length r)
  unfolding around half_growth
  around_grows [] = zero-le
  around_grows (p ∷ r) = let g = steps_grow (inside l b (last p r)) (last p r) p r in omega arith

pub leave_off-length : (r : List Coord) → length (leave_off r) ≤ length r
unfolding leave_off
leave_off-length [] = le_refl 0
leave_off-length (p ∷ []) = le_refl 1
leave_off-length (p ∷ q ∷ r) = go (closed (p ∷ q ∷ r))
  where
    go : (c : Bool) → length (cond c (take (length (p ∷ q ∷ r) - 1) (p ∷ q ∷ r)) (p ∷ q ∷ r)) ≤ length (p ∷ q ∷ r)
    go true = let n = length-take-le (length (p ∷ q ∷ r) - 1) (p ∷ q ∷ r) (omega arith) in omega arith
    go false = le_refl (length (p ∷ q ∷ r))

pub pass_grows : (l : Edge) (b : TileBounds) (r : List Coord) → length (pass l b r) ≤ half_growth (length r)
unfolding pass
pass_grows l b r = le_trans (around_grows l b (leave_off r)) (half_growth_mono (leave_off-length r))
