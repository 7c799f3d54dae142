-- `room_for` meets its contract: each half-growth at most doubles. Assumes nothing.
use mathlib.Core.Path.{◌∙◌, ap}
use native.Mathlib.Omega.{arith}
use Prim.Native.Nat.{ℕ, ◌+◌}
use Rattle.edge_pass.specs.Growth.{half_growth}
use Rattle.edge_pass.proofs.PassGrowth.{half_growth-le}
use Rattle.sutherland_hodgman.specs.Growth.{four_half_growths, B}
use Rattle.sutherland_hodgman.proofs.GrowthLaws.{B-positive}
use Rattle.sutherland_hodgman.proofs.growth.room_for.Goals as goal

pub returns-then-n-eq0 : goal.returns-then-n-eq0
unfolding B
returns-then-n-eq0 c = rw c.if-n-eq0.true

pub half_growth-requires-2 : goal.half_growth-requires-2
half_growth-requires-2 c = omega (arith, half_growth-le c.args.n)

pub half_growth-requires-3 : goal.half_growth-requires-3
half_growth-requires-3 c = omega (arith, half_growth-le c.args.n, half_growth-le c.half_growth.result)

pub half_growth-requires-4 : goal.half_growth-requires-4
half_growth-requires-4 c = omega (
  arith,
  half_growth-le c.args.n,
  half_growth-le c.half_growth.result,
  half_growth-le c.half_growth-2.result,
)

pub overflow_add-result : goal.overflow_add-result
overflow_add-result c = omega (
  arith,
  half_growth-le c.args.n,
  half_growth-le
      c.half_growth.result,
  half_growth-le c.half_growth-2.result,
  half_growth-le
      c.half_growth-3.result,
)

pub returns : goal.returns
unfolding four_half_growths
returns c = rw (B-positive c.args.n c.if-n-eq0.false)
    (ap (λ (k : ℕ). k + 2) (c.half_growth-4.ensures
    ∙ ap half_growth (c.half_growth-3.ensures
    ∙ ap half_growth (c.half_growth-2.ensures ∙ ap half_growth c.half_growth.ensures))))
