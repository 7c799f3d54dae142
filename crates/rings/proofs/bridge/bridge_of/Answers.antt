-- `bridge_of` meets its contract. The invariant: the edge runs along none of the bounds so far. Assumes nothing.
use mathlib.Core.Path.{refl, sym, ◌∙◌}
use native.Mathlib.Omega.{arith}
use Rattle.std.specs.Prelude.{Some, None, find}
use Rattle.std.proofs.Common.{below_more}
use Rattle.std.proofs.lemmas.List.Recursion.{found_at, found_nowhere}
use Rattle.tile.specs.declared.Edge.{Edge}
use Rattle.tile.specs.declared.Edge.TheVariants.{Left}
use Rattle.rings.specs.Bridge.{runs_along, edges, bridge_of}
use Rattle.rings.proofs.Walks.{bridge_far}
use Rattle.rings.proofs.bridge.bridge_of.Goals as goal

pub returns-then-not-is_near_bound : goal.returns-then-not-is_near_bound
returns-then-not-is_near_bound c = sym (bridge_far c.args.bounds c.args.p c.args.q (sym c.is_near_bound.ensures ∙ c.if-not-is_near_bound.true))

pub returns-then-is_degenerate : goal.returns-then-is_degenerate
unfolding bridge_of
returns-then-is_degenerate c = rw (← c.is_degenerate.ensures, c.if-is_degenerate.true)

pub returns-then-runs_along : goal.returns-then-runs_along
unfolding bridge_of
returns-then-runs_along c = let test = λ (l : Edge). runs_along l c.args.bounds c.args.p c.args.q in
    rw (← c.is_degenerate.ensures, c.if-is_degenerate.false) (sym (found_at (find test) test Some None refl (λ _ _. refl) edges
    c.loop-edge.edge-index Left c.loop-edge-test.true c.loop-edge.invariant (sym c.runs_along.ensures ∙ c.if-runs_along.true)))

pub loop-edge-preserved : goal.loop-edge-preserved
loop-edge-preserved c = below_more _ _ c.loop-edge.invariant (sym c.runs_along.ensures ∙ c.if-runs_along.false)

pub returns : goal.returns
unfolding bridge_of
returns c = let test = λ (l : Edge). runs_along l c.args.bounds c.args.p c.args.q in
    rw (← c.is_degenerate.ensures, c.if-is_degenerate.false) (sym (found_nowhere (find test) test Some None refl (λ _ _. refl) edges Left
    (λ k h. c.loop-edge.invariant k (omega arith))))
