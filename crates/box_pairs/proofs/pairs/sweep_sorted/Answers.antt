-- `pairs::sweep_sorted` meets its contract. Each loop says that no pair of slots passed is a crossing one; where the inner loop breaks off,
-- none follows. Assumes nothing.
use mathlib.Core.Path.{◌≡◌, sym, ap₂, ◌∙◌}
use mathlib.Core.Bool.{false}
use Prim.Native.Nat.{ℕ, ◌<◌}
use native.Mathlib.Omega.{arith}
use lib.Ieee.{nan, lt}
use lib.ListN.{get_or}
use Rattle.binary64.specs.Internal.{key}
use Rattle.box_pairs.specs.Internal.{edges_at, low_x, Clear, at_slots}
use Rattle.box_pairs.specs.Edges.{ring_of}
use Rattle.box_pairs.specs.Pairs.{edges_cross}
use Rattle.box_pairs.proofs.Sweep.{Sweeps, inner_next, outer_next, sweep_hit}
use Rattle.box_pairs.proofs.Sweep.{sweep_stop, sweep_done}
use Rattle.box_pairs.proofs.EdgeLaws.{crossing-front, edges_front, never_meet, stops, edge_sweeps}
use Rattle.box_pairs.proofs.pairs.sweep_sorted.Goals as goal
use Rattle.box_pairs.proofs.pairs.sweep_sorted.Goals.{At-loop-q, At-pairs, then-may_meet_in_y+else-crosses, else-may_meet_in_y, else-loop-q-test, then-loop-q-test+then-lows-j}

sweeps : (c : At-pairs)
    → Sweeps (λ i. key (low_x (ring_of c.args.edges.now) i)) c.args.edges.now.count
    (stops (ring_of c.args.edges.now))
    (edges_cross (ring_of c.args.edges.now))
sweeps c =
    edge_sweeps c.args.edges.now.count (ring_of c.args.edges.now) c.args.lows.now c.args.order.now c.requires.swept
    c.type_inv.lows

-- the verdict on the positions in the slots p and q
verdict : (c : At-loop-q) (q : ℕ)
    → q < c.args.edges.now.count
    → edges_at c.args.edges.now.ring.now
    (get_or c.args.order.now
    c.pairs.p 0)
    (get_or c.args.order.now q 0)
    ≡ at_slots (edges_cross (ring_of c.args.edges.now))
    c.args.order.now
    c.pairs.p q
verdict c q l =
    let below = c.requires.swept.positions.below in
    edges_front c.args.edges.now.ring.now c.args.edges.now.count c.args.edges.now.has_edges _ _
    (below c.pairs.p
    c.pairs-test.true) (below q l)

-- the test that breaks the inner loop off
stop-test : (c : At-loop-q) (q : ℕ)
    → q < c.args.edges.now.count
    → lt c.high_x-high.result
    (get_or c.args.lows.now
    (get_or c.args.order.now q 0) nan)
    ≡ at_slots (stops (ring_of c.args.edges.now))
    c.args.order.now
    c.pairs.p q
stop-test c q l =
    let below = c.requires.swept.positions.below in
    ap₂ lt c.high_x-high.ensures (c.requires.swept.noted _ (below q l))

pub loop-q-preserved : goal.loop-q-preserved
loop-q-preserved c = let l = c.loop-q in
    let is = verdict (goal.at.loop-q-preserved c).At-loop-q l.q
    c.loop-q-test.true in
    let miss : at_slots (edges_cross (ring_of c.args.edges.now)) c.args.order.now c.pairs.p l.q ≡ false =
    elim c.if-may_meet_in_y.branch [
      | then-may_meet_in_y+else-crosses w ↦ sym is ∙ (sym w.crosses.ensures ∙ w.if-crosses.false)
      | else-may_meet_in_y w ↦ sym is ∙ never_meet _ _ _ (sym c.may_meet_in_y.ensures ∙ w.if-may_meet_in_y.false)
    ] in (
      l.invariant.0,
      inner_next (at_slots (edges_cross (ring_of c.args.edges.now)) c.args.order.now) c.args.edges.now.count c.pairs.p l.q
          c.loop-q-test.true l.invariant.1 miss,
    )

pub pairs-preserved : goal.pairs-preserved
pairs-preserved c = let l = c.loop-q in
    let rest : Clear (at_slots (edges_cross (ring_of c.args.edges.now)) c.args.order.now) c.pairs.p c.args.edges.now.count =
    elim c.loop-q-test.branch [
      | else-loop-q-test w ↦ λ q a b. l.invariant.1.clear q a (omega (arith, w.loop-q-test.false))
      | then-loop-q-test+then-lows-j w ↦ sweep_stop (λ i. key (low_x (ring_of c.args.edges.now) i)) c.args.edges.now.count (stops (ring_of c.args.edges.now)) (edges_cross (ring_of c.args.edges.now)) (sweeps (goal.at.pairs-preserved c).At-pairs)
          c.args.order.now c.requires.swept.positions c.requires.swept.sorted
          c.pairs.p l.q l.invariant.1.after w.loop-q-test.true l.invariant.1.clear
          (sym (stop-test (goal.at.pairs-preserved c).At-loop-q l.q w.loop-q-test.true) ∙ w.if-lows-j.true)
    ] in (
      l.invariant.0,
      outer_next (at_slots (edges_cross (ring_of c.args.edges.now)) c.args.order.now) c.args.edges.now.count c.pairs.p
          c.pairs-test.true c.pairs.invariant.1 rest,
    )

pub returns-after-pairs-clause-verdict : goal.returns-after-pairs-clause-verdict
returns-after-pairs-clause-verdict c = let none = sweep_done (λ i. key (low_x (ring_of c.args.edges.now) i)) c.args.edges.now.count (stops (ring_of c.args.edges.now)) (edges_cross (ring_of c.args.edges.now)) (sweeps (goal.at.returns-after-pairs-clause-verdict c).At-pairs)
    c.args.order.now c.requires.swept.positions c.requires.swept.sorted c.pairs.p c.pairs-test.false c.pairs.invariant.1 in
    rw c.pairs.invariant.0 (sym (crossing-front c.args.edges.now.ring.now c.args.edges.now.count c.args.edges.now.has_edges ∙ none))

pub returns-then-crosses-clause-verdict : goal.returns-then-crosses-clause-verdict
returns-then-crosses-clause-verdict c = let l = c.loop-q in
    let hit = sweep_hit (λ i. key (low_x (ring_of c.args.edges.now) i)) c.args.edges.now.count (stops (ring_of c.args.edges.now)) (edges_cross (ring_of c.args.edges.now)) (sweeps (goal.at.returns-then-crosses-clause-verdict c).At-pairs)
    c.args.order.now c.requires.swept.positions c.requires.swept.sorted
    c.pairs.p l.q l.invariant.1.after c.loop-q-test.true
    (sym (verdict (goal.at.returns-then-crosses-clause-verdict c).At-loop-q l.q
    c.loop-q-test.true) ∙
    (sym c.crosses.ensures ∙ c.if-crosses.true)) in
    sym (crossing-front c.args.edges.now.ring.now c.args.edges.now.count c.args.edges.now.has_edges ∙ hit)
