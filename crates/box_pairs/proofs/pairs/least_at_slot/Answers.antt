-- `pairs::least_at_slot` meets its contract. The loop keeps a number of a crossing pair that is at most that of each crossing pair passed;
-- where it breaks off, none follows. Assumes nothing.
use mathlib.Core.Path.{◌≡◌, sym, ap₂, ◌∙◌}
use Prim.Native.Nat.{ℕ, ◌<◌}
use lib.Ieee.{nan, lt}
use lib.ListN.{get_or}
use Rattle.binary64.specs.Internal.{key}
use Rattle.box_pairs.specs.Internal.{low_x, at_slots}
use Rattle.box_pairs.specs.Edges.{ring_of}
use Rattle.box_pairs.specs.Pairs.{edges_cross}
use Rattle.box_pairs.proofs.Sweep.{Sweeps}
use Rattle.box_pairs.proofs.First.{row_next, rows_next, row-stop}
use Rattle.box_pairs.proofs.EdgeLaws.{lesser-front, stops, edge_sweeps}
use Rattle.box_pairs.proofs.pairs.least_at_slot.Goals as goal
use Rattle.box_pairs.proofs.pairs.least_at_slot.Goals.{After-high_x-end}

sweeps : (c : After-high_x-end)
    → Sweeps (λ i. key (low_x (ring_of c.args.edges.now) i))
    c.args.edges.now.count
    (stops (ring_of c.args.edges.now))
    (edges_cross (ring_of c.args.edges.now))
sweeps c =
    edge_sweeps c.args.edges.now.count (ring_of c.args.edges.now) c.args.lows.now c.args.order.now c.requires.swept
    c.type_inv.lows

-- the test that breaks the loop off
stop-test : (c : After-high_x-end) (q : ℕ)
    → q < c.args.edges.now.count
    → lt c.high_x-end.result
    (get_or c.args.lows.now
    (get_or c.args.order.now q 0) nan)
    ≡ at_slots (stops (ring_of c.args.edges.now))
    c.args.order.now
    c.args.p q
stop-test c q l =
    let below = c.requires.swept.positions.below in
    ap₂ lt c.high_x-end.ensures (c.requires.swept.noted _ (below q l))

pub loop-q-preserved : goal.loop-q-preserved
loop-q-preserved c = let l = c.loop-q in
    let below = c.requires.swept.positions.below in
    let e = c.lesser-least.ensures
    ∙ lesser-front c.args.edges.now.ring.now c.args.edges.now.count c.args.edges.now.has_edges _ _ l.least (below c.args.p c.requires.slot)
    (below l.q c.loop-q-test.true) in rw e (row_next (λ i. key (low_x (ring_of c.args.edges.now) i)) c.args.edges.now.count (stops (ring_of c.args.edges.now)) (edges_cross (ring_of c.args.edges.now)) (sweeps (goal.at.loop-q-preserved c).After-high_x-end)
    c.args.order.now c.requires.swept.positions c.requires.swept.sorted
    c.args.p l.q l.least c.loop-q-test.true l.invariant)

pub returns-then-lows-j : goal.returns-then-lows-j
returns-then-lows-j c = let l = c.loop-q in
    let taken = c.loop-q-test.true in rows_next (edges_cross (ring_of c.args.edges.now)) c.args.order.now c.args.edges.now.count c.args.p l.q l.least c.requires.slot l.invariant
    (row-stop (λ i. key (low_x (ring_of c.args.edges.now) i)) c.args.edges.now.count (stops (ring_of c.args.edges.now)) (edges_cross (ring_of c.args.edges.now)) (sweeps (goal.at.returns-then-lows-j c).After-high_x-end)
    c.args.order.now c.requires.swept.positions c.requires.swept.sorted
    c.args.p l.q l.least taken l.invariant (sym (stop-test (goal.at.returns-then-lows-j c).After-high_x-end l.q taken) ∙ c.if-lows-j.true))
