-- `pairs::least_pair` meets its contract: each row keeps the least number of a crossing pair, and where the scan takes over, it answers.
-- Assumes nothing.
use mathlib.Core.Path.{sym, ◌∙◌}
use Rattle.binary64.specs.Internal.{key}
use Rattle.box_pairs.specs.Internal.{low_x}
use Rattle.box_pairs.specs.Edges.{ring_of}
use Rattle.box_pairs.specs.Pairs.{edges_cross}
use Rattle.box_pairs.proofs.First.{rows_done}
use Rattle.box_pairs.proofs.EdgeLaws.{first_front, stops, edge_sweeps}
use Rattle.box_pairs.proofs.pairs.least_pair.Goals as goal

pub returns : goal.returns
returns c = let l = c.loop-p in
    let sweeps = edge_sweeps c.args.edges.now.count (ring_of c.args.edges.now) c.args.lows.now c.args.order.now c.requires.swept
    c.type_inv.lows in c.pair_of.ensures
    ∙ rows_done (λ i. key (low_x (ring_of c.args.edges.now) i)) c.args.edges.now.count (stops (ring_of c.args.edges.now)) (edges_cross (ring_of c.args.edges.now)) sweeps
    c.args.order.now c.requires.swept.positions c.requires.swept.sorted
    l.p l.best c.args.edges.now.small c.loop-p-test.false l.invariant
    ∙ sym (first_front c.args.edges.now.ring.now c.args.edges.now.count c.args.edges.now.has_edges)
