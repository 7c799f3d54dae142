-- `pairs::least_at_slot` meets its contract. The loop keeps a number of a crossing pair that is at most that of each crossing pair passed;
-- where it breaks off, none follows. Assumes nothing.
use Rattle.box_pairs.specs.Edges.{ring_of}
use Rattle.box_pairs.specs.Pairs.{edges_cross}
use Rattle.box_pairs.proofs.First.{Row}
use Rattle.box_pairs.proofs.pairs.least_at_slot.Given as goal

abbrev pub invariant-loop-q : goal.invariant-loop-q
invariant-loop-q l = Row (edges_cross (ring_of l.edges)) l.order l.edges.count l.p l.q l.least
