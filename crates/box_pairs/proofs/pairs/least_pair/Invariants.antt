-- `pairs::least_pair` meets its contract: each row keeps the least number of a crossing pair, and where the scan takes over, it answers.
-- Assumes nothing.
use Rattle.box_pairs.specs.Edges.{ring_of}
use Rattle.box_pairs.specs.Internal.{LeastBefore}
use Rattle.box_pairs.specs.Pairs.{edges_cross}
use Rattle.box_pairs.proofs.pairs.least_pair.Given as goal

abbrev pub invariant-loop-p : goal.invariant-loop-p
invariant-loop-p l = LeastBefore (edges_cross (ring_of l.edges)) l.order l.edges.count l.p l.best
