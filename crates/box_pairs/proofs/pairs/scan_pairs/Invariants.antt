-- `pairs::scan_pairs` meets its contract. Each loop says that no pair passed is a crossing one; so the one it stops at is the first.
-- Assumes nothing.
use Rattle.std.proofs.Common.{◌≡◌, None}
use Rattle.box_pairs.specs.Edges.{ring_of}
use Rattle.box_pairs.specs.Internal.{Passed}
use Rattle.box_pairs.specs.Pairs.{edges_cross}
use Rattle.box_pairs.proofs.Sweep.{Inner}
use Rattle.box_pairs.proofs.pairs.scan_pairs.Given as goal

abbrev pub invariant-loop-j : goal.invariant-loop-j
invariant-loop-j l = (l.first ≡ None) × Inner (edges_cross (ring_of l.edges)) l.edges.count l.i l.j

abbrev pub invariant-pairs : goal.invariant-pairs
invariant-pairs l = (l.first ≡ None) × Passed (edges_cross (ring_of l.edges)) l.edges.count l.i
