-- `pairs::sweep_sorted` meets its contract. Each loop says that no pair of slots passed is a crossing one; where the inner loop breaks off,
-- none follows. Assumes nothing.
use Rattle.std.proofs.Common.{◌≡◌, None}
use Rattle.box_pairs.specs.Edges.{ring_of}
use Rattle.box_pairs.specs.Internal.{Passed, at_slots}
use Rattle.box_pairs.specs.Pairs.{edges_cross}
use Rattle.box_pairs.proofs.Sweep.{Inner}
use Rattle.box_pairs.proofs.pairs.sweep_sorted.Given as goal

abbrev pub invariant-loop-q : goal.invariant-loop-q
invariant-loop-q l = (l.hit ≡ None) × Inner (at_slots (edges_cross (ring_of l.edges)) l.order) l.edges.count l.p l.q

abbrev pub invariant-pairs : goal.invariant-pairs
invariant-pairs l = (l.hit ≡ None) × Passed (at_slots (edges_cross (ring_of l.edges)) l.order) l.edges.count l.p
