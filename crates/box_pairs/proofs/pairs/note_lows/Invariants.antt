-- `pairs::note_lows` meets its contract. Assumes nothing.
use Rattle.box_pairs.specs.Edges.{ring_of}
use Rattle.box_pairs.proofs.EdgeLaws.{Noting}
use Rattle.box_pairs.proofs.pairs.note_lows.Given as goal

abbrev pub invariant-loop-i : goal.invariant-loop-i
invariant-loop-i l = Noting l.edges.count l.i (ring_of l.edges) l.initial.work l.work
