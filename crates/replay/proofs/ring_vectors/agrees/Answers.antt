-- `agrees` meets its contract, by that of the ring call. Assumes nothing.
use Rattle.replay.specs.Calls.{ring_agrees}
use Rattle.replay.proofs.ring_vectors.agrees.Goals as goal

pub returns : goal.returns
unfolding ring_agrees
returns c = let e = c.ring-answer.ensures in rw (← e.answer, ← c.of_ring.ensures, ← e.lent) c.all_agree.ensures
