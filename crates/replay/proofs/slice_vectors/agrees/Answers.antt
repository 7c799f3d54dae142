-- `agrees` meets its contract, by that of the slice call. Assumes nothing.
use Rattle.replay.specs.Calls.{slice_agrees}
use Rattle.replay.proofs.Codes.{slice_fits}
use Rattle.replay.proofs.slice_vectors.agrees.Goals as goal

pub of_slice-requires : goal.of_slice-requires
of_slice-requires c = slice_fits _ _ _ _ _ _ _ c.polygon-answer.ensures.answer

pub returns : goal.returns
unfolding slice_agrees
returns c = let e = c.polygon-answer.ensures in rw (← e.answer, ← c.of_slice.ensures, ← e.lent) c.all_agree.ensures
