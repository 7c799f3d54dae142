-- What the characters that were read print was written, but for what is known of a line that has not ended. Assumes nothing.
use Rattle.ringcut.proofs.Answered.{Reached}
use Rattle.ringcut.proofs.read_all.Given as goal

abbrev pub invariant-loop : goal.invariant-loop
invariant-loop g l =
    Reached (g.R.Read.remaining l.initial.input) (g.R.Read.remaining l.input) (g.W.Write.contents l.initial.to)
    (g.W.Write.contents l.to) l.line l.kept
