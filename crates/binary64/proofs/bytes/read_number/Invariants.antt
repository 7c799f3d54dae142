-- `bytes::read_number` meets its contract: the lowest bytes are read. Assumes nothing.
use Rattle.binary64.proofs.Widths.{Reading}
use Rattle.binary64.proofs.bytes.read_number.Given as goal

abbrev pub invariant-loop-i : goal.invariant-loop-i
invariant-loop-i g l = Reading l.b l.at l.i l.n
