-- `bytes::write_number` meets its contract: the lowest i bytes are written. Assumes nothing.
use Rattle.binary64.proofs.Widths.{Writing}
use Rattle.binary64.proofs.bytes.write_number.Given as goal

abbrev pub invariant-loop-i : goal.invariant-loop-i
invariant-loop-i g l = Writing l.initial.out l.at l.n l.i l.rest l.out
