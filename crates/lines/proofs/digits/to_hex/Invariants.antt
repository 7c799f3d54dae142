-- `to_hex` meets its contract. Assumes nothing.
use Rattle.lines.proofs.Hexadecimal.{Hexed}
use Rattle.lines.proofs.digits.to_hex.Given as goal

abbrev pub invariant-loop-k : goal.invariant-loop-k
invariant-loop-k l = Hexed l.initial.out l.count l.k l.out
