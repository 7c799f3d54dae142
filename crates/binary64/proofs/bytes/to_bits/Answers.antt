-- `bytes::to_bits` meets its contract. Assumes nothing.
use mathlib.Core.Path.{sym, ap, subst}
use lib.Dec.{T}
use lib.Ieee.{Float, binary64, to_bits}
use lib.Ieee.Compare.{differs_from_itself}
use Rattle.binary64.proofs.Patterns.{no_nan}
use Rattle.binary64.proofs.bytes.to_bits.Goals as goal

pub float_to_bits-result : goal.float_to_bits-result
float_to_bits-result c = no_nan c.args.x c.if-x.false

pub returns-then-x : goal.returns-then-x
unfolding to_bits
returns-then-x c = sym (ap (λ (v : Float). to_bits binary64 v) (differs_from_itself c.args.x (subst T (sym c.if-x.true) tt)))
