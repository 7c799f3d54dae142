-- `bytes::from_bits` meets its contract: above the infinity's pattern, without the sign, lie the NaN's. Assumes nothing.
use mathlib.Core.Path.{sym}
use lib.Ieee.{div, of_bits}
use Rattle.binary64.proofs.Patterns.{nan_pattern, no_nan_pattern}
use Rattle.binary64.proofs.bytes.from_bits.Goals as goal

pub float_from_bits-result : goal.float_from_bits-result
float_from_bits-result c = no_nan_pattern c.args.n c.if-n-gt9218868437227405312.false

pub returns-then-n-gt9218868437227405312 : goal.returns-then-n-gt9218868437227405312
unfolding div of_bits
returns-then-n-gt9218868437227405312 c = sym (nan_pattern c.args.n c.if-n-gt9218868437227405312.true)
