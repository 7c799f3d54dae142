-- `put_hex` meets its contract. Assumes nothing.
use native.Mathlib.Numerals.{add-one}
use Rattle.lines.specs.Lines.{lower_hex}
use Rattle.lines.proofs.digits.put_hex.Goals as goal

pub returns : goal.returns
unfolding lower_hex
returns c = rw (add-one, c.hex_digit-2.ensures, c.hex_digit.ensures)
