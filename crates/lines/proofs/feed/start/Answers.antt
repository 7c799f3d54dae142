-- `start` meets its contract. Assumes nothing.
use mathlib.Core.Path.{refl}
use Rattle.lines.specs.Lines.{lower_hex}
use Rattle.lines.proofs.feed.start.Goals as goal

pub returns-clause-begins : goal.returns-clause-begins
unfolding lower_hex
returns-clause-begins c = λ kept. refl
