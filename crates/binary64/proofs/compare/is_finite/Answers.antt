-- `compare::is_finite` meets its contract: it is the library's test. Assumes nothing.
use Rattle.std.proofs.Common.{◌∙◌}
use Rattle.binary64.proofs.Comparisons.{finite-same}
use Rattle.binary64.proofs.compare.is_finite.Goals as goal

pub returns : goal.returns
returns c = c.is_finite.ensures.value ∙ finite-same c.args.x
