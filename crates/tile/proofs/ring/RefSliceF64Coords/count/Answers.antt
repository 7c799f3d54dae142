-- `count` of flat numbers meets its contract. Assumes nothing.
use mathlib.Core.Path.{sym}
use Rattle.tile.proofs.Rings.{count-coords}
use Rattle.tile.proofs.ring.RefSliceF64Coords.count.Goals as goal

pub returns-clause-all : goal.returns-clause-all
returns-clause-all c = sym (count-coords c.args.self.now.now)
