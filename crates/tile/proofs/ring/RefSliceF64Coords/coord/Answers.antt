-- `coord` of flat numbers meets its contract. Assumes nothing.
use mathlib.Core.Path.{sym, ◌∙◌}
use native.Mathlib.Omega.{arith}
use Rattle.tile.specs.Internal.{nowhere}
use Rattle.tile.proofs.Rings.{coord-fits, coords-at}
use Rattle.tile.proofs.ring.RefSliceF64Coords.coord.Goals as goal

pub coord_at-requires : goal.coord_at-requires
coord_at-requires c = let f = coord-fits c.args.self.now.now c.args.i c.requires in omega (arith, f)

pub returns : goal.returns
returns c = let s = c.args.self.now.now in
    c.coord_at.ensures ∙ sym (coords-at c.args.i s nowhere (coord-fits s c.args.i c.requires))
