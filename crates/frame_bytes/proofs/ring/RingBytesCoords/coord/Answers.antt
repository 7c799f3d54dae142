-- `coord` of a ring in a frame meets its contract. Assumes nothing.
use mathlib.Core.Path.{sym, ◌∙◌}
use native.Mathlib.Omega.{arith}
use borrow.Author.Rules.{rules}
use lib.ListN.{drop}
use Rattle.tile.specs.Internal.{nowhere}
use Rattle.frame_bytes.proofs.Coordinates.{length-coords_of, coord_there}
use Rattle.frame_bytes.proofs.ring.RingBytesCoords.coord.Goals as goal

pub overflow_mul-i : goal.overflow_mul-i
overflow_mul-i c = let r = c.args.self.now in
    let m = length-coords_of r.n (drop r.at r.frame.now) in search (rules, m, c.requires, c.type_inv.self)

pub overflow_add-self : goal.overflow_add-self
overflow_add-self c = let r = c.args.self.now in
    let m = length-coords_of r.n (drop r.at r.frame.now) in search (rules, m, c.requires, c.type_inv.self)

pub coord_at-requires : goal.coord_at-requires
coord_at-requires c = let r = c.args.self.now in
    omega (arith, length-coords_of r.n (drop r.at r.frame.now), c.requires, c.type_inv.self)

pub returns : goal.returns
returns c = let r = c.args.self.now in
    c.coord_at.ensures
    ∙ sym (coord_there r.frame.now r.at r.n c.args.i nowhere (omega (arith, length-coords_of r.n (drop r.at r.frame.now), c.requires)))
