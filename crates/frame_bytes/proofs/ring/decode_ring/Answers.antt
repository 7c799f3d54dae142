-- `decode_ring` meets its contract. The invariant: what is left, written over what stands there, is the whole written over what stood
-- there. Assumes nothing.
use mathlib.Core.Path.{refl, sym, ◌∙◌}
use native.Mathlib.Omega.{arith}
use borrow.Author.Rules.{rules}
use lib.ListN.{drop}
use Rattle.tile.specs.Internal.{nowhere}
use Rattle.frame_bytes.proofs.Coordinates.{length-coords_of, coord_there, one_written, all-written}
use Rattle.frame_bytes.proofs.ring.decode_ring.Goals as goal

pub coord-p-requires : goal.coord-p-requires
coord-p-requires c = let r = c.args.from in omega (arith, length-coords_of r.n (drop r.at r.frame.now), c.loop-i-test.true)

pub loop-i-preserved : goal.loop-i-preserved
loop-i-preserved c = let r = c.args.from in
    let l = c.loop-i in
    let p = c.coord-p.ensures ∙ coord_there r.frame.now r.at r.n l.i nowhere c.loop-i-test.true in
    let e = l.invariant.2 ∙ one_written r.frame.now r.at r.n l.ring l.i c.loop-i-test.true in
    (search rules, search rules, e ∙ rw (c.put.ensures, p))

pub returns : goal.returns
returns c = let r = c.args.from in
    let l = c.loop-i in (refl, sym (l.invariant.2 ∙ all-written r.frame.now r.at r.n l.ring l.i c.loop-i-test.false))
