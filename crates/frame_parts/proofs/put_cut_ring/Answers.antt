-- `put_cut_ring` meets its contract: nothing for a ring without coordinates, else its bytes. Assumes nothing.
use mathlib.Core.Path.{◌∙◌}
use native.Mathlib.Omega.{arith}
use Rattle.frame_bytes.specs.Internal.{front_answer_coords}
use Rattle.frame_bytes.proofs.Writing.{length-vertices}
use Rattle.frame_parts.proofs.Cutting.{none-rings, one-ring}
use Rattle.frame_parts.proofs.put_cut_ring.Goals as goal

pub returns-then-n-eq0 : goal.returns-then-n-eq0
returns-then-n-eq0 c = let e = c.if-n-eq0.true in none-rings c.args.at c.args.out.now (front_answer_coords c.args.ring.now c.args.origins.now c.args.n)
    (length-vertices c.args.ring.now c.args.origins.now c.args.n c.requires.0 ∙ e)

pub returns : goal.returns
returns c = let m = length-vertices c.args.ring.now c.args.origins.now c.args.n c.requires.0 in
    let w = c.put_ring-next.ensures in one-ring c.args.at c.args.out.now _ _ (front_answer_coords c.args.ring.now c.args.origins.now c.args.n)
    (omega (arith, m, c.if-n-eq0.false)) w.1 (w.0 ∙ rw m)
