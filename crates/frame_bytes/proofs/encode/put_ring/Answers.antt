-- `put_ring` meets its contract. The invariant: what is left, written over what stands there, is all coordinates written behind the count.
-- Assumes nothing.
use mathlib.Core.Path.{refl, sym, ◌∙◌}
use Prim.Native.Nat.{◌+◌, ◌*◌}
use native.Mathlib.Omega.{arith}
use borrow.Author.Rules.{rules}
use lib.Ieee.{nan}
use Rattle.tile.specs.declared.Coord.{Coord}
use Rattle.frame_bytes.specs.Room.{answer_coord_size}
use Rattle.frame_bytes.specs.Internal.{front_answer_coords}
use Rattle.frame_bytes.proofs.Writing.{length-vertices, answer-coord-at, count_put, one_put, all_put}
use Rattle.frame_bytes.proofs.encode.put_ring.Goals as goal

none : Coord
none = record { x = nan; y = nan }

pub loop-i-preserved : goal.loop-i-preserved
loop-i-preserved c = let s = c.args.ring.now in
    let o = c.args.origins.now in
    let n = c.args.n in
    let l = c.loop-i in
    let m = length-vertices s o n c.requires.0 in
    let e = l.invariant.2 ∙ one_put l.out (c.args.at + 2) l.i (front_answer_coords s o n) (record { coord = none; origin = 0 }) (omega arith) in (
      search rules,
      search rules,
      e ∙ rw (
        c.put_answer_coord.ensures,
        c.coord_at-p.ensures,
        answer-coord-at s o n l.i none c.requires.0 c.loop-i-test.true,
      ),
    )

pub returns : goal.returns
returns c = let s = c.args.ring.now in
    let o = c.args.origins.now in
    let n = c.args.n in
    let l = c.loop-i in
    let m = length-vertices s o n c.requires.0 in
    let e = l.invariant.2 ∙ all_put l.out (c.args.at + 2 + answer_coord_size * l.i) l.i (front_answer_coords s o n) (omega arith) in (
      refl,
      sym (count_put c.args.out.now c.args.at (front_answer_coords s o n)
          ∙ rw (m, ← c.put_count.ensures) e),
    )
