-- `write_kept` meets its contract: it goes from one that is kept to the next. Assumes nothing.
use native.Mathlib.Omega.{arith}
use Rattle.mend.proofs.Walks.{writing_fits, writing_room, writing_on, writing_end}
use Rattle.mend.proofs.write_kept.Goals as goal

pub put-requires : goal.put-requires
put-requires c = writing_room c.loop-k.invariant c.requires.0 c.requires.1

pub overflow_add-kept : goal.overflow_add-kept
overflow_add-kept c = omega (arith, c.requires.0, writing_fits c.loop-k.invariant c.requires.0, c.ranges)

pub loop-k-preserved : goal.loop-k-preserved
loop-k-preserved c = let w = c.loop-k.invariant in
    let at = c.coord_at in writing_on w at.result _ c.put.ensures c.next_kept-k.result at.ensures c.next_kept-k.ensures

pub put-requires-2 : goal.put-requires-2
put-requires-2 c = writing_room c.loop-k.invariant c.requires.0 c.requires.1

pub overflow_add-result : goal.overflow_add-result
overflow_add-result c = omega (arith, c.requires.0, writing_fits c.loop-k.invariant c.requires.0, c.ranges)

pub returns : goal.returns
returns c = writing_end c.loop-k.invariant c.requires.0 c.requires.1 c.loop-k-test.false _ c.put-2.ensures
