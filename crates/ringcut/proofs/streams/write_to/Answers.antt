-- `write_to` meets its contract. Assumes nothing.
use Rattle.std.proofs.Common.{take, ◌++◌}
use Rattle.std.proofs.KnownBytes.{Appends-trans, Appends-kept}
use Rattle.ringcut.proofs.Written.{moves_front, some_written, nothing_more}
use Rattle.ringcut.proofs.streams.write_to.Goals as goal
use Rattle.ringcut.proofs.streams.write_to.Goals.{in-Ok-eq0, in-Ok, in-Err+else-not-try_again}

pub returns-then-not-try_again-clause-part : goal.returns-then-not-try_again-clause-part
returns-then-not-try_again-clause-part g c =
    let (done, split, written) = c.loop.invariant in
    some_written _ _ _ done _ split (Appends-kept _ _ _ done written c.in-Err.ensures.bytes)

pub loop-preserved : goal.loop-preserved
loop-preserved g c =
    let (done, split, written) = c.loop.invariant in
    elim c.match-write.branch [
      | in-Ok-eq0 w ↦ rw w.left-is
          (done, split, nothing_more _ _ _ done _ _ w.in-Ok-eq0.field-0-test written w.in-Ok-eq0.ensures.bytes)
      | in-Ok w ↦ rw w.left-is
          (done ++ take w.in-Ok.n c.loop.left.now, moves_front _ done _ _ split, Appends-trans _ _ _ done _ written w.in-Ok.ensures.bytes)
      | in-Err+else-not-try_again w ↦ rw w.left-is (done, split, Appends-kept _ _ _ done written w.in-Err.ensures.bytes)
    ]

pub returns-clause-part : goal.returns-clause-part
returns-clause-part g c =
    let (done, split, written) = c.loop.invariant in
    some_written _ _ _ done _ split written
