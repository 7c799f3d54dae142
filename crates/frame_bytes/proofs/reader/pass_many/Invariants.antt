-- `pass_many` meets its contract. The invariant: the steps that are left may be taken, and where they end the steps from the start end.
-- Assumes nothing.
use Rattle.std.proofs.Common.{ℕ, ◌-◌}
use Rattle.std.specs.Prelude.{Result}
use Rattle.frame_bytes.specs.declared.reader.FrameRefusal.{FrameRefusal}
use Rattle.frame_bytes.specs.Internal.{Passes, Passable}
use Rattle.frame_bytes.proofs.reader.pass_many.Given as goal

abbrev pub invariant-loop : goal.invariant-loop
invariant-loop g l =
    Passable (goal.F-pre g l.pass) (goal.F-post g l.pass) (l.count - l.counter) l.at
    × ((r : Result ℕ FrameRefusal) → Passes (goal.F-post g l.pass) (l.count - l.counter) l.at r → Passes (goal.F-post g l.pass) l.count l.start r)
