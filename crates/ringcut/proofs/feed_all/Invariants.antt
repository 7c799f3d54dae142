-- The input goes on behind the characters so far, and what they print was written. Assumes nothing.
use lib.ListN.{length, take}
use Prim.Native.Nat.{◌-◌, ◌≤◌}
use Rattle.std.specs.Io.KnownBytes.{Appends}
use Rattle.lines.specs.LineStep.{GoesOn, printed_now}
use Rattle.ringcut.proofs.feed_all.Given as goal

abbrev pub invariant-loop-from : goal.invariant-loop-from
invariant-loop-from g l = record {
  within : l.from ≤ length l.block;
  on : GoesOn (take l.from l.block) l.initial.known l.initial.kept l.known l.kept;
  written : Appends (g.W.Write.contents l.initial.to) (g.W.Write.contents l.to)
      (printed_now l.initial.known l.initial.kept (take l.from l.block));
}

abbrev pub decreases-loop-from : goal.decreases-loop-from
decreases-loop-from g l = length l.block - l.from
