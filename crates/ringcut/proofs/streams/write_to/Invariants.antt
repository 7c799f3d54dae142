-- What is no longer left was written. Assumes nothing.
use Rattle.std.proofs.Common.{◌≡◌, List, ℕ, ◌++◌}
use Rattle.std.specs.Io.KnownBytes.{Appends}
use Rattle.ringcut.proofs.streams.write_to.Given as goal

abbrev pub invariant-loop : goal.invariant-loop
invariant-loop g l =
    (done : List ℕ) × (l.bytes ≡ done ++ l.left) × Appends (g.W.Write.contents l.initial.to) (g.W.Write.contents l.to) done
