-- `copy_origins` meets its contract. Assumes nothing.
use mathlib.Core.Path.{◌≡◌}
use lib.ListN.{length, take, drop}
use lib.Seq.{sets}
use Rattle.edge_pass.proofs.origins.copy_origins.Given as goal

abbrev pub invariant-loop-k : goal.invariant-loop-k
invariant-loop-k l = (length l.out_origins ≡ length l.initial.out_origins) × (l.out_origins ≡ sets l.initial.out_origins l.len (take l.k (drop l.i l.origins)))
