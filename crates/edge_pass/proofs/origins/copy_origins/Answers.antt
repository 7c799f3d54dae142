-- `copy_origins` meets its contract. Assumes nothing.
use native.Mathlib.Omega.{arith}
use lib.ListN.{length-set}
use Rattle.edge_pass.proofs.OriginWalking.{copied_more}
use Rattle.edge_pass.proofs.origins.copy_origins.Goals as goal

pub loop-k-preserved : goal.loop-k-preserved
loop-k-preserved c = let l = c.loop-k in (
  simp length-set l.invariant.0,
  rw l.invariant.1 (copied_more c.args.origins.now c.args.out_origins.now c.args.i c.args.len l.k (omega
      (arith, c.requires.0))),
)
