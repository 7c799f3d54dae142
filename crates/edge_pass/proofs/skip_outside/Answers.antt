-- `skip_outside` meets its contract: a step from out to out gives nothing. Assumes nothing.
use mathlib.Core.Path.{◌∙◌}
use mathlib.Core.Bool.{false}
use borrow.Author.Rules.{rules}
use Rattle.edge_pass.proofs.Walking.{out_out, judged}
use Rattle.edge_pass.proofs.OriginWalking.{out_out_origin}
use Rattle.edge_pass.proofs.skip_outside.Goals as goal

pub loop-i-preserved : goal.loop-i-preserved
loop-i-preserved c = let l = c.loop-i in
    let j = c.judge-verdict.ensures in
    let h = c.loop-i-test.true in
    let f = judged c.args.edge c.args.bounds _ _ _ false c.coord_at-e.ensures j.0 c.if-verdict.false in (
      l.invariant.0 ∙ out_out c.args.edge c.args.bounds c.args.ring.now c.args.m c.requires.0 l.i h f,
      search rules,
      λ os. l.invariant.2 os ∙ out_out_origin c.args.edge c.args.bounds c.args.ring.now c.args.m c.requires.0 l.i h f os,
    )
