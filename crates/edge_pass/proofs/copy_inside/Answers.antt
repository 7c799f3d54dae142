-- `copy_inside` meets its contract: a step from in to in gives its end. Assumes nothing.
use mathlib.Core.Path.{◌≡◌}
use mathlib.Core.Bool.{true}
use Prim.Native.Nat.{◌+◌, ◌*◌, ◌≤◌}
use native.Mathlib.Omega.{arith}
use borrow.Author.Rules.{rules}
use borrow.Author.Tests.{not-false}
use lib.ListN.{length, take}
use Rattle.tile.specs.Ring.{coords}
use Rattle.edge_pass.specs.Internal.{steps_left}
use Rattle.edge_pass.proofs.Walking.{rest_then, in-in, in-in-room, judged, wrote}
use Rattle.edge_pass.proofs.OriginWalking.{in-in-origin}
use Rattle.edge_pass.proofs.copy_inside.Goals as goal

pub put-requires : goal.put-requires
put-requires c = let l = c.loop-i in
    let s = c.args.ring.now in
    let m = c.args.m in
    let o = c.loop-i.invariant.1.count in
    let u : length l.out ≡ length c.args.out.now = l.invariant.0 in
    let r : 2 * (l.len + length (steps_left c.args.edge c.args.bounds (coords (take (2 * m) s)) true l.i)) ≤ length l.out
    = omega (arith, c.requires.2) in
    let f = judged c.args.edge c.args.bounds _ _ _ true c.coord_at-e.ensures
    c.judge-verdict.ensures.0 (not-false _ c.if-not-verdict.false) in omega (
      arith,
      in-in-room c.args.edge c.args.bounds s m c.requires.0 l.i
          c.loop-i-test.true f l.len _ r,
    )

pub loop-i-preserved : goal.loop-i-preserved
loop-i-preserved c = let l = c.loop-i in
    let s = c.args.ring.now in
    let m = c.args.m in
    let e = c.coord_at-e in
    let h = c.loop-i-test.true in
    let f = judged c.args.edge c.args.bounds _ _ _ true e.ensures
    c.judge-verdict.ensures.0 (not-false _ c.if-not-verdict.false) in
    let p = c.put.ensures in (
      wrote l.out _ l.len _ e.result p l.invariant.0,
      rest_then c.args.edge c.args.bounds (coords (take (2 * m) s)) l.invariant.1
          (in-in c.args.edge c.args.bounds s m c.requires.0 l.i h f _ l.len l.out _ e.ensures p),
      search rules,
      search rules,
      in-in-origin c.args.edge c.args.bounds s m c.requires.0 l.i h f c.args.at.i (search rules) l.invariant.4,
    )
