-- `feed_from` meets its contract: the slices that it lends are as `feed` asks, so something is taken. Assumes nothing.
use mathlib.Core.Path.{refl, ap}
use Prim.Native.Nat.{◌≤◌}
use native.Mathlib.Omega.{arith}
use lib.ListN.{length, length-drop}
use borrow.Author.Rules.{rules}
use Rattle.binary64.proofs.Fill.{tail_part}
use Rattle.lines.proofs.Feeding.{takes_some}
use Rattle.lines.proofs.Parts.{part-prints}
use Rattle.lines.proofs.feed.feed_from.Goals as goal

pub returns-clause-taken : goal.returns-clause-taken
returns-clause-taken c = let a = c.args in
    let f = c.feed.ensures.feeds in
    let fits : a.waiting ≤ length a.out.now = omega arith in
    let p = part-prints a.block.now a.out.now _ _ a.from a.waiting fits refl
    c.feed.result.taken f.prints in
    let t = takes_some f (search rules) (search rules) (search rules) in (t.0, omega (arith, t.1, ap length (tail_part a.block.now a.from), length-drop a.from a.block.now))
