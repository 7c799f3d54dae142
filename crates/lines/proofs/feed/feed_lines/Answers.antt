-- `feed_lines` meets its contract. The invariant: what the characters so far print waits in the output. Assumes nothing.
use mathlib.Core.Path.{refl}
use native.Mathlib.Omega.{arith}
use borrow.Author.Rules.{rules}
use Rattle.lines.proofs.Feeding.{prints-nothing}
use Rattle.lines.proofs.Parts.{parts_then}
use Rattle.lines.proofs.feed.feed_lines.Goals as goal

pub loop-from-init : goal.loop-from-init
loop-from-init c = let a = c.args in (refl, refl, λ e. e, omega arith, prints-nothing a.line a.kept.now a.out.now)

pub loop-from-preserved : goal.loop-from-preserved
loop-from-preserved c = let l = c.loop-from in
    let f = c.feed_from-fed in
    let p = parts_then _ l.from f.result.taken l.invariant.3 l.invariant.4 f.ensures.prints f.ensures.stays l.invariant.1 in (search rules, search rules, λ e. absurd (omega (arith, e, f.ensures.taken.0)), f.ensures.taken.1, p)
