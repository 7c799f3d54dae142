-- `holds` meets its contract. Assumes nothing.
use mathlib.Core.Path.{sym, ◌∙◌}
use Prim.Native.Nat.{◌<◌}
use native.Mathlib.Omega.{arith}
use lib.ListN.{length}
use Rattle.binary64.proofs.Fill.{tail_part}
use Rattle.replay.proofs.Compared.{short_mapped, miss_mapped, step_mapped, end_mapped}
use Rattle.replay.proofs.lent.holds.Goals as goal

pub returns-then-s-n : goal.returns-then-s-n
returns-then-s-n g c = sym (short_mapped g.T.Lent.bits _ c.args.front.now c.args.s.now c.if-s-n.true)

pub returns-then-not-is_same : goal.returns-then-not-is_same
returns-then-not-is_same g c =
    let l = c.loop-i in
    let k : l.i < length c.args.s.now = omega (arith, l.invariant.0, c.loop-i-test.true) in
    sym (miss_mapped g.T.Lent.bits _ c.args.front.now c.args.s.now l.i _ _ c.loop-i-test.true k c.index-s-i.is c.index-front-i.is
    l.invariant.1 (sym c.is_same.ensures ∙ c.if-not-is_same.true))

pub loop-i-preserved : goal.loop-i-preserved
loop-i-preserved g c =
    let l = c.loop-i in
    let k : l.i < length c.args.s.now = omega (arith, l.invariant.0, c.loop-i-test.true) in (
      l.invariant.0,
      step_mapped g.T.Lent.bits _ c.args.front.now c.args.s.now l.i _ _ c.loop-i-test.true k c.index-s-i.is c.index-front-i.is
          l.invariant.1 (sym c.is_same.ensures ∙ c.if-not-is_same.false),
    )

pub returns : goal.returns
returns g c =
    let rest = rw (tail_part c.args.s.now (length c.args.front.now), c.mark.ensures) at c.are_all.ensures in
    sym (end_mapped g.T.Lent.bits _ c.args.front.now c.args.s.now c.loop-i.i _ c.loop-i-test.false c.loop-i.invariant.1 rest)
