-- `slices::copy` meets its contract. The invariant: the first i numbers are copied. Assumes nothing.
use mathlib.Core.Path.{◌≡◌, sym}
use native.Mathlib.Omega.{arith}
use lib.Ieee.{nan}
use lib.Seq.{get_or-take, length-take-le}
use Rattle.binary64.proofs.Fill.{upto_start, upto_step, upto_end}
use Rattle.binary64.proofs.slices.copy.Goals as goal

pub loop-i-init : goal.loop-i-init
loop-i-init c = upto_start _ _

pub loop-i-preserved : goal.loop-i-preserved
loop-i-preserved c = let l = c.loop-i in
    let f = length-take-le c.args.n c.args.from.now c.requires.0 in
    upto_step nan _ (omega arith) (omega arith) (sym (get_or-take c.args.n c.args.from.now l.i nan (omega arith))) l.invariant

pub returns : goal.returns
returns c = let f = length-take-le c.args.n c.args.from.now c.requires.0 in
    let e : c.loop-i.i ≡ c.args.n = omega arith in
    rw e at (upto_end (omega arith) c.loop-i.invariant)
