-- `put_positions` meets its contract. Assumes nothing.
use mathlib.Core.Path.{◌≡◌, ◌∙◌}
use native.Mathlib.Omega.{arith}
use Rattle.binary64.proofs.Fill.{upto_step, upto_end}
use Rattle.sutherland_hodgman.proofs.Positions.{length-positions, the-position}
use Rattle.sutherland_hodgman.proofs.origins.put_positions.Goals as goal

pub loop-i-preserved : goal.loop-i-preserved
loop-i-preserved c = let l = c.loop-i in
    let e = l.invariant.same in
    let p = length-positions 0 c.args.n in
    upto_step 0 l.i (omega arith) (omega arith) (the-position c.args.n l.i c.loop-i-test.true) l.invariant

pub returns : goal.returns
returns c = let l = c.loop-i in
    let h : l.i ≡ c.args.n = omega arith in
    let p = length-positions 0 c.args.n in upto_end (omega arith) l.invariant ∙ rw h
