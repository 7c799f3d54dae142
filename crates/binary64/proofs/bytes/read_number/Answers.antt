-- `bytes::read_number` meets its contract: the lowest bytes are read. Assumes nothing.
use Rattle.std.proofs.Common.{◌+◌, arith}
use Rattle.binary64.proofs.Widths.{read_start, read_fits, read_step, shifted}
use Rattle.binary64.proofs.bytes.read_number.Goals as goal

pub loop-i-init : goal.loop-i-init
loop-i-init g c = read_start c.args.b.now c.args.at

pub overflow_add-n-in-loop-i : goal.overflow_add-n-in-loop-i
overflow_add-n-in-loop-i g c = let l = c.loop-i in
    let x = (c.type_inv.b (c.args.at + l.i)).fits in
    rw (shifted _ l.i x (omega arith)) (record { fits = read_fits c.args.b.now c.args.at l.i l.n _ x (omega arith) l.invariant })

pub loop-i-preserved : goal.loop-i-preserved
loop-i-preserved g c = let l = c.loop-i in
    let x = (c.type_inv.b (c.args.at + l.i)).fits in
    rw (shifted _ l.i x (omega arith)) (read_step c.args.b.now c.args.at l.i l.n (omega arith) x l.invariant)
