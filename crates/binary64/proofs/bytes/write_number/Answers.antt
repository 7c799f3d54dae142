-- `bytes::write_number` meets its contract: the lowest i bytes are written. Assumes nothing.
use Rattle.binary64.proofs.Widths.{write_start, write_step}
use Rattle.binary64.proofs.bytes.write_number.Goals as goal

pub loop-i-init : goal.loop-i-init
loop-i-init g c = write_start c.args.out.now c.args.at c.args.n

pub loop-i-preserved : goal.loop-i-preserved
loop-i-preserved g c = let l = c.loop-i in write_step c.args.out.now c.args.at c.args.n l.i l.rest l.out l.invariant
