-- `put_part` meets its contract. Assumes nothing.
use Rattle.frame_bytes.proofs.Writing.{part_put}
use Rattle.frame_bytes.proofs.encode.put_part.Goals as goal

pub returns : goal.returns
returns c = let a = c.args in part_put a.out.now _ a.at a.index a.number a.reason c.put_count.ensures
