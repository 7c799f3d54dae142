-- `put_header` meets its contract. Assumes nothing.
use Rattle.frame_bytes.proofs.Writing.{header_put}
use Rattle.frame_bytes.proofs.encode.put_header.Goals as goal

pub returns : goal.returns
returns c = let a = c.args in header_put a.out.now _ _ a.number a.guard a.parts
    c.put_count.ensures c.put_count-2.ensures
