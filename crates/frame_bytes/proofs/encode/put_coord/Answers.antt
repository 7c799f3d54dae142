-- `put_coord` meets its contract. Assumes nothing.
use Rattle.frame_bytes.proofs.Writing.{coord_put}
use Rattle.frame_bytes.proofs.encode.put_coord.Goals as goal

pub returns : goal.returns
returns c = let a = c.args in coord_put a.out.now _ _ a.at a.p c.write_f64.ensures
    c.write_f64-2.ensures
