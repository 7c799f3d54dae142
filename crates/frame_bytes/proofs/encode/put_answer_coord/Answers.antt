-- `put_answer_coord` meets its contract. Assumes nothing.
use Rattle.frame_bytes.proofs.Writing.{answer-coord_put}
use Rattle.frame_bytes.proofs.encode.put_answer_coord.Goals as goal

pub returns : goal.returns
returns c = let a = c.args in answer-coord_put a.out.now _ _ a.at a.p a.origin c.put_coord.ensures
    c.put_count.ensures
