-- `count_at` meets its contract. Assumes nothing.
use Rattle.frame_bytes.specs.Frame.{count_of}
use Rattle.frame_bytes.proofs.ring.count_at.Goals as goal

pub returns : goal.returns
unfolding count_of
returns c = c.read_number.ensures
