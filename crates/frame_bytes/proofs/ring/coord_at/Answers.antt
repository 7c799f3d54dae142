-- `coord_at` meets its contract. Assumes nothing.
use lib.Seq.{drop-drop}
use Rattle.frame_bytes.proofs.ring.coord_at.Goals as goal

pub returns : goal.returns
returns c = let a = c.args in rw (drop-drop 8 a.at a.frame.now) (cc)
