-- `count` of a ring in a frame meets its contract. Assumes nothing.
use mathlib.Core.Path.{sym}
use Rattle.frame_bytes.proofs.Coordinates.{length-coords_of}
use Rattle.frame_bytes.proofs.ring.RingBytesCoords.count.Goals as goal

pub returns-clause-all : goal.returns-clause-all
returns-clause-all c = sym (length-coords_of c.args.self.now.n _)
