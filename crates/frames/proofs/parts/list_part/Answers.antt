-- `list_part` meets its contract: each arm knows its answer. Assumes nothing.
use Rattle.frame_parts.specs.Part.{part_bytes}
use Rattle.frames.proofs.parts.list_part.Goals as goal

pub returns-in-Unchanged : goal.returns-in-Unchanged
unfolding part_bytes
returns-in-Unchanged c = (
  rw c.in-Unchanged.is,
  rw c.in-Unchanged.is c.put_part.ensures,
)
