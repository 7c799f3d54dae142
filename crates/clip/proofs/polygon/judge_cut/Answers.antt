-- `judge_cut` meets its contract: without an issue or a bridge, the cut has the ring's coordinates. Assumes nothing.
use Rattle.tile.proofs.Rings.{count-coords}
use Rattle.clip.proofs.polygon.judge_cut.Goals as goal

pub returns-in-None : goal.returns-in-None
returns-in-None c = rw (
  ← c.has_issue.ensures,
  c.if-has_issue.false,
  ← c.bridge_unless_skipped.ensures,
  c.in-None.is,
  count-coords c.args.ring.now,
)
