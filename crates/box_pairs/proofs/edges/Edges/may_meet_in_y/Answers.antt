-- `Edges::may_meet_in_y` meets its contract. Assumes nothing.
use mathlib.Core.Path.{ap, ◌∙◌}
use mathlib.Core.Bool.{not}
use Rattle.box_pairs.specs.Internal.{may_meet_in_y}
use Rattle.box_pairs.proofs.edges.Edges.may_meet_in_y.Goals as goal

pub returns : goal.returns
unfolding may_meet_in_y
returns c = ap not c.is_apart.ensures ∙ rw (
  c.coord_at-a1.ensures,
  c.coord_at-a2.ensures,
  c.coord_at-b1.ensures,
  c.coord_at-b2.ensures,
)
