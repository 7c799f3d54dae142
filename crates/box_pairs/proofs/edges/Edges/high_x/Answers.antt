-- `Edges::high_x` meets its contract. Assumes nothing.
use mathlib.Core.Path.{◌∙◌}
use Rattle.box_pairs.proofs.EdgeLaws.{high_front}
use Rattle.box_pairs.proofs.edges.Edges.high_x.Goals as goal

pub returns : goal.returns
returns c =
    c.maximum.ensures ∙ rw (c.coord_at-p.ensures, c.coord_at-q.ensures)
    (high_front c.args.self.now.ring.now c.args.self.now.count c.args.self.now.has_edges c.args.i c.requires)
