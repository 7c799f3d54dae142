-- `pairs::note_lows` meets its contract. Assumes nothing.
use Rattle.box_pairs.specs.Edges.{ring_of}
use Rattle.box_pairs.proofs.EdgeLaws.{note_step}
use Rattle.box_pairs.proofs.pairs.note_lows.Goals as goal

pub loop-i-preserved : goal.loop-i-preserved
loop-i-preserved c = let l = c.loop-i in note_step c.args.edges.now.count l.i (ring_of c.args.edges.now) c.args.work.now l.work
    c.low_x.result c.loop-i-test.true c.requires c.low_x.ensures l.invariant
