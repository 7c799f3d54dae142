-- `pairs::sweep_pairs` meets its contract: where no two edges cross there is no first pair. Assumes nothing.
use Rattle.std.proofs.Common.{sym}
use Rattle.box_pairs.specs.Edges.{ring_of}
use Rattle.box_pairs.proofs.EdgeLaws.{noted_unused, crossing-no_pair}
use Rattle.box_pairs.proofs.pairs.sweep_pairs.Goals as goal

pub returns-in-Some-clause-unused : goal.returns-in-Some-clause-unused
returns-in-Some-clause-unused c = let r = ring_of c.args.edges.now in
    let noted = c.note_lows in
    let sorted = c.sort.ensures in noted_unused c.args.edges.now.count r c.args.work.now _ _ c.args.order.now _ noted.ensures sorted.kept
    sorted.sorted

pub returns-clause-value : goal.returns-clause-value
returns-clause-value c = crossing-no_pair (ring_of c.args.edges.now) (sym c.in_default.ensures.verdict)

pub returns-clause-unused : goal.returns-clause-unused
returns-clause-unused c = let r = ring_of c.args.edges.now in
    let noted = c.note_lows in
    let sorted = c.sort.ensures in noted_unused c.args.edges.now.count r c.args.work.now _ _ c.args.order.now _ noted.ensures sorted.kept sorted.sorted
