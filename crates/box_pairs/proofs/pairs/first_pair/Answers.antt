-- `pairs::first_pair` meets its contract. Assumes nothing.
use mathlib.Core.Path.{sym, ap, subst, ◌∙◌}
use mathlib.Core.List.{List}
use Prim.Native.Nat.{◌/◌, ◌-◌}
use lib.ListN.{length}
use Rattle.tile.specs.declared.Coord.{Coord}
use Rattle.box_pairs.specs.Internal.{ScannedOrSwept}
use Rattle.box_pairs.specs.Pairs.{first_pair}
use Rattle.box_pairs.proofs.EdgeLaws.{front-none, edges_whole}
use Rattle.box_pairs.proofs.pairs.first_pair.Goals as goal

pub returns-then-n-eq0-clause-value : goal.returns-then-n-eq0-clause-value
returns-then-n-eq0-clause-value c = sym (front-none c.args.ring.now c.if-n-eq0.true)

pub returns-clause-value : goal.returns-clause-value
returns-clause-value c = c.first_edge_pair.ensures.value ∙ ap first_pair (edges_whole c.args.ring.now c.if-n-eq0.false)

pub returns-clause-scanned_or_swept : goal.returns-clause-scanned_or_swept
returns-clause-scanned_or_swept c = let s = c.args.ring.now in
    subst (λ (r : List Coord). ScannedOrSwept (length s / 2 - 1) r c.args.work.now c.args.order.now c.first_edge_pair.new.work c.first_edge_pair.new.order)
    (edges_whole s c.if-n-eq0.false) c.first_edge_pair.ensures.scanned_or_swept
