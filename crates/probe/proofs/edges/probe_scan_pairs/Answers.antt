-- `edges::probe_scan_pairs` meets its contract. Assumes nothing.
use mathlib.Core.Path.{◌∙◌}
use Prim.Native.Nat.{◌/◌}
use native.Mathlib.Omega.{arith}
use lib.ListN.{length}
use borrow.Author.Tests.{eq-eqb, ne_eqb, le-leb, lt-leb}
use Rattle.probe.specs.Edges.{scan_answer}
use Rattle.probe.proofs.Rooms.{pair_fits, same_pair}
use Rattle.probe.proofs.edges.probe_scan_pairs.Goals as goal

pub returns-then-n-eq0 : goal.returns-then-n-eq0
unfolding scan_answer
returns-then-n-eq0 c = rw (eq-eqb _ _ c.if-n-eq0.true)

pub returns-then-n-ge-MOST : goal.returns-then-n-ge-MOST
unfolding scan_answer
returns-then-n-ge-MOST c = rw (ne_eqb _ _ c.if-n-eq0.false, le-leb _ _ c.if-n-ge-MOST.true)

pub pair_code-requires : goal.pair_code-requires
pair_code-requires c = let s = c.args.ring.now in pair_fits s (length s / 2) _ c.if-n-ge-MOST.false (omega arith) c.if-n-eq0.false c.scan_pairs.ensures

pub returns : goal.returns
unfolding scan_answer
returns c = let s = c.args.ring.now in rw (ne_eqb _ _ c.if-n-eq0.false, lt-leb _ _ c.if-n-ge-MOST.false)
    (c.pair_code.ensures ∙ same_pair s (length s / 2) _ c.if-n-eq0.false c.scan_pairs.ensures)
