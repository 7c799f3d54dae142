-- `pairs::scan_pairs` meets its contract. Each loop says that no pair passed is a crossing one; so the one it stops at is the first.
-- Assumes nothing.
use mathlib.Core.Path.{◌≡◌, sym, ◌∙◌}
use mathlib.Core.Bool.{Bool, false}
use Prim.Native.Nat.{ℕ}
use native.Mathlib.Omega.{arith}
use Rattle.box_pairs.specs.declared.edges.Edges.{Edges}
use Rattle.box_pairs.specs.Edges.{ring_of}
use Rattle.box_pairs.specs.Pairs.{edges_cross}
use Rattle.box_pairs.proofs.Sweep.{inner_next}
use Rattle.box_pairs.proofs.First.{scan-none, scan-here}
use Rattle.box_pairs.proofs.EdgeLaws.{first_front, edges_front, never_meet}
use Rattle.box_pairs.proofs.pairs.scan_pairs.Goals as goal
use Rattle.box_pairs.proofs.pairs.scan_pairs.Goals.{then-may_meet_in_y+else-crosses, else-may_meet_in_y}

-- the test of two edges of the ring
abbrev crossing : Edges → ℕ → ℕ → Bool
crossing e = edges_cross (ring_of e)

pub loop-j-preserved : goal.loop-j-preserved
loop-j-preserved c = let l = c.loop-j in
    let is = edges_front c.args.edges.now.ring.now c.args.edges.now.count c.args.edges.now.has_edges c.pairs.i l.j
    c.pairs-test.true
    c.loop-j-test.true in
    let miss : crossing c.args.edges.now c.pairs.i l.j ≡ false =
    elim c.if-may_meet_in_y.branch [
      | then-may_meet_in_y+else-crosses w ↦ sym is ∙ (sym w.crosses.ensures ∙ w.if-crosses.false)
      | else-may_meet_in_y w ↦ sym is ∙ never_meet _ _ _ (sym c.may_meet_in_y.ensures ∙ w.if-may_meet_in_y.false)
    ] in
    (l.invariant.0, inner_next (crossing c.args.edges.now) c.args.edges.now.count c.pairs.i l.j c.loop-j-test.true l.invariant.1 miss)

pub returns-then-crosses : goal.returns-then-crosses
returns-then-crosses c = let l = c.loop-j in
    let is = edges_front c.args.edges.now.ring.now c.args.edges.now.count c.args.edges.now.has_edges c.pairs.i l.j c.pairs-test.true c.loop-j-test.true in
    scan-here (crossing c.args.edges.now) c.args.edges.now.count c.pairs.i l.j l.invariant.1.after c.loop-j-test.true
    c.pairs.invariant.1.clear l.invariant.1.clear (sym is ∙ (sym c.crosses.ensures ∙ c.if-crosses.true))
    ∙ sym (first_front c.args.edges.now.ring.now c.args.edges.now.count c.args.edges.now.has_edges)

pub returns-after-pairs : goal.returns-after-pairs
returns-after-pairs c = c.pairs.invariant.0
    ∙ (scan-none (crossing c.args.edges.now) c.args.edges.now.count (λ p l. c.pairs.invariant.1.clear p (omega (arith, c.pairs-test.false)))
    ∙ sym (first_front c.args.edges.now.ring.now c.args.edges.now.count c.args.edges.now.has_edges))
