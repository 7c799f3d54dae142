-- `edges::probe_sweep_pairs` meets its contract. Assumes nothing.
use mathlib.Core.Path.{sym, ◌∙◌}
use Prim.Native.Nat.{◌/◌}
use native.Mathlib.Omega.{arith}
use lib.ListN.{length}
use borrow.Author.Tests.{eq-eqb, ne_eqb}
use Rattle.box_pairs.specs.Internal.{SortRoom}
use Rattle.probe.specs.Edges.{sweep_answer}
use Rattle.probe.proofs.Rooms.{room_of, few-of, one_edge_less, pair_fits, same_pair}
use Rattle.probe.proofs.edges.probe_sweep_pairs.Goals as goal

pub returns-then-n-eq0 : goal.returns-then-n-eq0
unfolding sweep_answer
returns-then-n-eq0 c = rw (eq-eqb _ _ c.if-n-eq0.true)

pub sweep_pairs-requires : goal.sweep_pairs-requires
sweep_pairs-requires c = let s = c.args in
    let room = room_of (length s.ring.now / 2) s.work.now s.order.now (sym c.has_room.ensures ∙ c.if-has_room.true) in
    one_edge_less (λ n. SortRoom n s.work.now s.order.now) (length s.ring.now / 2) c.if-n-eq0.false room

pub pair_code-requires : goal.pair_code-requires
pair_code-requires c = let s = c.args in
    let few = few-of (length s.ring.now / 2) s.work.now s.order.now
    (sym c.has_room.ensures ∙ c.if-has_room.true) in pair_fits s.ring.now (length s.ring.now / 2) _ few (omega arith)
    c.if-n-eq0.false
    c.sweep_pairs.ensures.value

pub returns-then-has_room : goal.returns-then-has_room
unfolding sweep_answer
returns-then-has_room c = let s = c.args.ring.now in rw (
  ne_eqb _ _ c.if-n-eq0.false,
  ← c.has_room.ensures,
  c.if-has_room.true,
)
    (c.pair_code.ensures ∙ same_pair s (length s / 2) _
    c.if-n-eq0.false
    c.sweep_pairs.ensures.value)

pub returns : goal.returns
unfolding sweep_answer
returns c = rw (ne_eqb _ _ c.if-n-eq0.false, ← c.has_room.ensures, c.if-has_room.false)

pub invariant_of-edges : goal.invariant_of-edges
invariant_of-edges c = let s = c.args in
    let few = few-of (length s.ring.now / 2) s.work.now s.order.now (sym c.has_room.ensures ∙ c.if-has_room.true) in
    record { has_edges = omega (arith, c.if-n-eq0.false); small = omega (arith, few) }
