-- `passes::probe_clip_ring_against_edge` meets its contract, by that of the pass. Assumes nothing.
use mathlib.Core.Path.{refl, sym, ◌∙◌}
use native.Mathlib.Omega.{arith}
use Rattle.probe.specs.Passes.{pass_answer, pass_output, pass_out_origins, pass_verdicts}
use Rattle.probe.proofs.Rooms.{pass-room-of, pass-over}
use Rattle.probe.proofs.passes.probe_clip_ring_against_edge.Goals as goal

pub clip_ring_against_edge-pass-requires-clause-pass_room : goal.clip_ring_against_edge-pass-requires-clause-pass_room
clip_ring_against_edge-pass-requires-clause-pass_room c = let r = pass-room-of _ _ _ _ (sym c.has_pass_room.ensures ∙ c.if-has_pass_room.true) in (omega arith, r.0)

pub clip_ring_against_edge-pass-requires-clause-pass_origin_room : goal.clip_ring_against_edge-pass-requires-clause-pass_origin_room
clip_ring_against_edge-pass-requires-clause-pass_origin_room c = let r = pass-room-of _ _ _ _ (sym c.has_pass_room.ensures ∙ c.if-has_pass_room.true) in r.1

pub returns-then-has_pass_room-clause-answer : goal.returns-then-has_pass_room-clause-answer
unfolding pass_answer pass_output pass_out_origins pass_verdicts
returns-then-has_pass_room-clause-answer c = let r = sym c.has_pass_room.ensures ∙ c.if-has_pass_room.true in
    let e = c.edge_at.ensures in
    let b = c.bounds_at.ensures in
    let p = c.clip_ring_against_edge-pass.ensures in rw (r, ← e, ← b) (p.written.count)

pub returns-then-has_pass_room-clause-output : goal.returns-then-has_pass_room-clause-output
unfolding pass_answer pass_output pass_out_origins pass_verdicts
returns-then-has_pass_room-clause-output c = let r = sym c.has_pass_room.ensures ∙ c.if-has_pass_room.true in
    let e = c.edge_at.ensures in
    let b = c.bounds_at.ensures in
    let p = c.clip_ring_against_edge-pass.ensures in rw (r, ← e, ← b) (pass-over _ _ _ _ p.written)

pub returns-then-has_pass_room-clause-verdicts : goal.returns-then-has_pass_room-clause-verdicts
unfolding pass_answer pass_output pass_out_origins pass_verdicts
returns-then-has_pass_room-clause-verdicts c = let r = sym c.has_pass_room.ensures ∙ c.if-has_pass_room.true in
    let p = c.clip_ring_against_edge-pass.ensures in rw r (c.set_first.ensures ∙ rw p.verdicts)

pub returns-then-has_pass_room-clause-origins : goal.returns-then-has_pass_room-clause-origins
unfolding pass_answer pass_output pass_out_origins pass_verdicts
returns-then-has_pass_room-clause-origins c = let r = sym c.has_pass_room.ensures ∙ c.if-has_pass_room.true in
    let e = c.edge_at.ensures in
    let b = c.bounds_at.ensures in
    let p = c.clip_ring_against_edge-pass.ensures in rw (r, ← e, ← b) (p.origins ∙ rw p.written.count)

pub returns-clause-answer : goal.returns-clause-answer
unfolding pass_answer pass_output pass_out_origins pass_verdicts
returns-clause-answer c = let r = sym c.has_pass_room.ensures ∙ c.if-has_pass_room.false in rw r (refl)

pub returns-clause-output : goal.returns-clause-output
unfolding pass_answer pass_output pass_out_origins pass_verdicts
returns-clause-output c = let r = sym c.has_pass_room.ensures ∙ c.if-has_pass_room.false in rw r (refl)

pub returns-clause-verdicts : goal.returns-clause-verdicts
unfolding pass_answer pass_output pass_out_origins pass_verdicts
returns-clause-verdicts c = let r = sym c.has_pass_room.ensures ∙ c.if-has_pass_room.false in rw r (refl)

pub returns-clause-origins : goal.returns-clause-origins
unfolding pass_answer pass_output pass_out_origins pass_verdicts
returns-clause-origins c = let r = sym c.has_pass_room.ensures ∙ c.if-has_pass_room.false in rw r (refl)
