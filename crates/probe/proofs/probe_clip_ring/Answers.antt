-- `probe_clip_ring` meets its contract, by those of the functions that it calls. Assumes nothing.
use mathlib.Core.Path.{sym, ◌∙◌}
use Rattle.ring_calls.specs.RingCall.{ring_slices}
use Rattle.ring_calls.proofs.Offered.{lent-room}
use Rattle.probe.proofs.probe_clip_ring.Goals as goal

pub clip_ring-requires-clause-cutter_room : goal.clip_ring-requires-clause-cutter_room
clip_ring-requires-clause-cutter_room c = let a = c.args in let all = lent-room a.ring.now (ring_slices a.scratch.now a.origin_scratch.now a.out.now a.out_origins.now)
    (sym c.check_ring.ensures ∙ c.in-Ok.is) in all.0

pub clip_ring-requires-clause-origin_room : goal.clip_ring-requires-clause-origin_room
clip_ring-requires-clause-origin_room c = let a = c.args in let all = lent-room a.ring.now (ring_slices a.scratch.now a.origin_scratch.now a.out.now a.out_origins.now)
    (sym c.check_ring.ensures ∙ c.in-Ok.is) in all.1

pub returns-in-Ok-clause-ring : goal.returns-in-Ok-clause-ring
returns-in-Ok-clause-ring c = λ p. rw (← c.bounds_at.ensures) c.clip_ring.ensures.ring

pub returns-in-Ok-clause-origins : goal.returns-in-Ok-clause-origins
returns-in-Ok-clause-origins c = λ p. rw (← c.bounds_at.ensures) c.clip_ring.ensures.origins
