-- `answer_route` meets its contract: each arm knows its route. Assumes nothing.
use Rattle.frame_bytes.specs.Internal.{part_at}
use Rattle.frame_parts.proofs.CutParts.{some-rings, overlay-room, overlay-part}
use Rattle.frame_parts.proofs.answer_route.Goals as goal

pub overlay_or_dropped-requires : goal.overlay_or_dropped-requires
overlay_or_dropped-requires c = let a = c.args in
    overlay-room (part_at a.part.frame.now a.part.at) _ _ (some-rings a.part.frame.now a.part.at a.part.within a.part.accepted)
    c.requires.part_room.output

pub returns-in-Overlay-clause-value : goal.returns-in-Overlay-clause-value
returns-in-Overlay-clause-value c = let a = c.args in
    let e = overlay-part a.index a.bounds (part_at a.part.frame.now a.part.at) in
    let overlay = c.overlay_or_dropped.ensures in rw (c.in-Overlay.is, e) overlay.value

pub returns-in-Overlay-clause-out_after : goal.returns-in-Overlay-clause-out_after
returns-in-Overlay-clause-out_after c = let a = c.args in
    let e = overlay-part a.index a.bounds (part_at a.part.frame.now a.part.at) in
    let overlay = c.overlay_or_dropped.ensures in rw (
      c.in-Overlay.is,
      e,
    ) overlay.out_after
