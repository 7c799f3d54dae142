-- `answer_in` meets its contract: a polygon by its only part, else the parts; then the header is written. Assumes nothing.
use borrow.Author.Tests.{eq-eqb, ne_eqb}
use Rattle.clip.specs.Polygon.{route_measured}
use Rattle.clip.specs.Origins.{routed_origins}
use Rattle.frame_bytes.specs.Frame.{head_bytes}
use Rattle.frame_bytes.specs.Internal.{part_at}
use Rattle.frames.specs.Answer.{list_parts, flags_in}
use Rattle.frames.specs.Internal.{parts_from, of_listing}
use Rattle.frames.proofs.Listings.{polygon_answers, finished}
use Rattle.frames.proofs.Entries.{only_reads, only_room, only_positions, only_part_lem, as-answer}
use Rattle.frames.proofs.parts.answer_in.Goals as goal

pub invariant_of-part : goal.invariant_of-part
invariant_of-part c =
    let k = eq-eqb c.args.head.kind 3 c.if-head.true in
    record { within = c.requires.room.within; accepted = only_reads c.args.frame.now c.args.head _ _ _ c.requires k }

pub route_part-answer-requires-clause-part_room : goal.route_part-answer-requires-clause-part_room
route_part-answer-requires-clause-part_room c = let k = eq-eqb c.args.head.kind 3 c.if-head.true in only_room c.args.frame.now c.args.head _ _ _ c.requires k

pub route_part-answer-requires-clause-positions_room : goal.route_part-answer-requires-clause-positions_room
route_part-answer-requires-clause-positions_room c = let k = eq-eqb c.args.head.kind 3 c.if-head.true in only_positions c.args.frame.now c.args.head _ _ _ c.requires k

pub returns-then-head : goal.returns-then-head
returns-then-head c = let k = eq-eqb c.args.head.kind 3 c.if-head.true in
    let route = c.route_part-answer.ensures in
    let done = c.finish_polygon.ensures in
    let part = part_at c.args.frame.now head_bytes in
    let to = route_measured (flags_in c.args.head) c.args.rect c.args.bounds part in as-answer (only_part_lem c.args.frame.now c.args.head _ _ _ c.requires k c.args.rect c.args.bounds)
    (polygon_answers c.args.out.now _ _ _ (routed_origins to c.args.bounds part) to route.out_after (rw route.value at done.0)
    (rw route.value at done.1))

pub returns : goal.returns
returns c = let a = c.args in
    let done = c.finish.ensures in  -- the answer is named, as what is found for it is much larger
    as-answer {y = of_listing (list_parts (flags_in a.head) a.bounds 0 (parts_from a.frame.now head_bytes a.head.parts))}
    (rw (ne_eqb a.head.kind 3 c.if-head.false))
    (finished _ _ _ a.out.now _ _ _ c.list_parts-listing.ensures done.0 done.1)
