-- `frame_room` meets its contract. The invariant: the room so far, with the room of what is left, is the whole room. Assumes nothing.
use mathlib.Core.Path.{◌≡◌, refl, sym, ap}
use Prim.Native.Nat.{ℕ, ◌+◌, ◌-◌}
use native.Mathlib.Omega.{arith}
use mathlib.Core.List.{List}
use lib.ListN.{length, drop}
use Rattle.frame_bytes.specs.declared.room.MeasuredRoom.{MeasuredRoom}
use Rattle.frame_bytes.specs.Frame.{head_bytes, part_count_of, read_part}
use Rattle.frame_bytes.specs.Room.{least_room, answer_coord_size, part_room}
use Rattle.frame_bytes.proofs.Readings.{part_reads}
use Rattle.frame_bytes.proofs.Rooms.{left, sum-here, sum_step, sum_end, parts-le, frame_head, frame_few, frame_parts}
use Rattle.frame_bytes.proofs.Rooms.{frame_passed}
use Rattle.frame_bytes.proofs.room.frame_room.Goals as goal

-- the room of the whole frame, and where its parts end
abbrev whole : List ℕ → MeasuredRoom
whole frame =
    record {
      room = least_room + (left read_part (part_room answer_coord_size) frame head_bytes (part_count_of frame)).room;
      next =
          (left read_part (part_room answer_coord_size) frame head_bytes (part_count_of frame)).next;
    }

pub count_at-parts-requires : goal.count_at-parts-requires
count_at-parts-requires c = omega (arith, frame_head c.args.frame.bytes.now c.args.frame.accepted)

pub loop-init : goal.loop-init
loop-init c = let f = c.args.frame.bytes.now in let all : c.count_at-parts.result - 0 ≡ c.count_at-parts.result = omega arith in rw (all, c.count_at-parts.ensures.0) (
    record {
      within = frame_head f c.args.frame.accepted;
      accepted = frame_parts f c.args.frame.accepted;
      sum =
          refl;
      end = refl;
    }
    )

pub invariant_of-part : goal.invariant_of-part
invariant_of-part c = let l = c.loop in let k = c.count_at-parts.result - l.counter in
    record {
      within = l.invariant.within;
      accepted = sum-here read_part (part_room answer_coord_size) c.args.frame.bytes.now l.at k (omega arith) l.invariant.accepted;
    }

pub overflow_add-room : goal.overflow_add-room
overflow_add-room c = let f = c.args.frame.bytes.now in
    let l = c.loop in let k = c.count_at-parts.result - l.counter in
    let s = sum_step read_part (part_room answer_coord_size) f part_reads _ l.room l.at k c.part_room-measured.result
    (omega arith) c.part_room-measured.ensures l.invariant in
    let e = s.sum in
    let few = frame_few f c.args.frame.accepted in omega (arith, parts-le (length f) (part_count_of f) (drop head_bytes f) (frame_parts f c.args.frame.accepted))

pub loop-preserved : goal.loop-preserved
loop-preserved c = let next : c.count_at-parts.result - (c.loop.counter + 1) ≡ c.count_at-parts.result - c.loop.counter - 1 = omega arith in let f = c.args.frame.bytes.now in
    let l = c.loop in let k = c.count_at-parts.result - l.counter in rw next (sum_step read_part (part_room answer_coord_size) f part_reads _ l.room l.at k
    c.part_room-measured.result (omega arith) c.part_room-measured.ensures l.invariant)

pub returns : goal.returns
returns c = let f = c.args.frame.bytes.now in
    let l = c.loop in let k = c.count_at-parts.result - l.counter in
    let e = sum_end read_part (part_room answer_coord_size) f (whole f) l.room l.at k (omega arith) l.invariant in rw (frame_passed f c.args.frame.accepted) (sym (ap (λ (p : MeasuredRoom). p.room) e))
