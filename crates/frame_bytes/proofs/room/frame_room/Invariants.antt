-- `frame_room` meets its contract. The invariant: the room so far, with the room of what is left, is the whole room. Assumes nothing.
use Prim.Native.Nat.{ℕ, ◌+◌, ◌-◌}
use mathlib.Core.List.{List}
use Rattle.frame_bytes.specs.declared.room.MeasuredRoom.{MeasuredRoom}
use Rattle.frame_bytes.specs.Frame.{head_bytes, part_count_of, read_part}
use Rattle.frame_bytes.specs.Room.{least_room, answer_coord_size, part_room}
use Rattle.frame_bytes.proofs.Rooms.{left, Summed}
use Rattle.frame_bytes.proofs.room.frame_room.Given as goal

-- the room of the whole frame, and where its parts end
abbrev whole : List ℕ → MeasuredRoom
whole frame =
    record {
      room = least_room + (left read_part (part_room answer_coord_size) frame head_bytes (part_count_of frame)).room;
      next =
          (left read_part (part_room answer_coord_size) frame head_bytes (part_count_of frame)).next;
    }

abbrev pub invariant-loop : goal.invariant-loop
invariant-loop l = Summed read_part (part_room answer_coord_size) l.frame.bytes.now (whole l.frame.bytes.now) l.room l.at (l.parts - l.counter)
