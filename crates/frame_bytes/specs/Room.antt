-- The output that a frame call asks for (document 01, "Frames", 22; document 02, Point 12). Definitions only.
use Rattle.std.specs.Prelude.{List, ℕ, ◌+◌, ◌*◌, ltb, length}
use Rattle.tile.specs.declared.Coord.{Coord}
use Rattle.rings.specs.LentRings.{total, ring_room}
use Rattle.frame_bytes.specs.declared.reader.FrameRefusal.TheVariants.{Output}
use Rattle.frame_bytes.specs.Frame.{Reading, read, refused_if, and_then, Frame, read_frame}

-- bytes of an answer that lists nothing
abbrev pub least_room : ℕ
least_room = 5

-- "Amends 22: 18 bytes a coordinate": in an answer. A frame that is lent has 16 for each.
abbrev pub answer_coord_size : ℕ
answer_coord_size = 18

-- "for each part, 6 + 2 × rings + 16 × its sum of B": the bytes of a coordinate in an answer, 18 for 16 now, are a parameter. A part has a
-- ring, so that this is no less than the 8 bytes of an overlay: "The frame part of 22 already has room for them and stays."
unfoldable pub part_room : ℕ → List (List Coord) → ℕ
part_room size rings = 6 + 2 * length rings + size * total ring_room rings

-- "for a frame, under 5 bytes plus" that for each part
unfoldable pub output_room : ℕ → List (List (List Coord)) → ℕ
output_room size parts = least_room + total (part_room size) parts

-- "A frame call does 11 to 18 and 22": the frame, where an output of `out` bytes has the room
unfoldable pub read_call : List ℕ → ℕ → Reading Frame
read_call l out = and_then (read_frame l) (λ f rest. refused_if (ltb out (output_room answer_coord_size f.parts)) Output (read f rest))
