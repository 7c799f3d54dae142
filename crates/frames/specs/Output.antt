-- Answers as bytes, and what a frame call leaves in the output (document 01, "Frames"). Definitions only.
use Rattle.std.specs.Prelude.{List, ◌++◌, ℕ, length}
use Rattle.binary64.specs.Slices.{over}
use Rattle.frame_bytes.specs.Frame.{Reading, refused, read, Frame}
use Rattle.frame_bytes.specs.Room.{read_call}
use Rattle.frame_bytes.specs.Encoding.{each, header_bytes}
use Rattle.frame_parts.specs.Part.{part_bytes}
use Rattle.frames.specs.Answer.{Answer, Nothing, Dropped, Unchanged, Listed, answer_to}

-- "0 nothing, 1 whole dropped, 2 whole unchanged, 3 listed"
abbrev pub answer_byte : Answer → ℕ
answer_byte (Nothing guard) = 0
answer_byte Dropped = 1
answer_byte Unchanged = 2
answer_byte (Listed guard parts) = 3

-- a whole that is dropped has "guard count 1"
unfoldable pub answer_bytes : Answer → List ℕ
answer_bytes (Nothing guard) = header_bytes (answer_byte (Nothing guard)) guard 0
answer_bytes Dropped = header_bytes (answer_byte Dropped) 1 0
answer_bytes Unchanged = header_bytes (answer_byte Unchanged) 0 0
answer_bytes (Listed guard parts) = header_bytes (answer_byte (Listed guard parts)) guard (length parts) ++ each part_bytes parts

-- the bytes that answer a frame
abbrev pub frame_bytes : Frame → List ℕ
frame_bytes f = answer_bytes (answer_to f)

-- "A refusal changes no lent buffer. A success .. leaves the output .. past the answer unchanged."
abbrev pub output_of : Reading Frame → List ℕ → List ℕ
output_of (refused r) out = out
output_of (read f rest) out = over (frame_bytes f) out

-- what the output holds after a frame call, by the frame's bytes and the output as it was lent
abbrev pub frame_call_output : List ℕ → List ℕ → List ℕ
frame_call_output frame out = output_of (read_call frame (length out)) out
