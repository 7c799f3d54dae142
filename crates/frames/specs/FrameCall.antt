-- The frame call (document 01, "Frames"): what it answers. What it leaves in the output is `frame_call_output` of Output. Definitions only.
use Rattle.std.specs.Prelude.{List, ℕ, ℤ, pos, neg_ℤ, length, Result, Ok, Err}
use Rattle.frame_bytes.specs.declared.reader.FrameRefusal.{FrameRefusal}
use Rattle.frame_bytes.specs.Frame.{Reading, refused, read, frame_refusal_number, Frame}
use Rattle.frame_bytes.specs.Room.{read_call}
use Rattle.frames.specs.Output.{frame_bytes}

-- ---- what is answered

-- a refusal, or the count of the answer's bytes
abbrev pub answer_of_reading : Reading Frame → Result ℕ FrameRefusal
answer_of_reading (refused r) = Err r
answer_of_reading (read f rest) = Ok (length (frame_bytes f))

-- what a frame call answers, by the frame's bytes and the output as it is lent
abbrev pub frame_call_answer : List ℕ → List ℕ → Result ℕ FrameRefusal
frame_call_answer frame out = answer_of_reading (read_call frame (length out))

-- the number of each answer where it crosses as one: the count of bytes, or minus the refusal's
abbrev pub frame_call_code : Result ℕ FrameRefusal → ℤ
frame_call_code (Err r) = neg_ℤ (pos (frame_refusal_number r))
frame_call_code (Ok n) = pos n
