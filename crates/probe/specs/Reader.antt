-- What the frame reader's check answers, as a code.
use Rattle.std.specs.Prelude.{ℕ, Result, Ok, Err, ⊤}
use Rattle.frame_bytes.specs.declared.reader.FrameRefusal.{FrameRefusal}
use Rattle.frame_bytes.specs.Frame.{frame_refusal_number}

abbrev pub check_code : Result ⊤ FrameRefusal → ℕ
check_code (Err refusal) = frame_refusal_number refusal
check_code (Ok passed) = 0
