-- What the frame call answers and leaves, where the output has room for every answer. Assumes nothing.
use mathlib.Core.Path.{◌≡◌, refl, ap}
use mathlib.Core.List.{List, [], ◌∷◌, ◌++◌, append_assoc}
use Prim.Native.Nat.{ℕ, ◌+◌, ◌≤◌}
use native.Mathlib.Omega.{arith}
use lib.ListN.{length, take, drop, length-append, length-drop, take-append-drop}
use lib.Seq.{length-take-le, drop-append-le, take-append_seam, drop-append-add, drop-drop}
use Rattle.binary64.specs.Slices.{over}
use Rattle.frame_bytes.specs.declared.reader.FrameRefusal.{FrameRefusal}
use Rattle.frame_bytes.specs.Frame.{Reading, refused, read, Frame, frame_refusal_number, read_frame}
use Rattle.frame_bytes.specs.Room.{read_call}
use Rattle.frame_bytes.proofs.MostRoom.{has_room}
use Rattle.std.specs.Prelude.{Ok, Err}
use Rattle.frames.specs.Output.{output_of, frame_call_output}
use Rattle.frames.specs.FrameCall.{answer_of_reading, frame_call_answer}
use Rattle.lines.specs.Lines.{newline, lower_hex, hex_line, refusal_bytes, reading_bytes, frame_answer}
use Rattle.lines.specs.LineStep.{answer_room}
use Rattle.lines.proofs.Hexadecimal.{length-lower_hex}

refused_reading : (x : Reading Frame) (r : FrameRefusal) (out : List ℕ) → answer_of_reading x ≡ Err r
    → (refusal_bytes (frame_refusal_number r) ≡ reading_bytes x) × (output_of x out ≡ out)
refused_reading (refused s) r out e = let same : s ≡ r = cc in (rw same, refl)
refused_reading (read f rest) r out e = absurd (let z : ◌≡◌ {A = ℕ} 0 1 = cc in omega arith)

answered_reading : (x : Reading Frame) (n : ℕ) (out : List ℕ) → answer_of_reading x ≡ Ok n → (n ≡ length (reading_bytes x))
    × (output_of x out ≡ over (reading_bytes x) out)
answered_reading (refused s) n out e = absurd (let z : ◌≡◌ {A = ℕ} 0 1 = cc in omega arith)
answered_reading (read f rest) n out e = (cc, refl)

module _ (frame out : List ℕ) (room : answer_room ≤ length out) where
  not_short : read_call frame (length out) ≡ read_frame frame
  not_short = has_room frame (length out) (omega (arith, room))

  pub call-refused : (r : FrameRefusal) → frame_call_answer frame out ≡ Err r
      → (refusal_bytes (frame_refusal_number r) ≡ frame_answer frame) × (frame_call_output frame out ≡ out)
  unfolding frame_answer
  call-refused r e = rw not_short (refused_reading (read_frame frame) r out (rw not_short at e))

  pub call_answered : (n : ℕ) → frame_call_answer frame out ≡ Ok n → (n ≡ length (frame_answer frame))
      × (frame_call_output frame out ≡ over (frame_answer frame) out)
  unfolding frame_answer
  call_answered n e = rw not_short (answered_reading (read_frame frame) n out (rw not_short at e))

-- ---- an answer written over the front of a part of the output, and made a line there

module _ (answer out part : List ℕ) (k : ℕ) (room : k ≤ length out) (written : part ≡ over answer (take k out))
    (same : length part ≡ length (take k out)) where
  pub part-fits : length answer ≤ k
  part-fits =
      omega (
        arith,
        same,
        ap length written,
        length-append answer (drop (length answer) (take k out)),
        length-drop (length answer)
            (take k out),
        length-take-le k out room,
      )

  pub part-over : part ++ drop k out ≡ over answer out
  part-over =
      let n : length answer ≤ length (take k out) = omega (arith, part-fits, length-take-le k out room) in
      rw (written, append_assoc, ← drop-append-le (length answer) (take k out) (drop k out) n, take-append-drop k out)

module _ (answer out : List ℕ) where
  pub answer-front : take (length answer) (over answer out) ≡ answer
  answer-front = take-append_seam answer (drop (length answer) out)

  -- what lies past the line was not touched by the answer
  pub line-over : over (hex_line answer) (over answer out) ≡ over (hex_line answer) out
  line-over =
      let n : length (hex_line answer) ≡ length answer + (length answer + 1) =
      omega (arith, length-append (lower_hex answer) (newline ∷ []), length-lower_hex answer) in
      rw (n, drop-append-add answer (drop (length answer) out) (length answer + 1), drop-drop (length answer + 1) (length answer) out)
