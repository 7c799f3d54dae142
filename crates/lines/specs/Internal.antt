-- What the functions that read a line say to each other, and `FeedsLines`, which the program's loop over a block's lines promises. No
-- contract of an entry point reaches it, so a reader of those can skip this file. Definitions only.
use Rattle.std.specs.Prelude.{◌≡◌, Bool, true, false, not, cond, List, [], ◌∷◌, ◌++◌, ℕ, ◌+◌, ◌*◌, ◌-◌, ◌%◌, ◌<◌, ◌≤◌, ltb, eqb, get_or}
use Rattle.std.specs.Prelude.{length, take, drop}
use Rattle.frame_bytes.specs.Frame.{longest, frame_refusal_number}
use Rattle.frame_bytes.specs.declared.reader.FrameRefusal.TheVariants.{Size}
use Rattle.lines.specs.declared.line.Line.{Line}
use Rattle.lines.specs.declared.line.Line.TheVariants as KnownLines
use Rattle.lines.specs.Lines.{newline, digit, is_digit, hex_line, refusal_bytes, frame_answer, not_pairs_number}
use Rattle.lines.specs.LineStep.{ended, line_length, line_room, Prints}

-- a table of the values of all characters as digits
abbrev pub DigitValues : List ℕ → Type 0
DigitValues values = (b : ℕ) → b < 256 → get_or values b 0 ≡ digit b

-- ---- what is known of a line of which some characters have been read

-- The bytes that its pairs of digits stand for, and the value of a digit that still wants its second. Of a line of more bytes than the
-- longest frame it is enough to know whether a digit wants its second; of one with another character, nothing.
pub data State : Type 0 where
  not_digits : State
  whole : List ℕ → State
  half : List ℕ → ℕ → State
  long : Bool → State

abbrev pub take_digit : State → ℕ → State
take_digit not_digits d = not_digits
take_digit (whole l) d = half l d
take_digit (half l high) d = cond (ltb (length l) longest) (whole (l ++ (high * 16 + d) ∷ [])) (long false)
take_digit (long odd) d = long (not odd)

-- after one more character, which is no newline
unfoldable pub after : State → ℕ → State
after st b = cond (is_digit b) (take_digit st (digit b)) not_digits

-- after more of them
unfoldable pub state_after : State → List ℕ → State
state_after st [] = st
state_after st (b ∷ rest) = state_after (after st b) rest

-- the answer where the line ends here: 10 before 11
abbrev pub end_answer : State → List ℕ
end_answer not_digits = refusal_bytes not_pairs_number
end_answer (whole l) = frame_answer l
end_answer (half l high) = refusal_bytes not_pairs_number
end_answer (long true) = refusal_bytes not_pairs_number
end_answer (long false) = refusal_bytes (frame_refusal_number Size)

abbrev pub end_line : State → List ℕ
end_line st = hex_line (end_answer st)

-- The state as the code holds it, its bytes at the front of a lent slice. What is printed behind it is what is printed behind the
-- characters that `chars_of` has for it (proofs/Printed.antt: `printed-behind`).
abbrev pub state_of : Line → List ℕ → State
state_of KnownLines.NotDigits kept = not_digits
state_of (KnownLines.Whole n) kept = whole (take n kept)
state_of (KnownLines.Half n high) kept = half (take n kept) (high % 16)
state_of (KnownLines.Long odd) kept = long odd

-- a line of which no character was read
abbrev pub not_begun : Line → Bool
not_begun KnownLines.NotDigits = false
not_begun (KnownLines.Whole n) = eqb n 0
not_begun (KnownLines.Half n high) = false
not_begun (KnownLines.Long odd) = false

-- ---- reading on within a line

-- the characters of a block from one place to another
abbrev pub chars_between : ℕ → ℕ → List ℕ → List ℕ
chars_between from to block = take (to - from) (drop from block)

-- from one place of a block to another: no newline lies between them
pub record ReadsOn (block : List ℕ) (from : ℕ) (st : State) (to : ℕ) (st' : State) : Type 0 where
  pub forward : from ≤ to
  pub within : to ≤ length block
  pub in-line : from + line_length (drop from block) ≡ to + line_length (drop to block)
  pub reached : st' ≡ state_after st (chars_between from to block)
  pub no-newline : ended (chars_between from to block) ≡ []

-- Taking a block's characters from a place on, to the next newline or to the block's end.
pub record Takes (block : List ℕ) (from : ℕ) (line : Line) (kept : List ℕ) (to : ℕ) (line' : Line) (kept' : List ℕ) : Type 0 where
  pub passes : ReadsOn block from (state_of line kept) to (state_of line' kept')
  pub stops : to < length block → get_or block to 0 ≡ newline

-- ---- feeding a block's lines

-- One behind the other: to the block's end, or until the output has no room for one line more; how many lines that are is left free.
-- Something is taken of a block that is not empty.
pub record FeedsLines (block : List ℕ) (line : Line) (kept out : List ℕ) (taken written : ℕ) (line' : Line)
    (kept' out' : List ℕ) : Type 0 where
  pub within : taken ≤ length block
  pub prints : Prints (take taken block) line kept out written line' kept' out'
  pub stops : taken < length block → length out < written + line_room
  pub some : 0 < length block → 0 < taken
  -- no more is said of line' and kept', as in `Feeds`
  pub kept-length : length kept' ≡ length kept
