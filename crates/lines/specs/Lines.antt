-- Lines of hexadecimal digits, and what is printed for an input of them (document 01, "Frames": the program `ringcut`). Definitions only.
use Rattle.std.specs.Prelude.{Bool, true, false, cond, ◌&&◌, List, [], ◌∷◌, ◌++◌, ℕ, ◌+◌, ◌*◌, ◌-◌, ◌/◌, ◌%◌, ltb, leb, eqb}
use Rattle.frame_bytes.specs.Frame.{Reading, refused, read, Frame, frame_refusal_number, read_frame}
use Rattle.frame_bytes.specs.Encoding.{each}
use Rattle.frames.specs.Output.{frame_bytes}

-- ---- the lines of an input

abbrev pub newline : ℕ
newline = 10

-- a character in front of these lines: in front of the first of them, or alone where there is none
abbrev pub in_front : ℕ → List (List ℕ) → List (List ℕ)
in_front b [] = (b ∷ []) ∷ []
in_front b (line ∷ others) = (b ∷ line) ∷ others

-- "one frame a line"; "A last line without a newline counts." Nothing behind the last newline is no line.
unfoldable pub lines_of : List ℕ → List (List ℕ)
lines_of [] = []
lines_of (b ∷ rest) = cond (eqb b newline) ([] ∷ lines_of rest) (in_front b (lines_of rest))

-- ---- "in hexadecimal of either case"

abbrev pub between : ℕ → ℕ → ℕ → Bool
between low high b = leb low b && leb b high

-- the value of a digit, 0 to 9 at 48, a to f at 97, A to F at 65; 16 for every other character
unfoldable pub digit : ℕ → ℕ
digit b = cond (between 48 57 b) (b - 48) (cond (between 97 102 b) (b - 87) (cond (between 65 70 b) (b - 55) 16))

abbrev pub is_digit : ℕ → Bool
is_digit b = ltb (digit b) 16

-- what a line stands for: bytes, unless it "is not pairs of hexadecimal digits"
pub data Decoded : Type 0 where
  not_pairs : Decoded
  pairs_of : List ℕ → Decoded

abbrev pub with_byte : Bool → ℕ → Decoded → Decoded
with_byte false b others = not_pairs
with_byte true b not_pairs = not_pairs
with_byte true b (pairs_of l) = pairs_of (b ∷ l)

unfoldable pub decode : List ℕ → Decoded
decode [] = pairs_of []
decode (a ∷ []) = not_pairs
decode (a ∷ b ∷ rest) = with_byte (is_digit a && is_digit b) (digit a * 16 + digit b) (decode rest)

-- ---- "prints each answer as a lower-case line"

abbrev pub hex_digit : ℕ → ℕ
hex_digit d = cond (ltb d 10) (48 + d) (87 + d)

unfoldable pub lower_hex : List ℕ → List ℕ
lower_hex [] = []
lower_hex (b ∷ rest) = hex_digit (b / 16) ∷ hex_digit (b % 16) ∷ lower_hex rest

abbrev pub hex_line : List ℕ → List ℕ
hex_line l = lower_hex l ++ newline ∷ []

-- "A refusal prints its number as one byte and four zero bytes."
abbrev pub refusal_bytes : ℕ → List ℕ
refusal_bytes number = number ∷ 0 ∷ 0 ∷ 0 ∷ 0 ∷ []

-- the bytes of what a frame is answered; 22 does not arise, as the line step lends `answer_room` bytes
abbrev pub reading_bytes : Reading Frame → List ℕ
reading_bytes (refused r) = refusal_bytes (frame_refusal_number r)
reading_bytes (read f rest) = frame_bytes f

unfoldable pub frame_answer : List ℕ → List ℕ
frame_answer l = reading_bytes (read_frame l)

-- "10 when a program line is not pairs of hexadecimal digits"
abbrev pub not_pairs_number : ℕ
not_pairs_number = 10

abbrev pub decoded_answer : Decoded → List ℕ
decoded_answer not_pairs = refusal_bytes not_pairs_number
decoded_answer (pairs_of l) = frame_answer l

abbrev pub answer_line : List ℕ → List ℕ
answer_line line = hex_line (decoded_answer (decode line))

-- what is printed for an input
abbrev pub printed : List ℕ → List ℕ
printed input = each answer_line (lines_of input)
