-- The line step, which takes an input in blocks of any sizes (document 01, "Frames": the program `ringcut`). Definitions only.
use Rattle.std.specs.Prelude.{◌≡◌, Bool, true, false, ◌&&◌, cond, List, [], ◌∷◌, ◌++◌, ℕ, suc, ◌+◌, ◌*◌, ◌%◌, ◌≤◌, leb, eqb, length}
use Rattle.std.specs.Prelude.{take, replicate, Result, Ok, Err}
use Rattle.binary64.specs.Slices.{over}
use Rattle.frame_bytes.specs.Frame.{longest}
use Rattle.lines.specs.declared.line.Line.{Line}
use Rattle.lines.specs.declared.line.Line.TheVariants as KnownLines
use Rattle.lines.specs.declared.feed.TooShort.{TooShort}
use Rattle.lines.specs.Lines.{newline, hex_digit, lower_hex, printed}

-- ---- the characters that stand for what is known of a line

-- a character that is neither a digit nor a newline
abbrev pub no_digit : ℕ
no_digit = 45

-- pairs of digits, one more than the longest frame has bytes; which digits they are does not matter, as every such line is refused
unfoldable pub long_pairs : List ℕ
long_pairs = lower_hex (replicate (longest + 1) 0)

-- Characters that stand for what is known of a line, whose bytes are the first of `kept`. They need not be the ones that were read:
-- `GoesOn` asks only that whatever follows is answered alike. A count over the length of `kept` stands for all of it, a digit's value for
-- its rest by 16.
abbrev pub chars_of : Line → List ℕ → List ℕ
chars_of KnownLines.NotDigits kept = no_digit ∷ []
chars_of (KnownLines.Whole n) kept = lower_hex (take n kept)
chars_of (KnownLines.Half n high) kept = lower_hex (take n kept) ++ hex_digit (high % 16) ∷ []
chars_of (KnownLines.Long false) kept = long_pairs
chars_of (KnownLines.Long true) kept = long_pairs ++ hex_digit 0 ∷ []

-- An input may begin here: no character was read.
abbrev pub Begins : Line → Type 0
Begins line = (kept : List ℕ) → chars_of line kept ≡ []

-- ---- characters up to a newline

-- a character in front of these, where there are any
abbrev pub in_front_of_some : ℕ → List ℕ → List ℕ
in_front_of_some b [] = []
in_front_of_some b (c ∷ rest) = b ∷ c ∷ rest

-- an input up to its last newline, and with it
unfoldable pub ended : List ℕ → List ℕ
ended [] = []
ended (b ∷ rest) = cond (eqb b newline) (b ∷ ended rest) (in_front_of_some b (ended rest))

-- how many characters stand up to and with the first newline; all of them where there is none
unfoldable pub line_length : List ℕ → ℕ
line_length [] = 0
line_length (b ∷ rest) = cond (eqb b newline) 1 (suc (line_length rest))

-- ---- the lent slices

-- bytes for an answer: 22 asks for at most 56,259 of any frame (`frame_most` in `frame_bytes/proofs/MostRoom.antt`), and a refusal has
-- five. Any number from there on would do.
abbrev pub answer_room : ℕ
answer_room = 12 * longest

-- bytes for an answer as a line
abbrev pub line_room : ℕ
line_room = 2 * answer_room + 1

-- whether the slice for the bytes of a line holds the longest frame, and the one for what is printed has room for a line
abbrev pub slices_fit : List ℕ → List ℕ → Bool
slices_fit kept out = leb longest (length kept) && leb line_room (length out)

-- ---- the line step

-- what is printed at once for characters that follow on what is known of a line: the answers to the lines that end in them
abbrev pub printed_now : Line → List ℕ → List ℕ → List ℕ
printed_now line kept characters = printed (ended (chars_of line kept ++ characters))

-- What is then known of the line, line' with kept', stands for all that was read: whatever `rest` follows, the whole prints `printed_now`,
-- and then what the characters of line' with `rest` behind them print. So blocks of any sizes print `printed` of the whole input
-- (proofs/Blocks.antt: `all-printed`).
abbrev pub GoesOn : List ℕ → Line → List ℕ → Line → List ℕ → Type 0
GoesOn characters line kept line' kept' =
    (rest : List ℕ) → printed (chars_of line kept ++ (characters ++ rest))
    ≡ printed_now line kept characters ++ printed (chars_of line' kept' ++ rest)

-- Answering characters: what they print stands at the front of the output, and the rest of the output stays.
pub record Prints (characters : List ℕ) (line : Line) (kept out : List ℕ) (written : ℕ) (line' : Line) (kept' out' : List ℕ) : Type 0 where
  pub count : written ≡ length (printed_now line kept characters)
  pub output : out' ≡ over (printed_now line kept characters) out
  pub room : written ≤ length out
  pub goes_on : GoesOn characters line kept line' kept'

-- Feeding a block: it is taken up to and with its first newline, or whole where it has none; nothing is taken where a lent slice is shorter
-- than `slices_fit` asks for.
pub record Feeds (block : List ℕ) (line : Line) (kept out : List ℕ) (taken written : ℕ) (line' : Line) (kept' out' : List ℕ) : Type 0 where
  pub first_line : taken ≡ cond (slices_fit kept out) (line_length block) 0
  pub prints : Prints (take taken block) line kept out written line' kept' out'
  -- where a slice is too short the line and its bytes stay
  pub untaken : slices_fit kept out ≡ false → (line' ≡ line) × (kept' ≡ kept)
  -- Where the slices fit, only `goes_on` and this length are said of line' and kept': which they are otherwise is free. No later answer
  -- depends on it, if the next call is lent line' with kept' in the same length.
  pub kept-length : length kept' ≡ length kept

-- ---- the end of the input: "A last line without a newline counts", and where no character of it was read there is none

-- what `finish` answers: how many bytes it wrote, 0 where there is no last line, or that a lent slice is shorter than `slices_fit` asks for
abbrev pub finish_answer : Line → List ℕ → List ℕ → Result ℕ TooShort
finish_answer line kept out = cond (slices_fit kept out) (Ok (length (printed (chars_of line kept)))) (Err record {})

-- and what the output holds then
abbrev pub finish_output : Line → List ℕ → List ℕ → List ℕ
finish_output line kept out = cond (slices_fit kept out) (over (printed (chars_of line kept)) out) out

-- how many bytes were written by such an answer
abbrev pub bytes_written : Result ℕ TooShort → ℕ
bytes_written (Err too_short) = 0
bytes_written (Ok count) = count
