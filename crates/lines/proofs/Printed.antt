-- What is printed for an input that goes on behind what is known of a line. Assumes nothing.
use mathlib.Core.Path.{◌≡◌, refl, sym, ◌∙◌, ap}
use mathlib.Core.Bool.{Bool, true, false, cond}
use mathlib.Core.List.{List, [], ◌∷◌, ◌++◌, append-nil, append_assoc}
use Prim.Native.Nat.{ℕ, ◌+◌, ◌*◌, ◌%◌, ◌≤◌, ◌<◌}
use native.Mathlib.Omega.{arith}
use lib.Dec.{ltb}
use lib.ListN.{length, take, replicate, length-append, length-replicate}
use borrow.Author.Tests.{lt-ltb, le-ltb, ltb-false}
use Rattle.frame_bytes.specs.Frame.{longest, head_bytes, read_frame, frame_refusal_number}
use Rattle.frame_bytes.specs.declared.reader.FrameRefusal.TheVariants.{Size}
use Rattle.frame_bytes.specs.Encoding.{each}
use Rattle.lines.specs.declared.line.Line.{Line}
use Rattle.lines.specs.declared.line.Line.TheVariants as KnownLines
use Rattle.lines.specs.Lines.{in_front, lines_of, digit, is_digit, Decoded, not_pairs, pairs_of, with_byte, decode, hex_digit}
use Rattle.lines.specs.Lines.{lower_hex, hex_line, refusal_bytes, frame_answer, not_pairs_number, decoded_answer, answer_line, printed}
use Rattle.lines.specs.LineStep.{no_digit, long_pairs, chars_of, ended}
use Rattle.lines.specs.Internal.{State, not_digits, whole, half, long, take_digit, after, state_after, end_answer, end_line, state_of}
use Rattle.lines.proofs.Characters.{no-newline-cons, chars_no-newline, digit_hex, hex_is-digit, behind, Bytes, bytes_taken}
use Rattle.lines.proofs.Characters.{zero-bytes, decode-behind}
use Rattle.lines.proofs.Hexadecimal.{length-lower_hex}
use Rattle.lines.proofs.Running.{state_append}

-- a frame over the longest is answered 11
too_long : (l : List ℕ) → longest < length l → refusal_bytes (frame_refusal_number Size) ≡ frame_answer l
unfolding frame_answer read_frame
too_long l h =
    let n : head_bytes ≤ length l = omega arith in
    rw (le-ltb (length l) head_bytes n, lt-ltb longest (length l) h)

-- ---- one line

abbrev start : State
start = whole []

digit_taken : (st : State) (b : ℕ) → is_digit b ≡ true → after st b ≡ take_digit st (digit b)
unfolding after
digit_taken st b e = rw e

spoilt_by : (st : State) (b : ℕ) → is_digit b ≡ false → after st b ≡ not_digits
unfolding after
spoilt_by st b e = rw e

stays_spoilt : (b : ℕ) (t : Bool) → is_digit b ≡ t → after not_digits b ≡ not_digits
stays_spoilt b true e = digit_taken not_digits b e
stays_spoilt b false e = spoilt_by not_digits b e

spoilt : (line : List ℕ) → end_answer (state_after not_digits line) ≡ refusal_bytes not_pairs_number
unfolding state_after
spoilt [] = refl
spoilt (b ∷ line) = rw (stays_spoilt b (is_digit b) refl) (spoilt line)

-- a line that has more bytes than the longest frame already
long_answer : Decoded → List ℕ
long_answer not_pairs = refusal_bytes not_pairs_number
long_answer (pairs_of l) = refusal_bytes (frame_refusal_number Size)

long_byte : (x : ℕ) (d : Decoded) → long_answer d ≡ long_answer (with_byte true x d)
unfolding long_answer
long_byte x not_pairs = refl
long_byte x (pairs_of l) = refl

long_pair : (a b : ℕ) (rest : List ℕ) (s t : Bool) → is_digit a ≡ s → is_digit b ≡ t → end_answer (state_after (long false) rest)
    ≡ long_answer (decode rest)
    → end_answer (state_after (after (after (long false) a) b) rest) ≡ long_answer (decode (a ∷ b ∷ rest))
unfolding decode long_answer
long_pair a b rest true true e f ih =
    rw (digit_taken (long false) a e, digit_taken (long true) b f, e, f) (ih ∙ long_byte (digit a * 16 + digit b) (decode rest))
long_pair a b rest true false e f ih = rw (digit_taken (long false) a e, spoilt_by (long true) b f, e, f) (spoilt rest)
long_pair a b rest false t e f ih = rw (spoilt_by (long false) a e, stays_spoilt b t f, e) (spoilt rest)

long_odd : (a : ℕ) (t : Bool) → is_digit a ≡ t → end_answer (after (long false) a) ≡ refusal_bytes not_pairs_number
long_odd a true e = rw (digit_taken (long false) a e)
long_odd a false e = rw (spoilt_by (long false) a e)

long-line : (line : List ℕ) → end_answer (state_after (long false) line) ≡ long_answer (decode line)
unfolding state_after decode long_answer
long-line [] = refl
long-line (a ∷ []) = long_odd a (is_digit a) refl
long-line (a ∷ b ∷ rest) = long_pair a b rest (is_digit a) (is_digit b) refl refl (long-line rest)

behind_byte : (l : List ℕ) (x : ℕ) (d : Decoded) → decoded_answer (behind (l ++ x ∷ []) d) ≡ decoded_answer (behind l (with_byte true x d))
behind_byte l x not_pairs = refl
behind_byte l x (pairs_of m) = rw (append_assoc l (x ∷ []) m)

grown_long : (l : List ℕ) (x : ℕ) (d : Decoded) → longest ≤ length l → long_answer d ≡ decoded_answer (behind l (with_byte true x d))
unfolding long_answer
grown_long l x not_pairs h = refl
grown_long l x (pairs_of m) h = too_long (l ++ x ∷ m) (omega (arith, length-append l (x ∷ m)))

module _ (l : List ℕ) where
  pair_taken : (a b : ℕ) (rest : List ℕ) (t : Bool) → ltb (length l) longest ≡ t
      → ((m : List ℕ) → end_answer (state_after (whole m) rest) ≡ decoded_answer (behind m (decode rest)))
      → end_answer (state_after (take_digit (half l (digit a)) (digit b)) rest) ≡ decoded_answer
      (behind l (with_byte true (digit a * 16 + digit b) (decode rest)))
  pair_taken a b rest true e ih = rw e (ih (l ++ (digit a * 16 + digit b) ∷ []) ∙ behind_byte l (digit a * 16 + digit b) (decode rest))
  pair_taken a b rest false e ih =
      rw e (long-line rest ∙ grown_long l (digit a * 16 + digit b) (decode rest) (ltb-false (length l) longest e))

  line_pair : (a b : ℕ) (rest : List ℕ) (s t : Bool) → is_digit a ≡ s → is_digit b ≡ t
      → ((m : List ℕ) → end_answer (state_after (whole m) rest) ≡ decoded_answer (behind m (decode rest)))
      → end_answer (state_after (after (after (whole l) a) b) rest) ≡ decoded_answer (behind l (decode (a ∷ b ∷ rest)))
  unfolding decode
  line_pair a b rest true true e f ih =
      rw (digit_taken (whole l) a e, digit_taken (half l (digit a)) b f, e, f) (pair_taken a b rest (ltb (length l) longest) refl ih)
  line_pair a b rest true false e f ih = rw (digit_taken (whole l) a e, spoilt_by (half l (digit a)) b f, e, f) (spoilt rest)
  line_pair a b rest false t e f ih = rw (spoilt_by (whole l) a e, stays_spoilt b t f, e) (spoilt rest)

  line_odd : (a : ℕ) (t : Bool) → is_digit a ≡ t → end_answer (after (whole l) a) ≡ refusal_bytes not_pairs_number
  line_odd a true e = rw (digit_taken (whole l) a e)
  line_odd a false e = rw (spoilt_by (whole l) a e)

line-from : (line l : List ℕ) → end_answer (state_after (whole l) line) ≡ decoded_answer (behind l (decode line))
unfolding state_after decode
line-from [] l = rw append-nil
line-from (a ∷ []) l = line_odd l a (is_digit a) refl
line-from (a ∷ b ∷ rest) l = line_pair l a b rest (is_digit a) (is_digit b) refl refl (line-from rest)

behind-nothing : (d : Decoded) → decoded_answer (behind [] d) ≡ decoded_answer d
behind-nothing not_pairs = refl
behind-nothing (pairs_of m) = refl

-- before and after a whole line
line-answer : (line : List ℕ) → end_line (state_after start line) ≡ answer_line line
line-answer line = ap hex_line (line-from line [] ∙ behind-nothing (decode line))

-- ---- all lines

-- what the end of the input prints: where no character was read there is no last line
abbrev pub end_of_input : State → List ℕ
end_of_input not_digits = end_line not_digits
end_of_input (whole []) = []
end_of_input (whole (b ∷ l)) = end_line (whole (b ∷ l))
end_of_input (half l high) = end_line (half l high)
end_of_input (long odd) = end_line (long odd)

-- what is printed where these are the lines that follow, the first of them in the state of the characters before it
unfoldable pub printed_lines : State → List (List ℕ) → List ℕ
printed_lines st [] = end_of_input st
printed_lines st (line ∷ others) = end_line (state_after st line) ++ each answer_line others

-- a line of which a character was read counts at the end of the input
begun : (st : State) (b : ℕ) (t : Bool) → is_digit b ≡ t → end_of_input (after st b) ≡ end_line (after st b)
begun st b false e = rw (spoilt_by st b e)
begun st b true e = rw (digit_taken st b e) (by_state st (digit b))
  where
    one_more : (l : List ℕ) (x : ℕ) → end_of_input (whole (l ++ x ∷ [])) ≡ end_line (whole (l ++ x ∷ []))
    one_more [] x = refl
    one_more (y ∷ l) x = refl

    by-room : (l : List ℕ) (x : ℕ) (t : Bool) → end_of_input (cond t (whole (l ++ x ∷ [])) (long false)) ≡ end_line
        (cond t (whole (l ++ x ∷ [])) (long false))
    by-room l x true = one_more l x
    by-room l x false = refl

    by_state : (st : State) (d : ℕ) → end_of_input (take_digit st d) ≡ end_line (take_digit st d)
    by_state not_digits d = refl
    by_state (whole l) d = refl
    by_state (half l high) d = by-room l (high * 16 + d) (ltb (length l) longest)
    by_state (long odd) d = refl

one-in-front : (st : State) (b : ℕ) (lines : List (List ℕ)) → printed_lines (after st b) lines ≡ printed_lines st (in_front b lines)
unfolding printed_lines state_after each
one-in-front st b [] = begun st b (is_digit b) refl ∙ sym (append-nil _)
one-in-front st b (line ∷ others) = refl

from_start : (lines : List (List ℕ)) → printed_lines start lines ≡ each answer_line lines
unfolding printed_lines each
from_start [] = refl
from_start (line ∷ others) = rw (line-answer line)

-- Characters of which none is a newline, read on or in front of the lines that follow, print alike.
pub lines_after : (x rest : List ℕ) (st : State) → ended x ≡ [] → printed_lines (state_after st x) (lines_of rest) ≡ printed_lines st
    (lines_of (x ++ rest))
unfolding state_after lines_of
lines_after [] rest st e = refl
lines_after (b ∷ x) rest st e =
    let f = no-newline-cons b x e in
    lines_after x rest (after st b) f.1 ∙ one-in-front st b (lines_of (x ++ rest)) ∙ rw f.0

-- ---- behind what is known of a line

-- A state and characters behind which a line is answered alike.
Alike : State → List ℕ → Type 0
Alike st chars = (line : List ℕ) → end_answer (state_after st line) ≡ decoded_answer (decode (chars ++ line))

-- one character more
alike_char : (st : State) (chars : List ℕ) (b : ℕ) → Alike st chars → Alike (after st b) (chars ++ b ∷ [])
unfolding Alike state_after
alike_char st chars b a line = rw (append_assoc chars (b ∷ []) line) (a (b ∷ line))

alike_whole : (l : List ℕ) → Bytes l → Alike (whole l) (lower_hex l)
unfolding Alike
alike_whole l h line = rw (decode-behind l line h) (line-from line l)

alike_half : (l : List ℕ) (d : ℕ) → d < 16 → Bytes l → Alike (half l d) (lower_hex l ++ hex_digit d ∷ [])
alike_half l d h bytes =
    let e : after (whole l) (hex_digit d) ≡ half l d = digit_taken (whole l) (hex_digit d) (hex_is-digit d h) ∙ rw (digit_hex d h) in
    rw e at (alike_char (whole l) (lower_hex l) (hex_digit d) (alike_whole l bytes))

long-behind : (l : List ℕ) (d : Decoded) → longest < length l → long_answer d ≡ decoded_answer (behind l d)
unfolding long_answer
long-behind l not_pairs h = refl
long-behind l (pairs_of m) h = too_long (l ++ m) (omega (arith, length-append l m))

alike_long : Alike (long false) long_pairs
unfolding Alike long_pairs
alike_long line =
    let l : List ℕ = replicate (longest + 1) 0 in
    rw (decode-behind l line (zero-bytes (longest + 1)))
    (long-line line ∙ long-behind l (decode line) (omega (arith, length-replicate {A = ℕ} (longest + 1) 0)))

alike_odd : Alike (long true) (long_pairs ++ hex_digit 0 ∷ [])
alike_odd =
    let e : after (long false) (hex_digit 0) ≡ long true = digit_taken (long false) (hex_digit 0) (hex_is-digit 0 (omega arith)) in
    rw e at (alike_char (long false) long_pairs (hex_digit 0) alike_long)

-- A line of which characters were read counts at the end of the input.
begun_after : (x : List ℕ) (st : State) → 0 < length x → end_of_input (state_after st x) ≡ end_line (state_after st x)
unfolding state_after
begun_after [] st h = absurd (omega arith)
begun_after (b ∷ []) st h = begun st b (is_digit b) refl
begun_after (b ∷ c ∷ x) st h = begun_after (c ∷ x) (after st b) (omega arith)

-- A state and characters to which the end of the input is answered alike.
EndAlike : State → List ℕ → Type 0
EndAlike st chars = end_of_input st ≡ end_of_input (state_after start chars)

ends_alike : (st : State) (chars : List ℕ) → Alike st chars → 0 < length chars → end_of_input st ≡ end_line st → EndAlike st chars
unfolding Alike EndAlike state_after
ends_alike st chars a h counts =
    let same : end_line st ≡ answer_line chars = rw append-nil at (ap hex_line (a [])) in
    counts ∙ same ∙ sym (line-answer chars) ∙ sym (begun_after chars start h)

whole-ends : (l : List ℕ) → Bytes l → EndAlike (whole l) (lower_hex l)
unfolding EndAlike lower_hex state_after
whole-ends [] h = refl
whole-ends (b ∷ l) h = ends_alike (whole (b ∷ l)) (lower_hex (b ∷ l)) (alike_whole (b ∷ l) h) (omega arith) refl

long-some : 0 < length long_pairs
unfolding long_pairs
long-some = omega (arith, length-lower_hex (replicate (longest + 1) 0), length-replicate {A = ℕ} (longest + 1) 0)

no_digit_lem : after start no_digit ≡ not_digits
unfolding digit
no_digit_lem = spoilt_by start no_digit refl

spoilt_line : Alike not_digits (no_digit ∷ [])
unfolding Alike state_after
spoilt_line line = rw no_digit_lem at (line-from (no_digit ∷ line) [] ∙ behind-nothing (decode (no_digit ∷ line)))

spoilt_end : EndAlike not_digits (no_digit ∷ [])
unfolding EndAlike state_after
spoilt_end = rw no_digit_lem

-- what the code holds, and the characters that stand for it
stands : (line : Line) (kept : List ℕ) → Bytes kept → Alike (state_of line kept) (chars_of line kept) × EndAlike (state_of line kept)
    (chars_of line kept)
stands KnownLines.NotDigits kept h = (spoilt_line, spoilt_end)
stands (KnownLines.Whole n) kept h = (alike_whole (take n kept) (bytes_taken n kept h), whole-ends (take n kept) (bytes_taken n kept h))
stands (KnownLines.Half n high) kept h =
    let l = take n kept in
    let a = alike_half l (high % 16) (omega arith) (bytes_taken n kept h) in (
      a,
      ends_alike (half l (high % 16)) _ a (omega (arith, length-append (lower_hex l) (hex_digit (high % 16) ∷ []))) refl,
    )
stands (KnownLines.Long false) kept h = (alike_long, ends_alike (long false) long_pairs alike_long long-some refl)
stands (KnownLines.Long true) kept h =
    (alike_odd, ends_alike (long true) _ alike_odd (omega (arith, length-append long_pairs (hex_digit 0 ∷ []))) refl)

-- The state and the characters print alike, whatever follows.
pub printed-behind : (line : Line) (kept rest : List ℕ) → Bytes kept → printed (chars_of line kept ++ rest) ≡ printed_lines
    (state_of line kept) (lines_of rest)
unfolding printed_lines Alike EndAlike
printed-behind line kept rest h =
    sym (from_start (lines_of (chars_of line kept ++ rest))) ∙ sym (lines_after (chars_of line kept) rest start (chars_no-newline line kept))
    ∙ by_lines (lines_of rest)
  where
    by_lines : (lines : List (List ℕ)) → printed_lines (state_after start (chars_of line kept)) lines ≡ printed_lines (state_of line kept) lines
    by_lines [] = sym (stands line kept h).1
    by_lines (first ∷ others) =
        let read : end_line (state_after (state_after start (chars_of line kept)) first) ≡ answer_line (chars_of line kept ++ first) =
        rw (← state_append (chars_of line kept) first start) (line-answer (chars_of line kept ++ first)) in
        ap (λ (l : List ℕ). l ++ each answer_line others) (read ∙ sym (ap hex_line ((stands line kept h).0 first)))
