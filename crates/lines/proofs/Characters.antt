-- The characters that stand for what is known of a line, and where the lines of an input end. Assumes nothing.
use mathlib.Core.Path.{◌≡◌, refl, ◌∙◌}
use mathlib.Core.Bool.{Bool, true, false, cond}
use mathlib.Core.List.{List, [], ◌∷◌, ◌++◌}
use Prim.Native.Nat.{ℕ, zero, suc, ◌+◌, ◌*◌, ◌/◌, ◌%◌, ◌<◌}
use native.Mathlib.Nat.{div-add-mod'}
use native.Mathlib.Omega.{arith}
use lib.Dec.{ltb, eqb}
use lib.ListN.{get_or, take, replicate}
use borrow.Author.Tests.{lt-ltb, le-leb, lt-leb, ne_eqb, ltb-true, ltb-false}
use Rattle.frame_bytes.specs.Frame.{longest}
use Rattle.lines.specs.declared.line.Line.{Line}
use Rattle.lines.specs.declared.line.Line.TheVariants as KnownLines
use Rattle.lines.specs.Lines.{newline, digit, is_digit, Decoded, not_pairs, pairs_of, with_byte, decode, hex_digit, lower_hex}
use Rattle.lines.specs.LineStep.{long_pairs, chars_of, in_front_of_some, ended}

-- ---- up to the last newline

-- `x ++ y` up to its last newline, by what `y` has up to its own
abbrev pub ended_behind : List ℕ → List ℕ → List ℕ
ended_behind x [] = ended x
ended_behind x (c ∷ l) = x ++ c ∷ l

pub ended-append : (x y : List ℕ) → ended (x ++ y) ≡ ended_behind x (ended y)
unfolding ended
ended-append [] y = none (ended y)
  where
    none : (e : List ℕ) → e ≡ ended_behind [] e
    none [] = refl
    none (c ∷ l) = refl
ended-append (b ∷ x) y = rw (ended-append x y) (one_more (eqb b newline) (ended y) refl)
  where
    some : (x l : List ℕ) (c : ℕ) → in_front_of_some b (x ++ c ∷ l) ≡ b ∷ x ++ c ∷ l
    some [] l c = refl
    some (a ∷ x) l c = refl

    one_more : (t : Bool) (e : List ℕ) → eqb b newline ≡ t → cond (eqb b newline) (b ∷ ended_behind x e) (in_front_of_some b (ended_behind x e))
        ≡ ended_behind (b ∷ x) e
    one_more t [] e = refl
    one_more true (c ∷ l) e = rw e
    one_more false (c ∷ l) e = rw e (some x l c)

-- where there is no newline
pub no-newline-cons : (b : ℕ) (x : List ℕ) → ended (b ∷ x) ≡ [] → (eqb b newline ≡ false) × (ended x ≡ [])
unfolding ended
no-newline-cons b x e = by-test (eqb b newline) (ended x) e
  where
    by-test : (t : Bool) (l : List ℕ) → cond t (b ∷ l) (in_front_of_some b l) ≡ [] → (t ≡ false) × (l ≡ [])
    by-test true l e = absurd (let z : ◌≡◌ {A = ℕ} 0 1 = cc in omega arith)
    by-test false [] e = (refl, refl)
    by-test false (c ∷ l) e = absurd (let z : ◌≡◌ {A = ℕ} 0 1 = cc in omega arith)

no-newline-in-front : (b : ℕ) (x : List ℕ) → eqb b newline ≡ false → ended x ≡ [] → ended (b ∷ x) ≡ []
unfolding ended
no-newline-in-front b x e f = rw (e, f)

-- ---- digits

hex_not-newline : (d : ℕ) → eqb (hex_digit d) newline ≡ false
hex_not-newline d = by-test (ltb d 10)
  where
    by-test : (t : Bool) → eqb (cond t (48 + d) (87 + d)) newline ≡ false
    by-test true = ne_eqb (48 + d) newline (λ e. omega (arith, e))
    by-test false = ne_eqb (87 + d) newline (λ e. omega (arith, e))

hex_no-newline : (l : List ℕ) → ended (lower_hex l) ≡ []
unfolding lower_hex ended
hex_no-newline [] = refl
hex_no-newline (b ∷ l) =
    no-newline-in-front (hex_digit (b / 16)) (hex_digit (b % 16) ∷ lower_hex l) (hex_not-newline (b / 16))
    (no-newline-in-front (hex_digit (b % 16)) (lower_hex l) (hex_not-newline (b % 16)) (hex_no-newline l))

digit-no-newline : (l : List ℕ) (d : ℕ) → ended l ≡ [] → ended (l ++ hex_digit d ∷ []) ≡ []
unfolding ended
digit-no-newline l d e =
    let none : ended (hex_digit d ∷ []) ≡ [] = no-newline-in-front (hex_digit d) [] (hex_not-newline d) refl in
    ended-append l (hex_digit d ∷ []) ∙ rw none e

long-no-newline : ended long_pairs ≡ []
unfolding long_pairs
long-no-newline = hex_no-newline (replicate (longest + 1) 0)

pub chars_no-newline : (line : Line) (kept : List ℕ) → ended (chars_of line kept) ≡ []
unfolding ended
chars_no-newline KnownLines.NotDigits kept = refl
chars_no-newline (KnownLines.Whole n) kept = hex_no-newline (take n kept)
chars_no-newline (KnownLines.Half n high) kept = digit-no-newline (lower_hex (take n kept)) (high % 16) (hex_no-newline (take n kept))
chars_no-newline (KnownLines.Long false) kept = long-no-newline
chars_no-newline (KnownLines.Long true) kept = digit-no-newline long_pairs 0 long-no-newline

pub digit_hex : (d : ℕ) → d < 16 → digit (hex_digit d) ≡ d
unfolding digit
digit_hex d h = by-test (ltb d 10) refl
  where
    by-test : (t : Bool) → ltb d 10 ≡ t → digit (cond t (48 + d) (87 + d)) ≡ d
    by-test true e =
        let few = ltb-true d 10 e in
        rw (le-leb 48 (48 + d) (omega arith), le-leb (48 + d) 57 (omega arith)) (omega arith)
    by-test false e =
        let many = ltb-false d 10 e in
        rw (
          le-leb 48 (87 + d) (omega arith),
          lt-leb (87 + d) 57 (omega arith),
          le-leb 97 (87 + d) (omega arith),
          le-leb (87 + d) 102 (omega arith),
        ) (omega arith)

pub hex_is-digit : (d : ℕ) → d < 16 → is_digit (hex_digit d) ≡ true
hex_is-digit d h = rw (digit_hex d h) (lt-ltb d 16 h)

-- ---- a line that begins with the digits of bytes

-- a line of which these bytes are there already
abbrev pub behind : List ℕ → Decoded → Decoded
behind l not_pairs = not_pairs
behind l (pairs_of m) = pairs_of (l ++ m)

behind-cons : (b : ℕ) (l : List ℕ) (d : Decoded) → with_byte true b (behind l d) ≡ behind (b ∷ l) d
behind-cons b l not_pairs = refl
behind-cons b l (pairs_of m) = refl

behind-none : (d : Decoded) → d ≡ behind [] d
behind-none not_pairs = refl
behind-none (pairs_of m) = refl

-- each is a byte
abbrev pub Bytes : List ℕ → Type 0
Bytes l = (i : ℕ) → get_or l i 0 < 256

pub bytes_taken : (n : ℕ) (l : List ℕ) → Bytes l → Bytes (take n l)
bytes_taken zero l h i = omega arith
bytes_taken (suc n) [] h i = omega arith
bytes_taken (suc n) (b ∷ l) h zero = h 0
bytes_taken (suc n) (b ∷ l) h (suc i) = bytes_taken n l (λ j. h (suc j)) i

pub zero-bytes : (n : ℕ) → Bytes (replicate n 0)
zero-bytes zero i = omega arith
zero-bytes (suc n) zero = omega arith
zero-bytes (suc n) (suc i) = zero-bytes n i

pub decode-behind : (l line : List ℕ) → Bytes l → decode (lower_hex l ++ line) ≡ behind l (decode line)
unfolding lower_hex decode
decode-behind [] line h = behind-none (decode line)
decode-behind (b ∷ l) line h =
    let small : b < 256 = h 0 in
    let high : b / 16 < 16 = omega arith in
    let low : b % 16 < 16 = omega arith in
    let byte : b / 16 * 16 + b % 16 ≡ b = div-add-mod' b 16 in
    rw (
      digit_hex (b / 16) high,
      digit_hex (b % 16) low,
      lt-ltb (b / 16) 16 high,
      lt-ltb (b % 16) 16 low,
      byte,
      decode-behind l line (λ i. h (suc i)),
    ) (behind-cons b l (decode line))
