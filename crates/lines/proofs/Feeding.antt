-- The line step and the end of the input, case by case. Assumes nothing.
use mathlib.Core.Path.{◌≡◌, refl, sym, ◌∙◌, ap}
use mathlib.Core.Bool.{Bool, true, false, cond, true≢false}
use mathlib.Core.List.{List, [], ◌∷◌, ◌++◌, append-nil, append_assoc}
use Prim.Native.Nat.{ℕ, zero, suc, ◌+◌, ◌≤◌, ◌<◌}
use native.Mathlib.Nat.{sub-zero, pos_of_ne-zero}
use native.Mathlib.Numerals.{add-one}
use native.Mathlib.Omega.{arith}
use lib.Dec.{eqb, leb}
use lib.ListN.{length, get_or, take, drop, length-append, drop_of_length-le}
use lib.Seq.{take-suc, drop-cons}
use borrow.Author.Tests.{le-leb, lt-leb, eqb-true, eqb-false, leb-true}
use Rattle.binary64.specs.Slices.{over}
use Rattle.binary64.proofs.Booleans.{both}
use Rattle.frame_bytes.specs.Frame.{longest}
use Rattle.lines.specs.declared.line.Line.{Line}
use Rattle.lines.specs.declared.line.Line.TheVariants as KnownLines
use Rattle.frame_bytes.specs.Encoding.{each}
use Rattle.lines.specs.Lines.{newline, lines_of, lower_hex, printed}
use Rattle.lines.specs.LineStep.{chars_of, Begins, ended, line_length, line_room, slices_fit, printed_now, GoesOn, Prints, Feeds}
use Rattle.lines.specs.Internal.{State, whole, state_after, end_line, state_of, not_begun, chars_between, ReadsOn, Takes}
use Rattle.lines.proofs.Characters.{ended-append, chars_no-newline, Bytes}
use Rattle.lines.proofs.Printed.{end_of_input, printed_lines, lines_after, printed-behind}

-- ---- whether the slices have the lengths that are asked for

pub kept_short : (kept out : List ℕ) → length kept < longest → slices_fit kept out ≡ false
kept_short kept out h = rw (lt-leb longest (length kept) h)

pub both-lent : (kept out : List ℕ) → longest ≤ length kept → line_room ≤ length out → slices_fit kept out ≡ true
both-lent kept out e h = rw (le-leb longest (length kept) e, le-leb line_room (length out) h)

pub lent-lengths : (kept out : List ℕ) → slices_fit kept out ≡ true → (longest ≤ length kept) × (line_room ≤ length out)
lent-lengths kept out e =
    let t = both (leb longest (length kept)) (leb line_room (length out)) e in
    (leb-true longest (length kept) t.0, leb-true line_room (length out) t.1)

-- the same by the answer of a test
pub not-lent : (r : Bool) (kept out : List ℕ) → r ≡ slices_fit kept out → r ≡ false → slices_fit kept out ≡ false
not-lent r kept out e t = sym e ∙ t

pub is-lent : (r : Bool) (kept out : List ℕ) → r ≡ slices_fit kept out → r ≡ true → slices_fit kept out ≡ true
is-lent r kept out e t = sym e ∙ t

-- ---- what is written over the front of the output has room in it

pub over-fits : (w out out' : List ℕ) (written : ℕ) → written ≡ length w → out' ≡ over w out → length out' ≡ length out
    → written ≤ length out
over-fits w out out' written n o kept = omega (arith, n, kept, ap length o, length-append w (drop (length w) out))

-- ---- feeding

printed-none : printed [] ≡ []
unfolding each lines_of
printed-none = refl

-- what is printed at once where there is no newline
now_none : (line : Line) (kept x : List ℕ) → ended x ≡ [] → printed_now line kept x ≡ []
now_none line kept x none =
    let e : ended (chars_of line kept ++ x) ≡ [] = ended-append (chars_of line kept) x ∙ rw none (chars_no-newline line kept) in
    ap printed e ∙ printed-none

pub prints-nothing : (line : Line) (kept out : List ℕ) → Prints [] line kept out 0 line kept out
unfolding ended
prints-nothing line kept out =
    let none : printed_now line kept [] ≡ [] = now_none line kept [] refl in
    record { count = rw none; output = rw none; room = omega arith; goes_on = λ rest. rw none }

pub feeds_nothing : (block : List ℕ) (line : Line) (kept out : List ℕ) → slices_fit kept out ≡ false
    → Feeds block line kept out 0 0 line kept out
feeds_nothing block line kept out e =
    record { first_line = rw e; prints = prints-nothing line kept out; untaken = λ _. (refl, refl); kept-length = refl }

taken_only : {A : Type 0} {ready : Bool} → ready ≡ true → ready ≡ false → A
taken_only t f = absurd (true≢false (sym t ∙ f))

-- a line read on, by characters of which none is a newline
module _ (line line₁ : Line) (kept kept₁ x : List ℕ) (bytes : Bytes kept) (none : ended x ≡ [])
    (reached : state_of line₁ kept₁ ≡ state_after (state_of line kept) x) where
  read-on : (rest : List ℕ) → printed (chars_of line kept ++ (x ++ rest)) ≡ printed_lines (state_of line₁ kept₁) (lines_of rest)
  read-on rest =
      printed-behind line kept (x ++ rest) bytes ∙ sym (lines_after x rest (state_of line kept) none)
      ∙ ap (λ (st : State). printed_lines st (lines_of rest)) (sym reached)

  goes_on-in-line : Bytes kept₁ → GoesOn x line kept line₁ kept₁
  goes_on-in-line bytes₁ rest =
      rw (now_none line kept x none) (read-on rest ∙ sym (printed-behind line₁ kept₁ rest bytes₁))

  -- and then a newline
  line-printed : printed_now line kept (x ++ newline ∷ []) ≡ end_line (state_of line₁ kept₁)
  unfolding ended lines_of printed_lines each state_after
  line-printed =
      let chars = chars_of line kept in
      let all : ended (chars ++ (x ++ newline ∷ [])) ≡ chars ++ (x ++ newline ∷ []) =
      rw (← append_assoc chars x (newline ∷ [])) (ended-append (chars ++ x) (newline ∷ [])) in
      ap printed all ∙ read-on (newline ∷ []) ∙ append-nil (end_line (state_of line₁ kept₁))

  goes_on-behind-line : (line' : Line) → chars_of line' kept₁ ≡ [] → GoesOn (x ++ newline ∷ []) line kept line' kept₁
  unfolding lines_of printed_lines state_after
  goes_on-behind-line line' begins rest =
      rw (line-printed, begins, append_assoc x (newline ∷ []) rest) (read-on (newline ∷ rest))

-- from the front of a block
module _ {block : List ℕ} {st st₁ : State} {at : ℕ} (p : ReadsOn block 0 st at st₁) where
  whole-front : chars_between 0 at block ≡ take at block
  whole-front = ap (λ (n : ℕ). take n block) (sub-zero at)

  front_state : st₁ ≡ state_after st (take at block)
  front_state = p.reached ∙ ap (state_after st) whole-front

  front-none : ended (take at block) ≡ []
  front-none = sym (ap ended whole-front) ∙ p.no-newline

-- up to the block's end, with no newline in it
pub feeds_block : (block : List ℕ) (line line' : Line) (kept kept' out : List ℕ) (at : ℕ) → Bytes kept → Bytes kept'
    → slices_fit kept out ≡ true
    → Takes block 0 line kept at line' kept' → length block ≤ at → length kept' ≡ length kept
    → Feeds block line kept out at 0 line' kept' out
unfolding line_length
feeds_block block line line' kept kept' out at bytes bytes' e t h free =
    let p = t.passes in
    let none : drop at block ≡ [] = drop_of_length-le block h in
    let all : at ≡ line_length block = omega (arith, p.in-line, ap line_length none) in
    let silent : printed_now line kept (take at block) ≡ [] = now_none line kept (take at block) (front-none p) in
    record {
      first_line = rw e all;
      prints = record {
        count = rw silent;
        output = rw silent;
        room = omega arith;
        goes_on = goes_on-in-line line line' kept kept' (take at block) bytes (front-none p) (front_state p) bytes';
      };
      untaken = taken_only e;
      kept-length = free;
    }

-- up to a newline
module _ (block : List ℕ) (at : ℕ) (h : at < length block) (e : get_or block at 0 ≡ newline) where
  last-of-line : line_length (drop at block) ≡ 1
  unfolding line_length
  last-of-line = rw (drop-cons block at 0 h, e)

  with_newline : take (at + 1) block ≡ take at block ++ (newline ∷ [])
  with_newline = rw (add-one, take-suc block at 0 h, e)

pub feeds_line : (block : List ℕ) (line line₁ line' : Line) (kept kept' out out' : List ℕ) (at written : ℕ) → Bytes kept
    → slices_fit kept out ≡ true
    → Takes block 0 line kept at line₁ kept' → at < length block → Begins line' → written ≡ length (end_line (state_of line₁ kept'))
    → out' ≡ over (end_line (state_of line₁ kept')) out → length out' ≡ length out → length kept' ≡ length kept
    → Feeds block line kept out (at + 1) written line' kept' out'
feeds_line block line line₁ line' kept kept' out out' at written bytes e t h begins n o sized free =
    let p = t.passes in
    let x = take at block in
    let there = t.stops h in
    let text : printed_now line kept (x ++ newline ∷ []) ≡ end_line (state_of line₁ kept') =
    line-printed line line₁ kept kept' x bytes (front-none p) (front_state p) in
    let on : GoesOn (x ++ newline ∷ []) line kept line' kept' =
    goes_on-behind-line line line₁ kept kept' x bytes (front-none p) (front_state p) line' (begins kept') in
    let all : at + 1 ≡ line_length block = omega (arith, p.in-line, last-of-line block at h there) in
    record {
      first_line = rw e all;
      prints = rw (with_newline block at h there) record {
        count = rw text n;
        output = rw text o;
        room = over-fits (end_line (state_of line₁ kept')) out out' written n o sized;
        goes_on = on;
      };
      untaken = taken_only e;
      kept-length = free;
    }

-- so something is taken of every block that is not empty, and no more than it has
line-within : (block : List ℕ) → line_length block ≤ length block
unfolding line_length
line-within [] = omega arith
line-within (b ∷ rest) = by-test (eqb b newline) (line-within rest)
  where
    by-test : (t : Bool) → line_length rest ≤ length rest → cond t 1 (suc (line_length rest)) ≤ suc (length rest)
    by-test true h = omega arith
    by-test false h = omega arith

some-length : (block : List ℕ) → 0 < length block → 0 < line_length block
unfolding line_length
some-length [] h = absurd (omega arith)
some-length (b ∷ rest) h = by-test (eqb b newline)
  where
    by-test : (t : Bool) → 0 < cond t 1 (suc (line_length rest))
    by-test true = omega arith
    by-test false = omega arith

pub takes_some : {block : List ℕ} {line line' : Line} {kept kept' out out' : List ℕ} {taken written : ℕ}
    → Feeds block line kept out taken written line' kept' out' → longest ≤ length kept → line_room ≤ length out → 0 < length block
    → (0 < taken) × (taken ≤ length block)
takes_some {block} {kept = kept} {out = out} {taken = taken} f e r h =
    let all : taken ≡ line_length block = f.first_line ∙ rw (both-lent kept out e r) in
    (omega (arith, all, some-length block h), omega (arith, all, line-within block))

-- ---- the end of the input

some-kept : (n : ℕ) (kept : List ℕ) → 0 < n → 0 < length kept → end_of_input (whole (take n kept)) ≡ end_line (whole (take n kept))
some-kept zero kept h k = absurd (omega arith)
some-kept (suc n) [] h k = absurd (omega arith)
some-kept (suc n) (b ∷ kept) h k = refl

begun_counts : (line : Line) (kept : List ℕ) → longest ≤ length kept → not_begun line ≡ false
    → end_of_input (state_of line kept) ≡ end_line (state_of line kept)
begun_counts KnownLines.NotDigits kept h e = refl
begun_counts (KnownLines.Whole n) kept h e = some-kept n kept (pos_of_ne-zero (eqb-false n 0 e)) (omega arith)
begun_counts (KnownLines.Half n high) kept h e = refl
begun_counts (KnownLines.Long odd) kept h e = refl

pub ends_begun : (line : Line) (kept : List ℕ) → Bytes kept → longest ≤ length kept → not_begun line ≡ false
    → printed (chars_of line kept) ≡ end_line (state_of line kept)
unfolding lines_of printed_lines
ends_begun line kept bytes h e = rw append-nil at (printed-behind line kept [] bytes) ∙ begun_counts line kept h e

pub ends-not_begun : (line : Line) (kept : List ℕ) → not_begun line ≡ true → printed (chars_of line kept) ≡ []
unfolding lower_hex each lines_of
ends-not_begun KnownLines.NotDigits kept e = absurd (true≢false (sym e))
ends-not_begun (KnownLines.Whole zero) kept e = refl
ends-not_begun (KnownLines.Whole (suc n)) kept e = absurd (omega (arith, eqb-true (suc n) 0 e))
ends-not_begun (KnownLines.Half n high) kept e = absurd (true≢false (sym e))
ends-not_begun (KnownLines.Long odd) kept e = absurd (true≢false (sym e))
