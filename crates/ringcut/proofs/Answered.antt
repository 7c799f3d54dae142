-- What is written for an input that is read in blocks is what all of it prints, and where a read or a write fails the front of that.
-- Assumes nothing.
use mathlib.Core.Path.{◌≡◌, refl, sym, ◌∙◌, ap}
use mathlib.Core.Bool.{Bool, true, false, cond}
use mathlib.Core.List.{List, [], ◌∷◌, ◌++◌, append-nil, append_assoc}
use Prim.Native.Nat.{ℕ}
use lib.Dec.{eqb}
use lib.ListN.{length, take, drop}
use lib.Seq.{take-append_seam}
use Rattle.std.proofs.Common.{Option, None, Some, IfSome, Result, Ok, Err, OnErr}
use Rattle.std.specs.Io.KnownBytes.{Consumes, Appends, Keeps, IsAtEnd}
use Rattle.std.proofs.KnownBytes.{Consumes-nil, Consumes-trans, Consumes-kept, Appends-nil, Appends-trans, Appends-kept}
use Rattle.frame_bytes.specs.Encoding.{each}
use Rattle.lines.specs.declared.line.Line.{Line}
use Rattle.lines.specs.Lines.{newline, in_front, lines_of, answer_line, printed}
use Rattle.lines.specs.LineStep.{chars_of, Begins, in_front_of_some, ended, printed_now, GoesOn, slices_fit}
use Rattle.lines.specs.LineStep.{finish_answer, finish_output, bytes_written}
use Rattle.ringcut.specs.Internal.{ReadsAll}
use Rattle.ringcut.specs.Streams.{AppendsSome}
use Rattle.ringcut.proofs.Written.{some_written, some_then}

-- ---- an input prints first what it prints up to its last newline, whatever follows

each-append : {A : Type 0} (f : A → List ℕ) (l m : List A) → each f (l ++ m) ≡ each f l ++ each f m
unfolding each
each-append f [] m = refl
each-append f (a ∷ l) m = rw (each-append f l m) (sym (append_assoc (f a) (each f l) (each f m)))

-- a character in front of lines and more lines, where there are some
front_more : (b c : ℕ) (x : List ℕ) (more : List (List ℕ)) → in_front b (lines_of (c ∷ x) ++ more) ≡ in_front b (lines_of (c ∷ x)) ++ more
unfolding lines_of
front_more b c x more = by-test (eqb c newline) (lines_of x)
  where
    by-test : (t : Bool) (l : List (List ℕ)) → in_front b (cond t ([] ∷ l) (in_front c l) ++ more)
        ≡ in_front b (cond t ([] ∷ l) (in_front c l)) ++ more
    by-test true l = refl
    by-test false [] = refl
    by-test false (line ∷ others) = refl

lines_ended : (x y : List ℕ) → (more : List (List ℕ)) × (lines_of (x ++ y) ≡ lines_of (ended x) ++ more)
unfolding lines_of ended
lines_ended [] y = (lines_of y, refl)
lines_ended (b ∷ x) y = let (more, e) = lines_ended x y in one_more (eqb b newline) (ended x) refl more e
  where
    one_more : (t : Bool) (l : List ℕ) → eqb b newline ≡ t → (more : List (List ℕ)) → lines_of (x ++ y) ≡ lines_of l ++ more
        → (all : List (List ℕ)) × (lines_of (b ∷ (x ++ y)) ≡ lines_of (cond (eqb b newline) (b ∷ l) (in_front_of_some b l)) ++ all)
    one_more true l t more e = (more, rw (t, t, e))
    one_more false [] t more e = (in_front b (lines_of (x ++ y)), rw t)
    one_more false (c ∷ l) t more e = (more, rw (t, t, e) (front_more b c l more))

pub printed_front : (x y : List ℕ) → (more : List ℕ) × (printed (x ++ y) ≡ printed (ended x) ++ more)
printed_front x y =
    let (more, e) = lines_ended x y in
    (each answer_line more, ap (each answer_line) e ∙ each-append answer_line (lines_of (ended x)) more)

-- ---- an input read in blocks

-- Characters were read, and what they print was written, but for what is known of a line that has not ended.
abbrev pub Reached : Option (List ℕ) → Option (List ℕ) → Option (List ℕ) → Option (List ℕ) → Line → List ℕ → Type 0
Reached left₀ left held₀ held line kept =
    (characters : List ℕ) × Consumes left₀ left characters
    × ((text : List ℕ) × Appends held₀ held text
    × ((rest : List ℕ) → printed (characters ++ rest) ≡ text ++ printed (chars_of line kept ++ rest)))

pub reached_none : (left held : Option (List ℕ)) (line : Line) (kept : List ℕ) → Begins line → Reached left left held held line kept
reached_none left held line kept begins = ([], Consumes-nil left, ([], Appends-nil held, λ rest. rw (begins kept)))

module _ (left₀ left left' held₀ held held' : Option (List ℕ)) (line : Line) (kept : List ℕ)
    (reached : Reached left₀ left held₀ held line kept) where
  -- a block more
  pub reached_more : (line' : Line) (kept' characters : List ℕ) → Consumes left left' characters
      → Appends held held' (printed_now line kept characters)
      → GoesOn characters line kept line' kept' → Reached left₀ left' held₀ held' line' kept'
  reached_more line' kept' more read wrote on =
      let (characters, before, (text, written, prints)) = reached in
      let now = printed_now line kept more in (
        characters ++ more,
        Consumes-trans left₀ left left' characters more before read,
        (
          text ++ now,
          Appends-trans held₀ held held' text now written wrote,
          λ rest.
              ap printed (append_assoc characters more rest) ∙ prints (more ++ rest) ∙ ap (λ (l : List ℕ). text ++ l) (on rest)
              ∙ sym (append_assoc text now (printed (chars_of line' kept' ++ rest))),
        ),
      )

  -- the end of the input
  pub reached_end : IsAtEnd left' → Keeps left left' → Keeps held held' → ReadsAll left₀ left' held₀ held' line kept
  reached_end at-end none-read none-written =
      let (characters, before, (text, written, prints)) = reached in (
        characters,
        Consumes-kept left₀ left left' characters before none-read,
        at-end,
        (text, Appends-kept held₀ held held' text written none-written, simp append-nil at (prints [])),
      )

  -- a read or a write that failed
  pub reached_failed : (characters : List ℕ) → Consumes left left' characters → AppendsSome held held' (printed_now line kept characters)
      → IfSome left₀ (λ (all : List ℕ). AppendsSome held₀ held' (printed all))
  reached_failed more read wrote =
      let (characters, before, (text, written, prints)) = reached in
      go left₀ left' characters text (Consumes-trans left₀ left left' characters more before read) written prints
    where
      go : (from to : Option (List ℕ)) (characters text : List ℕ) → Consumes from to (characters ++ more) → Appends held₀ held text
          → ((rest : List ℕ) → printed (characters ++ rest) ≡ text ++ printed (chars_of line kept ++ rest))
          → IfSome from (λ (all : List ℕ). AppendsSome held₀ held' (printed all))
      go None to characters text taken written prints = tt
      go (Some all) None characters text taken written prints = absurd taken
      go (Some all) (Some rest) characters text taken written prints =
          let (behind, front) = printed_front (chars_of line kept ++ more) rest in
          some_then held₀ held held' (printed all) text (printed_now line kept more) behind
          (
          ap printed (taken ∙ append_assoc characters more rest) ∙ prints (more ++ rest)
          ∙ ap (λ (l : List ℕ). text ++ printed l) (sym (append_assoc (chars_of line kept) more rest))
          ∙ ap (λ (l : List ℕ). text ++ l) front
          )
          written wrote

-- as much was written before
pub reached_some : (left₀ left held₀ held : Option (List ℕ)) (line : Line) (kept : List ℕ) → Reached left₀ left held₀ held line kept
    → IfSome left₀ (λ (all : List ℕ). AppendsSome held₀ held (printed all))
reached_some None left held₀ held line kept reached = tt
reached_some (Some all) None held₀ held line kept (characters, taken, reached) = absurd taken
reached_some (Some all) (Some rest) held₀ held line kept (characters, taken, (text, written, prints)) =
    some_written held₀ held (printed all) text (printed (chars_of line kept ++ rest)) (ap printed taken ∙ prints rest) written

-- ---- the last line

-- what stands at the front of the output behind `finish`
pub last_now : (line : Line) (kept out out' : List ℕ) (waiting : ℕ) → slices_fit kept out ≡ true
    → Ok waiting ≡ finish_answer line kept out → out' ≡ finish_output line kept out → take waiting out' ≡ printed (chars_of line kept)
last_now line kept out out' waiting fits answer output =
    let text = printed (chars_of line kept) in
    let count : waiting ≡ length text = ap bytes_written (rw fits at answer) in
    rw (count, output, fits) (take-append_seam text (drop (length text) out))

module _ (left₀ left held₀ held held' : Option (List ℕ)) (last : Line) (kept text : List ℕ)
    (all : ReadsAll left₀ left held₀ held last kept) (now : text ≡ printed (chars_of last kept)) where
  -- some of it was written
  some_last : AppendsSome held held' text → IfSome left₀ (λ (whole : List ℕ). AppendsSome held₀ held' (printed whole))
  some_last wrote =
      let (characters, read, at-end, (before, written, prints)) = all in
      go left₀ left characters before read at-end written prints
    where
      go : (from to : Option (List ℕ)) (characters before : List ℕ) → Consumes from to characters → IsAtEnd to → Appends held₀ held before
          → printed characters ≡ before ++ printed (chars_of last kept)
          → IfSome from (λ (whole : List ℕ). AppendsSome held₀ held' (printed whole))
      go None to characters before taken none written prints = tt
      go (Some whole) None characters before taken none written prints = absurd taken
      go (Some whole) (Some rest) characters before taken none written prints =
          let same : whole ≡ characters = taken ∙ ap (λ (l : List ℕ). characters ++ l) none ∙ append-nil characters in
          let split : printed whole ≡ before ++ (text ++ []) =
          ap printed same ∙ prints ∙ ap (λ (l : List ℕ). before ++ l) (sym now ∙ sym (append-nil text)) in
          some_then held₀ held held' (printed whole) before text [] split written wrote

  pub last_failed : {X E : Type 0} (r : Result X E) → OnErr r (AppendsSome held held' text)
      → OnErr r (IfSome left₀ (λ (whole : List ℕ). AppendsSome held₀ held' (printed whole)))
  last_failed (Ok x) wrote = tt
  last_failed (Err e) wrote = some_last wrote
