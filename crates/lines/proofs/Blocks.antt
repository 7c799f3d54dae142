-- An input that is fed in blocks of any sizes prints what the whole input prints, by the contracts of `start`, `feed` and `finish` alone.
-- Assumes nothing.
use mathlib.Core.Path.{◌≡◌, sym, ◌∙◌, ap}
use mathlib.Core.Bool.{true}
use mathlib.Core.List.{List, [], ◌++◌, append-nil, append_assoc}
use Prim.Native.Nat.{ℕ}
use lib.ListN.{take, drop, length}
use lib.Seq.{take-append_seam}
use Rattle.lines.specs.declared.line.Line.{Line}
use Rattle.lines.specs.Lines.{printed}
use Rattle.lines.specs.LineStep.{chars_of, Begins, slices_fit, printed_now, Feeds, finish_answer, finish_output, bytes_written}

-- Blocks fed one behind the other, each with an output of its own: the characters that were taken, and the bytes that were written.
pub data FedBlocks : Line → List ℕ → List ℕ → List ℕ → Line → List ℕ → Type 0 where
  none : {line : Line} {kept : List ℕ} → FedBlocks line kept [] [] line kept
  more : {block : List ℕ} {line line₁ line₂ : Line} {kept kept₁ kept₂ out out₁ input text : List ℕ} {taken written : ℕ}
      → Feeds block line kept out taken written line₁ kept₁ out₁ → FedBlocks line₁ kept₁ input text line₂ kept₂
      → FedBlocks line kept (take taken block ++ input) (take written out₁ ++ text) line₂ kept₂

-- one of them
module _ {block : List ℕ} {line line₁ : Line} {kept kept₁ out out₁ : List ℕ} {taken written : ℕ}
    (f : Feeds block line kept out taken written line₁ kept₁ out₁) where
  written_now : take written out₁ ≡ printed_now line kept (take taken block)
  written_now = rw (f.prints.count, f.prints.output) (take-append_seam (printed_now line kept (take taken block)) _)

  fed_block : (rest : List ℕ) → printed (chars_of line kept ++ (take taken block ++ rest)) ≡ take written out₁ ++ printed
      (chars_of line₁ kept₁ ++ rest)
  fed_block rest = rw written_now (f.prints.goes_on rest)

fed_blocks : {line line' : Line} {kept kept' input text : List ℕ} → FedBlocks line kept input text line' kept'
    → printed (chars_of line kept ++ input) ≡ text ++ printed (chars_of line' kept')
fed_blocks none = rw append-nil
fed_blocks (more {out₁ = out₁} {input = input} {text = text} {written = written} f others) =
    fed_block f input ∙ ap (λ (l : List ℕ). take written out₁ ++ l) (fed_blocks others) ∙ sym (append_assoc (take written out₁) text _)

-- From the start of an input to its end: what was written, and then what `finish` writes.
pub all-printed : {line line' : Line} {kept kept' input text : List ℕ} → Begins line → FedBlocks line kept input text line' kept'
    → (out : List ℕ) → slices_fit kept' out ≡ true
    → text ++ take (bytes_written (finish_answer line' kept' out)) (finish_output line' kept' out) ≡ printed input
all-printed {line} {line'} {kept} {kept'} {input} {text} begins fed out fits =
    rw (fits, take-append_seam (printed (chars_of line' kept')) (drop (length (printed (chars_of line' kept'))) out))
    (sym (rw (begins kept) at (fed_blocks fed)))
