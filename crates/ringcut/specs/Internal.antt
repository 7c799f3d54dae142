-- What the program's functions say to each other. Definitions only.
use Rattle.std.specs.Prelude.{◌≡◌, Bool, true, false, ◌&&◌, List, [], ◌∷◌, ◌++◌, ℕ, eqb, Option, Result, Ok, Err}
use Rattle.std.specs.Io.KnownBytes.{Consumes, Appends, Keeps, IsAtEnd}
use Rattle.lines.specs.declared.line.Line.{Line}
use Rattle.lines.specs.Lines.{printed}
use Rattle.lines.specs.LineStep.{chars_of, printed_now, GoesOn}
use Rattle.ringcut.specs.declared.Turn.{Turn}
use Rattle.ringcut.specs.declared.Turn.TheVariants.{More, Ended}
use Rattle.ringcut.specs.declared.streams.Stopped.{Stopped}
use Rattle.ringcut.specs.Streams.{AppendsSome}

-- Whether two slices hold the same bytes.
unfoldable pub same_bytes : List ℕ → List ℕ → Bool
same_bytes [] [] = true
same_bytes [] (y ∷ ys) = false
same_bytes (x ∷ xs) [] = false
same_bytes (x ∷ xs) (y ∷ ys) = eqb x y && same_bytes xs ys

-- ---- the characters that a reader has left and the bytes that a writer holds, where these are known. std's words say it: `Consumes`, that
-- characters were read, `Appends`, that bytes were written, `Keeps`, that none were, and `IsAtEnd`.

-- A block was answered: what its characters print at once was written, or a front of it where a write failed.
abbrev pub Answers : Option (List ℕ) → Option (List ℕ) → List ℕ → Line → List ℕ → Result Line Stopped → Type 0
Answers held held' characters line kept (Ok next) = Appends held held' (printed_now line kept characters)
Answers held held' characters line kept (Err stopped) = AppendsSome held held' (printed_now line kept characters)

-- One turn: characters were read, and answered as far as they are lines; or there were none to be read any more; or a read or a write
-- failed, and a front of what the characters print was written.
abbrev pub Turns : Option (List ℕ) → Option (List ℕ) → Option (List ℕ) → Option (List ℕ) → Line → List ℕ → Result Turn Stopped
    → List ℕ → Type 0
Turns left left' held held' line kept (Ok (More next)) kept' =
    (characters : List ℕ) × Consumes left left' characters × Appends held held' (printed_now line kept characters)
    × GoesOn characters line kept next kept'
Turns left left' held held' line kept (Ok (Ended last)) kept' =
    IsAtEnd left' × Keeps left left' × Keeps held held' × (last ≡ line) × (kept' ≡ kept)
Turns left left' held held' line kept (Err stopped) kept' =
    (characters : List ℕ) × Consumes left left' characters × AppendsSome held held' (printed_now line kept characters)

-- All was read, and what was written is all that it prints but for its last line.
abbrev pub ReadsAll : Option (List ℕ) → Option (List ℕ) → Option (List ℕ) → Option (List ℕ) → Line → List ℕ → Type 0
ReadsAll left left' held held' last kept' =
    (characters : List ℕ) × Consumes left left' characters × IsAtEnd left'
    × ((text : List ℕ) × Appends held held' text × (printed characters ≡ text ++ printed (chars_of last kept')))
