-- What is written to a writer where it is known what that holds. `Appends` of std says that all of some bytes were written. Of a writer
-- that does not say what it holds, as standard output, both claim nothing. Definitions only.
use Rattle.std.specs.Prelude.{List, ℕ, take, Option}
use Rattle.std.specs.Io.KnownBytes.{Appends}

-- none, some or all of these bytes were written, from the first on
abbrev pub AppendsSome : Option (List ℕ) → Option (List ℕ) → List ℕ → Type 0
AppendsSome held held' text = (n : ℕ) × Appends held held' (take n text)
