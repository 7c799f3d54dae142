-- What the functions of the mending call say to each other. No contract of an entry point reaches it, so a reader of those can skip this
-- file. Definitions only.
use Rattle.std.specs.Prelude.{◌≡◌, Bool, List, [], ◌∷◌, ◌++◌, ℕ, ◌*◌, ◌<◌, ◌≤◌, ltb, Float, length, take, drop}
use Rattle.tile.specs.declared.Coord.{Coord}
use Rattle.tile.specs.Ring.{coords}
use Rattle.tile.specs.Internal.{coord_at}
use Rattle.mend.specs.Mend.{mend}

-- the first `end` coordinates of a slice, and then the closing one
abbrev pub closed_by : List Float → ℕ → Coord → List Coord
closed_by s end closing = coords (take (2 * end) s) ++ (closing ∷ [])

-- coordinate k is kept, and behind it mending goes on from coordinate r, whatever the closing one is, which has position `end`
pub record NextKept (s : List Float) (end k r : ℕ) : Type 0 where
  pub later : k < r
  pub most : r ≤ end
  pub rest : (closing : Coord) → mend (drop k (closed_by s end closing)) ≡ coord_at s k ∷ mend (drop r (closed_by s end closing))

-- whether fewer than four coordinates are kept, whatever the closing one
abbrev pub FewKept : List Float → ℕ → Bool → Type 0
FewKept s end few = (closing : Coord) → few ≡ ltb (length (mend (closed_by s end closing))) 4
