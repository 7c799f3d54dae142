-- Mending a ring (document 02, "Point 7: mend repeated corners"): which coordinates are kept. Definitions only.
use Rattle.std.specs.Prelude.{cond, List, [], ◌∷◌}
use Rattle.tile.specs.declared.Coord.{Coord}
use Rattle.box_pairs.specs.Cross.{degenerate}

-- what is kept behind the last one kept: "It drops each one, except the closing one, that is under 1e-10 from the last kept in x and in y."
unfoldable pub kept_after : Coord → List Coord → List Coord
kept_after kept [] = []
kept_after kept (closing ∷ []) = closing ∷ []
kept_after kept (p ∷ q ∷ r) = cond (degenerate kept p) (kept_after kept (q ∷ r)) (p ∷ kept_after p (q ∷ r))

-- "goes through a ring, closed as in document 01, from its first coordinate, which it keeps": the ring is closed beforehand
unfoldable pub mend : List Coord → List Coord
mend [] = []
mend (first ∷ r) = first ∷ kept_after first r

-- `Subsequence a b`: a is b with some left out, and the others in their order
pub data Subsequence : List Coord → List Coord → Type 0 where
  empty : Subsequence [] []
  keeps : {a b : List Coord} (p : Coord) → Subsequence a b → Subsequence (p ∷ a) (p ∷ b)
  drops : {a b : List Coord} (p : Coord) → Subsequence a b → Subsequence a (p ∷ b)
