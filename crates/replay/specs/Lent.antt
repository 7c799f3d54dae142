-- What the lent slices hold before a call, and what they must hold afterwards. Definitions only.
use Rattle.std.specs.Prelude.{Bool, false, cond, ◌&&◌, List, [], ◌∷◌, ℕ, ◌+◌, ◌*◌, eqb, leb, Float, replicate, map}
use Rattle.std.specs.List.{list_all}
use Rattle.std.specs.Float.{binary64}
use Rattle.std.specs.Float.Ieee.{of_bits, to_bits}
use Rattle.rings.specs.LentRings.{sum}

-- numbers by their bits; the logic has one NaN, so that a NaN's bits are free
abbrev pub bits : List Float → List ℕ
bits l = map (to_bits binary64) l

-- what a slice that is lent to be written holds everywhere before a call: 7.25 by its bits, 77, or for origins 777
abbrev pub mark : ℕ
mark = 0x401d_0000_0000_0000

abbrev pub whole_mark : ℕ
whole_mark = 77

abbrev pub origin_mark : ℕ
origin_mark = 777

-- such a slice of length n
unfoldable pub marks : ℕ → List Float
marks n = replicate n (of_bits binary64 mark)

unfoldable pub whole_marks : ℕ → List ℕ
whole_marks n = replicate n whole_mark

unfoldable pub origin_marks : ℕ → List ℕ
origin_marks n = replicate n origin_mark

-- whether every element is x
unfoldable pub are_all : List ℕ → ℕ → Bool
are_all l x = list_all (λ y. eqb y x) l

-- whether a list has these at its front, and past them the mark everywhere
unfoldable pub holds : ℕ → List ℕ → List ℕ → Bool
holds m [] l = are_all l m
holds m (x ∷ front) [] = false
holds m (x ∷ front) (y ∷ l) = eqb y x && holds m front l

-- what scratch, the order slice and the scratch slice of the origins hold everywhere after a call, each having held its mark: a refusal
-- changes nothing, another answer leaves zeros
abbrev pub cleared_unless : Bool → ℕ → ℕ
cleared_unless refused mark = cond refused mark 0

-- the most numbers that a polygon or a ring is lent with
abbrev pub most_numbers : ℕ
most_numbers = 131066

-- the longest slice that is lent to be written
abbrev pub most_lent : ℕ
most_lent = 4096

-- the count of numbers of rings with these lengths; where they have no room, one more than that
abbrev pub numbers_in : List ℕ → ℕ
numbers_in lengths = cond (leb (2 * sum lengths) most_lent) (2 * sum lengths) (most_lent + 1)
