-- Numbers and doubles as bytes (document 01, "Frames"): the width and the byte order are parameters. Definitions only.
use Rattle.std.specs.Prelude.{List, [], ◌∷◌, reverse, ℕ, zero, suc, ◌+◌, ◌*◌, ◌/◌, ◌%◌, Float}
use Rattle.std.specs.Float.{binary64}
use Rattle.std.specs.Float.Ieee.{of_bits, to_bits}

pub data Order : Type 0 where
  Little Big : Order

-- bytes of either order with the lowest first, and back
abbrev pub ordered : Order → List ℕ → List ℕ
ordered Little l = l
ordered Big l = reverse l

-- the number that bytes stand for, the lowest first
unfoldable pub from_low : List ℕ → ℕ
from_low [] = 0
from_low (b ∷ bs) = b + 256 * from_low bs

-- the k lowest bytes of n, the lowest first
unfoldable pub to_low : ℕ → ℕ → List ℕ
to_low zero n = []
to_low (suc k) n = n % 256 ∷ to_low k (n / 256)

-- the number that bytes stand for, and the k bytes of a number
abbrev pub number_of : Order → List ℕ → ℕ
number_of o l = from_low (ordered o l)

abbrev pub bytes_of : Order → ℕ → ℕ → List ℕ
bytes_of o k n = ordered o (to_low k n)

-- a double from its 8 bytes, and to them; `of_bits` reads every NaN pattern as the NaN, and `to_bits` writes it as 7ff8000000000000
abbrev pub double : Order → List ℕ → Float
double o l = of_bits binary64 (number_of o l)

abbrev pub double_bytes : Order → Float → List ℕ
double_bytes o x = bytes_of o 8 (to_bits binary64 x)
