-- What the functions of the slice call say to each other. No contract of an entry point reaches it, so a reader of those can skip this
-- file. Definitions only.
use Rattle.std.specs.Prelude.{◌≡◌, List, ℕ, Float, length}
use Rattle.binary64.specs.Slices.{plus_zero, over, padded}
use Rattle.clip.specs.Polygon.{Routed}
use Rattle.polygon_rings.specs.WrittenRings.{written_rings, numbers_of, lengths_of}

-- as `Filled` of `polygon_rings`, and past the rings of a cut the output holds zeros to its end
pub record FilledWhole (to : Routed) (out : List Float) (out_lengths : List ℕ) (out' : List Float) (out_lengths' : List ℕ) : Type 0 where
  pub output : out' ≡ padded plus_zero (numbers_of (written_rings to)) (length out) out
  pub lengths : out_lengths' ≡ over (lengths_of (written_rings to)) out_lengths
