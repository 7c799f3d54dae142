-- Answers as they cross in the exported calls: an i64, by its bits. Definitions only.
use Rattle.std.specs.Prelude.{Bool, cond, ℕ, ◌*◌, ◌/◌, ◌%◌, eqb, ltb, ℤ}
use Rattle.std.specs.Int.{w64}
use Rattle.std.proofs.Common.{of_z}

-- the bits of an i64, which below 0 are those of its two's complement
abbrev pub bits_of : ℤ → ℕ
bits_of z = of_z w64 z

-- whether it is below 0
abbrev pub is_refusal : ℕ → Bool
is_refusal code = ltb 0x7fff_ffff_ffff_ffff code

-- the count of numbers of the ring that a ring call with this answer gives
abbrev pub ring_numbers : ℕ → ℕ
ring_numbers code = cond (is_refusal code) 0 (2 * code)

-- the count of rings that a slice call with this answer writes: only a cut, whose number is 4, writes any
abbrev pub rings_written : ℕ → ℕ
rings_written code = cond (is_refusal code) 0 (cond (eqb (code % 256) 4) (code / 65536) 0)
