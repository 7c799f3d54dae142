-- The code of a slice call's answer has 64 bits. Assumes nothing.
use mathlib.Core.Path.{◌≡◌, sym}
use mathlib.Core.List.{List}
use Prim.Native.Nat.{ℕ, ◌^◌, ◌<◌}
use native.Mathlib.Omega.{arith}
use lib.Dec.{lit<}
use lib.Ieee.{Float}
use Rattle.tile.specs.declared.TileBounds.{TileBounds}
use Rattle.std.specs.Prelude.{Result, Ok, Err}
use Rattle.ring_calls.specs.declared.Refusal.{Refusal}
use Rattle.ring_calls.specs.declared.Refusal.TheVariants.{Lengths, Coordinates, Scratch, Output}
use Rattle.clip.specs.declared.polygon.Flags.{Flags}
use Rattle.slices.specs.declared.call.Answered.{Answered}
use Rattle.slices.specs.SliceCall.{PolygonSlices, slice_call_answer, slice_call_code}
use Rattle.slices.proofs.Answers.{answer-below}
use Rattle.replay.specs.Code.{bits_of}

module _ (flags : Flags) (bounds : TileBounds) (buffer : Float) (s : List Float) (ns : List ℕ) (lent : PolygonSlices) where
  pub slice_fits : (r : Result Answered Refusal) → r ≡ slice_call_answer flags bounds buffer s ns lent → bits_of (slice_call_code r) < 2 ^ 64
  slice_fits (Err Lengths) e = lit< tt
  slice_fits (Err Coordinates) e = lit< tt
  slice_fits (Err Scratch) e = lit< tt
  slice_fits (Err Output) e = lit< tt
  slice_fits (Ok a) e = omega (arith, answer-below flags bounds buffer s ns lent a (sym e))
