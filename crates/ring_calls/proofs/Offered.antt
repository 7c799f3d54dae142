-- Laws that this crate offers to those above it beside its contracts. The slice call shares the refusals and the clearing. Assumes nothing.
use mathlib.Core.Path.{◌≡◌}
use mathlib.Core.Bool.{Bool, false}
use mathlib.Core.List.{List}
use Prim.Native.Nat.{ℕ, ◌*◌, ◌/◌, ◌≤◌}
use native.Mathlib.Omega.{arith}
use lib.Ieee.{Float}
use lib.ListN.{length, take, replicate}
use Rattle.std.specs.Prelude.{Result, Ok}
use Rattle.tile.specs.declared.TileBounds.{TileBounds}
use Rattle.tile.specs.Ring.{coords}
use Rattle.sutherland_hodgman.specs.Growth.{most_coordinates}
use Rattle.sutherland_hodgman.specs.Internal.{CutterRoom, OriginRoom}
use Rattle.sutherland_hodgman.proofs.Offered.{whole_ring}
use Rattle.ring_calls.specs.declared.Refusal.{Refusal}
use Rattle.ring_calls.specs.RingCall.{fails_if, RingSlices, ring_call_check, ring_call_answer}
use Rattle.ring_calls.proofs.Calls as calls

-- where the row of tests passes, its first test says no and the others pass
pub not-refused : (t : Bool) (r : Refusal) (c : Result (Unit {0}) Refusal) → fails_if t r c ≡ Ok tt → (t ≡ false) × (c ≡ Ok tt)
not-refused = calls.not-refused

-- a scratch slice that is filled with zeros has kept its length
pub cleared : {A : Type 0} (zero : A) (m n : ℕ) (l : List A) → l ≡ replicate m zero → m ≡ n → l ≡ replicate n zero
cleared = calls.cleared

-- a ring that a ring call does not refuse has room for the cutter
pub lent-room : (ring : List Float) (lent : RingSlices) → ring_call_check ring lent ≡ Ok tt
    → CutterRoom (length ring / 2) (length ring) (length lent.scratch) (length lent.output)
    × OriginRoom (length ring / 2) (length lent.origin_scratch) (length lent.out_origins)
lent-room ring lent e =
    let p = calls.passes_cuttable (length ring) _ _ _ _ e in (
      record { vertices = omega (arith, p.even); scratch-room = p.scratch-room; output-room = p.output-room },
      record { positions = p.few; scratch-room = p.origin-scratch-room; output-room = p.origin-output-room },
    )

pub lent-whole : (ring : List Float) (lent : RingSlices) → ring_call_check ring lent ≡ Ok tt
    → coords (take (2 * (length ring / 2)) ring) ≡ coords ring
lent-whole ring lent e = whole_ring ring

-- a ring call answers fewer than 2^19 coordinates, so that the count fits an i64
pub answer-few : (ring : List Float) (bounds : TileBounds) (lent : RingSlices) (n : ℕ) → ring_call_answer ring bounds lent ≡ Ok n
    → n ≤ 8 * most_coordinates
answer-few = calls.answer-few
