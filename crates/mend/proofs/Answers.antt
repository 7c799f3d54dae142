-- What the call answers and leaves in the output, case by case. Assumes nothing.
use mathlib.Core.Path.{◌≡◌, refl, sym, ◌∙◌, ap}
use mathlib.Core.Bool.{Bool, true, false}
use mathlib.Core.List.{List}
use Prim.Native.Nat.{ℕ, ◌+◌, ◌*◌, ◌-◌, ◌/◌, ◌%◌, ◌≤◌, ◌<◌}
use native.Mathlib.Omega.{arith}
use borrow.Author.Tests.{lt-ltb, le-ltb, eq-eqb, ne_eqb}
use lib.Dec.{ltb}
use lib.Ieee.{Float}
use lib.ListN.{length, take}
use Rattle.std.specs.Prelude.{Result, Ok, Err}
use Rattle.tile.specs.declared.Coord.{Coord}
use Rattle.tile.specs.Ring.{coords, flat, close}
use Rattle.tile.specs.Internal.{Written}
use Rattle.tile.proofs.Rings.{length-flat, count-coords, close-most, written-front}
use Rattle.sutherland_hodgman.specs.Growth.{most_coordinates}
use Rattle.mend.specs.declared.MendRefusal.{MendRefusal}
use Rattle.mend.specs.declared.MendRefusal.TheVariants.{Lengths, Coordinates, Output, Short}
use Rattle.mend.specs.Mend.{mend}
use Rattle.mend.specs.MendCall.{closed_ring, mended_ring, refused_if, mend_call_answer, mend_call_output, MendPromise}
use Rattle.mend.specs.Internal.{closed_by, FewKept}
use Rattle.mend.proofs.Laws.{none_told, none_more, mend_again}
use Rattle.mend.proofs.Walks.{closes}

-- what the contract says of an answer and of the output afterwards
abbrev pub Outcome : List Float → List Float → Result ℕ MendRefusal → List Float → Type 0
Outcome s out answer out' = (answer ≡ mend_call_answer s out) × ((out' ≡ mend_call_output s out) × MendPromise answer out')

module _ (s out : List Float) where
  refused : (refusal : MendRefusal) → Err refusal ≡ mend_call_answer s out → Outcome s out (Err refusal) out
  unfolding mend_call_output
  refused refusal e = (e, (rw (← e), tt))

  pub refused-lengths : length s % 2 ≡ 1 → Outcome s out (Err Lengths) out
  unfolding mend_call_answer
  refused-lengths e = refused Lengths (rw (eq-eqb _ _ e))

  -- m coordinates stand in the closed ring
  module _ (even : length s % 2 ≡ 1 → ⊥) (m : ℕ) (count : m ≡ length (close (coords s))) where
    whole : close (coords s) ≡ closed_ring s
    unfolding closed_ring
    whole = refl

    pub closed-count : length (closed_ring s) ≡ m
    closed-count = sym (count ∙ ap length whole)

    -- closing adds at most one
    pub closed-most : m ≤ length s / 2 + 1
    closed-most = omega (arith, count, close-most (coords s), count-coords s)

    pub refused-coordinates : most_coordinates < m → Outcome s out (Err Coordinates) out
    unfolding mend_call_answer
    refused-coordinates h = refused Coordinates (rw (ne_eqb _ _ even, closed-count, lt-ltb _ _ h))

    module _ (most : m ≤ most_coordinates) where
      pub refused-output : length out < 2 * m → Outcome s out (Err Output) out
      unfolding mend_call_answer
      refused-output h = refused Output (rw (ne_eqb _ _ even, closed-count, le-ltb _ _ most, lt-ltb _ _ h))

      module _ (room : 2 * m ≤ length out) where
        pub remaining : (t : Bool) → ltb (length (mended_ring s)) 4 ≡ t
            → refused_if t Short (Ok (length (mended_ring s))) ≡ mend_call_answer s out
        unfolding mend_call_answer
        remaining t e = rw (ne_eqb _ _ even, closed-count, le-ltb _ _ most, le-ltb _ _ room, e)

        pub refused-few : m < 4 → Outcome s out (Err Short) out
        unfolding mended_ring
        refused-few h =
            refused Short (remaining true (lt-ltb (length (mended_ring s)) 4 (omega (arith, none_more (closed_ring s), closed-count))))

        module _ (closing : Coord) (by : close (coords s) ≡ closed_by s (m - 1) closing) where
          same : mend (closed_by s (m - 1) closing) ≡ mended_ring s
          unfolding mended_ring
          same = ap mend (sym by ∙ whole)

          few_remain : (t : Bool) → FewKept s (m - 1) t → ltb (length (mended_ring s)) 4 ≡ t
          few_remain t few = rw (← same) (sym (few closing))

          pub is_mended : FewKept s (m - 1) false → (k : ℕ) (out' : List Float) → Written (mend (closed_by s (m - 1) closing)) out k out'
              → Outcome s out (Ok k) out'
          unfolding mended_ring closed_ring mend_call_output
          is_mended few k out' w =
              let n : k ≡ length (mended_ring s) = w.count ∙ ap length same in
              let a : Ok k ≡ mend_call_answer s out = rw n (remaining false (few_remain false few)) in
              let l : length (flat (mended_ring s)) ≡ 2 * k = length-flat (mended_ring s) ∙ rw n in
              let r : coords (take (2 * k) out') ≡ mended_ring s = written-front w ∙ same in
              (a, (w.numbers ∙ rw (same, ← a, l), rw r (none_told (closed_ring s), mend_again (coords s))))

        pub refused_short : 4 ≤ m → FewKept s (m - 1) true → Outcome s out (Err Short) out
        refused_short four few =
            let c = closes s m (omega (arith, four, closed-most, count-coords s)) count in
            refused Short (remaining true (few_remain c.0 c.1 true few))
