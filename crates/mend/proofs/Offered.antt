-- Laws that this crate offers to those above it beside its contracts. Assumes nothing.
use mathlib.Core.Path.{◌≡◌, refl, ◌∙◌}
use mathlib.Core.Bool.{Bool, true, false}
use mathlib.Core.List.{List}
use Prim.Native.Nat.{ℕ, ◌*◌, ◌/◌, ◌%◌, ◌≤◌}
use native.Mathlib.Omega.{arith}
use borrow.Author.Tests.{ltb-true, ltb-false, eqb-true, eqb-false}
use lib.Dec.{ltb, eqb}
use lib.Ieee.{Float}
use lib.ListN.{length, take}
use Rattle.std.specs.Prelude.{Ok, Err}
use Rattle.tile.specs.Ring.{coords, close}
use Rattle.sutherland_hodgman.specs.Growth.{most_coordinates}
use Rattle.mend.specs.declared.MendRefusal.{MendRefusal}
use Rattle.mend.specs.declared.MendRefusal.TheVariants.{Lengths, Coordinates, Output, Short}
use Rattle.mend.specs.MendCall.{closed_ring, mended_ring, mend_call_answer}
use Rattle.mend.proofs.Answers.{closed-count, refused-lengths, refused-coordinates, refused-output, remaining}
use Rattle.mend.proofs.Laws.{none_more}

module _ (s out : List Float) (n : ℕ) (e : mend_call_answer s out ≡ Ok n) where
  not-refused : (refusal : MendRefusal) → Err refusal ≡ mend_call_answer s out → (4 ≤ n) × (n ≤ most_coordinates)
  not-refused refusal r = absurd (let h = r ∙ e in let z : ◌≡◌ {A = ℕ} 0 1 = cc in omega arith)

  -- a mended ring has at least 4 coordinates and at most 65,532
  pub mended_count : (4 ≤ n) × (n ≤ most_coordinates)
  unfolding mended_ring
  mended_count = lengths (eqb (length s % 2) 1) refl
    where
      m : ℕ
      m = length (close (coords s))

      remain : (length s % 2 ≡ 1 → ⊥) → m ≤ most_coordinates → 2 * m ≤ length out → (t : Bool) → ltb (length (mended_ring s)) 4 ≡ t
          → (4 ≤ n) × (n ≤ most_coordinates)
      remain even most room true h = not-refused Short (remaining s out even m refl most room true h)
      remain even most room false h =
          let q = remaining s out even m refl most room false h ∙ e in
          let k : length (mended_ring s) ≡ n = cc in
          (omega (arith, ltb-false (length (mended_ring s)) 4 h), omega (arith, none_more (closed_ring s), closed-count s out even m refl))

      output : (length s % 2 ≡ 1 → ⊥) → m ≤ most_coordinates → (t : Bool) → ltb (length out) (2 * m) ≡ t → (4 ≤ n) × (n ≤ most_coordinates)
      output even most true h = not-refused Output (refused-output s out even m refl most (ltb-true (length out) (2 * m) h)).0
      output even most false h = remain even most (ltb-false (length out) (2 * m) h) (ltb (length (mended_ring s)) 4) refl

      coordinates : (length s % 2 ≡ 1 → ⊥) → (t : Bool) → ltb most_coordinates m ≡ t → (4 ≤ n) × (n ≤ most_coordinates)
      coordinates even true h = not-refused Coordinates (refused-coordinates s out even m refl (ltb-true most_coordinates m h)).0
      coordinates even false h = output even (ltb-false most_coordinates m h) (ltb (length out) (2 * m)) refl

      lengths : (t : Bool) → eqb (length s % 2) 1 ≡ t → (4 ≤ n) × (n ≤ most_coordinates)
      lengths true h = not-refused Lengths (refused-lengths s out (eqb-true (length s % 2) 1 h)).0
      lengths false h = coordinates (eqb-false (length s % 2) 1 h) (ltb most_coordinates m) refl
