-- The ring call: what the checks leave, and what cutting and clearing make of the lent slices. Assumes nothing.
use mathlib.Core.Path.{◌≡◌, refl, sym, ◌∙◌, ap}
use mathlib.Core.Bool.{Bool, true, false, ◌||◌}
use mathlib.Core.List.{List, [], ◌++◌, append-nil, append_assoc}
use Prim.Native.Nat.{ℕ, ◌*◌, ◌-◌, ◌/◌, ◌%◌, ◌≤◌}
use native.Mathlib.Omega.{arith}
use lib.Dec.{ltb, eqb}
use lib.Ieee.{Float}
use lib.ListN.{length, take, drop, replicate, length-append, length-drop, drop_of_length-le}
use lib.Seq.{take_at, take-append-le, take-length, length-take-le}
use borrow.Author.Tests.{ltb-false, eqb-false}
use Rattle.std.specs.Prelude.{Result, Ok, Err}
use Rattle.binary64.specs.Slices.{zeros, plus_zero}
use Rattle.binary64.proofs.Booleans.{neither}
use Rattle.binary64.proofs.Fill.{tail_part}
use Rattle.tile.specs.declared.Coord.{Coord}
use Rattle.tile.specs.declared.TileBounds.{TileBounds}
use Rattle.tile.specs.Ring.{coords, flat}
use Rattle.tile.proofs.Rings.{length-flat, length-coords}
use Rattle.sutherland_hodgman.specs.Growth.{B, most_coordinates}
use Rattle.sutherland_hodgman.specs.Clip.{clip_ring}
use Rattle.sutherland_hodgman.specs.Promise.{Promise}
use Rattle.sutherland_hodgman.specs.Internal.{RingCut}
use Rattle.sutherland_hodgman.specs.Origins.{clip_origins}
use Rattle.sutherland_hodgman.proofs.Offered.{B-le, clip_room, as_many}
use Rattle.ring_calls.specs.declared.Refusal.{Refusal}
use Rattle.ring_calls.specs.declared.Refusal.TheVariants.{Lengths, Coordinates, Scratch, Output}
use Rattle.ring_calls.specs.Internal.{PaddedCut, PaddedOrigins}
use Rattle.ring_calls.specs.RingCall.{fails_if, ring_call_room, ring_call_origin_room, check_ring, RingSlices, ring_slices}
use Rattle.ring_calls.specs.RingCall.{ring_call_check, ring_answered, ring_call_answer, ring_call_slices}

-- ---- what passes the checks has room

-- a ring of so many numbers, and the lengths of the other slices
pub record Cuttable (numbers scratch origin_scratch out out_origins : ℕ) : Type 0 where
  pub even : 2 * (numbers / 2) ≡ numbers
  pub few : numbers / 2 ≤ most_coordinates
  pub scratch-room : 2 * B (numbers / 2) ≤ scratch
  pub origin-scratch-room : B (numbers / 2) ≤ origin_scratch
  pub output-room : 2 * B (numbers / 2) ≤ out
  pub origin-output-room : B (numbers / 2) ≤ out_origins

pub not-refused : (t : Bool) (r : Refusal) (c : Result (Unit {0}) Refusal) → fails_if t r c ≡ Ok tt → (t ≡ false) × (c ≡ Ok tt)
not-refused true r c e = absurd (let z : ◌≡◌ {A = ℕ} 0 1 = cc in omega arith)
not-refused false r c e = (refl, e)

pub passes_cuttable : (numbers scratch origin_scratch out out_origins : ℕ) → check_ring numbers scratch origin_scratch out out_origins ≡ Ok tt
    → Cuttable numbers scratch origin_scratch out out_origins
unfolding check_ring ring_call_room ring_call_origin_room
passes_cuttable numbers scratch origin_scratch out out_origins e =
    let origins = B (numbers / 2) in
    let room = 2 * origins in
    let q1 = not-refused (eqb (numbers % 2) 1) Lengths _ e in
    let q2 = not-refused (ltb most_coordinates (numbers / 2)) Coordinates _ q1.1 in
    let q3 = not-refused (ltb scratch room || ltb origin_scratch origins) Scratch _ q2.1 in
    let q4 = not-refused (ltb out room || ltb out_origins origins) Output _ q3.1 in
    let t3 = neither (ltb scratch room) (ltb origin_scratch origins) q3.0 in
    let t4 = neither (ltb out room) (ltb out_origins origins) q4.0 in
    let odd = eqb-false (numbers % 2) 1 q1.0 in
    record {
      even = omega (arith, odd);
      few = ltb-false most_coordinates (numbers / 2) q2.0;
      scratch-room = ltb-false scratch room t3.0;
      origin-scratch-room = ltb-false origin_scratch origins t3.1;
      output-room = ltb-false out room t4.0;
      origin-output-room = ltb-false out_origins origins t4.1;
    }

-- ---- cut, and the rest cleared

-- a slice at whose front so many elements are the answer, and whose rest is cleared
pub rest_cleared : {A : Type 0} (zero : A) (new part fill : List A) (used : ℕ) → take used part ≡ new
    → fill ≡ replicate (length (take (length part - used) (drop used part))) zero
    → take used part ++ (fill ++ drop (length part - used) (drop used part)) ≡ new ++ replicate (length part - used) zero
rest_cleared zero new part fill used e h =
    let l : length (take (length part - used) (drop used part)) ≡ length part - used =
    rw (tail_part part used) (length-drop used part) in
    let m : length (drop used part) ≤ length part - used = omega (arith, length-drop used part) in
    let none : drop (length part - used) (drop used part) ≡ [] = drop_of_length-le (drop used part) m in
    rw (e, none, append-nil, h, l)

-- a cut in a slice as long as 22 asks, and the rest cleared
module _ (bounds : TileBounds) (ring : List Coord) (n : ℕ) (vertices : length ring ≡ n) (r : ℕ) (part : List Float)
    (cut : RingCut bounds ring r part) where
  pub cut-room : r ≤ B n
  cut-room =
      let g : length (clip_ring bounds ring) ≤ B n = rw vertices at (clip_room bounds ring) in
      omega (arith, cut.stands.count)

  pub cut-padded : (fill : List Float) → fill ≡ zeros (length (take (length part - 2 * r) (drop (2 * r) part)))
      → PaddedCut bounds ring (length part) r
      (take (2 * r) part ++ (fill ++ drop (length part - 2 * r) (drop (2 * r) part)))
  cut-padded fill e =
      let c = clip_ring bounds ring in
      let k : length (flat c) ≡ 2 * r = length-flat c ∙ rw cut.stands.count in
      record {
        count = cut.stands.count;
        numbers = rest_cleared plus_zero (flat c) part fill (2 * r) cut.stands.numbers e;
        promise =
            rw (cut.stands.numbers, take_at (flat c) _ (2 * r) k, ← cut.stands.numbers) cut.promise;
      }

-- what demand 3 says of the part it says of the output, of which it is the front
pub padded-front : {bounds : TileBounds} {ring : List Coord} {room r : ℕ} {part : List Float} (rest : List Float)
    → PaddedCut bounds ring room r part → Promise bounds ring (coords (take (2 * r) (part ++ rest)))
padded-front {bounds} {ring} {room} {r} {part} rest c =
    let cut = clip_ring bounds ring in
    let n : length (flat cut) ≡ 2 * r = length-flat cut ∙ rw c.count in
    let l : 2 * r ≤ length part = omega (arith, n, ap length c.numbers, length-append (flat cut) (zeros (room - 2 * r))) in
    rw (take-append-le (2 * r) part rest l) c.promise

-- a scratch slice is cleared, and has kept its length
pub cleared : {A : Type 0} (zero : A) (m n : ℕ) (l : List A) → l ≡ replicate m zero → m ≡ n → l ≡ replicate n zero
cleared zero m n l h e = h ∙ rw e

-- ---- the call

module _ (ring : List Float) (bounds : TileBounds) (lent : RingSlices) where
  pub refused-slices : (r : Refusal) → ring_call_check ring lent ≡ Err r → lent ≡ ring_call_slices ring bounds lent
  unfolding ring_call_slices
  refused-slices r e = rw e

  -- where no check fails, and the ring is cut in the parts of the outputs that 22 asks for
  module _ (passes : ring_call_check ring lent ≡ Ok tt) (room : ℕ) (is : room ≡ B (length ring / 2)) (r : ℕ) (part : List Float)
      (origins : List ℕ)
      (cut : PaddedCut bounds (coords ring) (length (take (2 * room) lent.output)) r part)
      (traced : PaddedOrigins bounds (coords ring) (length (take room lent.out_origins)) r origins) where
    cut-whole : PaddedCut bounds (coords ring) (2 * room) r part
    cut-whole =
        let p = passes_cuttable (length ring) _ _ _ _ passes in
        let l = length-take-le (2 * room) lent.output (omega (arith, is, p.output-room)) in
        rw l at cut

    traced-whole : PaddedOrigins bounds (coords ring) room r origins
    traced-whole =
        let p = passes_cuttable (length ring) _ _ _ _ passes in
        let l = length-take-le room lent.out_origins (omega (arith, is, p.origin-output-room)) in
        rw l at traced

    pub clipped-answer : Ok r ≡ ring_call_answer ring bounds lent
    unfolding ring_call_answer
    clipped-answer = rw passes (ap Ok cut-whole.count)

    pub clipped_slices : (scratch : List Float) (origin_scratch : List ℕ) → scratch ≡ zeros (length lent.scratch)
        → origin_scratch ≡ replicate (length lent.origin_scratch) 0
        → ring_slices scratch origin_scratch (part ++ drop (2 * room) lent.output) (origins ++ drop room lent.out_origins)
        ≡ ring_call_slices ring bounds lent
    unfolding ring_call_slices ring_call_room ring_call_origin_room
    clipped_slices scratch origin_scratch h ho =
        let k = cut-whole.count in
        let n : length (flat (clip_ring bounds (coords ring))) ≡ 2 * r = length-flat (clip_ring bounds (coords ring)) ∙ rw k in
        let m : length (clip_origins bounds (coords ring)) ≡ r = as_many bounds (coords ring) ∙ sym k in
        rw (passes, h, ho, cut-whole.numbers, traced-whole, n, m, is, append_assoc, append_assoc)

    pub clipped-promise : Promise bounds (coords ring) (coords (take (2 * r) (part ++ drop (2 * room) lent.output)))
    clipped-promise = padded-front _ cut-whole

  -- a ring call answers few coordinates
  pub answer-few : (n : ℕ) → ring_call_answer ring bounds lent ≡ Ok n → n ≤ 8 * most_coordinates
  unfolding ring_call_answer
  answer-few n e = go (ring_call_check ring lent) (passes_cuttable (length ring) _ _ _ _) e
    where
      go : (c : Result (Unit {0}) Refusal) → (c ≡ Ok tt → Cuttable (length ring) (length lent.scratch) (length lent.origin_scratch)
          (length lent.output) (length lent.out_origins))
          → ring_answered c (length (clip_ring bounds (coords ring))) ≡ Ok n → n ≤ 8 * most_coordinates
      go (Err r) h q = absurd (let z : ◌≡◌ {A = ℕ} 0 1 = cc in omega arith)
      go (Ok tt) h q =
          let k = h refl in
          let m : length (clip_ring bounds (coords ring)) ≡ n = cc in
          let l : length (coords ring) ≡ length ring / 2 = length-coords (length ring / 2) ring (sym k.even) in
          omega (arith, B-le (length (coords ring)) (omega (arith, k.few)), clip_room bounds (coords ring))
