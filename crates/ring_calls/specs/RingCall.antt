-- The ring call (document 01, "Frames", amended by document 02, Points 4 and 12): what it answers, and what each lent slice holds
-- afterwards. Definitions only.
use Rattle.std.specs.Prelude.{Bool, true, false, ◌||◌, List, ℕ, ◌*◌, ◌/◌, ◌%◌, ltb, eqb, Float, ℤ, pos, neg_ℤ, length, take, replicate}
use Rattle.std.specs.Prelude.{Result, Ok, Err}
use Rattle.binary64.specs.Slices.{zeros, plus_zero, padded}
use Rattle.tile.specs.declared.Coord.{Coord}
use Rattle.tile.specs.declared.TileBounds.{TileBounds}
use Rattle.tile.specs.Ring.{coords, flat}
use Rattle.sutherland_hodgman.specs.Clip.{clip_ring}
use Rattle.sutherland_hodgman.specs.Growth.{B, most_coordinates}
use Rattle.sutherland_hodgman.specs.Origins.{clip_origins}
use Rattle.sutherland_hodgman.specs.Promise.{Promise}
use Rattle.ring_calls.specs.declared.Refusal.{Refusal}
use Rattle.ring_calls.specs.declared.Refusal.TheVariants.{Lengths, Coordinates, Scratch, Output}

-- ---- refusals

-- the paper's number of each refusal
abbrev pub refusal_number : Refusal → ℕ
refusal_number Lengths = 19
refusal_number Coordinates = 20
refusal_number Scratch = 21
refusal_number Output = 22

-- a refusal where its test says so, else what the later tests say
abbrev pub fails_if : Bool → Refusal → Result (Unit {0}) Refusal → Result (Unit {0}) Refusal
fails_if true refusal later = Err refusal
fails_if false refusal later = later

-- how many numbers 21 asks of the scratch slice and 22 of the output: "2 × S", "2 × the sum of its B", "its length taken unclosed"
unfoldable pub ring_call_room : ℕ → ℕ
ring_call_room numbers = 2 * B (numbers / 2)

-- how many origins 21 asks of their scratch slice and 22 of their output: "a u16 scratch slice of S", "a u16 output of at least the sum
-- of B"
unfoldable pub ring_call_origin_room : ℕ → ℕ
ring_call_origin_room numbers = B (numbers / 2)

-- "19 for an odd count of numbers, then 20 to 22 without order and length slices", "The refusal 21 speaks of the one slice", "Amends 21: a
-- u16 scratch slice of S as well": by the lengths of the scratch slice and the output, and of those of the origins
unfoldable pub check_ring : ℕ → ℕ → ℕ → ℕ → ℕ → Result (Unit {0}) Refusal
check_ring numbers scratch origin_scratch out out_origins =
    let room = ring_call_room numbers in
    let origin_room = ring_call_origin_room numbers in
    fails_if (eqb (numbers % 2) 1) Lengths
    (fails_if (ltb most_coordinates (numbers / 2)) Coordinates
    (fails_if (ltb scratch room || ltb origin_scratch origin_room) Scratch
    (fails_if (ltb out room || ltb out_origins origin_room) Output (Ok tt))))

-- ---- the lent slices

-- what is lent to be written: the scratch slice and the output, and beside each the one for origins
pub record RingSlices : Type 0 where
  pub scratch : List Float
  pub origin_scratch : List ℕ
  pub output : List Float
  pub out_origins : List ℕ

abbrev pub ring_slices : List Float → List ℕ → List Float → List ℕ → RingSlices
ring_slices scratch origin_scratch out out_origins =
    record { scratch = scratch; origin_scratch = origin_scratch; output = out; out_origins = out_origins }

-- the refusal of a ring call, if there is one
abbrev pub ring_call_check : List Float → RingSlices → Result (Unit {0}) Refusal
ring_call_check ring lent =
    check_ring (length ring) (length lent.scratch) (length lent.origin_scratch) (length lent.output) (length lent.out_origins)

-- ---- what is answered

abbrev pub ring_answered : Result (Unit {0}) Refusal → ℕ → Result ℕ Refusal
ring_answered (Err refusal) n = Err refusal
ring_answered (Ok passed) n = Ok n

-- "It runs `clip_ring` on the ring, not closed beforehand, .. and answers their count."
unfoldable pub ring_call_answer : List Float → TileBounds → RingSlices → Result ℕ Refusal
ring_call_answer ring bounds lent = ring_answered (ring_call_check ring lent) (length (clip_ring bounds (coords ring)))

-- the answer as one number: the count of coordinates, or minus the refusal's number
abbrev pub ring_call_code : Result ℕ Refusal → ℤ
ring_call_code (Err refusal) = neg_ℤ (pos (refusal_number refusal))
ring_call_code (Ok n) = pos n

-- ---- the lent slices afterwards

-- "A refusal changes no lent buffer. A success fills scratch .. with zeros"; "the output past the answer, up to what 22 asks, then holds
-- zeros on every success"; the u16 output "past the answer follows the output's rule"; `numbers` is how many numbers the ring has
abbrev pub ring_slices_after : Result (Unit {0}) Refusal → ℕ → List Coord → List ℕ → RingSlices → RingSlices
ring_slices_after (Err refusal) numbers cut origins lent = lent
ring_slices_after (Ok passed) numbers cut origins lent =
    ring_slices (zeros (length lent.scratch)) (replicate (length lent.origin_scratch) 0)
    (padded plus_zero (flat cut) (ring_call_room numbers) lent.output) (padded 0 origins (ring_call_origin_room numbers) lent.out_origins)

-- "writes the coordinates from the front of the output", and the origin of each from the front of theirs
unfoldable pub ring_call_slices : List Float → TileBounds → RingSlices → RingSlices
ring_call_slices ring bounds lent =
    ring_slices_after (ring_call_check ring lent) (length ring) (clip_ring bounds (coords ring)) (clip_origins bounds (coords ring)) lent

-- "Demand 3 speaks of .. the ring that a ring call not refused answers": n coordinates at the front of the output
abbrev pub RingCallPromise : List Float → TileBounds → Result ℕ Refusal → List Float → Type 0
RingCallPromise ring bounds (Err refusal) out = Unit {0}
RingCallPromise ring bounds (Ok n) out = Promise bounds (coords ring) (coords (take (2 * n) out))
