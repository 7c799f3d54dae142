-- The slice call (document 01, "Frames", amended by document 02, Points 4, 1 and 12): what it answers, and what each lent slice holds
-- afterwards. Definitions only.
use Rattle.std.specs.Prelude.{Bool, not, cond, ◌&&◌, ◌||◌, List, ℕ, ◌+◌, ◌*◌, ◌^◌, ltb, leb, eqb, Float, length, replicate}
use Rattle.std.specs.Prelude.{ℤ, pos, negsuc, neg_ℤ, Result, Ok, Err}
use Rattle.binary64.specs.Slices.{zeros, over, plus_zero, padded}
use Rattle.tile.specs.declared.Coord.{Coord}
use Rattle.tile.specs.declared.TileBounds.{TileBounds}
use Rattle.tile.specs.Bounds.{buffered}
use Rattle.sutherland_hodgman.specs.Growth.{most_coordinates}
use Rattle.ring_calls.specs.declared.Refusal.{Refusal}
use Rattle.ring_calls.specs.declared.Refusal.TheVariants.{Lengths, Coordinates, Scratch, Output}
use Rattle.ring_calls.specs.RingCall.{refusal_number}
use Rattle.rings.specs.LentRings.{most_rings, sum, closed_rings, total, largest, ring_room}
use Rattle.clip.specs.declared.polygon.Flags.{Flags}
use Rattle.clip.specs.declared.polygon.PolygonAnswer.{PolygonAnswer}
use Rattle.clip.specs.Polygon.{Routed, route, answer_of, told}
use Rattle.clip.specs.Origins.{routed_origins}
use Rattle.polygon_rings.specs.WrittenRings.{written_rings, numbers_of, lengths_of, origins_of}
use Rattle.slices.specs.declared.call.Answered.{Answered}

-- ---- refusals

-- a refusal where its test says so, else what the later tests say
abbrev pub refused_if : Bool → Refusal → Result ℕ Refusal → Result ℕ Refusal
refused_if test refusal later = cond test (Err refusal) later

-- where this is false, 19: "no ring, over 64 rings, or lengths (in coordinates) whose sum times 2 is not the count of numbers lent"
unfoldable pub lengths_fit : ℕ → List ℕ → Bool
lengths_fit numbers lengths = ltb 0 (length lengths) && (leb (length lengths) most_rings && eqb (2 * sum lengths) numbers)

-- how many numbers 22 asks of the output, of closed rings: "2 × the sum of its B numbers"
unfoldable pub slice_call_room : List (List Coord) → ℕ
slice_call_room rings = 2 * total ring_room rings

-- how many origins 22 asks of theirs: "a u16 output of at least the sum of B"
unfoldable pub slice_call_origin_room : List (List Coord) → ℕ
slice_call_origin_room rings = total ring_room rings

-- 21 and 22, of closed rings and the lengths of the scratch slice, that of the origins, the order slice, the output, the second length
-- slice and the output of the origins: "when, S being its largest B, .. scratch .. is under 2 × S numbers or the order slice .. under S",
-- where "21 speaks of the one slice", and "a u16 scratch slice of S as well"; "when the output is under 2 × the sum of its B numbers, or
-- the second length slice under its ring count", and what Point 12 adds to 22; past these, how many origins 22 asks
unfoldable pub check_room : List (List Coord) → ℕ → ℕ → ℕ → ℕ → ℕ → ℕ → Result ℕ Refusal
check_room rings scratch origin_scratch order out out_lengths out_origins =
    let S = largest ring_room rings in
    refused_if (ltb scratch (2 * S) || (ltb origin_scratch S || ltb order S)) Scratch
    (refused_if (ltb out (slice_call_room rings) || (ltb out_lengths (length rings) || ltb out_origins (slice_call_origin_room rings)))
    Output (Ok (slice_call_origin_room rings)))

-- 20 to 22, of closed rings: "Ring lengths are taken after closing in B and 20."
unfoldable pub check_rings : List (List Coord) → ℕ → ℕ → ℕ → ℕ → ℕ → ℕ → Result ℕ Refusal
check_rings rings scratch origin_scratch order out out_lengths out_origins =
    refused_if (ltb most_coordinates (total length rings)) Coordinates
    (check_room rings scratch origin_scratch order out out_lengths out_origins)

-- 19 to 22, "tested in that order"
unfoldable pub check_polygon : List Float → List ℕ → ℕ → ℕ → ℕ → ℕ → ℕ → ℕ → Result ℕ Refusal
check_polygon coords lengths scratch origin_scratch order out out_lengths out_origins =
    refused_if (not (lengths_fit (length coords) lengths)) Lengths
    (check_rings (closed_rings lengths coords) scratch origin_scratch order out out_lengths out_origins)

-- ---- the lent slices

-- what is lent to be written: the scratch slice and that of the origins, the order slice, the output, the second length slice and the
-- output of the origins
pub record PolygonSlices : Type 0 where
  pub scratch : List Float
  pub origin_scratch : List ℕ
  pub order : List ℕ
  pub output : List Float
  pub out_lengths : List ℕ
  pub out_origins : List ℕ

abbrev pub polygon_slices : List Float → List ℕ → List ℕ → List Float → List ℕ → List ℕ → PolygonSlices
polygon_slices scratch origin_scratch order out out_lengths out_origins = record {
  scratch = scratch;
  origin_scratch = origin_scratch;
  order = order;
  output = out;
  out_lengths = out_lengths;
  out_origins = out_origins;
}

-- the refusal of a slice call, if there is one, else how many origins 22 asks
abbrev pub slice_call_check : List Float → List ℕ → PolygonSlices → Result ℕ Refusal
slice_call_check coords lengths lent =
    check_polygon coords lengths (length lent.scratch) (length lent.origin_scratch) (length lent.order) (length lent.output)
    (length lent.out_lengths) (length lent.out_origins)

-- ---- what is answered

-- what becomes of the lent polygon
unfoldable pub route_lent : Flags → TileBounds → Float → List Float → List ℕ → Routed
route_lent flags bounds buffer coords lengths = route flags (buffered bounds buffer) (closed_rings lengths coords)

-- the origins of a cut's rings, ring by ring: each says "the position in its input ring, or the line that made it"
unfoldable pub origins_lent : Flags → TileBounds → Float → List Float → List ℕ → List (List ℕ)
origins_lent flags bounds buffer coords lengths =
    routed_origins (route_lent flags bounds buffer coords lengths) (buffered bounds buffer) (closed_rings lengths coords)

-- the answer has its guard count beside it: "a guard count in the answer"
abbrev pub slice_answered : Result ℕ Refusal → Routed → Result Answered Refusal
slice_answered (Err refusal) outcome = Err refusal
slice_answered (Ok room) outcome = Ok (record { answer = answer_of outcome; guards = (told (answer_of outcome)).guards })

unfoldable pub slice_call_answer : Flags → TileBounds → Float → List Float → List ℕ → PolygonSlices → Result Answered Refusal
slice_call_answer flags bounds buffer coords lengths lent =
    slice_answered (slice_call_check coords lengths lent) (route_lent flags bounds buffer coords lengths)

-- ---- the lent slices afterwards

-- "A refusal changes no lent buffer. A success fills scratch and order with zeros and leaves .. the second length slice past the answer
-- unchanged"; "the output past the answer, up to what 22 asks, then holds zeros on every success, overlay and nothing included"; the u16
-- output "past the answer follows the output's rule". `rings` are the lent ones, closed, and `origins` those of the outcome's rings.
abbrev pub polygon_slices_after : Result ℕ Refusal → List (List Coord) → Routed → List (List ℕ) → PolygonSlices → PolygonSlices
polygon_slices_after (Err refusal) rings outcome origins lent = lent
polygon_slices_after (Ok room) rings outcome origins lent =
    polygon_slices (zeros (length lent.scratch)) (replicate (length lent.origin_scratch) 0) (replicate (length lent.order) 0)
    (padded plus_zero (numbers_of (written_rings outcome)) (slice_call_room rings) lent.output)
    (over (lengths_of (written_rings outcome)) lent.out_lengths)
    (padded 0 (origins_of origins) (slice_call_origin_room rings) lent.out_origins)

unfoldable pub slice_call_slices : Flags → TileBounds → Float → List Float → List ℕ → PolygonSlices → PolygonSlices
slice_call_slices flags bounds buffer coords lengths lent =
    polygon_slices_after (slice_call_check coords lengths lent) (closed_rings lengths coords)
    (route_lent flags bounds buffer coords lengths) (origins_lent flags bounds buffer coords lengths) lent

-- ---- answers as numbers

-- number, reason, rings or first position, and second position in one number, which tells the guard count too (`guards_in`). A cut has no
-- positions and an overlay no rings, so that these share a place; of every answer each field can be read back (`answer-read` in
-- proofs/Answers.antt).
abbrev pub answer_code : PolygonAnswer → ℕ
answer_code answer =
    let reason = (told answer).reason in
    (told answer).number + 2 ^ 8 * reason.number + 2 ^ 16 * ((told answer).rings + reason.first) + 2 ^ 40 * reason.second

-- minus the refusal's number, or the answer's code
abbrev pub slice_call_code : Result Answered Refusal → ℤ
slice_call_code (Err refusal) = neg_ℤ (pos (refusal_number refusal))
slice_call_code (Ok answered) = pos (answer_code answered.answer)

-- the guard count of an answer; 0 for a refusal
abbrev pub slice_call_guards : Result Answered Refusal → ℕ
slice_call_guards (Err refusal) = 0
slice_call_guards (Ok answered) = answered.guards

-- the guard count that the number alone tells: 1 where the number is 1, else 0
abbrev pub guards_in : ℤ → ℕ
guards_in (pos n) = cond (eqb n 1) 1 0
guards_in (negsuc n) = 0
