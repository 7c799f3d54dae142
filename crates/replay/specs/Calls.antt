-- Whether what a call answers and leaves in the lent slices, by its definition, is what was kept: the unchanged
-- Rust's rings, with the refusals, the reasons and the zeros that the harness has for them. Definitions only.
use Rattle.std.specs.Prelude.{Bool, true, false, ◌&&◌, List, [], ◌∷◌, ℕ, eqb, leb, Float, Option, None, Some}
use Rattle.std.specs.List.{list_all}
use Rattle.tile.specs.declared.TileBounds.{TileBounds}
use Rattle.ring_calls.specs.RingCall.{RingSlices, ring_slices, ring_call_answer, ring_call_code, ring_call_slices}
use Rattle.clip.specs.declared.polygon.Flags.{Flags}
use Rattle.slices.specs.SliceCall.{PolygonSlices, polygon_slices, slice_call_answer, slice_call_code, slice_call_slices}
use Rattle.replay.specs.declared.code.Outcome.{Outcome}
use Rattle.replay.specs.declared.code.Outcome.TheVariants.{Same, Differs}
use Rattle.replay.specs.declared.ring_vectors.RingVector.{RingVector}
use Rattle.replay.specs.declared.slice_vectors.SliceVector.{SliceVector}
use Rattle.replay.specs.Code.{bits_of, is_refusal}
use Rattle.replay.specs.Lent.{mark, whole_mark, origin_mark, marks, whole_marks, origin_marks, most_lent}
use Rattle.replay.specs.Lent.{bits, are_all, holds, cleared_unless}

-- after a call one slice that it clears and one that it writes to, at whose front stands what was kept; both held the mark before
unfoldable pub slices_agree : Bool → ℕ → List ℕ → List ℕ → List ℕ → Bool
slices_agree refused mark scratch out expected = are_all scratch (cleared_unless refused mark) && holds mark expected out

-- the code of an answer, and after the call the scratch slice and the output, at whose front stands what was kept: the answer's numbers,
-- and behind them the zeros that the call writes
unfoldable pub answer_agrees : ℕ → ℕ → List Float → List Float → List Float → Bool
answer_agrees given code scratch out expected =
    eqb given code && slices_agree (is_refusal code) mark (bits scratch) (bits out) (bits expected)

-- a ring call, with the numbers and the origins that were kept
unfoldable pub ring_agrees : ℕ → List Float → List ℕ → List Float → TileBounds → RingSlices → Bool
ring_agrees code expected expected_origins ring bounds lent =
    let after = ring_call_slices ring bounds lent in
    answer_agrees (bits_of (ring_call_code (ring_call_answer ring bounds lent))) code after.scratch after.output expected
    && slices_agree (is_refusal code) origin_mark after.origin_scratch after.out_origins expected_origins

-- a slice call, with the numbers, the lengths of rings and the origins that were kept
unfoldable pub slice_agrees : ℕ → List Float → List ℕ → List ℕ → Flags → TileBounds → Float → List Float → List ℕ → PolygonSlices → Bool
slice_agrees code expected expected_lengths expected_origins flags bounds buffer coords lengths lent =
    let answer = slice_call_answer flags bounds buffer coords lengths lent in
    let after = slice_call_slices flags bounds buffer coords lengths lent in
    answer_agrees (bits_of (slice_call_code answer)) code after.scratch after.output expected
    && (slices_agree (is_refusal code) whole_mark after.order after.out_lengths expected_lengths
    && slices_agree (is_refusal code) origin_mark after.origin_scratch after.out_origins expected_origins)

-- ---- what becomes of a vector: nothing where it is not whole

abbrev pub vector_outcome : Bool → Bool → ℕ → Option Outcome
vector_outcome false agrees code = None
vector_outcome true false code = Some Differs
vector_outcome true true code = Some (Same code)

-- whether the slices that are lent to be written have room
unfoldable pub ring_fits : RingVector → Bool
ring_fits head = list_all (λ n. leb n most_lent) (head.scratch ∷ head.origin_scratch ∷ head.out ∷ head.out_origins ∷ [])

unfoldable pub slice_fits : SliceVector → Bool
slice_fits head =
    list_all (λ n. leb n most_lent)
    (head.scratch ∷ head.origin_scratch ∷ head.order ∷ head.out ∷ head.out_lengths ∷ head.out_origins ∷ [])

-- what is lent to be written
abbrev pub ring_lent : RingVector → RingSlices
ring_lent head =
    ring_slices (marks head.scratch) (origin_marks head.origin_scratch) (marks head.out) (origin_marks head.out_origins)

abbrev pub slice_lent : SliceVector → PolygonSlices
slice_lent head =
    polygon_slices (marks head.scratch) (origin_marks head.origin_scratch) (whole_marks head.order) (marks head.out)
    (whole_marks head.out_lengths) (origin_marks head.out_origins)

-- of a ring call, or a slice call, with what was kept of it
unfoldable pub ring_outcome : RingVector → ℕ → List Float → List Float → List ℕ → Option Outcome
ring_outcome head code ring expected expected_origins =
    vector_outcome (ring_fits head) (ring_agrees code expected expected_origins ring head.bounds (ring_lent head)) code

unfoldable pub slice_outcome : SliceVector → ℕ → List Float → List ℕ → List Float → List ℕ → List ℕ → Option Outcome
slice_outcome head code coords lengths expected expected_lengths expected_origins =
    vector_outcome (slice_fits head)
    (slice_agrees code expected expected_lengths expected_origins head.flags head.bounds head.buffer coords lengths (slice_lent head))
    code
