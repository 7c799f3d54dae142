-- The mending call (document 02, "Point 7: mend repeated corners"): what it answers, and what the output holds afterwards. Definitions
-- only.
use Rattle.std.specs.Prelude.{◌≡◌, Bool, true, false, List, ℕ, None, Result, Ok, Err, ◌*◌, ◌%◌, ltb, eqb}
use Rattle.std.specs.Prelude.{Float, ℤ, pos, neg_ℤ, length, take}
use Rattle.binary64.specs.Slices.{over}
use Rattle.tile.specs.declared.Coord.{Coord}
use Rattle.tile.specs.Ring.{coords, flat, close}
use Rattle.box_pairs.specs.Issue.{first_repeated}
use Rattle.sutherland_hodgman.specs.Growth.{most_coordinates}
use Rattle.mend.specs.declared.MendRefusal.{MendRefusal}
use Rattle.mend.specs.declared.MendRefusal.TheVariants.{Lengths, Coordinates, Output, Short}
use Rattle.mend.specs.Mend.{mend}

-- ---- what is answered

-- "a ring, closed as in document 01", of x, y numbers
unfoldable pub closed_ring : List Float → List Coord
closed_ring ring = close (coords ring)

-- the kept coordinates
unfoldable pub mended_ring : List Float → List Coord
mended_ring ring = mend (closed_ring ring)

-- the paper's number of each refusal
abbrev pub mend_refusal_number : MendRefusal → ℕ
mend_refusal_number Lengths = 19
mend_refusal_number Coordinates = 20
mend_refusal_number Output = 22
mend_refusal_number Short = 26

-- a refusal where its test says so, else what the later tests say
abbrev pub refused_if : Bool → MendRefusal → Result ℕ MendRefusal → Result ℕ MendRefusal
refused_if true refusal later = Err refusal
refused_if false refusal later = later

-- "19 comes first as in a ring call, then 20 for the closed ring. The refusal 22 here means an output shorter than the closed input. 26
-- when under four coordinates remain, after 22"; "answers how many they are": by the lent ring and the output as it is lent
unfoldable pub mend_call_answer : List Float → List Float → Result ℕ MendRefusal
mend_call_answer ring out =
    refused_if (eqb (length ring % 2) 1) Lengths
    (refused_if (ltb most_coordinates (length (closed_ring ring))) Coordinates
    (refused_if (ltb (length out) (2 * length (closed_ring ring))) Output
    (refused_if (ltb (length (mended_ring ring)) 4) Short (Ok (length (mended_ring ring))))))

-- the answer as one number: the count of coordinates, or minus the refusal's number
abbrev pub mend_call_code : Result ℕ MendRefusal → ℤ
mend_call_code (Err refusal) = neg_ℤ (pos (mend_refusal_number refusal))
mend_call_code (Ok n) = pos n

-- ---- the output afterwards

-- by the answer: a refusal leaves the output unchanged, and a success leaves it so past the mended ring
abbrev pub output_after : Result ℕ MendRefusal → List Coord → List Float → List Float
output_after (Err refusal) mended out = out
output_after (Ok n) mended out = over (flat mended) out

-- "It writes the kept coordinates in their order"
unfoldable pub mend_call_output : List Float → List Float → List Float
mend_call_output ring out = output_after (mend_call_answer ring out) (mended_ring ring) out

-- "The mended ring has no repeated neighbours by document 01's rule, and mending it again drops none": of the n coordinates at the front of
-- the output. To be mended again it is closed again, which adds one where its first coordinate holds a NaN.
abbrev pub MendPromise : Result ℕ MendRefusal → List Float → Type 0
MendPromise (Err refusal) out = Unit {0}
MendPromise (Ok n) out =
    let mended = coords (take (2 * n) out) in
    (first_repeated mended ≡ None) × (mend (close mended) ≡ close mended)
