-- A part of a frame as an answer lists it, as a value and as bytes (document 01, "Frames"; document 02, Points 1 and 12). Definitions only.
use Rattle.std.specs.Prelude.{List, [], ◌∷◌, ◌++◌, ℕ, length}
use Rattle.tile.specs.declared.Coord.{Coord}
use Rattle.tile.specs.declared.TileBounds.{TileBounds}
use Rattle.clip.specs.Polygon as Polygon
use Rattle.clip.specs.Polygon.{answer_of, told, reason_detail}
use Rattle.clip.specs.Origins.{routed_origins}
use Rattle.frame_bytes.specs.Encoding.{each, count_bytes, answer_coord_bytes, rings_with_origins, ring_bytes}

-- its number in the frame, "index from 0", what becomes of it, and the origins of its rings where it is cut
pub record Part : Type 0 where
  pub index : ℕ
  pub outcome : Polygon.Routed
  pub origins : List (List ℕ)

-- the part of these rings of which this becomes at the bounds; a cut has as many origins as coordinates, ring by ring (`cut_many` in
-- clip/proofs/Traced.antt), so that `with_origins` has one for each
abbrev pub part_of : ℕ → TileBounds → List (List Coord) → Polygon.Routed → Part
part_of i b rings outcome = record { index = i; outcome = outcome; origins = routed_origins outcome b rings }

-- how it ends: "if cut, ring count and rings as above", where "Coordinates in answers are followed by" their origins; "A listed overlay
-- part now ends with two 2-byte positions". Each of these counts, origins and positions fits (`counts_fit` in frames/proofs/Counts.antt).
abbrev pub part_end : Polygon.Routed → List (List ℕ) → List ℕ
part_end Polygon.nothing origins = []
part_end Polygon.dropped origins = []
part_end Polygon.unchanged origins = []
part_end (Polygon.cut rings) origins = count_bytes (length rings) ++ each (ring_bytes answer_coord_bytes) (rings_with_origins rings origins)
part_end (Polygon.overlay reason) origins = count_bytes (reason_detail reason).first ++ count_bytes (reason_detail reason).second

-- "A listed part: index from 0, 2 bytes; 1 byte (2 unchanged, 4 cut, 5 overlay); reason, 1 byte, 0 unless overlay"
unfoldable pub part_bytes : Part → List ℕ
part_bytes part =
    count_bytes part.index
    ++ ((told (answer_of part.outcome)).number ∷ (told (answer_of part.outcome)).reason.number
    ∷ part_end part.outcome part.origins)
