-- A cut part of a frame: its exterior and its holes have room, and what is written is the part's bytes. The bytes of a part have the room
-- that 22 asks for. Assumes nothing.
use mathlib.Core.Path.{◌≡◌, refl, sym, ◌∙◌, ap}
use mathlib.Core.Bool.{Bool, true, false, cond}
use mathlib.Core.List.{List, [], ◌∷◌, ◌++◌, append_assoc}
use Prim.Native.Nat.{ℕ, suc, ◌+◌, ◌*◌, ◌-◌, ◌<◌, ◌≤◌}
use native.Mathlib.Omega.{arith}
use lib.Ieee.{Float}
use lib.ListN.{length, take, drop, length-append}
use lib.Seq.{sets}
use Rattle.binary64.proofs.Fill.{sets_append}
use Rattle.tile.specs.declared.Coord.{Coord}
use Rattle.tile.specs.declared.TileBounds.{TileBounds}
use Rattle.tile.specs.Ring.{coords, flat, close}
use Rattle.tile.specs.Internal.{Stands}
use Rattle.tile.proofs.Rings.{stands-front}
use Rattle.sutherland_hodgman.specs.Growth.{B}
use Rattle.rings.specs.LentRings.{exterior, largest, total, ring_room, most_rings}
use Rattle.rings.specs.Representable.{any_huge_ring}
use Rattle.clip.specs.declared.polygon.Reason.{Reason}
use Rattle.clip.specs.declared.polygon.ReasonDetail.{ReasonDetail}
use Rattle.clip.specs.declared.polygon.Route.{Route}
use Rattle.clip.specs.declared.polygon.Route.TheVariants as Routes
use Rattle.clip.specs.Polygon as Polygon
use Rattle.clip.specs.Polygon.{unless_none, cut_exterior, cut_holes, cut_rings, overlay_or_dropped, reason_detail}
use Rattle.clip.specs.Origins.{exterior_origins, cut_origins}
use Rattle.clip.specs.Internal.{ExteriorRoom, RingOriginRoom}
use Rattle.clip.proofs.Cuts.{cut-fits-room, exterior-origins-length}
use Rattle.frame_bytes.specs.declared.accepted.PartBytes.{PartBytes}
use Rattle.frame_bytes.specs.Accepted.{rings_of}
use Rattle.frame_bytes.specs.Frame.{Reading, refused, read, count_of, coords_of, read_part}
use Rattle.frame_bytes.specs.Internal.{Accepted, all_in, part_at, huge_of, front_answer_coords}
use Rattle.frame_bytes.specs.Room.{answer_coord_size, part_room}
use Rattle.frame_bytes.specs.Encoding.{each, count_bytes, AnswerCoord, answer_coord_bytes, rings_with_origins, ring_bytes}
use Rattle.frame_bytes.proofs.Writing.{sets_before, each_append, length-count, length-with, length-ring}
use Rattle.frame_bytes.proofs.PartRings.{part-rings, exterior_at, holes_at, first_ring, part-here}
use Rattle.frame_parts.specs.declared.RingCursor.{RingCursor}
use Rattle.frame_parts.specs.Part.{Part, part_of, part_end, part_bytes}
use Rattle.frame_parts.specs.Internal.{cut_part, uncut_part, routed_part, exterior_vertices, hole_vertices, holes_vertices, cut_vertices}
use Rattle.frame_parts.specs.Internal.{PutRings, Lengths, Working, RingsRoom, PartRoom, PositionsRoom, ExteriorStands}
use Rattle.frame_parts.proofs.Cutting.{working-later, ring-lent, working-ring, working-origins, working-positions, unless_append}
use Rattle.frame_parts.proofs.Cutting.{unless_bytes, unless_count, holes_first, hole_fits, stands-fits, origins_fit, put_then}
use Rattle.frame_parts.proofs.Cutting.{ring-read-in}

-- ---- the rings of a cut

pub exterior-fits : (b : TileBounds) (r : List Coord) → length (exterior_vertices b r) ≤ B (length r)
exterior-fits b r = omega (arith, length-with (cut_exterior b r) (exterior_origins b r), cut-fits-room b r)

rings_first : (b : TileBounds) (r : List Coord) (rings : List (List Coord)) → cut_vertices b (r ∷ rings)
    ≡ exterior_vertices b r ∷ holes_vertices b rings
unfolding cut_rings cut_origins rings_with_origins
rings_first b r rings = refl

-- where the exterior is not empty it is written first
unless_some : (c : List AnswerCoord) (l : List (List AnswerCoord)) → 0 < length c → c ∷ l ≡ unless_none c [] ++ l
unless_some [] l h = absurd (omega arith)
unless_some (p ∷ c) l h = refl

length-rings : (rings : List (List Coord)) (origins : List (List ℕ)) → length (rings_with_origins rings origins) ≡ length rings
unfolding rings_with_origins
length-rings [] origins = refl
length-rings (r ∷ rings) origins = ap suc (length-rings rings (drop 1 origins))

-- ---- room

abbrev exterior_of : PartBytes → List Coord
exterior_of part = exterior_at part.frame.now part.at

abbrev holes_of : PartBytes → List (List Coord)
holes_of part = holes_at part.frame.now part.at

module _ (bounds : TileBounds) (part : PartBytes) (m : ℕ) (lent : Lengths) (out to : ℕ) (b : List Float) (b-origins : List ℕ)
    (room : PartRoom (rings_of part) lent out to) (stands : ExteriorStands bounds (rings_of part) m b b-origins) where
  here : rings_of part ≡ exterior_of part ∷ holes_of part
  here = part-here part.frame.now part.at part.within part.accepted

  stands_here : Stands (cut_exterior bounds (exterior_of part)) m b
  stands_here = rw here at stands.ring

  origins-here : take m b-origins ≡ exterior_origins bounds (exterior_of part)
  origins-here = rw here at stands.ring-origins

  output-here : to + part_room answer_coord_size (exterior_of part ∷ holes_of part) ≤ out
  output-here = rw here at room.output

  pub exterior_put : (2 * m ≤ length b) × (m ≤ length b-origins) × (to + 6 + 2 + answer_coord_size * m ≤ out)
  unfolding part_room total
  exterior_put = (
    stands-fits stands_here,
    origins_fit m b-origins _ origins-here (omega (arith, exterior-origins-length bounds (exterior_of part), stands_here.count)),
    omega (arith, stands_here.count, cut-fits-room bounds (exterior_of part), output-here),
  )

  pub exterior-ring : front_answer_coords b b-origins m ≡ exterior_vertices bounds (exterior_of part)
  exterior-ring = rw (stands-front stands_here, origins-here)

  module _ (p r : RingCursor) (o o' : List ℕ) (put : PutRings (unless_none (exterior_vertices bounds (exterior_of part)) []) p o r o')
      (e : p.next ≡ to + 6) (z : p.rings ≡ 0) where
    pub holes_room : RingsRoom part.frame.now (part.at + 2 + 2 + 16 * count_of (drop (part.at + 2) part.frame.now)) (count_of (drop part.at part.frame.now) - 1) lent out r
    unfolding part_room total
    holes_room =
        let n = first_ring part.frame.now part.at part.within part.accepted in
        record {
          within = n.whole;
          accepted = n.later;
          working = working-later (exterior_of part) (holes_of part) lent (rw here at room.working);
          output = omega (
            arith,
            put.next_after,
            unless_bytes (exterior_vertices bounds (exterior_of part)),
            exterior-fits bounds (exterior_of part),
            output-here,
          );
        }

    pub holes_few : r.rings + (count_of (drop part.at part.frame.now) - 1) ≤ most_rings
    holes_few =
        let q = part-rings part.frame.now part.at part.within part.accepted
        in omega (arith, put.rings-after, unless_count (exterior_vertices bounds (exterior_of part)), q.some, q.few)

    -- the exterior and the holes are all rings of the cut
    pub all_put : (r' : RingCursor) (o'' : List ℕ) → PutRings (holes_vertices bounds (holes_of part)) r o' r' o''
        → PutRings (cut_vertices bounds (rings_of part)) p o r' o''
    all_put r' o'' g =
        let x = exterior_vertices bounds (exterior_of part) in
        let l = holes_vertices bounds (holes_of part) in
        let n = length-with (cut_exterior bounds (exterior_of part)) (exterior_origins bounds (exterior_of part)) in
        let c : cut_vertices bounds (rings_of part) ≡ unless_none x [] ++ l =
        rw here (rings_first bounds (exterior_of part) (holes_of part)
        ∙ unless_some x l (omega (arith, n, stands_here.count, stands.some))) in
        rw c (put_then (unless_none x []) l p r r' o o' o'' put g)

-- ---- the bytes of the part

module _ (index : ℕ) (b : TileBounds) (rings : List (List Coord)) where
  abbrev cut_head : List ℕ
  cut_head = count_bytes index ++ (4 ∷ 0 ∷ [])

  abbrev ring_count : List ℕ
  ring_count = count_bytes (length (cut_rings b rings))

  whole-bytes : part_bytes (cut_part index b rings) ≡ (cut_head ++ ring_count) ++ each (ring_bytes answer_coord_bytes) (cut_vertices b rings)
  unfolding part_bytes
  whole-bytes =
      sym (append_assoc cut_head ring_count (each (ring_bytes answer_coord_bytes) (cut_vertices b rings))
      ∙ append_assoc (count_bytes index) (4 ∷ 0 ∷ []) (ring_count ++ each (ring_bytes answer_coord_bytes) (cut_vertices b rings)))

  head-length : length (cut_head ++ ring_count) ≡ 6
  head-length =
      omega (
        arith,
        length-append cut_head ring_count,
        length-append (count_bytes index) (4 ∷ 0 ∷ []),
        length-count index,
        length-count (length (cut_rings b rings)),
      )

  part_bytes_lem : length (part_bytes (cut_part index b rings)) ≡ 6 + length (each (ring_bytes answer_coord_bytes) (cut_vertices b rings))
  part_bytes_lem =
      omega (
        arith,
        ap length whole-bytes,
        length-append (cut_head ++ ring_count) (each (ring_bytes answer_coord_bytes) (cut_vertices b rings)),
        head-length,
      )

  module _ (to : ℕ) (p r : RingCursor) (o o₁ : List ℕ) (put : PutRings (cut_vertices b rings) p o r o₁) (e : p.next ≡ to + 6) where
    pub part_length : r.next ≡ to + length (part_bytes (cut_part index b rings))
    part_length = omega (arith, put.next_after, part_bytes_lem)

    -- the rings first, then what stands before them
    pub part-written : (o₂ o₃ : List ℕ) → p.rings ≡ 0 → o₂ ≡ sets o₁ to cut_head → o₃ ≡ sets o₂ (to + 4) (count_bytes r.rings)
        → o₃ ≡ sets o to (part_bytes (cut_part index b rings))
    part-written o₂ o₃ z h₂ h₃ =
        let k : to + 4 ≡ to + length cut_head = omega (arith, length-append (count_bytes index) (4 ∷ 0 ∷ []), length-count index) in
        let n : r.rings ≡ length (cut_rings b rings) = omega (arith, put.rings-after, length-rings (cut_rings b rings) (cut_origins b rings))
        in
        let s : p.next ≡ to + length (cut_head ++ ring_count) = omega (arith, head-length) in
        h₃ ∙ rw (
          h₂,
          k,
          n,
          ← sets_append o₁ to cut_head ring_count,
          put.output,
          s,
          sets_before o to (cut_head ++ ring_count) (each (ring_bytes answer_coord_bytes) (cut_vertices b rings)),
          ← whole-bytes,
        )

-- ---- an overlay

-- a part that is read has an exterior
pub some-rings : (frame : List ℕ) (at : ℕ) → at ≤ length frame → Accepted (read_part (drop at frame)) → 0 < length (part_at frame at)
some-rings frame at h a = rw (part-here frame at h a) (omega arith)

-- so that the room of a part, without a coordinate, is that of its overlay
pub overlay-room : (rings : List (List Coord)) (out to : ℕ) → 0 < length rings → to + part_room answer_coord_size rings ≤ out → to + 8 ≤ out
unfolding part_room
overlay-room rings out to some h = omega (arith, h)

pub huge-in : (x : Reading (List (List Coord))) → huge_of x ≡ any_huge_ring (all_in x)
unfolding any_huge_ring
huge-in (refused r) = refl
huge-in (read rings rest) = refl

module _ (index : ℕ) (reason : Reason) where
  abbrev overlay_head : List ℕ
  overlay_head = count_bytes index ++ (5 ∷ (reason_detail reason).number ∷ [])

  abbrev first_bytes : List ℕ
  first_bytes = count_bytes (reason_detail reason).first

  abbrev second_bytes : List ℕ
  second_bytes = count_bytes (reason_detail reason).second

  overlay_bytes : part_bytes (uncut_part index (Polygon.overlay reason)) ≡ (overlay_head ++ first_bytes) ++ second_bytes
  unfolding part_bytes
  overlay_bytes =
      sym (ap (λ (l : List ℕ). l ++ second_bytes) (append_assoc (count_bytes index) (5 ∷ (reason_detail reason).number ∷ []) first_bytes)
      ∙ append_assoc (count_bytes index) (5 ∷ (reason_detail reason).number ∷ first_bytes) second_bytes)

  head-of_four : length overlay_head ≡ 4
  head-of_four = omega (arith, length-append (count_bytes index) (5 ∷ (reason_detail reason).number ∷ []), length-count index)

  pub overlay-length : length (part_bytes (uncut_part index (Polygon.overlay reason))) ≡ 8
  overlay-length =
      omega (
        arith,
        ap length overlay_bytes,
        length-append (overlay_head ++ first_bytes) second_bytes,
        length-append overlay_head first_bytes,
        head-of_four,
        length-count (reason_detail reason).first,
        length-count (reason_detail reason).second,
      )

  -- the head, and the two positions behind it
  pub overlay-written : (d : ReasonDetail) → d ≡ reason_detail reason → (to : ℕ) (o o₁ o₂ o₃ : List ℕ)
      → o₁ ≡ sets o to (count_bytes index ++ (5 ∷ d.number ∷ [])) → o₂ ≡ sets o₁ (to + 4) (count_bytes d.first)
      → o₃ ≡ sets o₂ (to + 4 + 2) (count_bytes d.second) → o₃ ≡ sets o to (part_bytes (uncut_part index (Polygon.overlay reason)))
  overlay-written d e to o o₁ o₂ o₃ h₁ h₂ h₃ =
      let k : to + 4 ≡ to + length overlay_head = omega (arith, head-of_four) in
      let l : to + 4 + 2 ≡ to + length (overlay_head ++ first_bytes) =
      omega (arith, head-of_four, length-append overlay_head first_bytes, length-count (reason_detail reason).first) in
      let w₁ : o₁ ≡ sets o to overlay_head = rw e at h₁ in
      let w₂ : o₂ ≡ sets o to (overlay_head ++ first_bytes) = (rw (e, w₁, k) at h₂) ∙ sym (sets_append o to overlay_head first_bytes) in
      (rw (e, w₂, l) at h₃) ∙ sym (sets_append o to (overlay_head ++ first_bytes) second_bytes) ∙ ap (sets o to) (sym overlay_bytes)

-- an overlay or a drop has no origins
pub overlay-part : (index : ℕ) (b : TileBounds) (rings : List (List Coord)) (reason : Reason)
    → part_of index b rings (overlay_or_dropped rings reason) ≡ uncut_part index (overlay_or_dropped rings reason)
unfolding overlay_or_dropped
overlay-part index b rings reason = go (any_huge_ring rings)
  where
    go : (t : Bool) → part_of index b rings (cond t Polygon.dropped (Polygon.overlay reason)) ≡ uncut_part index
        (cond t Polygon.dropped (Polygon.overlay reason))
    go true = refl
    go false = refl

-- ---- the room of a part's bytes

holes_bytes : (b : TileBounds) (rings : List (List Coord)) → length (each (ring_bytes answer_coord_bytes) (holes_vertices b rings))
    ≤ 2 * length rings + answer_coord_size * total ring_room rings
unfolding cut_holes rings_with_origins each total
holes_bytes b [] = omega arith
holes_bytes b (r ∷ rings) =
    let f = ring_bytes answer_coord_bytes in
    let c = hole_vertices b r in
    let l = holes_vertices b rings in
    omega (
      arith,
      ap (λ (x : List (List AnswerCoord)). length (each f x)) (holes_first b r rings ∙ unless_append c l),
      ap length (each_append f (unless_none c []) l),
      length-append (each f (unless_none c [])) (each f l),
      unless_bytes c,
      hole_fits b r,
      holes_bytes b rings,
    )

rings-bytes : (b : TileBounds) (rings : List (List Coord)) → length (each (ring_bytes answer_coord_bytes) (cut_vertices b rings))
    ≤ 2 * length rings + answer_coord_size * total ring_room rings
unfolding cut_rings rings_with_origins each total
rings-bytes b [] = omega arith
rings-bytes b (r ∷ rings) =
    let f = ring_bytes answer_coord_bytes in
    omega (
      arith,
      ap (λ (x : List (List AnswerCoord)). length (each f x)) (rings_first b r rings),
      length-append (f (exterior_vertices b r)) (each f (holes_vertices b rings)),
      length-ring (exterior_vertices b r),
      exterior-fits b r,
      holes_bytes b rings,
    )

-- what is not cut and wants no overlay has four bytes
four_bytes : (index : ℕ) (number reason : ℕ) → length (count_bytes index ++ (number ∷ reason ∷ [])) ≡ 4
four_bytes index number reason = omega (arith, length-append (count_bytes index) (number ∷ reason ∷ []), length-count index)

pub uncut_length : (part : Part) → part_end part.outcome part.origins ≡ [] → length (part_bytes part) ≡ 4
unfolding part_bytes
uncut_length part e = rw e (four_bytes part.index _ _)

-- of a part that has a ring, whatever becomes of it
module _ (index : ℕ) (b : TileBounds) (rings : List (List Coord)) (some : 0 < length rings) where
  pub bytes_fit : (route : Route) → length (part_bytes (routed_part index route b rings)) ≤ part_room answer_coord_size rings
  unfolding part_room overlay_or_dropped
  bytes_fit Routes.Nothing = omega (arith, uncut_length (routed_part index Routes.Nothing b rings) refl)
  bytes_fit Routes.Unchanged = omega (arith, uncut_length (routed_part index Routes.Unchanged b rings) refl)
  bytes_fit (Routes.Cut n) = omega (arith, part_bytes_lem index b rings, rings-bytes b rings)
  bytes_fit (Routes.Overlay reason) = go (any_huge_ring rings)
    where
      go : (t : Bool) → length (part_bytes (part_of index b rings (cond t Polygon.dropped (Polygon.overlay reason))))
          ≤ 6 + 2 * length rings + answer_coord_size * total ring_room rings
      go true = omega (arith, uncut_length (uncut_part index Polygon.dropped) refl)
      go false = omega (arith, overlay-length index reason)

-- ---- the exterior of a part, read into a slice

module _ (part : PartBytes) (lent : Lengths) (out to : ℕ) (room : PartRoom (rings_of part) lent out to) where
  part-is : rings_of part ≡ exterior_of part ∷ holes_of part
  part-is = part-here part.frame.now part.at part.within part.accepted

  exterior-is : exterior (rings_of part) ≡ exterior_of part
  exterior-is = ap exterior part-is

  part-working : Working (exterior_of part ∷ holes_of part) lent
  part-working = rw part-is at room.working

  pub exterior-whole : part.at + 2 + 2 + 16 * count_of (drop (part.at + 2) part.frame.now) ≤ length part.frame.now
  exterior-whole = (first_ring part.frame.now part.at part.within part.accepted).whole

  pub part-head : to + 4 ≤ out
  part-head =
      omega (arith, overlay-room (rings_of part) out to (some-rings part.frame.now part.at part.within part.accepted) room.output)

  abbrev exterior_count : ℕ
  exterior_count = count_of (drop (part.at + 2) part.frame.now)

  module _ (s : List Float) (e : length s ≡ lent.ring) where
    pub exterior-lent : 2 * count_of (drop (part.at + 2) part.frame.now) ≤ lent.ring
    exterior-lent =
        ring-lent (exterior_of part) (holes_of part) lent part-working exterior_count (drop (part.at + 2 + 2) part.frame.now) s refl e

    abbrev lent_coords : List Coord
    lent_coords =
        coords (take (2 * count_of (drop (part.at + 2) part.frame.now))
        (sets s 0 (flat (coords_of (count_of (drop (part.at + 2) part.frame.now)) (drop (part.at + 2 + 2) part.frame.now)))))

    pub exterior-origin-room : RingOriginRoom lent_coords lent.a-origins lent.b-origins
    exterior-origin-room =
        working-origins (exterior_of part) (holes_of part) lent part-working exterior_count (drop (part.at + 2 + 2) part.frame.now) s refl e

    pub exterior-room : (order : ℕ) → PositionsRoom (rings_of part) order → ExteriorRoom lent_coords lent.a lent.b order
    unfolding largest
    exterior-room order positions =
        record {
          room = working-ring (exterior_of part) (holes_of part) lent part-working exterior_count (drop (part.at + 2 + 2) part.frame.now) s refl e;
          positions =
              working-positions (exterior_of part) (holes_of part) lent part-working exterior_count (drop (part.at + 2 + 2) part.frame.now) s refl e
              order (rw part-is at positions);
        }

    -- read into a slice as n coordinates, the exterior stands at its front
    pub exterior-read : (n : ℕ) (s' : List Float) → n ≡ count_of (drop (part.at + 2) part.frame.now)
        → s' ≡ sets s 0 (flat (coords_of n (drop (part.at + 2 + 2) part.frame.now))) → exterior (rings_of part) ≡ close (coords (take (2 * n) s'))
    exterior-read n s' hn hs =
        exterior-is ∙ sym (ap close (ring-read-in part.frame.now (part.at + 2) n s s' hn hs (omega (arith, exterior-lent))))
