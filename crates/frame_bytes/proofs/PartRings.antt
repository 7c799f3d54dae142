-- The rings of a part that stands at a place of a frame: the next of so many, and the exterior before the holes. Assumes nothing.
use mathlib.Core.Path.{◌≡◌, sym, ◌∙◌, ap}
use mathlib.Core.List.{List, ◌∷◌}
use Prim.Native.Nat.{ℕ, ◌+◌, ◌*◌, ◌-◌, ◌<◌, ◌≤◌}
use lib.ListN.{length, drop}
use Rattle.tile.specs.declared.Coord.{Coord}
use Rattle.tile.specs.Ring.{close}
use Rattle.rings.specs.LentRings.{most_rings}
use Rattle.frame_bytes.specs.Frame.{read, count_of, coords_of, read_ring, read_many, read_part}
use Rattle.frame_bytes.specs.Internal.{Accepted, all_in, part_at, rings_from}
use Rattle.frame_bytes.proofs.Readings.{taken, ring_reads}
use Rattle.frame_bytes.proofs.Places.{step, ring-at, part-at}

-- ---- the next of so many rings

pub record NextRing (frame : List ℕ) (at k : ℕ) : Type 0 where
  pub whole : at + 2 + 16 * count_of (drop at frame) ≤ length frame
  pub here : rings_from frame at k ≡ close (coords_of (count_of (drop at frame)) (drop (at + 2) frame)) ∷ rings_from frame
      (at + 2 + 16 * count_of (drop at frame)) (k - 1)
  pub later : Accepted (read_many read_ring (k - 1) (drop (at + 2 + 16 * count_of (drop at frame)) frame))

pub next_ring : (frame : List ℕ) (at k : ℕ) → at ≤ length frame → 0 < k → Accepted (read_many read_ring k (drop at frame))
    → NextRing frame at k
next_ring frame at k h pos a = let t = taken (read_many read_ring k (drop at frame)) a in go t.value t.rest t.is
  where
    go : (all : List (List Coord)) (rest : List ℕ) → read_many read_ring k (drop at frame) ≡ read all rest → NextRing frame at k
    go all rest e =
        let s = step read_ring ring_reads frame at k all rest h pos e in
        let r = ring-at frame at s.value (drop s.next frame) h s.first in
        let n : read_many read_ring (k - 1) (drop (at + 2 + 16 * count_of (drop at frame)) frame) ≡ read s.others rest =
        rw (← r.follows) s.later in
        record {
          whole = r.whole;
          here = ap all_in e ∙ s.whole ∙ rw (r.coordinates, n);
          later = rw n;
        }

-- ---- the rings of a part

pub record PartRings (frame : List ℕ) (at : ℕ) : Type 0 where
  pub whole : at + 2 ≤ length frame
  pub some : 0 < count_of (drop at frame)
  pub few : count_of (drop at frame) ≤ most_rings
  pub accepted : Accepted (read_many read_ring (count_of (drop at frame)) (drop (at + 2) frame))
  pub same : part_at frame at ≡ rings_from frame (at + 2) (count_of (drop at frame))

pub part-rings : (frame : List ℕ) (at : ℕ) → at ≤ length frame → Accepted (read_part (drop at frame)) → PartRings frame at
part-rings frame at h a = let t = taken (read_part (drop at frame)) a in go t.value t.rest t.is
  where
    go : (part : List (List Coord)) (rest : List ℕ) → read_part (drop at frame) ≡ read part rest → PartRings frame at
    go part rest e =
        let p = part-at frame at part rest h e in
        let r = p.rings in
        record { whole = p.whole; some = p.some; few = p.few; accepted = rw r; same = ap all_in e ∙ sym (ap all_in r) }

-- the exterior, as it stands in the frame
abbrev pub exterior_at : List ℕ → ℕ → List Coord
exterior_at frame at = close (coords_of (count_of (drop (at + 2) frame)) (drop (at + 2 + 2) frame))

abbrev pub holes_at : List ℕ → ℕ → List (List Coord)
holes_at frame at = rings_from frame (at + 2 + 2 + 16 * count_of (drop (at + 2) frame)) (count_of (drop at frame) - 1)

module _ (frame : List ℕ) (at : ℕ) (h : at ≤ length frame) (a : Accepted (read_part (drop at frame))) where
  pub first_ring : NextRing frame (at + 2) (count_of (drop at frame))
  first_ring = let p = part-rings frame at h a in next_ring frame (at + 2) (count_of (drop at frame)) p.whole p.some p.accepted

  pub part-here : part_at frame at ≡ exterior_at frame at ∷ holes_at frame at
  part-here = (part-rings frame at h a).same ∙ first_ring.here
