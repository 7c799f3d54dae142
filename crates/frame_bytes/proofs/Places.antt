-- What is read at a place of a frame, and where the next thing starts: for loops that step over an accepted frame. Assumes nothing.
use mathlib.Core.Path.{◌≡◌, ◌∙◌}
use mathlib.Core.List.{List, [], ◌∷◌}
use Prim.Native.Nat.{ℕ, zero, suc, ◌+◌, ◌*◌, ◌-◌, ◌<◌, ◌≤◌}
use native.Mathlib.Omega.{arith}
use lib.ListN.{length, drop, length-drop}
use lib.Seq.{drop-drop}
use Rattle.tile.specs.declared.Coord.{Coord}
use Rattle.tile.specs.Ring.{close}
use Rattle.rings.specs.LentRings.{most_rings}
use Rattle.frame_bytes.specs.Frame.{Reading, read, read_many, count_of, coords_of, read_ring, read_part, most_in_ring}
use Rattle.frame_bytes.proofs.Readings.{Reads, place, many_first, ring-read, part-read}

-- ---- the first of many, and the others from the next place on

pub record Step {A : Type 0} (f : List ℕ → Reading A) (frame : List ℕ) (at k : ℕ) (all : List A) (rest : List ℕ) : Type 0 where
  pub value : A
  pub others : List A
  pub next : ℕ
  pub forward : at ≤ next
  pub within : next ≤ length frame
  pub first : f (drop at frame) ≡ read value (drop next frame)
  pub later : read_many f (k - 1) (drop next frame) ≡ read others rest
  pub whole : all ≡ value ∷ others

pub step : {A : Type 0} (f : List ℕ → Reading A) → Reads f → (frame : List ℕ) (at k : ℕ) (all : List A) (rest : List ℕ)
    → at ≤ length frame → 0 < k
    → read_many f k (drop at frame) ≡ read all rest → Step f frame at k all rest
step f reads frame at zero all rest h pos e = absurd (omega arith)
step f reads frame at (suc k) all rest h pos e =
    let p = many_first f k (drop at frame) all rest e in
    let q = place frame at p.between h (reads (drop at frame) p.value p.between p.first) in
    let m : suc k - 1 ≡ k = omega arith in
    record {
      value = p.value;
      others = p.others;
      next = length frame - length p.between;
      forward = q.forward;
      within = q.within;
      first = rw (← q.here) p.first;
      later = rw (m, ← q.here) p.later;
      whole = p.whole;
    }

-- none is left
pub no_more : {A : Type 0} (f : List ℕ → Reading A) (k : ℕ) (l : List ℕ) (all : List A) (rest : List ℕ) → k ≤ 0
    → read_many f k l ≡ read all rest → (all ≡ []) × (rest ≡ l)
unfolding read_many
no_more f zero l all rest h e = (cc, cc)
no_more f (suc k) l all rest h e = absurd (omega arith)

-- ---- a ring and a part

pub record RingAt (frame : List ℕ) (at : ℕ) (ring : List Coord) (rest : List ℕ) : Type 0 where
  pub whole : at + 2 + 16 * count_of (drop at frame) ≤ length frame
  pub few : count_of (drop at frame) ≤ most_in_ring
  pub coordinates : ring ≡ close (coords_of (count_of (drop at frame)) (drop (at + 2) frame))
  pub follows : rest ≡ drop (at + 2 + 16 * count_of (drop at frame)) frame

pub ring-at : (frame : List ℕ) (at : ℕ) (ring : List Coord) (rest : List ℕ) → at ≤ length frame → read_ring (drop at frame) ≡ read ring
    rest → RingAt frame at ring rest
ring-at frame at ring rest h e =
    let p = ring-read (drop at frame) ring rest e in
    let w = p.whole in
    let s : at + 2 + 16 * count_of (drop at frame) ≡ at + (2 + 16 * count_of (drop at frame)) = omega arith in
    record {
      whole = omega (arith, length-drop at frame);
      few = p.few;
      coordinates = p.coordinates ∙ rw (drop-drop 2 at frame);
      follows = p.follows ∙ rw s (drop-drop (2 + 16 * count_of (drop at frame)) at frame);
    }

pub record PartAt (frame : List ℕ) (at : ℕ) (part : List (List Coord)) (rest : List ℕ) : Type 0 where
  pub whole : at + 2 ≤ length frame
  pub some : 0 < count_of (drop at frame)
  pub few : count_of (drop at frame) ≤ most_rings
  pub rings : read_many read_ring (count_of (drop at frame)) (drop (at + 2) frame) ≡ read part rest

pub part-at : (frame : List ℕ) (at : ℕ) (part : List (List Coord)) (rest : List ℕ) → at ≤ length frame → read_part (drop at frame) ≡ read
    part rest → PartAt frame at part rest
part-at frame at part rest h e =
    let p = part-read (drop at frame) part rest e in
    let w = p.whole in
    record {
      whole = omega (arith, length-drop at frame);
      some = p.some;
      few = p.few;
      rings = rw (drop-drop 2 at frame) at p.rings;
    }
