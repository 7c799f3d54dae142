-- The walk over a frame by positions: what the tests on lengths and counts make of a reading, and how the walk steps over many things.
-- Assumes nothing.
use mathlib.Core.Path.{◌≡◌, refl, sym, ◌∙◌, ap}
use mathlib.Core.Bool.{true, false, cond}
use mathlib.Core.List.{List, [], ◌∷◌}
use Prim.Native.Nat.{ℕ, zero, suc, ◌+◌, ◌*◌, ◌-◌, ◌<◌, ◌≤◌}
use native.Mathlib.Omega.{arith}
use lib.Dec.{ltb}
use lib.ListN.{length, drop, length-drop}
use lib.Seq.{drop-drop}
use borrow.Author.Tests.{ltb-false, lt-ltb, le-ltb}
use Rattle.std.specs.Prelude.{Result, Ok, Err, ⊤}
use Rattle.binary64.proofs.Booleans.{neither}
use Rattle.tile.specs.declared.Coord.{Coord}
use Rattle.tile.specs.Ring.{close}
use Rattle.frame_bytes.specs.declared.head.Head.{Head}
use Rattle.frame_bytes.specs.declared.reader.FrameRefusal.{FrameRefusal}
use Rattle.frame_bytes.specs.declared.reader.FrameRefusal.TheVariants.{Truncated, RingCount, CoordinateCount, Trailing}
use Rattle.frame_bytes.specs.Frame.{Reading, refused, read, refused_if, and_then, read_many, count_of, coords_of, read_count, read_coords}
use Rattle.frame_bytes.specs.Frame.{read_ring, read_part, wrong_ring_count, most_in_ring, read_parts, Frame, head_bytes, longest}
use Rattle.frame_bytes.specs.Frame.{most_flags, kind_of, flags_byte, part_count_of, head_of, wrong_size, wrong_kind, wrong_part_count}
use Rattle.frame_bytes.specs.Frame.{read_frame}
use Rattle.frame_bytes.specs.Internal.{check_of, walked, Passes, Passable}
use Rattle.frame_bytes.proofs.Readings.{Reads, place, part_reads}

-- ---- at the front

module _ (l : List ℕ) where
  no-count : length l < 2 → read_count l ≡ refused Truncated
  unfolding read_count
  no-count h = rw (lt-ltb (length l) 2 h)

  a-count : 2 ≤ length l → read_count l ≡ read (count_of l) (drop 2 l)
  unfolding read_count
  a-count h = rw (le-ltb (length l) 2 h)

  pub ring_without_count : length l < 2 → read_ring l ≡ refused Truncated
  unfolding read_ring
  ring_without_count h = rw (no-count h)

  pub ring_too_long : 2 ≤ length l → most_in_ring < count_of l → read_ring l ≡ refused CoordinateCount
  unfolding read_ring
  ring_too_long h m = rw (a-count h, lt-ltb most_in_ring (count_of l) m)

  pub ring_truncated : 2 ≤ length l → count_of l ≤ most_in_ring → length l < 2 + 16 * count_of l → read_ring l ≡ refused Truncated
  unfolding read_ring read_coords
  ring_truncated h m s =
      let t : length (drop 2 l) < 16 * count_of l = omega (arith, length-drop 2 l) in
      rw (a-count h, le-ltb most_in_ring (count_of l) m, lt-ltb (length (drop 2 l)) (16 * count_of l) t)

  pub ring-whole : count_of l ≤ most_in_ring → 2 + 16 * count_of l ≤ length l → read_ring l ≡ read (close (coords_of (count_of l) (drop 2 l)))
      (drop (2 + 16 * count_of l) l)
  unfolding read_ring read_coords
  ring-whole m s =
      let t : 16 * count_of l ≤ length (drop 2 l) = omega (arith, length-drop 2 l) in
      rw (
        a-count (omega arith),
        le-ltb most_in_ring (count_of l) m,
        le-ltb (length (drop 2 l)) (16 * count_of l) t,
        drop-drop
            (16 * count_of l) 2 l,
      )

  pub part_without_count : length l < 2 → read_part l ≡ refused Truncated
  unfolding read_part
  part_without_count h = rw (no-count h)

  pub part-refused : 2 ≤ length l → wrong_ring_count (count_of l) ≡ true → read_part l ≡ refused RingCount
  unfolding read_part
  part-refused h w = rw (a-count h, w)

  pub part-whole : 2 ≤ length l → wrong_ring_count (count_of l) ≡ false → read_part l ≡ read_many read_ring (count_of l) (drop 2 l)
  unfolding read_part
  part-whole h w = rw (a-count h, w)

-- ---- the walk over many

module _ {A : Type 0} (f : List ℕ → Reading A) where
  pub many_stops : (size k : ℕ) (l : List ℕ) (r : FrameRefusal) → 0 < k → walked size (f l) ≡ Err r
      → walked size (read_many f k l) ≡ Err r
  unfolding read_many
  many_stops size zero l r h e = absurd (omega arith)
  many_stops size (suc k) l r h e = go (f l) e
    where
      go : (x : Reading A) → walked size x ≡ Err r
          → walked size (and_then x (λ a rest. and_then (read_many f k rest) (λ others. read (a ∷ others)))) ≡ Err r
      go (refused s) e = e
      go (read a rest) e = absurd (let z : ◌≡◌ {A = ℕ} 0 1 = cc in omega arith)

  walk_others : (size : ℕ) (a : A) (x : Reading (List A)) → walked size (and_then x (λ others. read (a ∷ others))) ≡ walked size x
  walk_others size a (refused r) = refl
  walk_others size a (read others rest) = refl

  pub many_next : Reads f → (frame : List ℕ) (at k next : ℕ) → at ≤ length frame → 0 < k → walked (length frame) (f (drop at frame))
      ≡ Ok next
      → (next ≤ length frame) × (walked (length frame) (read_many f k (drop at frame)) ≡ walked (length frame)
      (read_many f (k - 1) (drop next frame)))
  unfolding read_many
  many_next reads frame at zero next h pos e = absurd (omega arith)
  many_next reads frame at (suc k) next h pos e = go (f (drop at frame)) refl e
    where
      go : (x : Reading A) → f (drop at frame) ≡ x → walked (length frame) x ≡ Ok next
          → (next ≤ length frame) × (walked (length frame) (read_many f (suc k) (drop at frame)) ≡ walked (length frame)
          (read_many f (suc k - 1) (drop next frame)))
      go (refused r) q e = absurd (let z : ◌≡◌ {A = ℕ} 0 1 = cc in omega arith)
      go (read a rest) q e =
          let p = place frame at rest h (reads (drop at frame) a rest q) in
          let n : length frame - length rest ≡ next = cc in
          let m : suc k - 1 ≡ k = omega arith in
          (rw (← n) p.within, rw (q, m, ← n, ← p.here) (walk_others (length frame) a (read_many f k rest)))

  pub many_end : (frame : List ℕ) (at k : ℕ) → at ≤ length frame → k ≤ 0 → walked (length frame) (read_many f k (drop at frame)) ≡ Ok at
  unfolding read_many
  many_end frame at zero h e = ap Ok (omega (arith, length-drop at frame))
  many_end frame at (suc k) h e = absurd (omega arith)

-- ---- steps from one to the next

module _ (May : ℕ → Type 0) (Step : ℕ → Result ℕ FrameRefusal → Type 0) where
  pub step_may : (k at : ℕ) → 0 < k → Passable May Step k at → May at
  unfolding Passable
  step_may zero at h p = absurd (omega arith)
  step_may (suc k) at h p = p.0

  pub steps_may : (k at next : ℕ) → 0 < k → Passable May Step k at → Step at (Ok next) → Passable May Step (k - 1) next
  unfolding Passable
  steps_may zero at next h p s = absurd (omega arith)
  steps_may (suc k) at next h p s = let m : suc k - 1 ≡ k = omega arith in rw m (p.1 next s)

module _ (Step : ℕ → Result ℕ FrameRefusal → Type 0) where
  pub steps_on : (k at next : ℕ) (r : Result ℕ FrameRefusal) → 0 < k → Step at (Ok next) → Passes Step (k - 1) next r → Passes Step k at r
  unfolding Passes
  steps_on zero at next r h s p = absurd (omega arith)
  steps_on (suc k) at next r h s p = let m : suc k - 1 ≡ k = omega arith in (Ok next, s, rw (← m) p)

  pub steps_stop : (k at : ℕ) (r : FrameRefusal) → 0 < k → Step at (Err r) → Passes Step k at (Err r)
  unfolding Passes
  steps_stop zero at r h s = absurd (omega arith)
  steps_stop (suc k) at r h s = (Err r, s, refl)

  pub steps_end : (k at : ℕ) → k ≤ 0 → Passes Step k at (Ok at)
  unfolding Passes
  steps_end zero at h = refl
  steps_end (suc k) at h = absurd (omega arith)

-- steps that each pass over what a reader reads walk over as many of these
module _ {A : Type 0} (f : List ℕ → Reading A) (reads : Reads f) (frame : List ℕ) (Step : ℕ → Result ℕ FrameRefusal → Type 0)
    (step : (at : ℕ) (r : Result ℕ FrameRefusal) → at ≤ length frame → Step at r → r ≡ walked (length frame) (f (drop at frame))) where
  pub steps_passable : (May : ℕ → Type 0) → ((at : ℕ) → at ≤ length frame → May at) → (k at : ℕ) → at ≤ length frame → Passable May Step k at
  unfolding Passable
  steps_passable May may zero at h = tt
  steps_passable May may (suc k) at h =
      (may at h, λ next s. steps_passable May may k next (many_next f reads frame at 1 next h (omega arith) (sym (step at (Ok next) h s))).0)

  pub steps_walked : (k at : ℕ) (r : Result ℕ FrameRefusal) → at ≤ length frame → Passes Step k at r
      → r ≡ walked (length frame) (read_many f k (drop at frame))
  unfolding Passes
  steps_walked zero at r h p = p ∙ sym (many_end f frame at 0 h (omega arith))
  steps_walked (suc k) at r h (Ok next, s, p) =
      let n = many_next f reads frame at (suc k) next h (omega arith) (sym (step at (Ok next) h s)) in
      let m : suc k - 1 ≡ k = omega arith in
      steps_walked k next r n.0 p ∙ sym (rw m at n.1)
  steps_walked (suc k) at r h (Err e, s, p) =
      p ∙ sym (many_stops f (length frame) (suc k) (drop at frame) e (omega arith) (sym (step at (Err e) h s)))

-- ---- the parts, and what follows them

-- what a walk over all parts says of a frame of so many bytes
abbrev pub ended : ℕ → Result ℕ FrameRefusal → Result ⊤ FrameRefusal
ended size (Err r) = Err r
ended size (Ok end) = cond (ltb end size) (Err Trailing) (Ok tt)

pub parts-ended : (size k : ℕ) (l : List ℕ) → 0 < size → check_of (read_parts k l) ≡ ended size (walked size (read_many read_part k l))
unfolding read_parts
parts-ended size k l some = go (read_many read_part k l)
  where
    go : (x : Reading (List (List (List Coord)))) → check_of
        (and_then x (λ parts rest. refused_if (ltb 0 (length rest)) Trailing (read parts rest))) ≡ ended size (walked size x)
    go (refused r) = refl
    go (read parts []) = rw (le-ltb (size - 0) size (omega arith))
    go (read parts (b ∷ rest)) = rw (lt-ltb 0 (length (b ∷ rest)) (omega arith), lt-ltb (size - length (b ∷ rest)) size (omega arith))

-- steps that each pass over a part tell the same
pub parts_passed : (frame : List ℕ) (Step : ℕ → Result ℕ FrameRefusal → Type 0)
    → ((at : ℕ) (r : Result ℕ FrameRefusal) → at ≤ length frame → Step at r → r ≡ walked (length frame) (read_part (drop at frame)))
    → (k : ℕ) → head_bytes ≤ length frame → (r : Result ℕ FrameRefusal) → Passes Step k head_bytes r
    → ended (length frame) r ≡ check_of (read_parts k (drop head_bytes frame))
parts_passed frame Step step k h r p =
    rw (steps_walked read_part part_reads frame Step step k head_bytes r h p)
    (sym (parts-ended (length frame) k (drop head_bytes frame) (omega arith)))

-- a frame with a right head is refused where its parts are
check_with : (head : Head) (x : Reading (List (List (List Coord))))
    → check_of {A = Frame} (and_then x (λ parts. read (record { head = head; parts = parts }))) ≡ check_of x
check_with head (refused r) = refl
check_with head (read parts rest) = refl

pub check_parts : (l : List ℕ) → wrong_size (length l) ≡ false → wrong_kind (kind_of l) ≡ false → ltb most_flags (flags_byte l) ≡ false
    → wrong_part_count (kind_of l) (part_count_of l) ≡ false
    → check_of (read_frame l) ≡ check_of (read_parts (part_count_of l) (drop head_bytes l))
unfolding read_frame
check_parts l size kind flags parts = rw (size, kind, flags, parts) (check_with (head_of l) (read_parts (part_count_of l) (drop head_bytes l)))

-- a frame of a right size has a head
pub head-fits : (size : ℕ) → wrong_size size ≡ false → head_bytes ≤ size
head-fits size e = ltb-false size head_bytes (neither (ltb size head_bytes) (ltb longest size) e).0
