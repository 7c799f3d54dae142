-- The issue check of an exterior that is assumed to be simple: neighbours that repeat, and what that says of a part of a frame.
-- Assumes nothing.
use mathlib.Core.Path.{◌≡◌, refl, ◌∙◌, ap}
use mathlib.Core.Bool.{Bool, true, false, not, cond, ◌||◌}
use mathlib.Core.List.{List, [], ◌∷◌, ◌++◌}
use Prim.Native.Nat.{ℕ, ◌+◌, ◌<◌, ◌≤◌}
use native.Mathlib.Omega.{arith}
use lib.ListN.{length, get_or, drop, length-drop, get_or-append}
use Rattle.tile.specs.declared.Coord.{Coord}
use Rattle.tile.specs.Ring.{closed, close}
use Rattle.tile.specs.Internal.{nowhere}
use Rattle.tile.proofs.Rings.{close-most}
use Rattle.box_pairs.specs.Cross.{degenerate}
use Rattle.box_pairs.specs.Internal.{repeated}
use Rattle.box_pairs.specs.Issue.{issue_of, has_issue}
use Rattle.box_pairs.proofs.Offered.{repeated-few, repeated-from, simple_short, simple_long}
use Rattle.rings.specs.LentRings.{exterior}
use Rattle.frame_bytes.specs.Frame.{Reading, refused, read, read_part}
use Rattle.frame_bytes.specs.Internal.{Accepted, all_in, part_at, sound_if_simple}
use Rattle.frame_bytes.proofs.PartRings.{exterior_at, part-here}

-- closing puts a coordinate behind the others
close_at : (c : List Coord) (k : ℕ) → k < length c → get_or (close c) k nowhere ≡ get_or c k nowhere
unfolding close
close_at [] k h = absurd (omega arith)
close_at (p ∷ c) k h = go (closed (p ∷ c))
  where
    go : (t : Bool) → get_or (cond t (p ∷ c) ((p ∷ c) ++ (p ∷ []))) k nowhere ≡ get_or (p ∷ c) k nowhere
    go true = refl
    go false = get_or-append (p ∷ c) (p ∷ []) nowhere k h

pub repeated-next : (c : List Coord) (k : ℕ) → k + 2 < length (close c) → repeated (drop k (close c)) ≡ degenerate (get_or c k nowhere)
    (get_or c (k + 1) nowhere) || repeated (drop (k + 1) (close c))
repeated-next c k h =
    let m = close-most c in
    repeated-from (close c) k nowhere h ∙ rw (close_at c k (omega arith), close_at c (k + 1) (omega arith))

pub repeated_end : (c : List Coord) (k : ℕ) → length (close c) ≤ k + 2 → repeated (drop k (close c)) ≡ false
repeated_end c k h = repeated-few (drop k (close c)) (omega (arith, length-drop k (close c)))

-- ---- an exterior that is assumed to be simple

sound_read : (x : Reading (List (List Coord))) → Accepted x → sound_if_simple x ≡ not (has_issue (issue_of true (exterior (all_in x))))
sound_read (refused r) e = absurd (let z : ◌≡◌ {A = ℕ} 0 1 = cc in omega arith)
sound_read (read rings rest) e = refl

module _ (frame : List ℕ) (at : ℕ) (a : Accepted (read_part (drop at frame))) where
  pub sound_part : sound_if_simple (read_part (drop at frame)) ≡ not (has_issue (issue_of true (exterior (part_at frame at))))
  sound_part = sound_read (read_part (drop at frame)) a

  module _ (h : at ≤ length frame) where
    sound_exterior : sound_if_simple (read_part (drop at frame)) ≡ not (has_issue (issue_of true (exterior_at frame at)))
    sound_exterior =
        sound_part ∙ ap (λ (rings : List (List Coord)). not (has_issue (issue_of true (exterior rings)))) (part-here frame at h a)

    pub sound_short : length (exterior_at frame at) < 4 → sound_if_simple (read_part (drop at frame)) ≡ false
    sound_short s = sound_exterior ∙ ap not (simple_short (exterior_at frame at) s)

    pub sound_long : 4 ≤ length (exterior_at frame at) → sound_if_simple (read_part (drop at frame)) ≡ not (repeated (exterior_at frame at))
    sound_long s = sound_exterior ∙ ap not (simple_long (exterior_at frame at) s)
