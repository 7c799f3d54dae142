-- No cut outgrows its room: each pass has at most half as many vertices again as its ring. And laws of B, the room of a ring. Assumes
-- nothing.
use mathlib.Core.Path.{◌≡◌, refl}
use mathlib.Core.Bool.{Bool, true, false, cond}
use mathlib.Core.List.{List, []}
use Prim.Native.Nat.{ℕ, zero, suc, ◌+◌, ◌*◌, ◌≤◌, ◌<◌, zero-le}
use native.Mathlib.Nat.{le_refl, le_trans}
use native.Mathlib.Omega.{arith}
use lib.Dec.{leb}
use lib.ListN.{length}
use Rattle.tile.specs.declared.Coord.{Coord}
use Rattle.tile.specs.declared.TileBounds.{TileBounds}
use Rattle.tile.specs.declared.Edge.TheVariants.{Left, Right, Bottom, Top}
use Rattle.tile.specs.Ring.{close}
use Rattle.tile.proofs.Rings.{close-most}
use Rattle.edge_pass.specs.Growth.{half_growth}
use Rattle.edge_pass.proofs.PassGrowth.{half_growth_mono, le-half_growth, pass_grows}
use Rattle.sutherland_hodgman.specs.Clip.{passes, finish, clip_ring}
use Rattle.sutherland_hodgman.specs.Growth.{four_half_growths, B, most_coordinates}

-- ---- four passes, and the closing

pub passes_grow : (b : TileBounds) (r : List Coord) → length (passes b r) ≤ four_half_growths (length r)
unfolding passes four_half_growths
passes_grow b r =
    le_trans (pass_grows Top b _) (half_growth_mono
    (le_trans (pass_grows Bottom b _) (half_growth_mono (le_trans (pass_grows Right b _) (half_growth_mono (pass_grows Left b r))))))

finish_grows : (r : List Coord) → length (finish r) ≤ suc (length r)
unfolding finish
finish_grows r = go (leb 3 (length r))
  where
    go : (three : Bool) → length (cond three (close r) []) ≤ suc (length r)
    go true = omega (arith, close-most r)
    go false = zero-le

pub clip_ring_grows : (b : TileBounds) (r : List Coord) → length (clip_ring b r) ≤ suc (four_half_growths (length r))
unfolding clip_ring
clip_ring_grows b r = omega (arith, finish_grows (passes b r), passes_grow b r)

-- ---- the room that B gives

pub B-positive : (n : ℕ) → (n ≡ 0 → ⊥) → B n ≡ four_half_growths n + 2
unfolding B
B-positive zero h = absurd (h refl)
B-positive (suc n) h = refl

pub B-le : (n : ℕ) → n ≤ most_coordinates → B n ≤ 8 * most_coordinates
unfolding B four_half_growths half_growth
B-le zero h = omega arith
B-le (suc n) h = omega arith

pub le_four : (n : ℕ) → n ≤ four_half_growths n
unfolding four_half_growths
le_four n = le_trans (le-half_growth n) (le_trans (le-half_growth _) (le_trans (le-half_growth _) (le-half_growth _)))

-- how many vertices j passes can make of n
unfoldable pub grown : ℕ → ℕ → ℕ
grown zero n = n
grown (suc j) n = half_growth (grown j n)

pub grown_four : (j n : ℕ) → j ≤ 4 → grown j n ≤ four_half_growths n
unfolding grown four_half_growths
grown_four zero n h = le_four n
grown_four (suc zero) n h = le_trans (le-half_growth _) (le_trans (le-half_growth _) (le-half_growth _))
grown_four (suc (suc zero)) n h = le_trans (le-half_growth _) (le-half_growth _)
grown_four (suc (suc (suc zero))) n h = le-half_growth _
grown_four (suc (suc (suc (suc zero)))) n h = le_refl _
grown_four (suc (suc (suc (suc (suc j))))) n h = absurd (omega arith)

pub room-pass : (n space k : ℕ) → 2 * B n ≤ space → k ≤ four_half_growths n → 2 * k ≤ space
unfolding B four_half_growths half_growth
room-pass zero space k h l = omega arith
room-pass (suc n) space k h l = omega arith

-- one vertex more
pub room_more : (n space k : ℕ) → 2 * B n ≤ space → k ≤ four_half_growths n → 0 < n → 2 * k + 2 ≤ space
unfolding B four_half_growths half_growth
room_more zero space k h l t = absurd (omega arith)
room_more (suc n) space k h l t = omega arith

pub grown_some : (n k : ℕ) → k ≤ grown 3 n → 0 < k → 0 < n
unfolding grown half_growth
grown_some zero k h t = absurd (omega arith)
grown_some (suc n) k h t = omega arith
