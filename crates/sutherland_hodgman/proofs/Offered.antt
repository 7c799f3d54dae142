-- Laws that this crate offers to those above it beside its contracts. By these they know the cut of a ring, and the room that it takes;
-- they unfold neither. Assumes nothing.
use mathlib.Core.Path.{◌≡◌, refl, ◌∙◌}
use mathlib.Core.Bool.{true}
use mathlib.Core.List.{List, [], ◌∷◌}
use Prim.Native.Nat.{ℕ, zero, suc, ◌+◌, ◌*◌, ◌/◌, ◌<◌, ◌≤◌}
use native.Mathlib.Omega.{arith}
use lib.Dec.{T}
use lib.Ieee.{Float, nan, binary64, fits}
use lib.ListN.{length, get_or, take}
use Rattle.std.proofs.lemmas.List.{take_all}
use Rattle.binary64.specs.Lists.{Every}
use Rattle.tile.specs.declared.Coord.{Coord}
use Rattle.tile.specs.declared.TileBounds.{TileBounds}
use Rattle.tile.specs.declared.Edge.{Edge}
use Rattle.tile.specs.declared.Edge.TheVariants.{Top}
use Rattle.tile.specs.Ring.{coords, closed, close}
use Rattle.tile.specs.Internal.{Stands}
use Rattle.tile.proofs.Rings.{length_front, coords-take, count-coords}
use Rattle.cutting_lines.specs.CuttingLines.{fixed, bound}
use Rattle.edge_pass.specs.Pass.{leave_off, around, pass}
use Rattle.edge_pass.specs.Growth.{half_growth}
use Rattle.edge_pass.specs.Origins.{line_origin}
use Rattle.edge_pass.proofs.LeavingOff.{leave_off-close}
use Rattle.edge_pass.proofs.PassGrowth as pass-growth
use Rattle.sutherland_hodgman.specs.Clip.{passes, finish, clip_ring}
use Rattle.sutherland_hodgman.specs.Growth.{four_half_growths, B, most_coordinates}
use Rattle.sutherland_hodgman.specs.Origins.{IsPosition, close_origins, clip_origins, Traced, Rises}
use Rattle.sutherland_hodgman.specs.Internal.{Fits16, CutterRoom, OriginRoom, three_passes, three_passes_origins, top_origins, RingCut}
use Rattle.sutherland_hodgman.proofs.GrowthLaws as growth
use Rattle.sutherland_hodgman.proofs.LastPass.{last-pass-cut}
use Rattle.sutherland_hodgman.proofs.OriginLaws as laws
use Rattle.sutherland_hodgman.proofs.OriginStages.{origins-last, origins-cut}
use Rattle.cutting_lines.proofs.CrossingLaws.{FittingBounds}
use Rattle.sutherland_hodgman.proofs.Promises.{fitting_front}
use Rattle.sutherland_hodgman.proofs.Stages.{stage_three, stage_last}

-- ---- the room of a ring

-- a ring has room for itself
pub le-B : (n : ℕ) → n ≤ B n
unfolding B
le-B zero = omega arith
le-B (suc n) = omega (arith, growth.le_four (suc n))

-- a longer ring has as much room or more
pub B-mono : (m n : ℕ) → m ≤ n → B m ≤ B n
unfolding B four_half_growths
B-mono zero n h = omega arith
B-mono (suc m) zero h = absurd (omega arith)
B-mono (suc m) (suc n) h =
    let two = pass-growth.half_growth_mono (pass-growth.half_growth_mono h) in
    omega (arith, pass-growth.half_growth_mono (pass-growth.half_growth_mono two))

-- the room of n coordinates is at most 81/16 n, which is (3/2)^4 n, and 2
pub B-at-most : (n : ℕ) → 16 * B n ≤ 81 * n + 32
unfolding B four_half_growths
B-at-most zero = omega arith
B-at-most (suc n) =
    let a = half_growth (suc n) in
    let b = half_growth a in
    let c = half_growth b in
    omega (arith, pass-growth.half_growth-le (suc n), pass-growth.half_growth-le a, pass-growth.half_growth-le b, pass-growth.half_growth-le c)

-- half as many again is at most 3/2 n
pub half_growth-le : (n : ℕ) → 2 * half_growth n ≤ 3 * n
half_growth-le = pass-growth.half_growth-le

-- no vertices take no room
pub B-none : B 0 ≡ 0
unfolding B
B-none = refl

-- n vertices and one that closes them take at most 6 n + 5, which is reached where n is 1
pub B-closed : (n : ℕ) → 0 < n → B (n + 1) ≤ 6 * n + 5
unfolding B four_half_growths half_growth
B-closed zero h = absurd (omega arith)
B-closed (suc zero) h = omega arith
B-closed (suc (suc zero)) h = omega arith
B-closed (suc (suc (suc n))) h =
    let m : suc (suc (suc n)) + 1 ≡ suc (suc (suc (suc n))) = omega arith in
    rw m (omega (arith, B-at-most (suc (suc (suc (suc n))))))

-- the room of a ring of at most 65,532 coordinates is under 2^19, so that sums of such rooms stay in a usize
pub B-le : (n : ℕ) → n ≤ most_coordinates → B n ≤ 8 * most_coordinates
B-le = growth.B-le

-- the room of the longest rings, closed, in frames of the four sizes that the crate `frames` has working arrays for
pub B-6 : B 6 ≡ 30
unfolding B four_half_growths half_growth
B-6 = refl

pub B-32 : B 32 ≡ 164
unfolding B four_half_growths half_growth
B-32 = refl

pub B-81 : B 81 ≡ 408
unfolding B four_half_growths half_growth
B-81 = refl

pub B-318 : B 318 ≡ 1610
unfolding B four_half_growths half_growth
B-318 = refl

-- ---- a cut ring

-- a cut ring has room
pub clip_room : (b : TileBounds) (r : List Coord) → length (clip_ring b r) ≤ B (length r)
unfolding clip_ring passes pass around leave_off finish B
clip_room b [] = omega arith
clip_room b (p ∷ r) = omega (arith, growth.clip_ring_grows b (p ∷ r))

-- a cut ring with vertices can be closed once more in its room
pub clip_fits : (b : TileBounds) (r : List Coord) → 0 < length (clip_ring b r) → suc (length (clip_ring b r)) ≤ B (length r)
unfolding clip_ring passes pass around leave_off finish B
clip_fits b [] h = absurd (omega arith)
clip_fits b (p ∷ r) h = omega (arith, growth.clip_ring_grows b (p ∷ r))

-- a ring that closing closes is cut as it is lent: what closing appends is left off again
pub clip_close : (b : TileBounds) (r : List Coord) → closed (close r) ≡ true → clip_ring b (close r) ≡ clip_ring b r
unfolding clip_ring passes pass
clip_close b r e = rw (leave_off-close r e)

-- ---- its origins

-- there are as many origins as coordinates, also after one more closing
pub as_many : (b : TileBounds) (r : List Coord) → length (clip_origins b r) ≡ length (clip_ring b r)
as_many = laws.as_many

pub close_many : (r : List Coord) (os : List ℕ) → length os ≡ length r → length (close_origins r os) ≡ length (close r)
close_many = laws.close_many

-- each vertex came from the ring or from a line, also where the cut is closed once more
pub traced : (b : TileBounds) (ring : List Coord) (d : Coord) (i : ℕ) → i < length (clip_ring b ring)
    → Traced b ring (get_or (clip_ring b ring) i d) (get_or (clip_origins b ring) i 0)
traced = laws.traced

pub closed_traced : (b : TileBounds) (ring : List Coord) (d : Coord) (i : ℕ) → i < length (close (clip_ring b ring))
    → Traced b ring (get_or (close (clip_ring b ring)) i d) (get_or (close_origins (clip_ring b ring) (clip_origins b ring)) i 0)
closed_traced = laws.closed_traced

-- what that says: where an origin is a position, the ring's vertex there is the one that stands here; where it is a line, the line's bound
-- stands here
pub traced_position : (b : TileBounds) (ring : List Coord) (p : Coord) (o : ℕ) → Traced b ring p o → IsPosition o
    → (o < length ring) × (p ≡ get_or ring o p)
traced_position = laws.traced_position

pub traced_line : (b : TileBounds) (ring : List Coord) (p : Coord) (o : ℕ) (l : Edge) → Traced b ring p o
    → length ring ≤ most_coordinates → o ≡ line_origin l → fixed l p ≡ bound l b
traced_line = laws.traced_line

-- positions rise from vertex to vertex before the closing one, and before both where the cut is closed once more
pub cut_rises : (b : TileBounds) (ring : List Coord) → Rises (take (length (passes b ring)) (clip_origins b ring))
cut_rises = laws.cut_rises

pub closed_rises : (b : TileBounds) (ring : List Coord)
    → Rises (take (length (passes b ring)) (close_origins (clip_ring b ring) (clip_origins b ring)))
closed_rises = laws.closed_rises

pub none_rise : (n : ℕ) → Rises (take n [])
none_rise = laws.none_rise

-- a ring that closing closes has the origins that it has as lent
pub origins-close : (b : TileBounds) (r : List Coord) → closed (close r) ≡ true → clip_origins b (close r) ≡ clip_origins b r
origins-close = laws.origins-close

-- each of them fits 16 bits, also after one more closing
pub origins_fit : (b : TileBounds) (r : List Coord) → length r ≤ most_coordinates → Every Fits16 (clip_origins b r)
origins_fit = laws.origins_fit

pub close-fits : (r : List Coord) (os : List ℕ) → Every Fits16 os → Every Fits16 (close_origins r os)
close-fits = laws.close-fits

-- the coordinates of a slice are those of its front that leaves an odd last number out
pub whole_ring : (s : List Float) → coords (take (2 * (length s / 2)) s) ≡ coords s
whole_ring s = coords-take (length s / 2) s ∙ take_all (length s / 2) (coords s) (omega (arith, count-coords s))

-- ---- the passes in two: the first three, and the last with the closing

module _ (b : TileBounds) (s : List Float) (n k : ℕ) (d : List Float) (three : Stands (three_passes b (coords (take (2 * n) s))) k d) where
  -- where there is room for the cutter, the last pass has room for what the first three leave of the n vertices at the front of a slice
  pub last-room : {scratch out : ℕ} → CutterRoom n (length s) scratch out
      → (2 * k ≤ scratch) × (2 * half_growth k ≤ out) × (0 < k → 2 * half_growth k + 2 ≤ out)
  last-room h = stage_last _ _ h.scratch-room h.output-room (stage_three b _ n d k (length_front s n h.vertices) three)

  pub last-origin-room : {scratch out : ℕ} → 2 * n ≤ length s → OriginRoom n scratch out
      → (k ≤ scratch) × (half_growth k ≤ out) × (0 < k → half_growth k + 1 ≤ out)
  last-origin-room l h = origins-last _ _ h.scratch-room h.output-room (stage_three b _ n d k (length_front s n l) three)

  -- what the last leaves is the cut; demand 3 holds of it, since the numbers of the bounds and of the ring are doubles
  pub last-cut : FittingBounds b → ((i : ℕ) → T (fits binary64 (get_or s i nan))) → (r : ℕ) (d' : List Float)
      → Stands (finish (pass Top b (coords (take (2 * k) d)))) r d' → RingCut b (coords (take (2 * n) s)) r d'
  last-cut hb hs r d' top = last-pass-cut b _ k d d' r hb (fitting_front s n hs) three top

  pub last-origins : (origins top : List ℕ) → origins ≡ three_passes_origins b (coords (take (2 * n) s))
      → top ≡ top_origins b (coords (take (2 * k) d)) origins → top ≡ clip_origins b (coords (take (2 * n) s))
  last-origins origins top = origins-cut b _ k d origins top three
