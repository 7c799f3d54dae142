-- The passes in turn over two slices: after each the ring so far stands at the front of a slice, within its growth. Assumes nothing.
use mathlib.Core.Path.{◌≡◌, refl, sym}
use mathlib.Core.List.{List}
use Prim.Native.Nat.{ℕ, suc, ◌+◌, ◌*◌, ◌≤◌, ◌<◌}
use native.Mathlib.Nat.{le_trans, le_of_eq}
use native.Mathlib.Omega.{arith}
use lib.Ieee.{Float}
use lib.ListN.{length, take}
use Rattle.tile.specs.declared.Coord.{Coord}
use Rattle.tile.specs.declared.TileBounds.{TileBounds}
use Rattle.tile.specs.declared.Edge.{Edge}
use Rattle.tile.specs.declared.Edge.TheVariants.{Left, Right, Bottom}
use Rattle.tile.specs.Ring.{coords}
use Rattle.tile.specs.Internal.{Stands, Written}
use Rattle.tile.proofs.Rings.{length_front, flat-front, stands-front, written_stands}
use Rattle.edge_pass.specs.Pass.{pass}
use Rattle.edge_pass.specs.Growth.{half_growth}
use Rattle.edge_pass.proofs.PassGrowth.{pass_grows, half_growth_mono}
use Rattle.sutherland_hodgman.specs.Internal.{three_passes}
use Rattle.sutherland_hodgman.specs.Growth.{B}
use Rattle.sutherland_hodgman.proofs.GrowthLaws.{grown, grown_four, room-pass, room_more, grown_some}

-- after j passes over n vertices: the ring r, k vertices long, at the front of d
pub record Stage (j n : ℕ) (r : List Coord) (d : List Float) (k : ℕ) : Type 0 where
  pub stands : Stands r k d
  pub bounded : k ≤ grown j n

pub stage_start : (n : ℕ) (d : List Float) → 2 * n ≤ length d → Stage 0 n (coords (take (2 * n) d)) d n
unfolding grown
stage_start n d h =
    record { stands = record { count = sym (length_front d n h); numbers = sym (flat-front d n h) }; bounded = le_of_eq refl }

pub stage_next : (l : Edge) (b : TileBounds) {j n : ℕ} {r : List Coord} {d : List Float} {k : ℕ} (d0 d' : List Float) (k' : ℕ)
    → Stage j n r d k
    → Written (pass l b (coords (take (2 * k) d))) d0 k' d' → Stage (suc j) n (pass l b r) d' k'
unfolding grown
stage_next l b {r = r} d0 d' k' s w =
    let p : Written (pass l b r) d0 k' d' = rw (stands-front s.stands) at w in
    record {
      stands = written_stands p;
      bounded =
          le_trans (le_of_eq p.count) (le_trans (pass_grows l b r)
          (half_growth_mono (le_trans (le_of_eq (sym s.stands.count)) s.bounded)));
    }

-- the room for the next pass
pub stage_room : {j n : ℕ} {r : List Coord} {d : List Float} {k : ℕ} (here there : ℕ) → suc j ≤ 4 → 2 * B n ≤ here → 2 * B n ≤ there
    → Stage j n r d k → (2 * k ≤ here) × (2 * half_growth k ≤ there)
unfolding grown
stage_room {j} {n} {k = k} here there h p q s = (
  room-pass n here k p (le_trans s.bounded (grown_four j n (omega arith))),
  room-pass n there (half_growth k) q (le_trans (half_growth_mono s.bounded) (grown_four (suc j) n h)),
)

-- what the three passes leave is the third stage
pub stage_three : (b : TileBounds) (r : List Coord) (n : ℕ) (d : List Float) (k : ℕ) → length r ≡ n → Stands (three_passes b r) k d
    → Stage 3 n (three_passes b r) d k
unfolding grown three_passes
stage_three b r n d k e t = record {
  stands = t;
  bounded =
      le_trans (le_of_eq t.count) (le_trans (pass_grows Bottom b _)
      (half_growth_mono (le_trans (pass_grows Right b _)
      (half_growth_mono (le_trans (pass_grows Left b r) (half_growth_mono (le_of_eq e)))))));
}

-- the room for the last pass and the closing
pub stage_last : {n : ℕ} {r : List Coord} {d : List Float} {k : ℕ} (here there : ℕ) → 2 * B n ≤ here → 2 * B n ≤ there → Stage 3 n r d k
    → (2 * k ≤ here) × (2 * half_growth k ≤ there) × (0 < k → 2 * half_growth k + 2 ≤ there)
unfolding grown
stage_last {n} {k = k} here there p q s =
    let m = stage_room here there (omega arith) p q s in (
      m.0,
      m.1,
      λ t. room_more n there (half_growth k) q (le_trans (half_growth_mono s.bounded) (grown_four 4 n (omega arith)))
          (grown_some n k s.bounded t),
    )
