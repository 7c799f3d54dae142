-- Demand 3: with south at most north every latitude of a cut ring lies from south to north, whatever the floats; and where all numbers are
-- at most 256 in magnitude, every longitude is finite and at most 2 ^ 1032 units (1 / 2 ^ 42) below west or above east. Assumes nothing.
use mathlib.Core.Path.{◌≡◌, refl}
use mathlib.Core.Logic.{◌⊎◌, inl, inr}
use mathlib.Core.Bool.{Bool, true, false, cond}
use mathlib.Core.List.{List, [], ◌∷◌}
use Prim.Native.Nat.{ℕ, suc, ◌+◌, ◌*◌, ◌^◌, ◌≤◌}
use native.Mathlib.Nat.{le_trans}
use native.Mathlib.Omega.{arith}
use lib.Dec.{T, leb, leb→le, lit≤, lit<}
use lib.ListN.{length, get_or, take}
use lib.Ieee.{Float, nan, binary64, fits, le}
use Rattle.binary64.specs.Interpolation.{interpolate}
use Rattle.binary64.specs.Scaled.{mag, above_zero, below_zero}
use Rattle.binary64.specs.Lists.{Every}
use Rattle.binary64.proofs.Order.{le_self_of-le}
use Rattle.binary64.proofs.Value.{mag-parts}
use Rattle.binary64.proofs.AtMost256.{AtMost256, at-most-small}
use Rattle.binary64.proofs.Cut.{Range, In, widen}
use Rattle.binary64.proofs.Lines.{cut_at, Reach, reach_cut_at, reach_widen, reach_mono, Cuttable, kept, crossed}
use Rattle.tile.specs.declared.Coord.{Coord}
use Rattle.tile.specs.declared.TileBounds.{TileBounds}
use Rattle.tile.specs.declared.Edge.{Edge}
use Rattle.tile.specs.declared.Edge.TheVariants.{Left, Right, Bottom, Top}
use Rattle.tile.specs.Magnitude.{CoordAtMost256}
use Rattle.tile.specs.Ring.{coords, close}
use Rattle.tile.proofs.Rings.{coords-take, length-close}
use Rattle.cutting_lines.specs.CuttingLines.{fixed, free, place, bound, is_low, inside, crossing}
use Rattle.cutting_lines.proofs.CrossingLaws.{FittingBounds, FittingCoord}
use Rattle.edge_pass.specs.Pass.{pass}
use Rattle.sutherland_hodgman.specs.Clip.{passes, finish, clip_ring}
use Rattle.sutherland_hodgman.specs.Promise.{LatitudeInBounds, LongitudeNearBounds, Promise}
use Rattle.sutherland_hodgman.proofs.GrowthLaws.{clip_ring_grows}
use Rattle.sutherland_hodgman.proofs.Turns.{Turns, every_take, every-finish, every_map, every-both, every-of-all, passed}

-- ---- latitudes
module _ (b : TileBounds) (h : T (le b.lat_min b.lat_max)) where
  abbrev Any : Coord → Type 0
  Any p = Unit {0}

  abbrev Above : Coord → Type 0
  Above p = T (le b.lat_min p.y)

  bottom : Turns Any Above Bottom b
  unfolding inside crossing
  bottom = record { keeps = λ p _ i. i; crosses = λ s e i _ _ _ _. (le_self_of-le b.lat_min b.lat_max h).0 }

  top : Turns Above (LatitudeInBounds b) Top b
  unfolding inside crossing
  top = record { keeps = λ p a i. (a, i); crosses = λ s e i _ _ _ _. (h, (le_self_of-le b.lat_min b.lat_max h).1) }

  latitudes : (r : List Coord) → Every (LatitudeInBounds b) (clip_ring b r)
  unfolding clip_ring passes
  latitudes r =
      let r2 = pass Right b (pass Left b r) in
      let r3 = pass Bottom b r2 in
      every-finish (LatitudeInBounds b) (pass Top b r3)
      (passed Above (LatitudeInBounds b) Top b top r3 (passed Any Above Bottom b bottom r2 (every-of-all Any r2 (λ p. tt))))

-- ---- numbers from -256 to 256
-- 256, in units
abbrev most : ℕ
most = 2 ^ 1082

abbrev whole : Range
whole = record { lp = 0; ln = most; hp = most; hn = 0 }

at_most_in : (x : Float) → AtMost256 x → In binary64 whole x
at_most_in x h =
    let s = at-most-small h in
    let r = go (above_zero binary64 x) (below_zero binary64 x) (mag binary64 x) most (mag-parts binary64 x).0 s.size in
    record { number = s.number; not-below = r.0; not-above = r.1 }
  where
    go : (p n m w : ℕ) → p + n ≡ m → m ≤ w → (0 + n ≤ p + w) × (p + 0 ≤ w + n)
    go p n m w e l = omega arith

-- ---- one pass over a ring whose vertices lie in v in the coordinate that the line fixes, and in u in the other
abbrev Lies : Edge → Range → Range → Coord → Type 0
Lies l v u p = In binary64 v (fixed l p) × In binary64 u (free l p)

-- one overrun, in units, and what nothing lies beyond: 256 and two of them
abbrev step : ℕ
step = 2 ^ 1031

abbrev far : ℕ
far = most + step + step

abbrev Cut : Edge → TileBounds → Range → Range → Type 0
Cut l b v u = Cuttable binary64 1030 far (bound l b) v u

abbrev Passed : Edge → TileBounds → Range → Range → Coord → Type 0
Passed l b v u = Lies l (cut_at binary64 (is_low l) (bound l b) v) (widen step u)

turns : (l : Edge) (b : TileBounds) (v u : Range) → Cut l b v u → Turns (Lies l v u) (Passed l b v u) l b
unfolding inside crossing
turns l b v u h = record {
  keeps = λ p a i. let k = kept (is_low l) h a.0 a.1 i in (k.fixed, k.free);
  crosses =
      λ s e i hs he p q. let k = crossed (is_low l) i h hs.0 he.0 hs.1 he.1 p q in placed l
      (interpolate binary64 (bound l b) (fixed l s) (fixed l e) (free l s) (free l e)) k.fixed k.free;
}
  where
    placed : (l : Edge) (y : Float) {v u : Range} → In binary64 v (bound l b) → In binary64 u y → Lies l v u (place l (bound l b) y)
    placed Left y h k = (h, k)
    placed Right y h k = (h, k)
    placed Bottom y h k = (h, k)
    placed Top y h k = (h, k)

whole_reach : Reach most whole
whole_reach = record { low_end = lit≤ tt; high_end = lit≤ tt }

at-most_reach : (x : Float) → AtMost256 x → mag binary64 x ≤ most
at-most_reach x h = (at-most-small h).size

cut : (l : Edge) (b : TileBounds) {v u : Range} → AtMost256 (bound l b) → Reach far v → Reach far u → Cut l b v u
cut l b m v u =
    record {
      room = lit< tt;
      reach = lit≤ tt;
      line = (at_most_in (bound l b) m).number;
      line-le = le_trans (at-most_reach (bound l b) m)
          (lit≤ tt);
      fixed = v;
      free = u;
    }

-- ---- the four passes
-- what they leave of a longitude, in the words of the demand
end : (b : TileBounds) (p : Coord) → In binary64 (widen step
    (widen step (cut_at binary64 false b.lng_max (cut_at binary64 true b.lng_min whole)))) p.x → LongitudeNearBounds b p
end b p h =
    let f = binary64 in (
      h.number.is_finite,
      low (above_zero f b.lng_min) (below_zero f p.x) (above_zero f p.x) (below_zero f b.lng_min) step h.not-below,
      high (above_zero f p.x) (below_zero f b.lng_max) (above_zero f b.lng_max) (below_zero f p.x) step h.not-above,
    )
  where
    low : (p n q m e : ℕ) → p + n ≤ q + (m + e + e) → p + n ≤ q + m + (e + e)
    low p n q m e h = omega arith

    high : (p n q m e : ℕ) → p + n ≤ q + e + e + m → p + n ≤ q + m + (e + e)
    high p n q m e h = omega arith

abbrev Fine : Coord → Type 0
Fine p = AtMost256 p.x × AtMost256 p.y

longitudes : (b : TileBounds) (r : List Coord) → AtMost256 b.lng_min → AtMost256 b.lat_min → AtMost256 b.lng_max
    → AtMost256 b.lat_max → Every Fine r → Every (LongitudeNearBounds b) (clip_ring b r)
unfolding clip_ring passes
longitudes b r hw hs he hn hr =
    let f = binary64 in
    let x1 : Range = cut_at f true b.lng_min whole in
    let y1 : Range = widen step whole in
    let x2 : Range = cut_at f false b.lng_max x1 in
    let y2 : Range = widen step y1 in
    let y3 : Range = cut_at f true b.lat_min y2 in
    let x3 : Range = widen step x2 in
    let y4 : Range = cut_at f false b.lat_max y3 in
    let x4 : Range = widen step x3 in
    let rx1 : Reach most x1 = reach_cut_at f true b.lng_min (at-most_reach b.lng_min hw) whole_reach in
    let ry1 : Reach (most + step) y1 = reach_widen step whole_reach in
    let rx2 : Reach most x2 = reach_cut_at f false b.lng_max (at-most_reach b.lng_max he) rx1 in
    let ry2 : Reach far y2 = reach_widen step ry1 in
    let ry3 : Reach far y3 = reach_cut_at f true b.lat_min (le_trans (at-most_reach b.lat_min hs) (lit≤ tt)) ry2 in
    let rx3 : Reach (most + step) x3 = reach_widen step rx2 in
    let c1 : Cut Left b whole whole = cut Left b hw (reach_mono (lit≤ tt) whole_reach) (reach_mono (lit≤ tt) whole_reach) in
    let c2 : Cut Right b x1 y1 = cut Right b he (reach_mono (lit≤ tt) rx1) (reach_mono (lit≤ tt) ry1) in
    let c3 : Cut Bottom b y2 x2 = cut Bottom b hs ry2 (reach_mono (lit≤ tt) rx2) in
    let c4 : Cut Top b y3 x3 = cut Top b hn ry3 (reach_mono (lit≤ tt) rx3) in
    let r1 = pass Left b r in
    let r2 = pass Right b r1 in
    let r3 = pass Bottom b r2 in
    let r4 = pass Top b r3 in
    let h0 : Every (Lies Left whole whole) r = every_map Fine (Lies Left whole whole) r
    (λ p h. (at_most_in p.x h.0, at_most_in p.y h.1)) hr in
    let h1 : Every (Lies Right x1 y1) r1 = passed (Lies Left whole whole) (Lies Left x1 y1) Left b (turns Left b whole whole c1) r h0 in
    let h2 : Every (Lies Right x2 y2) r2 = passed (Lies Right x1 y1) (Lies Right x2 y2) Right b (turns Right b x1 y1 c2) r1 h1 in
    let h2' : Every (Lies Bottom y2 x2) r2 = every_map (Lies Right x2 y2) (Lies Bottom y2 x2) r2 (λ p h. (h.1, h.0)) h2 in
    let h3 : Every (Lies Top y3 x3) r3 = passed (Lies Bottom y2 x2) (Lies Bottom y3 x3) Bottom b (turns Bottom b y2 x2 c3) r2 h2' in
    let h4 : Every (Lies Top y4 x4) r4 = passed (Lies Top y3 x3) (Lies Top y4 x4) Top b (turns Top b y3 x3 c4) r3 h3 in
    every_map (Lies Top y4 x4) (LongitudeNearBounds b) (finish r4) (λ p h. end b p h.1) (every-finish (Lies Top y4 x4) r4 h4)

-- ---- no vertices, or at least three
vertices : (r : List Coord) → (length (finish r) ≡ 0) ⊎ (3 ≤ length (finish r))
unfolding finish
vertices r = go (leb 3 (length r)) (leb→le 3 (length r))
  where
    go : (three : Bool) → (T three → 3 ≤ length r) → (length (cond three (close r) []) ≡ 0) ⊎ (3 ≤ length (cond three (close r) []))
    go true h = inr (le_trans (h tt) (length-close r))
    go false h = inl refl

-- ---- the demand, whole: its numbers are doubles
-- the numbers of a slice are doubles, and so are those of the ring at its front
pub fitting_front : (s : List Float) (n : ℕ) → ((i : ℕ) → T (fits binary64 (get_or s i nan))) → Every FittingCoord (coords (take (2 * n) s))
unfolding coords
fitting_front s n h = rw (coords-take n s) (every_take FittingCoord n (coords s) (fitting s h))
  where
    fitting : (s : List Float) → ((i : ℕ) → T (fits binary64 (get_or s i nan))) → Every FittingCoord (coords s)
    fitting [] h = tt
    fitting (x ∷ []) h = tt
    fitting (x ∷ y ∷ s) h = ((h 0, h 1), fitting s (λ i. h (suc (suc i))))

pub promise : (b : TileBounds) (r : List Coord) → FittingBounds b → Every FittingCoord r → Promise b r (clip_ring b r)
unfolding clip_ring
promise b r hb hr = record {
  latitudes = λ h. latitudes b h r;
  vertices = vertices (passes b r);
  growth = clip_ring_grows b r;
  longitudes = λ _ _ mb mr. longitudes b r (hb.0, mb.0) (hb.1, mb.1) (hb.2, mb.2) (hb.3, mb.3)
      (every_map (λ p. FittingCoord p × CoordAtMost256 p) Fine r (λ p h. ((h.0.0, h.1.0), (h.0.1, h.1.1)))
      (every-both FittingCoord CoordAtMost256 r hr mr));
}
