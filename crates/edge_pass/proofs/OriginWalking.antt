-- The way of a pass from stand to stand, for the origins that it writes beside the vertices. Assumes nothing.
use mathlib.Core.Path.{◌≡◌, refl, sym, ◌∙◌, ap}
use mathlib.Core.Bool.{Bool, true, false}
use mathlib.Core.List.{List, [], ◌∷◌, ◌++◌, append_assoc}
use Prim.Native.Nat.{ℕ, zero, suc, ◌+◌, ◌*◌, ◌-◌, ◌≤◌, ◌<◌}
use native.Mathlib.Nat.{add-zero}
use native.Mathlib.Numerals.{add-one}
use native.Mathlib.Omega.{arith}
use lib.Ieee.{Float}
use lib.ListN.{length, get_or, take, drop, length-append, length-drop, drop_of_length-le, set}
use lib.Seq.{sets, sets-eq, drop-cons, drop-drop, get_or-drop, get_or-take, take-take, take-suc, length-take-le}
use Rattle.binary64.proofs.Fill.{sets_append}
use Rattle.tile.specs.declared.Coord.{Coord}
use Rattle.tile.specs.declared.TileBounds.{TileBounds}
use Rattle.tile.specs.declared.Edge.{Edge}
use Rattle.tile.specs.Ring.{coords, last}
use Rattle.tile.specs.Internal.{coord_at}
use Rattle.tile.proofs.Rings.{length_front, front_at, last-at}
use Rattle.cutting_lines.specs.CuttingLines.{inside, crossing}
use Rattle.edge_pass.specs.Pass.{step, steps, leave_off, around, pass}
use Rattle.edge_pass.specs.Internal.{no_vertex, origins_left, SameOrigins, CopiedOrigins}
use Rattle.edge_pass.specs.Origins.{line_origin, step_origins, steps_origins, around_origins, pass_origins}
use Rattle.edge_pass.proofs.PassGrowth.{leave_off-length}

-- ---- a pass gives as many origins as vertices

pub step_many : (v f : Bool) (c e : Coord) (line end : ℕ) → length (step_origins v f line end) ≡ length (step v f c e)
step_many true true c e line end = refl
step_many true false c e line end = refl
step_many false true c e line end = refl
step_many false false c e line end = refl

module _ (l : Edge) (b : TileBounds) where
  steps_many : (v : Bool) (s : Coord) (r : List Coord) (os : List ℕ) → length (steps_origins l b v r os) ≡ length (steps l b v s r)
  unfolding steps_origins steps
  steps_many v s [] os = refl
  steps_many v s (e ∷ r) os =
      let f = inside l b e in
      let o = get_or os 0 0 in
      omega (
        arith,
        length-append (step_origins v f (line_origin l) o) (steps_origins l b f r (drop 1 os)),
        length-append (step v f
            (crossing l b s e) e) (steps l b f e r),
        step_many v f (crossing l b s e) e (line_origin l) o,
        steps_many f e r (drop 1 os),
      )

  pub around_many : (r : List Coord) (os : List ℕ) → length (around_origins l b r os) ≡ length (around l b r)
  unfolding around_origins around
  around_many [] os = refl
  around_many (p ∷ r) os = steps_many (inside l b (last p r)) (last p r) (p ∷ r) os

  pub pass_many : (r : List Coord) (os : List ℕ) → length (pass_origins l b r os) ≡ length (pass l b r)
  unfolding pass_origins pass
  pass_many r os = around_many (leave_off r) os

-- ---- origins past the last vertex play no part

take-drop-one : {A : Type 0} (n : ℕ) (os : List A) → take n (drop 1 os) ≡ drop 1 (take (suc n) os)
take-drop-one zero [] = refl
take-drop-one (suc n) [] = refl
take-drop-one n (o ∷ os) = refl

module _ (l : Edge) (b : TileBounds) where
  steps_enough : (v : Bool) (r : List Coord) (os : List ℕ) → steps_origins l b v r (take (length r) os) ≡ steps_origins l b v r os
  unfolding steps_origins
  steps_enough v [] os = refl
  steps_enough v (e ∷ r) os = rw (
    get_or-take (suc (length r)) os 0 0 (omega arith),
    ← take-drop-one (length r) os,
    steps_enough
        (inside l b e) r (drop 1 os),
  )

  around_enough : (n : ℕ) (r : List Coord) (os : List ℕ) → length r ≤ n → around_origins l b r (take n os) ≡ around_origins l b r os
  unfolding around_origins
  around_enough n [] os h = refl
  around_enough n (p ∷ r) os h =
      let v = inside l b (last p r) in
      sym (steps_enough v (p ∷ r) (take n os)) ∙ ap (steps_origins l b v (p ∷ r)) (take-take (suc (length r)) n os h) ∙ steps_enough v
      (p ∷ r) os

  pub pass_enough : (n : ℕ) (r : List Coord) (os : List ℕ) → length (leave_off r) ≤ n → pass_origins l b r (take n os) ≡ pass_origins l b r os
  unfolding pass_origins
  pass_enough n r os h = around_enough n (leave_off r) os h

-- ---- the way from stand to stand

module _ (l : Edge) (b : TileBounds) (ring : List Coord) (os : List ℕ) where
  origins-left-none : (v : Bool) (i : ℕ) → length ring ≤ i → origins_left l b ring os v i ≡ []
  unfolding origins_left steps_origins
  origins-left-none v i h = rw (drop_of_length-le ring h)

  pub origins_end : (v v' : Bool) (i k : ℕ) (d : List ℕ) → length ring ≤ i → SameOrigins l b ring os v i k d v' i k d
  origins_end v v' i k d h = rw (origins-left-none v i h, origins-left-none v' i h)

  pub origins_skip : (i j k k' : ℕ) (d : List ℕ) → origins_left l b ring os false i ≡ origins_left l b ring os false j → k' ≡ k
      → SameOrigins l b ring os false i k d false j k' d
  origins_skip i j k k' d e h = rw (e, h)

  -- the step to the vertex e, whose verdict is f
  module _ (v f : Bool) (i : ℕ) (e : Coord) (h : i < length ring) (he : e ≡ get_or ring i no_vertex) (hf : inside l b e ≡ f) where
    pub origins-left-step : origins_left l b ring os v i ≡ step_origins v f (line_origin l) (get_or os i 0) ++ origins_left l b ring os f (i + 1)
    unfolding origins_left steps_origins
    origins-left-step = rw (drop-cons ring i no_vertex h, ← he, hf, get_or-drop i os 0 0, add-zero i, drop-drop 1 i os, add-one)

    pub origins-step : (k : ℕ) (d : List ℕ) (k' : ℕ) (d' : List ℕ) → k' ≡ k + length (step_origins v f (line_origin l) (get_or os i 0))
        → d' ≡ sets d k (step_origins v f (line_origin l) (get_or os i 0))
        → SameOrigins l b ring os v i k d f (i + 1) k' d'
    origins-step k d k' d' hk hd = rw (origins-left-step, hk, hd) (sets_append d k (step_origins v f (line_origin l) (get_or os i 0))
        (origins_left l b ring os f (i + 1)))

  -- the pass starts from the last vertex
  pub around-origins-left : (v : Bool) → 0 < length ring → inside l b (get_or ring (length ring - 1) no_vertex) ≡ v
      → around_origins l b ring os ≡ origins_left l b ring os v 0
  unfolding around_origins origins_left
  around-origins-left v h e = go ring refl
    where
      go : (r : List Coord) → r ≡ ring → around_origins l b ring os ≡ origins_left l b ring os v 0
      go [] q = absurd (omega (arith, ap length q))
      go (p ∷ r) q =
          let n : length ring - 1 ≡ length r = omega (arith, ap length q) in
          let m : get_or ring (length ring - 1) no_vertex ≡ last p r = rw (n, ← q) (sym (last-at p r no_vertex)) in
          let w : inside l b (last p r) ≡ v = rw m at e in
          rw (← q, w)

  -- it ends where nothing is left
  pub origins-walked : (v v' : Bool) (d0 : List ℕ) (i k : ℕ) (d : List ℕ) → around_origins l b ring os ≡ origins_left l b ring os v 0
      → SameOrigins l b ring os v 0 0 d0 v' i k d
      → length ring ≤ i → k ≡ length (around l b ring) → length (around l b ring) ≤ length d0 → d ≡ around_origins l b ring os ++ drop k d0
  origins-walked v v' d0 i k d q o h c room =
      let A = around_origins l b ring os in
      let m = around_many l b ring os in
      let n : 0 + length A ≡ k = omega arith in
      let z : sets d0 0 A ≡ sets d k (origins_left l b ring os v' i) = rw q o in
      let e : sets d0 0 A ≡ d = z ∙ rw (origins-left-none v' i h) in
      let p = sets-eq A d0 0 (omega arith) in
      sym e ∙ p ∙ rw n

-- of the ring of m vertices at the front of a slice
module _ (l : Edge) (b : TileBounds) (s : List Float) (m : ℕ) (fits : 2 * m ≤ length s) where
  pub starts_origins : (os : List ℕ) (v : Bool) → 0 < m → inside l b (coord_at s (m - 1)) ≡ v
      → around_origins l b (coords (take (2 * m) s)) os ≡ origins_left l b (coords (take (2 * m) s)) os v 0
  starts_origins os v h e =
      let n = length_front s m fits in
      around-origins-left l b (coords (take (2 * m) s)) os v (omega arith) (rw (n, front_at s m (m - 1) no_vertex fits (omega arith)) e)

  module _ (i : ℕ) (h : i < m) where
    in-ring : i < length (coords (take (2 * m) s))
    in-ring = omega (arith, length_front s m fits)

    the-vertex : coord_at s i ≡ get_or (coords (take (2 * m) s)) i no_vertex
    the-vertex = sym (front_at s m i no_vertex fits h)

    pub out_out_origin : inside l b (coord_at s i) ≡ false → (os : List ℕ)
        → origins_left l b (coords (take (2 * m) s)) os false i ≡ origins_left l b (coords (take (2 * m) s)) os false (i + 1)
    out_out_origin f os = origins-left-step l b (coords (take (2 * m) s)) os false false i (coord_at s i) in-ring the-vertex f

    pub in-in-origin : inside l b (coord_at s i) ≡ true → (i₀ : ℕ) → i₀ ≤ i → CopiedOrigins l b (coords (take (2 * m) s)) i₀ i
        → CopiedOrigins l b (coords (take (2 * m) s)) i₀ (i + 1)
    in-in-origin f i₀ k g os n =
        let D = drop i₀ os in
        let j = i - i₀ in
        let e : i + 1 - i₀ ≡ suc j = omega arith in
        let w : i₀ + j ≡ i = omega arith in
        let h' : j < length D = omega (arith, length-drop i₀ os) in
        let q : get_or D j 0 ≡ get_or os i 0 = get_or-drop i₀ os j 0 ∙ rw w in
        let t : take (i + 1 - i₀) D ≡ take j D ++ (get_or os i 0 ∷ []) = rw (e, take-suc D j 0 h', q) in
        let z = origins-left-step l b (coords (take (2 * m) s)) os true true i (coord_at s i) in-ring the-vertex f in
        g os (omega arith) ∙ rw (z, t, append_assoc)

    pub in_out_origin : inside l b (coord_at s i) ≡ false → (os : List ℕ) (o k : ℕ) (d d' : List ℕ) → o ≡ line_origin l
        → d' ≡ sets d k (o ∷ []) → SameOrigins l b (coords (take (2 * m) s)) os true i k d false (i + 1) (k + 1) d'
    in_out_origin f os o k d d' ho hd = origins-step l b (coords (take (2 * m) s)) os true false i (coord_at s i) in-ring the-vertex f k d
        (k + 1) d' refl (hd ∙ rw ho)

    pub out_in-origin : inside l b (coord_at s i) ≡ true → (os : List ℕ) (o k : ℕ) (d d₁ d₂ : List ℕ) → o ≡ line_origin l
        → d₁ ≡ sets d k (o ∷ []) → d₂ ≡ sets d₁ (k + 1) (get_or os i 0 ∷ [])
        → SameOrigins l b (coords (take (2 * m) s)) os false i k d true (i + 1) (k + 2) d₂
    out_in-origin f os o k d d₁ d₂ ho h₁ h₂ =
        origins-step l b (coords (take (2 * m) s)) os false true i (coord_at s i) in-ring the-vertex f k d (k + 2) d₂ refl (h₂ ∙ rw
        (h₁, ho, add-one))

-- a run of vertices that are in, and their origins copied
pub origins_copied : (l : Edge) (b : TileBounds) (ring : List Coord) (os : List ℕ) (i j k k' : ℕ) (d d' : List ℕ)
    → CopiedOrigins l b ring i j → i ≤ j → j ≤ length os → k' + i ≡ k + j
    → d' ≡ sets d k (take (j - i) (drop i os)) → SameOrigins l b ring os true i k d true j k' d'
origins_copied l b ring os i j k k' d d' g h n e hd =
    let run = take (j - i) (drop i os) in
    let q : length run ≡ j - i = length-take-le (j - i) (drop i os) (omega (arith, length-drop i os)) in
    let m : k' ≡ k + length run = omega arith in
    rw (g os n, m, hd) (sets_append d k run (origins_left l b ring os true j))

-- one more origin of a run
pub copied_more : (from to : List ℕ) (i len k : ℕ) → i + k < length from
    → set (sets to len (take k (drop i from))) (len + k) (get_or from (i + k) 0) ≡ sets to len (take (k + 1) (drop i from))
copied_more from to i len k h =
    let D = drop i from in
    let n : k < length D = omega (arith, length-drop i from) in
    let q : length (take k D) ≡ k = length-take-le k D (omega arith) in
    let w = sets_append to len (take k D) (get_or D k 0 ∷ []) in
    rw (add-one, take-suc D k 0 n, w, q, get_or-drop i from k 0)

-- the pass goes around what is left when the closing vertex is left off
module _ (l : Edge) (b : TileBounds) (r kept : List Coord) (h : kept ≡ leave_off r) where
  pub pass-origins-around : (n : ℕ) (os : List ℕ) → length r ≤ n → pass_origins l b r (take n os) ≡ around_origins l b kept os
  unfolding pass_origins
  pass-origins-around n os k = pass_enough l b n r os (omega (arith, leave_off-length r)) ∙ rw h

  pub pass-origins-none : (n : ℕ) (os d : List ℕ) → length r ≤ n → kept ≡ [] → d ≡ pass_origins l b r (take n os) ++ drop 0 d
  unfolding around_origins
  pass-origins-none n os d k e = let q : pass_origins l b r (take n os) ≡ [] = pass-origins-around n os k ∙ rw e in rw q
