-- The way of a pass from stand to stand: it starts with all of the definition's list left to write, goes on step by step, and ends with
-- nothing left. Assumes nothing.
use mathlib.Core.Path.{◌≡◌, refl, sym, ◌∙◌, ap}
use mathlib.Core.Bool.{Bool, true, false}
use mathlib.Core.List.{List, [], ◌∷◌, ◌++◌}
use Prim.Native.Nat.{ℕ, zero, suc, ◌+◌, ◌*◌, ◌-◌, ◌≤◌, ◌<◌}
use native.Mathlib.Numerals.{add-one}
use native.Mathlib.Omega.{arith}
use lib.Ieee.{Float}
use lib.ListN.{length, get_or, take, drop, length-append, drop_of_length-le}
use lib.Seq.{sets, sets-eq, length-sets, drop-cons}
use Rattle.binary64.proofs.Fill.{sets_append}
use Rattle.tile.specs.declared.Coord.{Coord}
use Rattle.tile.specs.declared.TileBounds.{TileBounds}
use Rattle.tile.specs.declared.Edge.{Edge}
use Rattle.tile.specs.Ring.{coords, flat, last}
use Rattle.tile.specs.Internal.{coord_at, Written}
use Rattle.tile.proofs.Rings.{flat_append, length-flat, last-at, length_front, front_at}
use Rattle.cutting_lines.specs.CuttingLines.{inside, crossing}
use Rattle.edge_pass.specs.Pass.{step, steps, leave_off, around, pass}
use Rattle.edge_pass.specs.Internal.{no_vertex, vertex_before, steps_left, SameRest}
use Rattle.edge_pass.specs.Growth.{half_growth}
use Rattle.edge_pass.proofs.PassGrowth.{pass_grows}

module _ (l : Edge) (b : TileBounds) (ring : List Coord) where
  pub rest_then : {v v' v'' : Bool} {i i' i'' k k' k'' : ℕ} {d d' d'' : List Float} → SameRest l b ring v i k d v' i' k' d'
      → SameRest l b ring v' i' k' d' v'' i'' k'' d''
      → SameRest l b ring v i k d v'' i'' k'' d''
  rest_then f g = record { count = f.count ∙ g.count; numbers = f.numbers ∙ g.numbers }

  -- past the last vertex nothing is left, whatever the verdict
  pub left-none : (v : Bool) (i : ℕ) → length ring ≤ i → steps_left l b ring v i ≡ []
  unfolding steps_left steps
  left-none v i h = rw (drop_of_length-le ring h)

  pub rest_end : (v v' : Bool) (i k : ℕ) (d : List Float) → length ring ≤ i → SameRest l b ring v i k d v' i k d
  rest_end v v' i k d h = record { count = rw (left-none v i h, left-none v' i h); numbers = rw (left-none v i h, left-none v' i h) }

  -- the step to the vertex e, whose verdict is f
  module _ (v f : Bool) (i : ℕ) (e : Coord) (h : i < length ring) (he : e ≡ get_or ring i no_vertex) (hf : inside l b e ≡ f) where
    pub left_step : steps_left l b ring v i ≡ step v f (crossing l b (vertex_before ring i) e) e ++ steps_left l b ring f (i + 1)
    unfolding steps_left steps
    left_step = rw (add-one, drop-cons ring i no_vertex h, ← he, hf)

    pub step_room : (k space : ℕ) → 2 * (k + length (steps_left l b ring v i)) ≤ space
        → 2 * (k + length (step v f (crossing l b (vertex_before ring i) e) e)) ≤ space
    step_room k space r =
        omega (arith, ap length left_step, length-append (step v f (crossing l b (vertex_before ring i) e) e) (steps_left l b ring f (i + 1)))

    pub rest-step : (s : Coord) (k : ℕ) (d : List Float) (k' : ℕ) (d' : List Float) → s ≡ vertex_before ring i
        → k' ≡ k + length (step v f (crossing l b s e) e)
        → d' ≡ sets d (2 * k) (flat (step v f (crossing l b s e) e)) → SameRest l b ring v i k d f (i + 1) k' d'
    rest-step s k d k' d' hs hk hd =
        let st = step v f (crossing l b s e) e in
        let r = steps_left l b ring f (i + 1) in
        let q : steps_left l b ring v i ≡ st ++ r = left_step ∙ rw hs in
        let n : 2 * k' ≡ 2 * k + length (flat st) = omega (arith, length-flat st) in
        record {
          count = omega (arith, ap length q, length-append st r);
          numbers = rw (q, flat_append st r, n, hd) (sets_append d (2 * k) (flat st) (flat r));
        }

  -- the pass starts from the last vertex
  pub around-left : (v : Bool) → 0 < length ring → inside l b (get_or ring (length ring - 1) no_vertex) ≡ v
      → around l b ring ≡ steps_left l b ring v 0
  unfolding around steps_left
  around-left v h e = go ring refl
    where
      go : (r : List Coord) → r ≡ ring → around l b ring ≡ steps_left l b ring v 0
      go [] q = absurd (omega (arith, ap length q))
      go (p ∷ r) q =
          let n : length ring - 1 ≡ length r = omega (arith, ap length q) in
          let m : get_or ring (length ring - 1) no_vertex ≡ last p r = rw (n, ← q) (sym (last-at p r no_vertex)) in
          let w : inside l b (last p r) ≡ v = rw m at e in
          rw (m, ← q, w)

  pub rest_skip : (i j k k' : ℕ) (d : List Float) → steps_left l b ring false i ≡ steps_left l b ring false j → k' ≡ k
      → SameRest l b ring false i k d false j k' d
  rest_skip i j k k' d e h = record { count = rw (e, h); numbers = rw (e, h) }

  pub begun : (v v' : Bool) (d : List Float) (i k : ℕ) (d' : List Float) → around l b ring ≡ steps_left l b ring v 0
      → SameRest l b ring v 0 0 d v' i k d'
      → (length (around l b ring) ≡ k + length (steps_left l b ring v' i))
      × (sets d 0 (flat (around l b ring)) ≡ sets d' (2 * k) (flat (steps_left l b ring v' i)))
  begun v v' d i k d' q o = (omega (arith, ap length q, o.count), rw q o.numbers)

  -- it ends where nothing is left
  pub walk_end : (d0 : List Float) (v : Bool) (i k : ℕ) (d : List Float) → length ring ≤ i → 2 * length (around l b ring) ≤ length d0
      → length (around l b ring) ≡ k + length (steps_left l b ring v i)
      → sets d0 0 (flat (around l b ring)) ≡ sets d (2 * k) (flat (steps_left l b ring v i)) → Written (around l b ring) d0 k d
  unfolding flat
  walk_end d0 v i k d h room c s =
      let A = around l b ring in
      let z = left-none v i h in
      let n : k ≡ length A = omega (arith, ap length z) in
      let f : length (flat A) ≡ 2 * k = omega (arith, length-flat A) in
      let e : sets d0 0 (flat A) ≡ d = s ∙ rw z in
      let o : 0 + length (flat A) ≡ length (flat A) = omega arith in
      let p : sets d0 0 (flat A) ≡ flat A ++ drop (length (flat A)) d0 = rw o at (sets-eq (flat A) d0 0 (omega arith)) in
      record { count = n; numbers = sym e ∙ rw f at p }

-- the vertex before another in the ring of m vertices at the front of a slice
module _ (s : List Float) (m : ℕ) (fits : 2 * m ≤ length s) where
  pub first_before : 0 < m → (i : ℕ) → i ≡ 0 → coord_at s (m - 1) ≡ vertex_before (coords (take (2 * m) s)) i
  first_before h i e = rw (e, length_front s m fits) (sym (front_at s m (m - 1) no_vertex fits (omega arith)))

  pub later-before : (i : ℕ) → 0 < i → i ≤ m → coord_at s (i - 1) ≡ vertex_before (coords (take (2 * m) s)) i
  later-before zero h k = absurd (omega arith)
  later-before (suc i) h k = let e : suc i - 1 ≡ i = omega arith in rw e (sym (front_at s m i no_vertex fits (omega arith)))

  pub past_end : (i : ℕ) → m ≤ i → length (coords (take (2 * m) s)) ≤ i
  past_end i h = omega (arith, length_front s m fits)

pub wrote : (d d' : List Float) (k n : ℕ) (e : Coord) → d' ≡ sets d (2 * k) (e.x ∷ e.y ∷ []) → length d ≡ n → length d' ≡ n
wrote d d' k n e h q = ap length h ∙ length-sets d (2 * k) (e.x ∷ e.y ∷ []) ∙ q

-- the steps of the ring of m vertices at the front of a slice
module _ (l : Edge) (b : TileBounds) (s : List Float) (m : ℕ) (fits : 2 * m ≤ length s) where
  two_more : (n : ℕ) → 2 * (n + 1) ≡ suc (suc (2 * n))
  two_more n = omega arith

  pub starts : (v : Bool) → 0 < m → inside l b (coord_at s (m - 1)) ≡ v → around l b (coords (take (2 * m) s)) ≡ steps_left l b
      (coords (take (2 * m) s)) v 0
  starts v h e =
      let n = length_front s m fits in
      around-left l b (coords (take (2 * m) s)) v (omega arith) (rw (n, front_at s m (m - 1) no_vertex fits (omega arith)) e)

  module _ (i : ℕ) (h : i < m) where
    in-ring : i < length (coords (take (2 * m) s))
    in-ring = omega (arith, length_front s m fits)

    the-vertex : coord_at s i ≡ get_or (coords (take (2 * m) s)) i no_vertex
    the-vertex = sym (front_at s m i no_vertex fits h)

    pub out_out : inside l b (coord_at s i) ≡ false → steps_left l b (coords (take (2 * m) s)) false i ≡ steps_left l b
        (coords (take (2 * m) s)) false (i + 1)
    out_out f = left_step l b (coords (take (2 * m) s)) false false i (coord_at s i) in-ring the-vertex f

    pub in-in-room : inside l b (coord_at s i) ≡ true → (k space : ℕ) → 2 * (k + length (steps_left l b (coords (take (2 * m) s)) true i))
        ≤ space → 2 * (k + 1) ≤ space
    in-in-room f k space r = step_room l b (coords (take (2 * m) s)) true true i (coord_at s i) in-ring the-vertex f k space r

    pub in_out_room : inside l b (coord_at s i) ≡ false → (k space : ℕ)
        → 2 * (k + length (steps_left l b (coords (take (2 * m) s)) true i)) ≤ space → 2 * (k + 1) ≤ space
    in_out_room f k space r = step_room l b (coords (take (2 * m) s)) true false i (coord_at s i) in-ring the-vertex f k space r

    pub out_in-room : inside l b (coord_at s i) ≡ true → (k space : ℕ)
        → 2 * (k + length (steps_left l b (coords (take (2 * m) s)) false i)) ≤ space → 2 * (k + 2) ≤ space
    out_in-room f k space r = step_room l b (coords (take (2 * m) s)) false true i (coord_at s i) in-ring the-vertex f k space r

    pub in-in : inside l b (coord_at s i) ≡ true → (e : Coord) (k : ℕ) (d d' : List Float) → e ≡ coord_at s i
        → d' ≡ sets d (2 * k) (e.x ∷ e.y ∷ [])
        → SameRest l b (coords (take (2 * m) s)) true i k d true (i + 1) (k + 1) d'
    unfolding flat
    in-in f e k d d' he hd =
        rest-step l b (coords (take (2 * m) s)) true true i (coord_at s i) in-ring the-vertex f _ k d (k + 1) d' refl refl (hd ∙ rw he)

    -- a crossing x of the line between the vertex p before and the vertex e
    module _ (p e x : Coord) (hp : p ≡ vertex_before (coords (take (2 * m) s)) i) (he : e ≡ coord_at s i) (hx : x ≡ crossing l b p e) where
      pub in_out : inside l b (coord_at s i) ≡ false → (k : ℕ) (d d' : List Float) → d' ≡ sets d (2 * k) (x.x ∷ x.y ∷ [])
          → SameRest l b (coords (take (2 * m) s)) true i k d false (i + 1) (k + 1) d'
      unfolding flat
      in_out f k d d' hd =
          let q : x ≡ crossing l b p (coord_at s i) = hx ∙ rw he in
          rest-step l b (coords (take (2 * m) s)) true false i (coord_at s i) in-ring the-vertex f p k d (k + 1) d' hp refl (hd ∙ rw q)

      pub out_in : inside l b (coord_at s i) ≡ true → (k : ℕ) (d d₁ d₂ : List Float) → d₁ ≡ sets d (2 * k) (x.x ∷ x.y ∷ [])
          → d₂ ≡ sets d₁ (2 * (k + 1)) (e.x ∷ e.y ∷ [])
          → SameRest l b (coords (take (2 * m) s)) false i k d true (i + 1) (k + 2) d₂
      unfolding flat
      out_in f k d d₁ d₂ h₁ h₂ =
          let q : x ≡ crossing l b p (coord_at s i) = hx ∙ rw he in
          rest-step l b (coords (take (2 * m) s)) false true i (coord_at s i) in-ring the-vertex f p k d (k + 2) d₂ hp refl
          (h₂ ∙ rw (h₁, two_more k, he, q))

-- what is judged is the vertex that was read
pub judged : (l : Edge) (b : TileBounds) (e p : Coord) (t f : Bool) → e ≡ p → t ≡ inside l b e → t ≡ f → inside l b p ≡ f
judged l b e p t f he ht hf = ap (inside l b) (sym he) ∙ sym ht ∙ hf

-- the pass goes around what is left when the closing vertex is left off
module _ (l : Edge) (b : TileBounds) (r kept : List Coord) (h : kept ≡ leave_off r) where
  pub pass-around : pass l b r ≡ around l b kept
  unfolding pass
  pass-around = rw h

  pub pass-room : (n space : ℕ) → length r ≡ n → 2 * half_growth n ≤ space → 2 * length (around l b kept) ≤ space
  pass-room n space e g = let k : length (around l b kept) ≤ half_growth n = rw (e, pass-around) at (pass_grows l b r) in omega arith

  pub pass-none : (d : List Float) → kept ≡ [] → Written (pass l b r) d 0 d
  unfolding around flat
  pass-none d e = let q : pass l b r ≡ [] = pass-around ∙ rw e in record { count = rw q; numbers = rw q }
