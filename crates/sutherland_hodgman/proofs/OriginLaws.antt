-- What the origins say of the coordinates and of each other: as many, each traced to the ring or to a line, positions rising; and a
-- ring that closing closes has the origins that it has as lent. Assumes nothing.
use mathlib.Core.Path.{◌≡◌, refl, sym, ◌∙◌, ap, subst}
use mathlib.Core.Logic.{inl, inr}
use mathlib.Core.Bool.{Bool, true, false, cond}
use mathlib.Core.List.{List, [], ◌∷◌, ◌++◌}
use Prim.Native.Nat.{ℕ, zero, suc, ◌+◌, ◌-◌, ◌≤◌, ◌<◌}
use native.Mathlib.Nat.{le_refl, le_trans}
use native.Mathlib.Omega.{arith}
use lib.Dec.{T, leb, ltb, ltb→lt}
use borrow.Author.Tests.{lt-ltb}
use lib.Seq.{drop-cons, take-append-le, take-length}
use lib.ListN.{length, get_or, take, drop, length-append, length-drop}
use Rattle.binary64.specs.Lists.{Every}
use Rattle.tile.specs.declared.Coord.{Coord}
use Rattle.tile.specs.declared.TileBounds.{TileBounds}
use Rattle.tile.specs.declared.Edge.{Edge}
use Rattle.tile.specs.declared.Edge.TheVariants.{Left, Right, Bottom, Top}
use Rattle.tile.specs.Ring.{last, closed, close}
use Rattle.cutting_lines.specs.CuttingLines.{fixed, bound, inside, crossing}
use Rattle.edge_pass.specs.Pass.{step, steps, leave_off, around, pass}
use Rattle.edge_pass.specs.Origins.{line_origin, step_origins, steps_origins, around_origins, pass_origins}
use Rattle.edge_pass.proofs.PassGrowth.{leave_off-length}
use Rattle.edge_pass.proofs.LeavingOff.{leave_off-close}
use Rattle.edge_pass.proofs.OriginWalking.{step_many, pass_many, pass_enough}
use Rattle.sutherland_hodgman.specs.Clip.{passes, finish, clip_ring}
use Rattle.sutherland_hodgman.specs.Origins.{IsPosition, positions_from, passes_origins, close_origins, finish_origins}
use Rattle.sutherland_hodgman.specs.Origins.{clip_origins, Traced, Rises}
use Rattle.sutherland_hodgman.specs.Growth.{most_coordinates}
use Rattle.sutherland_hodgman.specs.Internal.{Fits16}
use Rattle.sutherland_hodgman.proofs.Positions.{length-positions}

-- ---- as many origins as coordinates

pub close_many : (r : List Coord) (os : List ℕ) → length os ≡ length r → length (close_origins r os) ≡ length (close r)
unfolding close_origins close closed
close_many [] os e = e
close_many (p ∷ r) os e = go (closed (p ∷ r)) _
  where
    go : (t : Bool) (o : ℕ) → length (cond t os (os ++ (o ∷ []))) ≡ length (cond t (p ∷ r) ((p ∷ r) ++ (p ∷ [])))
    go true o = e
    go false o = omega (arith, length-append os (o ∷ []), length-append (p ∷ r) (p ∷ []))

pub finish_many : (r : List Coord) (os : List ℕ) → length os ≡ length r → length (finish_origins r os) ≡ length (finish r)
unfolding finish_origins finish
finish_many r os e = go (leb 3 (length r))
  where
    go : (t : Bool) → length (cond t (close_origins r os) []) ≡ length (cond t (close r) [])
    go true = close_many r os e
    go false = refl

passes_many : (b : TileBounds) (r : List Coord) → length (passes_origins b r) ≡ length (passes b r)
unfolding passes_origins passes
passes_many b r = pass_many Top b _ _

pub as_many : (b : TileBounds) (r : List Coord) → length (clip_origins b r) ≡ length (clip_ring b r)
unfolding clip_origins clip_ring
as_many b r = finish_many (passes b r) (passes_origins b r) (passes_many b r)

-- ---- what holds of each vertex and its origin, from what holds of the ring's and of every crossing

abbrev Along : (Coord → ℕ → Type 0) → List Coord → List ℕ → Type 0
Along P [] os = Unit {0}
Along P (p ∷ r) os = P p (get_or os 0 0) × Along P r (drop 1 os)

module _ (P : Coord → ℕ → Type 0) where
  along-append : (r t : List Coord) (os qs : List ℕ) → length os ≡ length r → Along P r os → Along P t qs → Along P (r ++ t) (os ++ qs)
  along-append [] t [] qs e h k = k
  along-append [] t (o ∷ os) qs e h k = absurd (omega arith)
  along-append (p ∷ r) t [] qs e h k = absurd (omega arith)
  along-append (p ∷ r) t (o ∷ os) qs e h k = (h.0, along-append r t os qs (omega arith) h.1 k)

  along-take : (n : ℕ) (r : List Coord) (os : List ℕ) → Along P r os → Along P (take n r) os
  along-take zero r os h = tt
  along-take (suc n) [] os h = tt
  along-take (suc n) (p ∷ r) os h = (h.0, along-take n r (drop 1 os) h.1)

  along-cond : (t : Bool) (r s : List Coord) (os qs : List ℕ) → Along P r os → Along P s qs → Along P (cond t r s) (cond t os qs)
  along-cond true r s os qs h k = h
  along-cond false r s os qs h k = k

  along-leave_off : (r : List Coord) (os : List ℕ) → Along P r os → Along P (leave_off r) os
  unfolding leave_off
  along-leave_off [] os h = tt
  along-leave_off (p ∷ []) os h = h
  along-leave_off (p ∷ q ∷ r) os h = go (closed (p ∷ q ∷ r))
    where
      go : (t : Bool) → Along P (cond t (take (length (p ∷ q ∷ r) - 1) (p ∷ q ∷ r)) (p ∷ q ∷ r)) os
      go true = along-take (length (p ∷ q ∷ r) - 1) (p ∷ q ∷ r) os h
      go false = h

  along-close : (r : List Coord) (os : List ℕ) → length os ≡ length r → Along P r os → Along P (close r) (close_origins r os)
  unfolding close close_origins
  along-close [] os e h = tt
  along-close (p ∷ r) os e h =
      along-cond (closed (p ∷ r)) (p ∷ r) ((p ∷ r) ++ (p ∷ [])) os _ h (along-append (p ∷ r) (p ∷ []) os _ e h (h.0, tt))

  along-finish : (r : List Coord) (os : List ℕ) → length os ≡ length r → Along P r os → Along P (finish r) (finish_origins r os)
  unfolding finish finish_origins
  along-finish r os e h = along-cond (leb 3 (length r)) (close r) [] (close_origins r os) [] (along-close r os e h) tt

  along-at : (r : List Coord) (os : List ℕ) (d : Coord) (i : ℕ) → i < length r → Along P r os → P (get_or r i d) (get_or os i 0)
  along-at [] os d i l h = absurd (omega arith)
  along-at (p ∷ r) os d zero l h = h.0
  along-at (p ∷ r) [] d (suc i) l h = along-at r [] d i (omega arith) h.1
  along-at (p ∷ r) (o ∷ os) d (suc i) l h = along-at r os d i (omega arith) h.1

  module _ (b : TileBounds) (c : (l : Edge) (s e : Coord) → P (crossing l b s e) (line_origin l)) where
    along-step : (l : Edge) (v f : Bool) (s e : Coord) (o : ℕ) → P e o → Along P (step v f (crossing l b s e) e) (step_origins v f
        (line_origin l) o)
    along-step l true true s e o h = (h, tt)
    along-step l true false s e o h = (c l s e, tt)
    along-step l false true s e o h = (c l s e, (h, tt))
    along-step l false false s e o h = tt

    along-steps : (l : Edge) (v : Bool) (s : Coord) (r : List Coord) (os : List ℕ) → Along P r os
        → Along P (steps l b v s r) (steps_origins l b v r os)
    unfolding steps steps_origins
    along-steps l v s [] os h = tt
    along-steps l v s (e ∷ r) os h =
        let f = inside l b e in
        let o = get_or os 0 0 in
        along-append (step v f (crossing l b s e) e) (steps l b f e r) (step_origins v f (line_origin l) o) (steps_origins l b f r
        (drop 1 os)) (step_many v f (crossing l b s e) e (line_origin l) o)
        (along-step l v f s e o h.0) (along-steps l f e r (drop 1 os) h.1)

    along-around : (l : Edge) (r : List Coord) (os : List ℕ) → Along P r os → Along P (around l b r) (around_origins l b r os)
    unfolding around around_origins
    along-around l [] os h = tt
    along-around l (p ∷ r) os h = along-steps l (inside l b (last p r)) (last p r) (p ∷ r) os h

    along-pass : (l : Edge) (r : List Coord) (os : List ℕ) → Along P r os → Along P (pass l b r) (pass_origins l b r os)
    unfolding pass pass_origins
    along-pass l r os h = along-around l (leave_off r) os (along-leave_off r os h)

    along-cut : (r : List Coord) → Along P r (positions_from 0 (length r)) → Along P (clip_ring b r) (clip_origins b r)
    unfolding clip_ring clip_origins passes passes_origins
    along-cut r h = along-finish (passes b r) (passes_origins b r) (passes_many b r) (along-pass Top _ _ (along-pass Bottom _ _
        (along-pass Right _ _ (along-pass Left r _ h))))

-- ---- each vertex is traced to the ring, or to a line

crossed : (b : TileBounds) (l : Edge) (s e : Coord) → fixed l (crossing l b s e) ≡ bound l b
unfolding crossing
crossed b Left s e = refl
crossed b Right s e = refl
crossed b Bottom s e = refl
crossed b Top s e = refl

module _ (b : TileBounds) (ring : List Coord) where
  from-ring : (r : List Coord) (i : ℕ) → drop i ring ≡ r → Along (Traced b ring) r (positions_from i (length r))
  unfolding positions_from
  from-ring [] i e = tt
  from-ring (p ∷ r) i e =
      let h : i < length ring = omega (arith, length-drop i ring, ap length e) in
      let c = drop-cons ring i p h in
      let v : p ≡ get_or ring i p = cc in
      let q : drop (suc i) ring ≡ r = cc in
      (inl (record { position = h; vertex = v }), from-ring r (suc i) q)

  all_traced : Along (Traced b ring) (clip_ring b ring) (clip_origins b ring)
  all_traced =
      along-cut (Traced b ring) b (λ l s e. inr (record { line = l; origin = refl; stands = crossed b l s e })) ring (from-ring ring 0 refl)

  -- the i-th vertex of the cut and its origin
  pub traced : (d : Coord) (i : ℕ) → i < length (clip_ring b ring)
      → Traced b ring (get_or (clip_ring b ring) i d) (get_or (clip_origins b ring) i 0)
  traced d i h = along-at (Traced b ring) (clip_ring b ring) (clip_origins b ring) d i h all_traced

  -- also where the cut is closed once more
  pub closed_traced : (d : Coord) (i : ℕ) → i < length (close (clip_ring b ring))
      → Traced b ring (get_or (close (clip_ring b ring)) i d) (get_or (close_origins (clip_ring b ring) (clip_origins b ring)) i 0)
  closed_traced d i h =
      along-at (Traced b ring) (close (clip_ring b ring)) (close_origins (clip_ring b ring) (clip_origins b ring)) d i h
      (along-close (Traced b ring) (clip_ring b ring) (clip_origins b ring) (as_many b ring) all_traced)

not-below : (l : Edge) → line_origin Left ≤ line_origin l
not-below Left = omega arith
not-below Right = omega arith
not-below Bottom = omega arith
not-below Top = omega arith

-- the same by the numbers
pub traced_position : (b : TileBounds) (ring : List Coord) (p : Coord) (o : ℕ) → Traced b ring p o → IsPosition o
    → (o < length ring) × (p ≡ get_or ring o p)
traced_position b ring p o (inl t) h = (t.position, t.vertex)
traced_position b ring p o (inr t) h = absurd (omega (arith, not-below t.line, t.origin))

line_of : (l m : Edge) → line_origin l ≡ line_origin m → l ≡ m
line_of Left Left e = refl
line_of Left Right e = absurd (omega arith)
line_of Left Bottom e = absurd (omega arith)
line_of Left Top e = absurd (omega arith)
line_of Right Left e = absurd (omega arith)
line_of Right Right e = refl
line_of Right Bottom e = absurd (omega arith)
line_of Right Top e = absurd (omega arith)
line_of Bottom Left e = absurd (omega arith)
line_of Bottom Right e = absurd (omega arith)
line_of Bottom Bottom e = refl
line_of Bottom Top e = absurd (omega arith)
line_of Top Left e = absurd (omega arith)
line_of Top Right e = absurd (omega arith)
line_of Top Bottom e = absurd (omega arith)
line_of Top Top e = refl

pub traced_line : (b : TileBounds) (ring : List Coord) (p : Coord) (o : ℕ) (l : Edge) → Traced b ring p o → length ring ≤ most_coordinates
    → o ≡ line_origin l → fixed l p ≡ bound l b
traced_line b ring p o l (inl t) h e = absurd (omega (arith, not-below l, t.position))
traced_line b ring p o l (inr t) h e = let q : t.line ≡ l = line_of t.line l (sym t.origin ∙ e) in rw q at t.stands

module _ (b : TileBounds) (ring : List Coord) (d : Coord) (i : ℕ) (h : i < length (clip_ring b ring)) where
  -- where the origin is a position, the ring's vertex there is the one that stands here
  pub at_position : IsPosition (get_or (clip_origins b ring) i 0)
      → (get_or (clip_origins b ring) i 0 < length ring)
      × (get_or (clip_ring b ring) i d ≡ get_or ring (get_or (clip_origins b ring) i 0) (get_or (clip_ring b ring) i d))
  at_position l = traced_position b ring _ _ (traced b ring d i h) l

  -- where it is a line, the line's bound stands here
  pub on_line : (l : Edge) → length ring ≤ most_coordinates → get_or (clip_origins b ring) i 0 ≡ line_origin l
      → fixed l (get_or (clip_ring b ring) i d) ≡ bound l b
  on_line l n e = traced_line b ring _ _ l (traced b ring d i h) n e

-- ---- positions rise

-- the least position that may come after o, where k was the least before
abbrev next : ℕ → ℕ → ℕ
next k o = cond (ltb o (line_origin Left)) (suc o) k

abbrev RisesFrom : ℕ → List ℕ → Type 0
RisesFrom k [] = Unit {0}
RisesFrom k (o ∷ os) = (IsPosition o → k ≤ o) × RisesFrom (next k o) os

cond_mono : (t : Bool) (n k m : ℕ) → k ≤ m → cond t n k ≤ cond t n m
cond_mono true n k m h = le_refl n
cond_mono false n k m h = h

lower : (k m : ℕ) (os : List ℕ) → k ≤ m → RisesFrom m os → RisesFrom k os
lower k m [] h f = tt
lower k m (o ∷ os) h f = (λ p. le_trans h (f.0 p), lower (next k o) (next m o) os (cond_mono (ltb o (line_origin Left)) (suc o) k m h) f.1)

next_more : (k o : ℕ) → (IsPosition o → k ≤ o) → k ≤ next k o
next_more k o h = go (ltb o (line_origin Left)) refl
  where
    go : (t : Bool) → ltb o (line_origin Left) ≡ t → k ≤ cond t (suc o) k
    go true e = let p : k ≤ o = h (ltb→lt o (line_origin Left) (subst T (sym e) tt)) in omega arith
    go false e = le_refl k

skip : (k o : ℕ) (os : List ℕ) → RisesFrom k (o ∷ os) → RisesFrom k os
skip k o os h = lower k (next k o) os (next_more k o h.0) h.1

line_first : (l : Edge) (k : ℕ) (os : List ℕ) → RisesFrom k os → RisesFrom k (line_origin l ∷ os)
line_first Left k os h = (λ p. absurd (omega arith), h)
line_first Right k os h = (λ p. absurd (omega arith), h)
line_first Bottom k os h = (λ p. absurd (omega arith), h)
line_first Top k os h = (λ p. absurd (omega arith), h)

module _ (l : Edge) (b : TileBounds) where
  steps_rise : (v : Bool) (r : List Coord) (os : List ℕ) (k : ℕ) → length r ≤ length os → RisesFrom k os
      → RisesFrom k (steps_origins l b v r os)
  unfolding steps_origins
  steps_rise v [] os k n h = tt
  steps_rise v (e ∷ r) [] k n h = absurd (omega arith)
  steps_rise v (e ∷ r) (o ∷ os) k n h = go v (inside l b e) (λ w m g. steps_rise w r os m (omega arith) g)
    where
      go : (v f : Bool) → ((w : Bool) (m : ℕ) → RisesFrom m os → RisesFrom m (steps_origins l b w r os))
          → RisesFrom k (step_origins v f (line_origin l) o ++ steps_origins l b f r os)
      go true true ih = (h.0, ih true (next k o) h.1)
      go true false ih = line_first l k (steps_origins l b false r os) (ih false k (skip k o os h))
      go false true ih = line_first l k (o ∷ steps_origins l b true r os) (h.0, ih true (next k o) h.1)
      go false false ih = ih false k (skip k o os h)

  around_rise : (r : List Coord) (os : List ℕ) (k : ℕ) → length r ≤ length os → RisesFrom k os → RisesFrom k (around_origins l b r os)
  unfolding around_origins
  around_rise [] os k n h = tt
  around_rise (p ∷ r) os k n h = steps_rise (inside l b (last p r)) (p ∷ r) os k n h

  pass_rise : (r : List Coord) (os : List ℕ) (k : ℕ) → length r ≤ length os → RisesFrom k os → RisesFrom k (pass_origins l b r os)
  unfolding pass_origins
  pass_rise r os k n h = around_rise (leave_off r) os k (omega (arith, leave_off-length r)) h

positions_rise : (i n : ℕ) → RisesFrom i (positions_from i n)
unfolding positions_from
positions_rise i zero = tt
positions_rise i (suc n) = (
  λ p. le_refl i,
  lower (next i i) (suc i) (positions_from (suc i) n) (most (ltb i (line_origin Left)))
      (positions_rise (suc i) n),
)
  where
    most : (t : Bool) → cond t (suc i) i ≤ suc i
    most true = le_refl (suc i)
    most false = omega arith

later : (k : ℕ) (os : List ℕ) (j : ℕ) → RisesFrom k os → j < length os → IsPosition (get_or os j 0) → k ≤ get_or os j 0
later k [] j h l p = absurd (omega arith)
later k (o ∷ os) zero h l p = h.0 p
later k (o ∷ os) (suc j) h l p = later k os j (skip k o os h) (omega arith) p

rises_of : (k : ℕ) (os : List ℕ) → RisesFrom k os → Rises os
rises_of k [] h i j l n p q = absurd (omega arith)
rises_of k (o ∷ os) h i zero l n p q = absurd (omega arith)
rises_of k (o ∷ os) h zero (suc j) l n p q = let e : next k o ≡ suc o = rw (lt-ltb o (line_origin Left) p) in omega (
  arith,
  later
      (next k o) os j h.1 (omega arith) q,
)
rises_of k (o ∷ os) h (suc i) (suc j) l n p q = rises_of (next k o) os h.1 i j (omega arith) (omega arith) p q

pub rises : (b : TileBounds) (r : List Coord) → Rises (passes_origins b r)
unfolding passes_origins
rises b r =
    let P = positions_from 0 (length r) in
    let r1 = pass Left b r in
    let r2 = pass Right b r1 in
    let o1 = pass_origins Left b r P in
    let o2 = pass_origins Right b r1 o1 in
    let r3 = pass Bottom b r2 in
    let o3 = pass_origins Bottom b r2 o2 in
    let f1 = pass_rise Left b r P 0 (omega (arith, length-positions 0 (length r))) (positions_rise 0 (length r)) in
    let f2 = pass_rise Right b r1 o1 0 (omega (arith, pass_many Left b r P)) f1 in
    let f3 = pass_rise Bottom b r2 o2 0 (omega (arith, pass_many Right b r1 o1)) f2 in
    rises_of 0 (pass_origins Top b r3 o3) (pass_rise Top b r3 o3 0 (omega (arith, pass_many Bottom b r2 o2)) f3)

-- what closing appends stands behind the others
pub close-front : (r : List Coord) (os : List ℕ) (n : ℕ) → n ≤ length os → take n (close_origins r os) ≡ take n os
unfolding close_origins
close-front r os n h = go (closed r) _
  where
    go : (t : Bool) (o : ℕ) → take n (cond t os (os ++ (o ∷ []))) ≡ take n os
    go true o = refl
    go false o = take-append-le n os (o ∷ []) h

close_longer : (r : List Coord) (os : List ℕ) → length os ≤ length (close_origins r os)
unfolding close_origins
close_longer r os = go (closed r) _
  where
    go : (t : Bool) (o : ℕ) → length os ≤ length (cond t os (os ++ (o ∷ [])))
    go true o = le_refl (length os)
    go false o = omega (arith, length-append os (o ∷ []))

close-none : close_origins [] [] ≡ []
unfolding close_origins closed
close-none = refl

pub none_rise : (n : ℕ) → Rises (take n [])
none_rise zero i j l k p q = absurd (omega arith)
none_rise (suc n) i j l k p q = absurd (omega arith)

-- as many as the four passes leave; fewer than three of them are none
module _ (r : List Coord) (os : List ℕ) (many : length os ≡ length r) (h : Rises os) where
  before_closing : Rises (take (length r) (finish_origins r os))
  unfolding finish_origins
  before_closing = go (leb 3 (length r))
    where
      go : (t : Bool) → Rises (take (length r) (cond t (close_origins r os) []))
      go true = rw (close-front r os (length r) (omega arith), ← many, take-length os) h
      go false = none_rise (length r)

  before_closings : Rises (take (length r) (close_origins (finish r) (finish_origins r os)))
  unfolding finish finish_origins
  before_closings = go (leb 3 (length r))
    where
      go : (t : Bool) → Rises (take (length r) (close_origins (cond t (close r) []) (cond t (close_origins r os) [])))
      go true =
          let n : length r ≤ length (close_origins r os) = omega (arith, close_longer r os) in
          rw (close-front (close r) (close_origins r os) (length r) n, close-front r os (length r) (omega arith), ← many, take-length os) h
      go false = rw close-none (none_rise (length r))

-- the positions of a cut rise before its closing vertex, and before both where it is closed once more
module _ (b : TileBounds) (r : List Coord) where
  pub cut_rises : Rises (take (length (passes b r)) (clip_origins b r))
  unfolding clip_origins
  cut_rises = before_closing (passes b r) (passes_origins b r) (passes_many b r) (rises b r)

  pub closed_rises : Rises (take (length (passes b r)) (close_origins (clip_ring b r) (clip_origins b r)))
  unfolding clip_ring clip_origins
  closed_rises = before_closings (passes b r) (passes_origins b r) (passes_many b r) (rises b r)

-- ---- a ring that closing closes has the same origins as it is lent

take-positions : (i k n : ℕ) → k ≤ n → take k (positions_from i n) ≡ positions_from i k
unfolding positions_from
take-positions i zero n h = refl
take-positions i (suc k) zero h = absurd (omega arith)
take-positions i (suc k) (suc n) h = ap (λ (l : List ℕ). i ∷ l) (take-positions (suc i) k n (omega arith))

first_pass : (b : TileBounds) (r : List Coord) → pass_origins Left b r (positions_from 0 (length r)) ≡ around_origins Left b (leave_off r)
    (positions_from 0 (length (leave_off r)))
unfolding pass_origins
first_pass b r =
    let k = length (leave_off r) in
    sym (pass_enough Left b k r (positions_from 0 (length r)) (le_refl k)) ∙ ap (around_origins Left b (leave_off r)) (take-positions 0 k
    (length r) (leave_off-length r))

pub origins-close : (b : TileBounds) (r : List Coord) → closed (close r) ≡ true → clip_origins b (close r) ≡ clip_origins b r
unfolding clip_origins passes_origins passes pass
origins-close b r e = rw (first_pass b (close r), first_pass b r, leave_off-close r e)

-- ---- each origin fits 16 bits

line-fits : (l : Edge) → Fits16 (line_origin l)
line-fits Left = omega arith
line-fits Right = omega arith
line-fits Bottom = omega arith
line-fits Top = omega arith

fit_append : (os qs : List ℕ) → Every Fits16 os → Every Fits16 qs → Every Fits16 (os ++ qs)
fit_append [] qs h k = k
fit_append (o ∷ os) qs h k = (h.0, fit_append os qs h.1 k)

first_fits : (os : List ℕ) → Every Fits16 os → Fits16 (get_or os 0 0)
first_fits [] h = omega arith
first_fits (o ∷ os) h = h.0

drop-fits : (os : List ℕ) → Every Fits16 os → Every Fits16 (drop 1 os)
drop-fits [] h = tt
drop-fits (o ∷ os) h = h.1

positions_fit : (i n : ℕ) → i + n ≤ most_coordinates → Every Fits16 (positions_from i n)
unfolding positions_from
positions_fit i zero h = tt
positions_fit i (suc n) h = (omega arith, positions_fit (suc i) n (omega arith))

step_fits : (l : Edge) (v f : Bool) (o : ℕ) → Fits16 o → Every Fits16 (step_origins v f (line_origin l) o)
step_fits l true true o h = (h, tt)
step_fits l true false o h = (line-fits l, tt)
step_fits l false true o h = (line-fits l, (h, tt))
step_fits l false false o h = tt

module _ (l : Edge) (b : TileBounds) where
  steps_fit : (v : Bool) (r : List Coord) (os : List ℕ) → Every Fits16 os → Every Fits16 (steps_origins l b v r os)
  unfolding steps_origins
  steps_fit v [] os h = tt
  steps_fit v (e ∷ r) os h =
      fit_append (step_origins v (inside l b e) (line_origin l) (get_or os 0 0)) (steps_origins l b (inside l b e) r (drop 1 os))
      (step_fits l v (inside l b e) (get_or os 0 0) (first_fits os h)) (steps_fit (inside l b e) r (drop 1 os) (drop-fits os h))

  around-fits : (r : List Coord) (os : List ℕ) → Every Fits16 os → Every Fits16 (around_origins l b r os)
  unfolding around_origins
  around-fits [] os h = tt
  around-fits (p ∷ r) os h = steps_fit (inside l b (last p r)) (p ∷ r) os h

  pass_fits : (r : List Coord) (os : List ℕ) → Every Fits16 os → Every Fits16 (pass_origins l b r os)
  unfolding pass_origins
  pass_fits r os h = around-fits (leave_off r) os h

cond-fits : (t : Bool) (os qs : List ℕ) → Every Fits16 os → Every Fits16 qs → Every Fits16 (cond t os qs)
cond-fits true os qs h k = h
cond-fits false os qs h k = k

pub close-fits : (r : List Coord) (os : List ℕ) → Every Fits16 os → Every Fits16 (close_origins r os)
unfolding close_origins
close-fits r os h =
    cond-fits (closed r) os (os ++ (get_or os 0 0 ∷ [])) h (fit_append os (get_or os 0 0 ∷ []) h (first_fits os h, tt))

pub origins_fit : (b : TileBounds) (r : List Coord) → length r ≤ most_coordinates → Every Fits16 (clip_origins b r)
unfolding clip_origins finish_origins passes_origins
origins_fit b r n =
    let P = pass_fits Left b r _ (positions_fit 0 (length r) (omega arith)) in
    let Q = pass_fits Top b _ _ (pass_fits Bottom b _ _ (pass_fits Right b _ _ P)) in
    cond-fits (leb 3 (length (passes b r))) (close_origins (passes b r) _) [] (close-fits (passes b r) _ Q) tt
