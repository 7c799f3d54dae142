-- Closing a ring changes neither the rectangle nor whether a coordinate is huge, and a rectangle that is finite says that every ring could
-- be closed. Assumes nothing.
use mathlib.Core.Path.{◌≡◌, refl, sym, ◌∙◌}
use mathlib.Core.Bool.{Bool, true, false, cond, ◌||◌, or_assoc, or-false, true≢false}
use mathlib.Core.List.{List, [], ◌∷◌, ◌++◌}
use Prim.Native.Nat.{ℕ, ◌*◌}
use native.Mathlib.Omega.{arith}
use lib.Ieee.{Float, is_nan, lt, eq, ne, nan, inf, fin}
use lib.Ieee.Scale.{finite}
use borrow.Author.Tests.{not-false}
use lib.ListN.{take, drop}
use Rattle.binary64.specs.Compare.{minimum, maximum}
use Rattle.binary64.proofs.Comparisons.{ne_self}
use Rattle.binary64.proofs.FloatOrder.{lt-not-above, lt-right, lt_asym}
use Rattle.binary64.proofs.Booleans.{both}
use Rattle.tile.specs.declared.Coord.{Coord}
use Rattle.tile.specs.Ring.{coords, same, closed, close}
use Rattle.tile.proofs.Rings.{close-closes}
use Rattle.rings.specs.declared.rectangle.Rect.{Rect}
use Rattle.rings.specs.declared.rectangle.Rect.TheVariants as Rects
use Rattle.rings.specs.Rectangle.{if_finite, is_finite_coord, with_coord, with_ring, with_rings, with_parts}
use Rattle.rings.specs.Representable.{huge_coord, any_huge}
use Rattle.rings.specs.LentRings.{closed_rings}
use Rattle.rings.specs.Internal.{all_closed}

-- ---- of two numbers the one that comes first in an order; a NaN gives way

-- x is a number, and a does not come before it
pub record Covers (before : Float → Float → Bool) (x a : Float) : Type 0 where
  pub number : is_nan x ≡ false
  first : before a x ≡ false

module _ (before : Float → Float → Bool) (trans : (a b c : Float) → before a b ≡ true → before b c ≡ true → before a c ≡ true)
    (asym : (a b : Float) → before a b ≡ true → before b a ≡ false) where
  abbrev first_of : Float → Float → Float
  first_of a b = cond (before b a || is_nan a) b a

  covers_same : (x a : Float) → Covers before x a → first_of x a ≡ x
  covers_same x a c = rw (c.number, c.first)

  covers_self : (a : Float) → is_nan a ≡ false → Covers before a a
  covers_self a n = record { number = n; first = go (before a a) refl }
    where
      go : (t : Bool) → before a a ≡ t → before a a ≡ false
      go false e = e
      go true e = asym a a e

  covers_new : (x a : Float) → is_nan a ≡ false → Covers before (first_of x a) a
  covers_new x a n = go (before a x) (is_nan x) refl refl
    where
      go : (s t : Bool) → before a x ≡ s → is_nan x ≡ t → Covers before (cond (s || t) a x) a
      go true t e f = covers_self a n
      go false true e f = covers_self a n
      go false false e f = record { number = f; first = e }

  covers_more : (x a b : Float) → is_nan b ≡ false → Covers before x a → Covers before (first_of x b) a
  covers_more x a b n c = go (before b x) refl
    where
      no : (t : Bool) → before b x ≡ true → before a b ≡ t → before a b ≡ false
      no false e f = f
      no true e f = absurd (true≢false (sym (trans a b x f e) ∙ c.first))

      go : (t : Bool) → before b x ≡ t → Covers before (cond (t || is_nan x) b x) a
      go true e = record { number = n; first = no (before a b) e refl }
      go false e = rw c.number c

lt_trans : (a b c : Float) → lt a b ≡ true → lt b c ≡ true → lt a c ≡ true
lt_trans a b c f g = lt-not-above a b c (lt-right b c g) f (lt_asym b c g)

abbrev pub gt : Float → Float → Bool
gt a b = lt b a

gt_trans : (a b c : Float) → gt a b ≡ true → gt b c ≡ true → gt a c ≡ true
gt_trans a b c f g = lt_trans c b a g f

gt_asym : (a b : Float) → gt a b ≡ true → gt b a ≡ false
gt_asym a b e = lt_asym b a e

-- ---- the rectangle of a closed ring

finite_number : (x : Float) → finite x ≡ true → is_nan x ≡ false
unfolding is_nan
finite_number nan e = absurd (true≢false (sym e))
finite_number (inf s) e = refl
finite_number (fin s m e) f = refl

module _ (p : Coord) (f : is_finite_coord p ≡ true) where
  number_x : is_nan p.x ≡ false
  number_x = finite_number p.x (both (finite p.x) (finite p.y) f).0

  number_y : is_nan p.y ≡ false
  number_y = finite_number p.y (both (finite p.x) (finite p.y) f).1

-- four numbers that hold p
pub record Corners (p : Coord) (w s e n : Float) : Type 0 where
  whole : is_finite_coord p ≡ true
  pub west : Covers lt w p.x
  pub south : Covers lt s p.y
  pub east : Covers gt e p.x
  pub north : Covers gt n p.y

abbrev pub Holds : Coord → Rect → Type 0
Holds p Rects.Nothing = ⊥
Holds p Rects.NotFinite = Unit {0}
Holds p (Rects.Box w s e n) = Corners p w s e n

holds_same : (p : Coord) (r : Rect) → Holds p r → with_coord r p ≡ r
unfolding with_coord minimum maximum
holds_same p Rects.Nothing h = absurd h
holds_same p Rects.NotFinite h = refl
holds_same p (Rects.Box w s e n) h =
    rw (
      h.whole,
      covers_same lt lt_trans lt_asym w p.x h.west,
      covers_same lt lt_trans lt_asym s p.y h.south,
      covers_same
          gt gt_trans gt_asym e p.x h.east,
      covers_same gt gt_trans gt_asym n p.y h.north,
    )

pub holds_new : (p : Coord) (r : Rect) → Holds p (with_coord r p)
unfolding with_coord minimum maximum
holds_new p r = go (is_finite_coord p) refl r
  where
    go : (t : Bool) → is_finite_coord p ≡ t → (r : Rect) → Holds p (with_coord r p)
    go t e Rects.NotFinite = tt
    go false e Rects.Nothing = rw e tt
    go false e (Rects.Box w s e' n) = rw e tt
    go true e Rects.Nothing = rw e (record {
      whole = e;
      west = covers_self lt lt_trans lt_asym p.x (number_x p e);
      south = covers_self lt lt_trans lt_asym p.y (number_y p e);
      east = covers_self gt gt_trans gt_asym p.x (number_x p e);
      north = covers_self gt gt_trans gt_asym p.y (number_y p e);
    })
    go true e (Rects.Box w s e' n) = rw e (record {
      whole = e;
      west = covers_new lt lt_trans lt_asym w p.x (number_x p e);
      south = covers_new lt lt_trans lt_asym s p.y (number_y p e);
      east = covers_new gt gt_trans gt_asym e' p.x (number_x p e);
      north = covers_new gt gt_trans gt_asym n p.y (number_y p e);
    })

holds_more : (p q : Coord) (r : Rect) → Holds p r → Holds p (with_coord r q)
unfolding with_coord minimum maximum
holds_more p q Rects.Nothing h = absurd h
holds_more p q Rects.NotFinite h = tt
holds_more p q (Rects.Box w s e n) h = go (is_finite_coord q) refl
  where
    go : (t : Bool) → is_finite_coord q ≡ t → Holds p
        (if_finite t (Rects.Box (minimum w q.x) (minimum s q.y) (maximum e q.x) (maximum n q.y)))
    go false f = tt
    go true f = record {
      whole = h.whole;
      west = covers_more lt lt_trans lt_asym w p.x q.x (number_x q f) h.west;
      south = covers_more lt lt_trans lt_asym s p.y q.y (number_y q f) h.south;
      east = covers_more gt gt_trans gt_asym e p.x q.x (number_x q f) h.east;
      north = covers_more gt gt_trans gt_asym n p.y q.y (number_y q f) h.north;
    }

holds-ring : (p : Coord) (r : Rect) (c : List Coord) → Holds p r → Holds p (with_ring r c)
unfolding with_ring
holds-ring p r [] h = h
holds-ring p r (q ∷ c) h = holds-ring p (with_coord r q) c (holds_more p q r h)

ring-append : (r : Rect) (c : List Coord) (p : Coord) → with_ring r (c ++ (p ∷ [])) ≡ with_coord (with_ring r c) p
unfolding with_ring
ring-append r [] p = refl
ring-append r (q ∷ c) p = ring-append (with_coord r q) c p

pub rect_close : (r : Rect) (c : List Coord) → with_ring r (close c) ≡ with_ring r c
unfolding close with_ring
rect_close r [] = refl
rect_close r (p ∷ c) = go (closed (p ∷ c))
  where
    go : (t : Bool) → with_ring r (cond t (p ∷ c) ((p ∷ c) ++ (p ∷ []))) ≡ with_ring r (p ∷ c)
    go true = refl
    go false = ring-append r (p ∷ c) p ∙ holds_same p (with_ring (with_coord r p) c) (holds-ring p (with_coord r p) c (holds_new p r))

-- ---- huge coordinates

or_again : (s t : Bool) → ((s || t) || s) ≡ (s || t)
or_again true t = refl
or_again false t = or-false t

huge-append : (c : List Coord) (p : Coord) → any_huge (c ++ (p ∷ [])) ≡ (any_huge c || huge_coord p)
unfolding any_huge
huge-append [] p = or-false (huge_coord p)
huge-append (q ∷ c) p = rw (huge-append c p) (sym (or_assoc (huge_coord q) (any_huge c) (huge_coord p)))

pub huge-close : (c : List Coord) → any_huge (close c) ≡ any_huge c
unfolding close any_huge
huge-close [] = refl
huge-close (p ∷ c) = go (closed (p ∷ c))
  where
    go : (t : Bool) → any_huge (cond t (p ∷ c) ((p ∷ c) ++ (p ∷ []))) ≡ any_huge (p ∷ c)
    go true = refl
    go false = huge-append (p ∷ c) p ∙ or_again (huge_coord p) (any_huge c)

-- ---- a rectangle that is finite says that every coordinate is, so that closing closes every ring

self-equal : (x : Float) → finite x ≡ true → eq x x ≡ true
unfolding ne
self-equal x e = not-false (eq x x) (ne_self x ∙ finite_number x e)

self_same : (p : Coord) → is_finite_coord p ≡ true → same p p ≡ true
unfolding same
self_same p f = let g = both (finite p.x) (finite p.y) f in rw (self-equal p.x g.0, self-equal p.y g.1)

not_finite : (r : Rect) (p : Coord) → is_finite_coord p ≡ false → with_coord r p ≡ Rects.NotFinite
unfolding with_coord
not_finite Rects.Nothing p e = rw e
not_finite Rects.NotFinite p e = refl
not_finite (Rects.Box w s e' n) p e = rw e

-- a rectangle that is not finite stays so
pub stays_ring : (c : List Coord) → with_ring Rects.NotFinite c ≡ Rects.NotFinite
unfolding with_ring with_coord
stays_ring [] = refl
stays_ring (p ∷ c) = stays_ring c

pub stays_rings : (rings : List (List Coord)) → with_rings Rects.NotFinite rings ≡ Rects.NotFinite
unfolding with_rings
stays_rings [] = refl
stays_rings (c ∷ rings) = rw (stays_ring c) (stays_rings rings)

pub stays_parts : (parts : List (List (List Coord))) → with_parts Rects.NotFinite parts ≡ Rects.NotFinite
unfolding with_parts
stays_parts [] = refl
stays_parts (part ∷ parts) = rw (stays_rings part) (stays_parts parts)

pub ring-closed : (r : Rect) (c : List Coord) (rest : List (List Coord)) → (with_rings (with_ring r (close c)) rest ≡ Rects.NotFinite → ⊥)
    → closed (close c) ≡ true
unfolding close closed with_ring
ring-closed r [] rest q = refl
ring-closed r (p ∷ c) rest q = go (is_finite_coord p) refl
  where
    go : (t : Bool) → is_finite_coord p ≡ t → closed (close (p ∷ c)) ≡ true
    go true f = close-closes p c (self_same p f)
    go false f = absurd (q (rw (rect_close r (p ∷ c), not_finite r p f, stays_ring c) (stays_rings rest)))

pub all_closed_lem : (r : Rect) (ns : List ℕ) (numbers : List Float) → (with_rings r (closed_rings ns numbers) ≡ Rects.NotFinite → ⊥)
    → all_closed (closed_rings ns numbers) ≡ true
unfolding closed_rings with_rings all_closed
all_closed_lem r [] numbers q = refl
all_closed_lem r (k ∷ ns) numbers q =
    let c = coords (take (2 * k) numbers) in
    rw (ring-closed r c (closed_rings ns (drop (2 * k) numbers)) q, all_closed_lem (with_ring r (close c)) ns (drop (2 * k) numbers) q)

pub box_finite : (r : Rect) (w s e n : Float) → r ≡ Rects.Box w s e n → r ≡ Rects.NotFinite → ⊥
box_finite r w s e n p q = let z : ◌≡◌ {A = ℕ} 0 1 = cc in omega arith
