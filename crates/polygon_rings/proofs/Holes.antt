-- Cutting the rings of a polygon one behind the other in the output, and their origins in theirs: each has room, and what is written with
-- what is left to write is always the same. Assumes nothing.
use mathlib.Core.Path.{◌≡◌, refl, sym, ◌∙◌, ap, subst}
use mathlib.Core.List.{List, [], ◌∷◌, ◌++◌, append_assoc, append-nil}
use Prim.Native.Nat.{ℕ, zero, suc, ◌+◌, ◌*◌, ◌-◌, ◌^◌, ◌<◌, ◌≤◌}
use native.Mathlib.Nat.{zero-add}
use native.Mathlib.Omega.{arith}
use lib.Ieee.{Float}
use lib.ListN.{length, get_or, take, drop, length-append}
use lib.Seq.{sets, drop-cons}
use Rattle.std.specs.Prelude.{Option, None, Some, MatchOption}
use Rattle.binary64.proofs.Fill.{sets_append, whole-over, front-part}
use Rattle.binary64.proofs.Booleans.{both}
use Rattle.tile.specs.declared.Coord.{Coord}
use Rattle.tile.specs.declared.TileBounds.{TileBounds}
use Rattle.tile.specs.Ring.{coords, flat, closed, close}
use Rattle.tile.specs.Internal.{Stands}
use Rattle.tile.proofs.Rings.{length-flat}
use Rattle.sutherland_hodgman.proofs.Offered.{B-le}
use Rattle.rings.specs.LentRings.{Lent, exterior, closed_rings, total, largest, ring_room}
use Rattle.rings.specs.Internal.{all_closed}
use Rattle.rings.proofs.LentRings.{larger_least, first-fits, first_ring, length-closed}
use Rattle.clip.specs.declared.polygon.Route.TheVariants as Routes
use Rattle.clip.specs.Polygon.{cut_hole, unless_none, cut_exterior, cut_holes, cut_rings, cut}
use Rattle.clip.specs.Origins.{exterior_origins, hole_origins, holes_origins, cut_origins}
use Rattle.clip.specs.Internal.{RingRoom, RingOriginRoom}
use Rattle.clip.proofs.Cuts.{cut-fits-room, cut-rings, exterior-origins-length, hole_origins-length}
use Rattle.polygon_rings.specs.declared.Placed.{Placed}
use Rattle.polygon_rings.specs.WrittenRings.{numbers_of, lengths_of, origins_of}
use Rattle.polygon_rings.specs.Internal.{none_placed, length_unless_none, CountRoom, Counted, HoleRoom, Put, LentRingsRoom, PutHoles}
use Rattle.polygon_rings.specs.Internal.{LentCutRoom, HoleOriginRoom, LentOriginsRoom, LentRouteOriginRoom, Filled, FilledOrigins}

pub length_some : (n : ℕ) → (n ≡ 0 → ⊥) → length_unless_none n ≡ n ∷ []
length_some zero h = absurd (h refl)
length_some (suc n) h = refl

length-at-most : (n : ℕ) → length (length_unless_none n) ≤ 1
length-at-most zero = omega arith
length-at-most (suc n) = omega arith

-- ---- room

-- lent rings and their origins have room
abbrev pub Rooms : List (List Coord) → ℕ → ℕ → ℕ → ℕ → ℕ → Placed → Type 0
Rooms lent scratch origin_scratch out lens out_origins at =
    LentRingsRoom lent scratch out lens at × LentOriginsRoom lent origin_scratch out_origins at

module _ (ring : List Coord) (rest : List (List Coord)) (scratch origin_scratch out lens out_origins : ℕ) (at : Placed)
    (rooms : Rooms (ring ∷ rest) scratch origin_scratch out lens out_origins at) where
  -- the first ring, as it is lent
  pub hole_room : (r : List Coord) → ring ≡ close r → HoleRoom r scratch out lens at × HoleOriginRoom r origin_scratch out_origins at
  unfolding total largest all_closed
  hole_room r e =
      let l = larger_least (ring_room ring) (largest ring_room rest) in
      let b = ap ring_room e in
      let room = rooms.0 in
      let origins = rooms.1 in (
        record {
          room = record {
            few = omega (arith, room.small, ap length e);
            closes = ap closed (sym e) ∙ (both (closed ring) (all_closed rest) room.closes).0;
            scratch-room = omega (arith, room.scratch-room, b);
            output-room = omega (arith, room.output-room, b);
          };
          output-room = omega (arith, room.output-room);
          lengths-room = omega (arith, room.lengths-room);
        },
        record {
          room = record { scratch-room = omega (arith, origins.scratch-room, b); output-room = omega (arith, origins.output-room, b) };
          output-room = omega (arith, origins.output-room);
        },
      )

  -- behind a ring that was cut
  pub next_room : (c : List Coord) → length c ≤ ring_room ring → (r : Placed)
      → r.coordinates ≡ at.coordinates + length c → r.rings ≡ at.rings + length (length_unless_none (length c))
      → Rooms rest scratch origin_scratch out lens out_origins r
  unfolding total largest all_closed
  next_room c fits r en er =
      let l = larger_least (ring_room ring) (largest ring_room rest) in
      let room = rooms.0 in
      let origins = rooms.1 in (
        record {
          small = omega (arith, room.small);
          closes = (both (closed ring) (all_closed rest) room.closes).1;
          scratch-room = omega (arith, room.scratch-room);
          output-room = omega (arith, room.output-room);
          lengths-room = omega (arith, length-at-most (length c), room.lengths-room);
        },
        record { scratch-room = omega (arith, origins.scratch-room); output-room = omega (arith, origins.output-room) },
      )

-- a ring that a slice has room for can be counted
module _ (r : List Coord) (scratch out : ℕ) (room : RingRoom r scratch out) (c : List Coord) (fits : length c ≤ ring_room (close r)) where
  pub cut_fits : (m : ℕ) → m ≡ length c → 2 * m ≤ out
  cut_fits m e = omega (arith, room.output-room)

  pub cut_small : (m : ℕ) → m ≡ length c → m < 2 ^ 32
  cut_small m e = omega (arith, B-le (length (close r)) room.few)

  pub cut-origins_fit : (origin_scratch out_origins m : ℕ) → RingOriginRoom r origin_scratch out_origins → m ≡ length c → m ≤ out_origins
  cut-origins_fit origin_scratch out_origins m o e = omega (arith, o.output-room)

-- ---- what is written, and what is left to write

unless_numbers : (c : List Coord) (l : List (List Coord)) → numbers_of (unless_none c l) ≡ flat c ++ numbers_of l
unfolding numbers_of flat
unless_numbers [] l = refl
unless_numbers (p ∷ c) l = refl

unless_lengths : (c : List Coord) (l : List (List Coord)) → lengths_of (unless_none c l) ≡ length_unless_none (length c) ++ lengths_of l
unfolding lengths_of
unless_lengths [] l = refl
unless_lengths (p ∷ c) l = refl

unless_count : (c : List Coord) (l : List (List Coord)) → length (unless_none c l) ≡ length (length_unless_none (length c)) + length l
unless_count [] l = omega arith
unless_count (p ∷ c) l = omega arith

unless_origins : (os : List ℕ) (others : List (List ℕ)) → origins_of (unless_none os others) ≡ os ++ origins_of others
unfolding origins_of
unless_origins [] others = refl
unless_origins (o ∷ os) others = refl

-- a ring that was cut where it is to stand
pub cut_there : (c : List Coord) (m : ℕ) (part out out' : List Float) (at : Placed) (lens : List ℕ) (r : Placed) (lens' : List ℕ)
    → 2 * at.coordinates ≤ length out → 2 * m ≤ length part → Stands c m part
    → out' ≡ take (2 * at.coordinates) out ++ (part ++ drop (length out - 2 * at.coordinates) (drop (2 * at.coordinates) out))
    → Counted m at lens r lens' → Put c at out lens r out' lens'
cut_there c m part out out' at lens r lens' ha hm st e k =
    let n : 2 * r.coordinates ≡ 2 * at.coordinates + 2 * m = omega (arith, k.coordinates-after) in
    record {
      output = rw n (front-part out part (flat c) out' (2 * at.coordinates) (2 * m) ha hm st.numbers e);
      counted = subst (λ (i : ℕ). Counted i at lens r lens') st.count k;
    }

-- all that is to be written, from one state and from another
pub record Ahead (holes : List (List Coord)) (at : Placed) (out : List Float) (lens : List ℕ) (holes' : List (List Coord)) (at' : Placed)
    (out' : List Float) (lens' : List ℕ) : Type 0 where
  pub output : take (2 * at.coordinates) out ++ numbers_of holes ≡ take (2 * at'.coordinates) out' ++ numbers_of holes'
  pub numbers : 2 * at.coordinates + length (numbers_of holes) ≡ 2 * at'.coordinates + length (numbers_of holes')
  pub lengths : sets lens at.rings (lengths_of holes) ≡ sets lens' at'.rings (lengths_of holes')
  pub rings : at.rings + length holes ≡ at'.rings + length holes'

pub ahead_start : (holes : List (List Coord)) (at : Placed) (out : List Float) (lens : List ℕ) → Ahead holes at out lens holes at out lens
ahead_start holes at out lens = record { output = refl; numbers = refl; lengths = refl; rings = refl }

pub ahead_then : {h h' h'' : List (List Coord)} {at at' at'' : Placed} {o o' o'' : List Float} {l l' l'' : List ℕ}
    → Ahead h at o l h' at' o' l' → Ahead h' at' o' l' h'' at'' o'' l'' → Ahead h at o l h'' at'' o'' l''
ahead_then f g = record {
  output = f.output ∙ g.output;
  numbers = f.numbers ∙ g.numbers;
  lengths = f.lengths ∙ g.lengths;
  rings = f.rings ∙ g.rings;
}

pub ahead_ring : (c : List Coord) (l : List (List Coord)) (at : Placed) (out : List Float) (lens : List ℕ) (r : Placed) (out' : List Float)
    (lens' : List ℕ) → Put c at out lens r out' lens' → Ahead (unless_none c l) at out lens l r out' lens'
ahead_ring c l at out lens r out' lens' p =
    let k : at.rings + length (length_unless_none (length c)) ≡ r.rings = sym p.counted.rings-after in
    record {
      output = rw (unless_numbers c l, p.output, append_assoc);
      numbers = omega (
        arith,
        ap length (unless_numbers c l),
        length-append (flat c) (numbers_of l),
        length-flat c,
        p.counted.coordinates-after,
      );
      lengths = rw (unless_lengths c l, sets_append lens at.rings (length_unless_none (length c)) (lengths_of l), k, ← p.counted.lengths);
      rings = omega (arith, unless_count c l, k);
    }

-- the origins, likewise
pub ahead_origins : (new : List ℕ) (others : List (List ℕ)) (at r : ℕ) (os os' : List ℕ) → take r os' ≡ take at os ++ new
    → take at os ++ origins_of (unless_none new others) ≡ take r os' ++ origins_of others
ahead_origins new others at r os os' e = rw (unless_origins new others, e, append_assoc)

-- ---- one ring after the other

-- the slices have kept their lengths
pub same-room : {lent : List (List Coord)} {p : Placed} {scratch origin_scratch out lens out_origins : ℕ}
    {scratch' origin_scratch' out' lens' out_origins' : ℕ} → scratch' ≡ scratch → origin_scratch' ≡ origin_scratch → out' ≡ out → lens' ≡ lens
    → out_origins' ≡ out_origins → Rooms lent scratch origin_scratch out lens out_origins p
    → Rooms lent scratch' origin_scratch' out' lens' out_origins' p
same-room ea eb eo el er r = rw (ea, eb, eo, el, er) r

-- nothing is left past the last ring
pub ahead_end : (bounds : TileBounds) (rest : List (List Coord)) → rest ≡ [] → (holes : List (List Coord)) (p : Placed)
    (out : List Float) (lens : List ℕ) (r : Placed) (out' : List Float) (lens' : List ℕ)
    → Ahead holes p out lens (cut_holes bounds rest) r out' lens' → PutHoles holes p out lens r out' lens'
unfolding cut_holes numbers_of lengths_of
ahead_end bounds rest none holes p out lens r out' lens' f =
    let g : Ahead holes p out lens [] r out' lens' = rw none at f in
    record {
      output = sym (g.output ∙ append-nil (take (2 * r.coordinates) out'));
      coordinates-after = omega (arith, g.numbers);
      lengths = sym g.lengths;
      rings-after = omega (arith, g.rings);
    }

pub origins_end : (bounds : TileBounds) (rest : List (List Coord)) → rest ≡ [] → (all : List ℕ) (r : ℕ) (os' : List ℕ)
    → all ≡ take r os' ++ origins_of (holes_origins bounds rest) → take r os' ≡ all
unfolding holes_origins origins_of
origins_end bounds rest none all r os' e =
    let g : all ≡ take r os' ++ [] = rw none at e in
    sym (g ∙ append-nil (take r os'))

-- ---- all rings of a cut

holes_lengths : (b : TileBounds) (rings : List (List Coord)) → length (lengths_of (cut_holes b rings)) ≤ length rings
unfolding cut_holes lengths_of
holes_lengths b [] = omega arith
holes_lengths b (r ∷ rings) =
    let c = cut_hole b r in
    let l = cut_holes b rings in
    omega (
      arith,
      ap length (unless_lengths c l),
      length-append (length_unless_none (length c)) (lengths_of l),
      length-at-most (length c),
      holes_lengths b rings,
    )

-- there are as many origins as coordinates
holes_many : (b : TileBounds) (rings : List (List Coord))
    → 2 * length (origins_of (holes_origins b rings)) ≡ length (numbers_of (cut_holes b rings))
unfolding cut_holes holes_origins numbers_of origins_of
holes_many b [] = refl
holes_many b (r ∷ rings) =
    omega (
      arith,
      ap length (unless_numbers (cut_hole b r) (cut_holes b rings)),
      ap length (unless_origins (hole_origins b r) (holes_origins b rings)),
      length-append (flat (cut_hole b r)) (numbers_of (cut_holes b rings)),
      length-append (hole_origins b r) (origins_of (holes_origins b rings)),
      length-flat (cut_hole b r),
      hole_origins-length b r,
      holes_many b rings,
    )

rings_many : (b : TileBounds) (rings : List (List Coord))
    → 2 * length (origins_of (cut_origins b rings)) ≡ length (numbers_of (cut_rings b rings))
unfolding cut_rings cut_origins numbers_of origins_of
rings_many b [] = refl
rings_many b (r ∷ rings) =
    omega (
      arith,
      length-append (flat (cut_exterior b r)) (numbers_of (cut_holes b rings)),
      length-append (exterior_origins b r) (origins_of (holes_origins b rings)),
      length-flat (cut_exterior b r),
      exterior-origins-length b r,
      holes_many b rings,
    )

-- the exterior stands, then the holes are put
module _ (b : TileBounds) (r : List Coord) (rest : List (List Coord)) (some : 0 < length (cut_exterior b r)) where
  pub all_filled : (out : List Float) (lens : List ℕ) (p₁ : Placed) (lens₁ : List ℕ) (p₂ : Placed) (out₂ : List Float) (lens₂ : List ℕ)
      → length (r ∷ rest) ≤ length lens
      → Ahead (unless_none (cut_exterior b r) (cut_holes b rest)) none_placed out lens (cut_holes b rest) p₁ out lens₁ → PutHoles (cut_holes b
      rest) p₁ out lens₁ p₂ out₂ lens₂
      → (p₂.rings ≡ length (cut_rings b (r ∷ rest))) × Filled (cut (cut_rings b (r ∷ rest))) p₂.coordinates lens out₂ lens₂
  all_filled out lens p₁ lens₁ p₂ out₂ lens₂ hl f g =
      let c = cut_exterior b r in
      let l = cut_holes b rest in
      let k : length (lengths_of (unless_none c l)) ≤ length lens = omega (
        arith,
        ap length (unless_lengths c l),
        length-append
            (length_unless_none (length c)) (lengths_of l),
        length-at-most (length c),
        holes_lengths b rest,
      ) in (
        rw (cut-rings b r rest some) (omega (arith, f.rings, g.rings-after)),
        rw (cut-rings b r rest some) (record {
          count = omega (arith, f.numbers, g.coordinates-after);
          output = g.output ∙ sym f.output;
          lengths = g.lengths ∙ sym f.lengths ∙ whole-over (lengths_of (unless_none c l)) lens k;
        }),
      )

-- ---- a whole polygon, the cut exterior standing at the output's front

-- past the first of some rings
pub behind_first : {A : Type 0} (r : Option A) (view : A → List Coord) (lent rest : List (List Coord))
    → MatchOption r ((lent ≡ []) × (rest ≡ [])) (λ x. lent ≡ view x ∷ rest) → 0 < length lent → (ring : List Coord) × (lent ≡ ring ∷ rest)
behind_first None view lent rest m some = absurd (omega (arith, ap length m.0))
behind_first (Some x) view lent rest m some = (view x, m)

module _ (lengths : List ℕ) (s : List Float) (some : 0 < length (closed_rings lengths s)) where
  pub some-lengths : 0 < length lengths
  some-lengths = omega (arith, length-closed lengths s)

  rings-here : closed_rings lengths s ≡ close (coords (take (2 * get_or lengths 0 0) s)) ∷ closed_rings (drop 1 lengths)
      (drop (2 * get_or lengths 0 0) s)
  rings-here = first_ring lengths s (get_or lengths 0 0) (drop 1 lengths) _ _ (drop-cons lengths 0 0 some-lengths) refl refl

  pub exterior-here : exterior (closed_rings lengths s) ≡ close (coords (take (2 * get_or lengths 0 0) s))
  exterior-here = ap exterior rings-here

  pub first_positions : (order : ℕ) → largest ring_room (closed_rings lengths s) ≤ order
      → ring_room (close (coords (take (2 * get_or lengths 0 0) s))) ≤ order
  unfolding largest
  first_positions order h =
      omega (
        arith,
        ap (largest ring_room) rings-here,
        larger_least (ring_room (close (coords (take (2 * get_or lengths 0 0) s))))
            (largest ring_room (closed_rings (drop 1 lengths) (drop (2 * get_or lengths 0 0) s))),
      )

  pub first-lent : Lent lengths s → 2 * get_or lengths 0 0 ≤ length s
  first-lent fits = first-fits lengths s (get_or lengths 0 0) (drop 1 lengths) (drop-cons lengths 0 0 some-lengths) fits

  pub first_room : (scratch origin_scratch out lens out_origins : ℕ)
      → Rooms (closed_rings lengths s) scratch origin_scratch out lens out_origins none_placed
      → RingRoom (coords (take (2 * get_or lengths 0 0) s)) scratch out
      × RingOriginRoom (coords (take (2 * get_or lengths 0 0) s)) origin_scratch out_origins
  first_room scratch origin_scratch out lens out_origins rooms =
      let all = subst (λ (l : List (List Coord)). Rooms l scratch origin_scratch out lens out_origins none_placed) rings-here rooms in
      let h = hole_room _ _ _ _ _ _ _ _ all (coords (take (2 * get_or lengths 0 0) s)) refl in
      let r = h.0.room in
      let o = h.1.room in (
        record { few = r.few; closes = r.closes; scratch-room = r.scratch-room; output-room = omega (arith, r.output-room) },
        record { scratch-room = o.scratch-room; output-room = omega (arith, o.output-room) },
      )

module _ (bounds : TileBounds) (lent : List (List Coord)) (ring : List Coord) (rest : List (List Coord)) (first : lent ≡ ring ∷ rest)
    (m scratch origin_scratch : ℕ) (out : List Float) (lens : ℕ) (os : List ℕ) (room : LentCutRoom bounds lent m scratch out lens)
    (origins : LentRouteOriginRoom (Routes.Cut m) bounds lent origin_scratch os) where
  stands_here : Stands (cut_exterior bounds ring) m out
  stands_here = subst (λ (l : List (List Coord)). Stands (cut_exterior bounds (exterior l)) m out) first room.stands

  whole_room : Rooms (ring ∷ rest) scratch origin_scratch (length out) lens (length os) none_placed
  whole_room =
      subst (λ (l : List (List Coord)). Rooms l scratch origin_scratch (length out) lens (length os) none_placed) first
      (room.rings, origins.rings)

  pub exterior-room : CountRoom m lens none_placed
  unfolding total
  exterior-room =
      let small = B-le (length ring) (omega (arith, whole_room.0.small)) in
      record {
        small = omega (arith, small, stands_here.count, cut-fits-room bounds ring);
        coordinates = omega (arith, small, stands_here.count, cut-fits-room bounds ring);
        lengths-room = omega (arith, whole_room.0.lengths-room);
      }

  -- the exterior is counted where it stands
  counted-here : (lens₀ : List ℕ) (r : Placed) (lens₁ : List ℕ) → Counted m none_placed lens₀ r lens₁
      → Counted (length (cut_exterior bounds ring)) none_placed lens₀ r lens₁
  counted-here lens₀ r lens₁ k = subst (λ (i : ℕ). Counted i none_placed lens₀ r lens₁) stands_here.count k

  pub holes_room : (lens₀ : List ℕ) (r : Placed) (lens₁ : List ℕ) → Counted m none_placed lens₀ r lens₁
      → Rooms rest scratch origin_scratch (length out) lens (length os) r
  holes_room lens₀ r lens₁ k =
      let q = counted-here lens₀ r lens₁ k in
      next_room _ _ _ _ _ _ _ _ whole_room (cut_exterior bounds ring) (cut-fits-room bounds ring) r q.coordinates-after q.rings-after

  pub cut_done : (lens₀ : List ℕ) (p₁ : Placed) (lens₁ : List ℕ) (p₂ : Placed) (out₂ : List Float) (lens₂ : List ℕ) → length lens₀ ≡ lens
      → Counted m none_placed lens₀ p₁ lens₁ → PutHoles (cut_holes bounds rest) p₁ out lens₁ p₂ out₂ lens₂
      → (p₂.rings ≡ length (cut_rings bounds lent)) × Filled (cut (cut_rings bounds lent)) p₂.coordinates lens₀ out₂ lens₂
  cut_done lens₀ p₁ lens₁ p₂ out₂ lens₂ el f g =
      let k : length (ring ∷ rest) ≤ length lens₀ = omega (arith, whole_room.0.lengths-room) in
      let put : Put (cut_exterior bounds ring) none_placed out lens₀ p₁ out lens₁ = record {
        output = rw (f.coordinates-after, zero-add m) stands_here.numbers;
        counted = counted-here lens₀ p₁ lens₁ f;
      } in
      let ahead = ahead_ring (cut_exterior bounds ring) (cut_holes bounds rest) none_placed out lens₀ p₁ out lens₁ put in
      rw first (all_filled bounds ring rest (omega (arith, stands_here.count, room.whole)) out lens₀ p₁ lens₁
      p₂ out₂ lens₂ k ahead g)

  -- the origins of the exterior stand, then those of the holes are put
  pub origins_done : (lens₀ : List ℕ) (p₁ : Placed) (lens₁ : List ℕ) (p₂ : Placed) (out₂ : List Float) (lens₂ os₂ : List ℕ)
      → Counted m none_placed lens₀ p₁ lens₁ → Filled (cut (cut_rings bounds lent)) p₂.coordinates lens₀ out₂ lens₂
      → take p₂.coordinates os₂ ≡ take p₁.coordinates os ++ origins_of (holes_origins bounds rest)
      → FilledOrigins (cut_origins bounds lent) p₂.coordinates os₂
  unfolding cut_origins origins_of
  origins_done lens₀ p₁ lens₁ p₂ out₂ lens₂ os₂ f filled e =
      let n : p₁.coordinates ≡ m = f.coordinates-after ∙ zero-add m in
      let x : take m os ≡ exterior_origins bounds ring = rw first at origins.stands in
      record {
        count = omega (arith, filled.count, rings_many bounds lent);
        output = e ∙ rw (n, x, first);
      }
