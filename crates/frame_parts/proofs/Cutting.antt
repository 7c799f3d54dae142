-- Cutting the rings of a part one after the other, from the bytes of a frame: each is there and has room, and what is written with what is
-- left to write is always the same. Assumes nothing.
use mathlib.Core.Path.{◌≡◌, refl, sym, ◌∙◌, ap}
use mathlib.Core.List.{List, [], ◌∷◌, ◌++◌, append-nil}
use Prim.Native.Nat.{ℕ, zero, suc, ◌+◌, ◌*◌, ◌-◌, ◌<◌, ◌≤◌}
use native.Mathlib.Omega.{arith}
use lib.Ieee.{Float}
use lib.ListN.{length, take, drop, length-take, length-append}
use lib.Seq.{sets}
use Rattle.binary64.proofs.Fill.{sets_append}
use Rattle.binary64.proofs.Booleans.{both}
use Rattle.tile.specs.declared.Coord.{Coord}
use Rattle.tile.specs.declared.TileBounds.{TileBounds}
use Rattle.tile.specs.Ring.{coords, flat, closed, close}
use Rattle.tile.specs.Internal.{Stands}
use Rattle.tile.proofs.Rings.{length-flat, stands-front, length-close}
use Rattle.sutherland_hodgman.specs.Growth.{B}
use Rattle.sutherland_hodgman.proofs.Offered.{B-mono}
use Rattle.rings.specs.LentRings.{largest, total, ring_room}
use Rattle.rings.specs.Internal.{all_closed}
use Rattle.rings.proofs.LentRings.{larger_least}
use Rattle.clip.specs.Polygon.{cut_hole, unless_none, cut_holes}
use Rattle.clip.specs.Origins.{hole_origins, holes_origins}
use Rattle.clip.specs.Internal.{RingRoom, RingOriginRoom}
use Rattle.clip.proofs.Cuts.{hole_fits-room, hole_origins-length}
use Rattle.frame_bytes.specs.Frame.{count_of, coords_of, read_many}
use Rattle.frame_bytes.specs.Internal.{rings_from, front_answer_coords}
use Rattle.frame_bytes.specs.Room.{answer_coord_size}
use Rattle.frame_bytes.specs.Encoding.{each, AnswerCoord, answer_coord_bytes, with_origins, rings_with_origins, ring_bytes}
use Rattle.frame_bytes.proofs.Coordinates.{length-coords_of, decoded}
use Rattle.frame_bytes.proofs.Writing.{each_append, length-with, length-ring}
use Rattle.frame_bytes.proofs.PartRings.{NextRing, next_ring}
use Rattle.frame_parts.specs.declared.RingCursor.{RingCursor}
use Rattle.frame_parts.specs.Internal.{hole_vertices, holes_vertices, PutRings, Lengths, Working, PositionsRoom, RingsRoom}

-- ---- the working slices

-- they have kept their lengths
pub same-lengths : {ring a a-origins b b-origins ring' a' a-origins' b' b-origins' : ℕ} → ring' ≡ ring → a' ≡ a
    → a-origins' ≡ a-origins → b' ≡ b → b-origins' ≡ b-origins
    → ◌≡◌ {A = Lengths} (record { ring = ring'; a = a'; a-origins = a-origins'; b = b'; b-origins = b-origins' })
    (record { ring = ring; a = a; a-origins = a-origins; b = b; b-origins = b-origins })
same-lengths er ea eao eb ebo = rw (er, ea, eao, eb, ebo)

module _ (r : List Coord) (rs : List (List Coord)) (lent : Lengths) (w : Working (r ∷ rs) lent) where
  pub working-later : Working rs lent
  unfolding largest all_closed
  working-later =
      let l = larger_least (length r) (largest length rs) in
      let m = B-mono (largest length rs) (largest length (r ∷ rs)) l.1 in
      record {
        small = omega (arith, w.small);
        closes = (both (closed r) (all_closed rs) w.closes).1;
        ring-room = omega (arith, w.ring-room);
        a-room = omega (arith, w.a-room);
        a-origin-room = omega (arith, w.a-origin-room);
        b-room = omega (arith, w.b-room);
        b-origin-room = omega (arith, w.b-origin-room);
      }

  -- the first ring, as it is read into a slice
  module _ (n : ℕ) (l : List ℕ) (s : List Float) (e : r ≡ close (coords_of n l)) (h : length s ≡ lent.ring) where
    pub ring-lent : 2 * n ≤ lent.ring
    unfolding largest
    ring-lent =
        let g = larger_least (length r) (largest length rs) in
        omega (arith, ap length e, length-close (coords_of n l), length-coords_of n l, w.ring-room)

    read_back : close (coords (take (2 * n) (sets s 0 (flat (coords_of n l))))) ≡ r
    read_back = ap close (decoded s n l (omega (arith, ring-lent))) ∙ sym e

    room-here : B (length r) ≤ B (largest length (r ∷ rs))
    unfolding largest
    room-here = B-mono (length r) (largest length (r ∷ rs)) (larger_least (length r) (largest length rs)).0

    pub working-ring : RingRoom (coords (take (2 * n) (sets s 0 (flat (coords_of n l))))) lent.a lent.b
    unfolding largest all_closed
    working-ring =
        let g = larger_least (length r) (largest length rs) in
        record {
          few = rw read_back (omega (arith, w.small));
          closes = rw read_back (both (closed r) (all_closed rs) w.closes).0;
          scratch-room = rw read_back (omega (arith, room-here, w.a-room));
          output-room = rw read_back (omega (arith, room-here, w.b-room));
        }

    pub working-origins : RingOriginRoom (coords (take (2 * n) (sets s 0 (flat (coords_of n l))))) lent.a-origins lent.b-origins
    working-origins =
        record {
          scratch-room = rw read_back (omega (arith, room-here, w.a-origin-room));
          output-room = rw read_back (omega (arith, room-here, w.b-origin-room));
        }

    pub working-positions : (order : ℕ) → PositionsRoom (r ∷ rs) order
        → B (length (close (coords (take (2 * n) (sets s 0 (flat (coords_of n l))))))) ≤ order
    working-positions order h = rw read_back (omega (arith, room-here))

-- ---- a ring read into a slice

pub ring-read-in : (frame : List ℕ) (at n : ℕ) (s s' : List Float) → n ≡ count_of (drop at frame)
    → s' ≡ sets s 0 (flat (coords_of n (drop (at + 2) frame))) → 2 * n ≤ length s
    → coords (take (2 * n) s') ≡ coords_of (count_of (drop at frame)) (drop (at + 2) frame)
ring-read-in frame at n s s' hn hs h = rw hs (decoded s n (drop (at + 2) frame) h ∙ ap (λ (k : ℕ). coords_of k (drop (at + 2) frame)) hn)

-- ---- what stands at the front of a slice has room there

pub stands-fits : {ring : List Coord} {m : ℕ} {after : List Float} → Stands ring m after → 2 * m ≤ length after
stands-fits {ring} {m} {after} st = omega (arith, length-take (2 * m) after, ap length st.numbers, length-flat ring, st.count)

pub origins_fit : (m : ℕ) (after origins : List ℕ) → take m after ≡ origins → length origins ≡ m → m ≤ length after
origins_fit m after origins e n = omega (arith, length-take m after, ap length e)

-- ---- what is written, and what is left to write

pub unless_append : {A : Type 0} (c : List A) (l : List (List A)) → unless_none c l ≡ unless_none c [] ++ l
unless_append [] l = refl
unless_append (p ∷ c) l = refl

pub unless_bytes : (c : List AnswerCoord) → length (each (ring_bytes answer_coord_bytes) (unless_none c [])) ≤ 2 + answer_coord_size * length c
unfolding each
unless_bytes [] = omega arith
unless_bytes (p ∷ c) = omega (arith, length-append (ring_bytes answer_coord_bytes (p ∷ c)) [], length-ring (p ∷ c))

pub unless_count : {A : Type 0} (c : List A) → length (unless_none c []) ≤ 1
unless_count [] = omega arith
unless_count (p ∷ c) = omega arith

-- a ring with its origins before others, where both are none or neither is
with_unless : (c : List Coord) (o : List ℕ) (cs : List (List Coord)) (os : List (List ℕ)) → length o ≡ length c
    → rings_with_origins (unless_none c cs) (unless_none o os) ≡ unless_none (with_origins c o) (rings_with_origins cs os)
unfolding rings_with_origins with_origins
with_unless [] [] cs os e = refl
with_unless [] (x ∷ o) cs os e = absurd (omega arith)
with_unless (p ∷ c) [] cs os e = absurd (omega arith)
with_unless (p ∷ c) (x ∷ o) cs os e = refl

-- the holes that are left behind the first
pub holes_first : (b : TileBounds) (r : List Coord) (rings : List (List Coord)) → holes_vertices b (r ∷ rings)
    ≡ unless_none (hole_vertices b r) (holes_vertices b rings)
unfolding cut_holes holes_origins
holes_first b r rings =
    with_unless (cut_hole b r) (hole_origins b r) (cut_holes b rings) (holes_origins b rings) (hole_origins-length b r)

pub hole_fits : (b : TileBounds) (r : List Coord) → length (hole_vertices b r) ≤ B (length r)
hole_fits b r = omega (arith, length-with (cut_hole b r) (hole_origins b r), hole_fits-room b r)

-- all that is to be written, from one state and from another
pub record Ahead (rings : List (List AnswerCoord)) (at : RingCursor) (out : List ℕ) (rings' : List (List AnswerCoord)) (at' : RingCursor)
    (out' : List ℕ) : Type 0 where
  pub output : sets out at.next (each (ring_bytes answer_coord_bytes) rings) ≡ sets out' at'.next (each (ring_bytes answer_coord_bytes) rings')
  pub next : at.next + length (each (ring_bytes answer_coord_bytes) rings) ≡ at'.next + length (each (ring_bytes answer_coord_bytes) rings')
  pub counts : at.rings + length rings ≡ at'.rings + length rings'

pub ahead_start : (rings : List (List AnswerCoord)) (at : RingCursor) (out : List ℕ) → Ahead rings at out rings at out
ahead_start rings at out = record { output = refl; next = refl; counts = refl }

pub ahead_then : {x y z : List (List AnswerCoord)} {p q r : RingCursor} {o o' o'' : List ℕ} → Ahead x p o y q o' → Ahead y q o' z r o''
    → Ahead x p o z r o''
ahead_then f g = record { output = f.output ∙ g.output; next = f.next ∙ g.next; counts = f.counts ∙ g.counts }

ahead_put : (x l : List (List AnswerCoord)) (at : RingCursor) (out : List ℕ) (r : RingCursor) (out' : List ℕ) → PutRings x at out r out'
    → Ahead (x ++ l) at out l r out'
ahead_put x l at out r out' p =
    let f = ring_bytes answer_coord_bytes in
    let e = each_append f x l in
    let n = length-append (each f x) (each f l) in
    record {
      output = rw (e, sets_append out at.next (each f x) (each f l), ← p.next_after, ← p.output);
      next = omega (arith, ap length e, p.next_after);
      counts = omega (arith, length-append x l, p.rings-after);
    }

-- nothing is left past the last ring
pub ahead_none : (x : List (List AnswerCoord)) (at : RingCursor) (out : List ℕ) (r : RingCursor) (out' : List ℕ) → Ahead x at out [] r out'
    → PutRings x at out r out'
unfolding each
ahead_none x at out r out' f =
    record { output = sym f.output; next_after = omega (arith, f.next); rings-after = omega (arith, f.counts) }

pub put_then : (x y : List (List AnswerCoord)) (p q r : RingCursor) (o o' o'' : List ℕ) → PutRings x p o q o' → PutRings y q o' r o''
    → PutRings (x ++ y) p o r o''
put_then x y p q r o o' o'' f g =
    let n = ahead_put x y p o q o' f in
    record {
      output = g.output ∙ sym n.output;
      next_after = omega (arith, n.next, g.next_after);
      rings-after =
          omega (arith, n.counts, g.rings-after);
    }

-- ---- one hole further

module _ (bounds : TileBounds) (frame : List ℕ) (at k : ℕ) (lent : Lengths) (out : ℕ) (p : RingCursor) (h : 0 < k)
    (room : RingsRoom frame at k lent out p) where
  hole : NextRing frame at k
  hole = next_ring frame at k room.within h room.accepted

  abbrev ring_here : List Coord
  ring_here = close (coords_of (count_of (drop at frame)) (drop (at + 2) frame))

  abbrev rest : List (List Coord)
  rest = rings_from frame (at + 2 + 16 * count_of (drop at frame)) (k - 1)

  pub hole_whole : at + 2 + 16 * count_of (drop at frame) ≤ length frame
  hole_whole = hole.whole

  working-here : Working (ring_here ∷ rest) lent
  working-here = rw hole.here at room.working

  output-here : p.next + (2 * length (ring_here ∷ rest) + answer_coord_size * total ring_room (ring_here ∷ rest)) ≤ out
  output-here = rw hole.here at room.output

  -- read into a slice, it can be cut
  module _ (s : List Float) (e : length s ≡ lent.ring) where
    pub hole_lent : 2 * count_of (drop at frame) ≤ lent.ring
    hole_lent = ring-lent ring_here rest lent working-here (count_of (drop at frame)) (drop (at + 2) frame) s refl e

    abbrev lent_coords : List Coord
    lent_coords =
        coords (take (2 * count_of (drop at frame)) (sets s 0 (flat (coords_of (count_of (drop at frame)) (drop (at + 2) frame)))))

    pub hole_room : RingRoom lent_coords lent.a lent.b
    hole_room = working-ring ring_here rest lent working-here (count_of (drop at frame)) (drop (at + 2) frame) s refl e

    pub hole_origin-room : RingOriginRoom lent_coords lent.a-origins lent.b-origins
    hole_origin-room = working-origins ring_here rest lent working-here (count_of (drop at frame)) (drop (at + 2) frame) s refl e

  -- read into a slice as n coordinates and cut, it stands at the front of slices and has room in the output
  module _ (n : ℕ) (s s' : List Float) (hn : n ≡ count_of (drop at frame)) (hs : s' ≡ sets s 0 (flat (coords_of n (drop (at + 2) frame))))
      (e : length s ≡ lent.ring) (m : ℕ) (after : List Float) (origins : List ℕ)
      (st : Stands (cut_hole bounds (close (coords (take (2 * n) s')))) m after)
      (os : take m origins ≡ hole_origins bounds (close (coords (take (2 * n) s')))) where
    read_here : close (coords (take (2 * n) s')) ≡ ring_here
    read_here = ap close (ring-read-in frame at n s s' hn hs (omega (arith, hn, hole_lent s e)))

    stands_here : Stands (cut_hole bounds ring_here) m after
    stands_here = rw read_here at st

    origins-here : take m origins ≡ hole_origins bounds ring_here
    origins-here = rw read_here at os

    pub cut_put : (2 * m ≤ length after) × (m ≤ length origins) × (p.next + 2 + answer_coord_size * m ≤ out)
    unfolding total
    cut_put = (
      stands-fits stands_here,
      origins_fit m origins _ origins-here (omega (arith, hole_origins-length bounds ring_here, stands_here.count)),
      omega (arith, stands_here.count, hole_fits-room bounds ring_here, output-here),
    )

    pub cut-ring : front_answer_coords after origins m ≡ hole_vertices bounds ring_here
    cut-ring = rw (stands-front stands_here, origins-here)

  module _ (o : List ℕ) (r : RingCursor) (o' : List ℕ) (put : PutRings (unless_none (hole_vertices bounds ring_here) []) p o r o') where
    pub next_room : RingsRoom frame (at + 2 + 16 * count_of (drop at frame)) (k - 1) lent out r
    unfolding total
    next_room = record {
      within = hole.whole;
      accepted = hole.later;
      working = working-later ring_here rest lent working-here;
      output = omega (arith, put.next_after, unless_bytes (hole_vertices bounds ring_here), hole_fits bounds ring_here, output-here);
    }

    pub ahead_hole : Ahead (holes_vertices bounds (rings_from frame at k)) p o (holes_vertices bounds rest) r o'
    ahead_hole =
        rw (hole.here, holes_first bounds ring_here rest, unless_append (hole_vertices bounds ring_here) (holes_vertices bounds rest))
        (ahead_put (unless_none (hole_vertices bounds ring_here) []) (holes_vertices bounds rest) p o r o' put)

-- no ring is left: nothing is to be written
pub holes_end : (bounds : TileBounds) (frame : List ℕ) (at k : ℕ) → k ≤ 0 → holes_vertices bounds (rings_from frame at k) ≡ []
unfolding cut_holes read_many rings_with_origins
holes_end bounds frame at zero h = refl
holes_end bounds frame at (suc k) h = absurd (omega arith)

-- ---- one ring written, or none

pub none-rings : (at : RingCursor) (out : List ℕ) (c : List AnswerCoord) → length c ≡ 0 → PutRings (unless_none c []) at out at out
unfolding each
none-rings at out [] h = record { output = refl; next_after = omega arith; rings-after = omega arith }
none-rings at out (p ∷ c) h = absurd (omega arith)

pub one-ring : (at : RingCursor) (out out' : List ℕ) (next : ℕ) (c : List AnswerCoord) → 0 < length c
    → out' ≡ sets out at.next (ring_bytes answer_coord_bytes c) → next ≡ at.next + 2 + answer_coord_size * length c
    → PutRings (unless_none c []) at out (record { rings = at.rings + 1; next = next }) out'
unfolding each
one-ring at out out' next [] h e f = absurd (omega arith)
one-ring at out out' next (p ∷ c) h e f = record {
  output = e ∙ rw (append-nil (ring_bytes answer_coord_bytes (p ∷ c)));
  next_after = omega (arith, length-append (ring_bytes answer_coord_bytes (p ∷ c)) [], length-ring (p ∷ c));
  rings-after = refl;
}
