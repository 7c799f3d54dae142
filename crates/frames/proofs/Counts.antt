-- The counts, positions and origins in the answer to a frame fit the two bytes that each has, so that none is cut off where it is written.
-- Assumes nothing.
use mathlib.Core.Path.{◌≡◌, ap}
use mathlib.Core.Bool.{Bool, true, false, cond}
use mathlib.Core.List.{List, [], ◌∷◌}
use Prim.Native.Nat.{ℕ, suc, ◌+◌, ◌<◌, ◌≤◌}
use native.Mathlib.Omega.{arith}
use lib.Dec.{eqb}
use lib.ListN.{length, drop, length-append}
use Rattle.binary64.specs.Lists.{Every}
use Rattle.tile.specs.declared.Coord.{Coord}
use Rattle.tile.specs.declared.TileBounds.{TileBounds}
use Rattle.sutherland_hodgman.specs.Growth.{B}
use Rattle.sutherland_hodgman.proofs.Offered.{B-at-most}
use Rattle.rings.specs.declared.rectangle.Rect.{Rect}
use Rattle.rings.specs.declared.rectangle.Rect.TheVariants as Rects
use Rattle.rings.specs.Rectangle.{rectangle, with_parts, intersects_bounds, is_fully_inside}
use Rattle.rings.specs.Representable.{any_huge_ring}
use Rattle.rings.specs.LentRings.{exterior, most_rings}
use Rattle.clip.specs.declared.polygon.Flags.{Flags}
use Rattle.clip.specs.declared.polygon.Route.{Route}
use Rattle.clip.specs.declared.polygon.Route.TheVariants as Routes
use Rattle.clip.specs.Polygon as Polygon
use Rattle.clip.specs.Origins.{hole_origins, holes_origins, cut_origins, routed_origins}
use Rattle.clip.proofs.Cuts.{cut-fits-room, hole_fits-room, exterior-origins_fit, hole_origins_fit}
use Rattle.clip.proofs.Positions.{RouteWithin, exterior-within}
use Rattle.frame_bytes.specs.Frame.{read, most_parts, most_in_ring, polygon_kind, head_bytes, count_of, read_ring, read_part, part_count_of, Frame}
use Rattle.frame_bytes.specs.Frame.{read_frame}
use Rattle.frame_bytes.proofs.Coordinates.{close_grows}
use Rattle.frame_bytes.proofs.Readings.{many_length, many_every, ring-read, part-read, frame_read}
use Rattle.frame_parts.specs.Part.{Part, part_of}
use Rattle.frames.specs.Answer.{Answer, Nothing, Dropped, Unchanged, Listed, of_outcome, of_polygon, route_part, Listing, is_listed}
use Rattle.frames.specs.Answer.{listed_before, add_part, list_parts, of_parts, if_box, of_multipolygon, flags_in, bounds_in, only_part}
use Rattle.frames.specs.Answer.{route_polygon, answer_to}
use Rattle.frames.proofs.Listings.{listed-append, few-one}

-- ---- what two bytes hold

abbrev pub Fits : ℕ → Type 0
Fits n = n < 65536

abbrev pub RingFits : List Coord → Type 0
RingFits ring = Fits (length ring)

abbrev pub RoutedFits : Polygon.Routed → Type 0
RoutedFits Polygon.nothing = Unit {0}
RoutedFits Polygon.dropped = Unit {0}
RoutedFits Polygon.unchanged = Unit {0}
RoutedFits (Polygon.cut rings) = Fits (length rings) × Every RingFits rings
RoutedFits (Polygon.overlay reason) = Fits (Polygon.reason_detail reason).first × Fits (Polygon.reason_detail reason).second

abbrev pub OriginsFit : List (List ℕ) → Type 0
OriginsFit origins = Every (Every Fits) origins

abbrev pub PartFits : Part → Type 0
PartFits part = Fits part.index × RoutedFits part.outcome × OriginsFit part.origins

abbrev pub AnswerFits : Answer → Type 0
AnswerFits (Nothing guard) = Fits guard
AnswerFits Dropped = Unit {0}
AnswerFits Unchanged = Unit {0}
AnswerFits (Listed guard parts) = Fits guard × Fits (length parts) × Every PartFits parts

-- ---- what is read

abbrev ShortRing : List Coord → Type 0
ShortRing ring = length ring ≤ most_in_ring + 1

abbrev SmallPart : List (List Coord) → Type 0
SmallPart rings = (length rings ≤ most_rings) × Every ShortRing rings

short_ring : (l : List ℕ) (ring : List Coord) (rest : List ℕ) → read_ring l ≡ read ring rest → ShortRing ring
short_ring l ring rest e =
    let r = ring-read l ring rest e in rw r.coordinates (omega (arith, close_grows (count_of l) (drop 2 l), r.few))

small-part : (l : List ℕ) (part : List (List Coord)) (rest : List ℕ) → read_part l ≡ read part rest → SmallPart part
small-part l part rest e =
    let p = part-read l part rest e in
    let few : length part ≤ most_rings = omega (arith, many_length read_ring (count_of l) (drop 2 l) part rest p.rings, p.few) in
    (few, many_every read_ring ShortRing short_ring (count_of l) (drop 2 l) part rest p.rings)

short_exterior : (rings : List (List Coord)) → Every ShortRing rings → ShortRing (exterior rings)
short_exterior [] w = omega arith
short_exterior (r ∷ rings) w = w.0

-- ---- rings that are cut

room_fits : (n : ℕ) → n ≤ most_in_ring + 1 → Fits (B n)
room_fits n h = omega (arith, B-at-most n)

module _ (b : TileBounds) where
  holes_few : (rings : List (List Coord)) → length (Polygon.cut_holes b rings) ≤ length rings
  unfolding Polygon.cut_holes
  holes_few [] = omega arith
  holes_few (r ∷ rings) = go (Polygon.cut_hole b r) (holes_few rings)
    where
      go : (c : List Coord) → length (Polygon.cut_holes b rings) ≤ length rings
          → length (Polygon.unless_none c (Polygon.cut_holes b rings)) ≤ suc (length rings)
      go [] h = omega arith
      go (p ∷ c) h = omega arith

  holes_fit : (rings : List (List Coord)) → Every ShortRing rings → Every RingFits (Polygon.cut_holes b rings)
  unfolding Polygon.cut_holes
  holes_fit [] w = tt
  holes_fit (r ∷ rings) w = go (Polygon.cut_hole b r) fits (holes_fit rings w.1)
    where
      fits : RingFits (Polygon.cut_hole b r)
      fits = omega (arith, hole_fits-room b r, room_fits (length r) w.0)

      go : (c : List Coord) → RingFits c → Every RingFits (Polygon.cut_holes b rings)
          → Every RingFits (Polygon.unless_none c (Polygon.cut_holes b rings))
      go [] f h = h
      go (p ∷ c) f h = (f, h)

  cut_fits : (rings : List (List Coord)) → SmallPart rings → RoutedFits (Polygon.cut (Polygon.cut_rings b rings))
  unfolding Polygon.cut_rings
  cut_fits [] w = (omega arith, tt)
  cut_fits (r ∷ rings) w =
      (omega (arith, w.0, holes_few rings), (omega (arith, cut-fits-room b r, room_fits (length r) w.1.0), holes_fit rings w.1.1))

  -- ---- their origins

  holes_origins_lem : (rings : List (List Coord)) → Every ShortRing rings → OriginsFit (holes_origins b rings)
  unfolding holes_origins
  holes_origins_lem [] w = tt
  holes_origins_lem (r ∷ rings) w = go (hole_origins b r) (hole_origins_fit b r (omega (arith, w.0))) (holes_origins_lem rings w.1)
    where
      go : (c : List ℕ) → Every Fits c → OriginsFit (holes_origins b rings) → OriginsFit (Polygon.unless_none c (holes_origins b rings))
      go [] f h = h
      go (o ∷ c) f h = (f, h)

  rings-origins : (rings : List (List Coord)) → Every ShortRing rings → OriginsFit (cut_origins b rings)
  unfolding cut_origins
  rings-origins [] w = tt
  rings-origins (r ∷ rings) w = (exterior-origins_fit b r (omega (arith, w.0)), holes_origins_lem rings w.1)

  origins_fit : (rings : List (List Coord)) → SmallPart rings → (to : Polygon.Routed) → OriginsFit (routed_origins to b rings)
  origins_fit rings w Polygon.nothing = tt
  origins_fit rings w Polygon.dropped = tt
  origins_fit rings w Polygon.unchanged = tt
  origins_fit rings w (Polygon.cut cut) = rings-origins rings w.1
  origins_fit rings w (Polygon.overlay reason) = tt

  -- ---- a polygon, and a part

  module _ (flags : Flags) (rings : List (List Coord)) (w : SmallPart rings) where
    by-route : (to : Route) → RouteWithin (B (length (exterior rings))) to → RoutedFits (Polygon.routed to b rings)
    unfolding Polygon.overlay_or_dropped
    by-route Routes.Nothing p = tt
    by-route Routes.Unchanged p = tt
    by-route (Routes.Cut n) p = cut_fits rings w
    by-route (Routes.Overlay reason) p = go (any_huge_ring rings)
      where
        go : (t : Bool) → RoutedFits (cond t Polygon.dropped (Polygon.overlay reason))
        go true = tt
        go false = let f = room_fits (length (exterior rings)) (short_exterior rings w.1) in (omega (arith, p.0), omega (arith, p.1))

    polygon-fits : RoutedFits (Polygon.route flags b rings)
    unfolding Polygon.route Polygon.route_rect
    polygon-fits = go (rectangle rings)
      where
        go : (rect : Rect) → RoutedFits (Polygon.route_rect flags rect b rings)
        go Rects.Nothing = tt
        go Rects.NotFinite = tt
        go (Rects.Box x y z t) =
            by-route (Polygon.route_exterior flags (Rects.Box x y z t) b (exterior rings))
            (exterior-within flags (Rects.Box x y z t) b (exterior rings))

    part-fits : RoutedFits (route_part flags b rings)
    unfolding route_part
    part-fits = go (intersects_bounds (rectangle rings) b) (is_fully_inside (rectangle rings) b)
      where
        go : (s t : Bool) → RoutedFits (cond s (cond t Polygon.unchanged (Polygon.route flags b rings)) Polygon.nothing)
        go false t = tt
        go true true = tt
        go true false = polygon-fits

-- ---- the parts of a multipolygon

-- of so many parts
record ListingFits (n : ℕ) (l : Listing) : Type 0 where
  guards : l.guard ≤ n
  listed : length l.parts ≤ n
  each_fits : Every PartFits l.parts

one_more : (n : ℕ) (l : Listing) (part : Part) → ListingFits n l → PartFits part → ListingFits (suc n) (add_part part l)
one_more n l part w f =
    let o = few-one part in
    record {
      guards = omega (arith, o.1, w.guards);
      listed =
          omega (
            arith,
            o.0,
            w.listed,
            ap length (listed-append part l.parts),
            length-append (listed_before part []) l.parts,
          );
      each_fits = go (is_listed part.outcome);
    }
  where
    go : (t : Bool) → Every PartFits (cond t (part ∷ l.parts) l.parts)
    go true = (f, w.each_fits)
    go false = w.each_fits

parts_fit : (flags : Flags) (b : TileBounds) (i : ℕ) (parts : List (List (List Coord))) → i + length parts ≤ most_parts
    → Every SmallPart parts → ListingFits (length parts) (list_parts flags b i parts)
unfolding list_parts
parts_fit flags b i [] h w = record { guards = omega arith; listed = omega arith; each_fits = tt }
parts_fit flags b i (part ∷ parts) h w =
    one_more (length parts) (list_parts flags b (suc i) parts) (part_of i b part (route_part flags b part))
    (parts_fit flags b (suc i) parts (omega arith) w.1)
    (omega arith, part-fits b flags part w.0, origins_fit b part w.0 (route_part flags b part))

module _ (flags : Flags) (b : TileBounds) (parts : List (List (List Coord))) (few : length parts ≤ most_parts)
    (small : Every SmallPart parts) where
  listed-fits : (l : Listing) → ListingFits (length parts) l → AnswerFits (of_parts l.guard l.parts)
  listed-fits l w = go l.parts w.listed w.each_fits
    where
      go : (listed : List Part) → length listed ≤ length parts → Every PartFits listed → AnswerFits (of_parts l.guard listed)
      go [] h f = omega (arith, w.guards)
      go (part ∷ others) h f = (omega (arith, w.guards), omega arith, f)

  abbrev whole : Listing
  whole = list_parts flags b 0 parts

  by_place : (s t : Bool) → AnswerFits (cond s (cond t Unchanged (of_parts whole.guard whole.parts)) (Nothing 0))
  by_place false t = omega arith
  by_place true true = tt
  by_place true false = listed-fits whole (parts_fit flags b 0 parts (omega arith) small)

  by_rect : (rect : Rect) (answer : Answer) → AnswerFits answer → AnswerFits (if_box rect answer)
  by_rect Rects.Nothing answer f = omega arith
  by_rect Rects.NotFinite answer f = tt
  by_rect (Rects.Box x y z t) answer f = f

  multipolygon_fits : AnswerFits (of_multipolygon flags b parts)
  unfolding of_multipolygon
  multipolygon_fits =
      let rect = with_parts Rects.Nothing parts in
      by_rect rect _ (by_place (intersects_bounds rect b) (is_fully_inside rect b))

-- ---- a frame

of-polygon : (part : Part) → PartFits part → AnswerFits (of_polygon part)
of-polygon part f = go part.outcome
  where
    go : (to : Polygon.Routed) → AnswerFits (of_outcome to (Listed 0 (part ∷ [])))
    go Polygon.nothing = omega arith
    go Polygon.dropped = tt
    go Polygon.unchanged = tt
    go (Polygon.cut rings) = (omega arith, omega arith, (f, tt))
    go (Polygon.overlay reason) = (omega arith, omega arith, (f, tt))

only_part_lem : (parts : List (List (List Coord))) → Every SmallPart parts → SmallPart (only_part parts)
only_part_lem [] w = (omega arith, tt)
only_part_lem (part ∷ parts) w = w.0

module _ (flags : Flags) (b : TileBounds) (parts : List (List (List Coord))) (few : length parts ≤ most_parts)
    (small : Every SmallPart parts) where
  by_kind : (t : Bool) → AnswerFits (cond t (of_polygon (route_polygon flags b (only_part parts))) (of_multipolygon flags b parts))
  by_kind true =
      let Small-one = only_part_lem parts small in
      of-polygon (route_polygon flags b (only_part parts)) (
        omega arith,
        polygon-fits b flags (only_part parts) Small-one,
        origins_fit b (only_part parts) Small-one (Polygon.route flags b (only_part parts)),
      )
  by_kind false = multipolygon_fits flags b parts few small

pub counts_fit : (l : List ℕ) (f : Frame) (rest : List ℕ) → read_frame l ≡ read f rest → AnswerFits (answer_to f)
unfolding answer_to
counts_fit l f rest e =
    let r = frame_read l f rest e in
    let few : length f.parts ≤ most_parts = omega (
      arith,
      many_length read_part (part_count_of l) (drop head_bytes l) f.parts rest
          r.parts,
      r.few,
    ) in
    let small : Every SmallPart f.parts = many_every read_part SmallPart small-part (part_count_of l) (drop head_bytes l) f.parts
    rest r.parts in
    by_kind (flags_in f.head) (bounds_in f.head) f.parts few small (eqb f.head.kind polygon_kind)
