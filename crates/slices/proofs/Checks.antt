-- What the checks of a slice call leave: a polygon that passes them has room everywhere. Assumes nothing.
use mathlib.Core.Path.{◌≡◌, ◌∙◌, refl, sym, ap}
use mathlib.Core.Bool.{Bool, true, false, not, ◌&&◌, ◌||◌}
use mathlib.Core.List.{List, [], ◌++◌, append-nil, append_assoc}
use Prim.Native.Nat.{ℕ, ◌*◌, ◌-◌, ◌<◌, ◌≤◌}
use native.Mathlib.Omega.{arith}
use lib.Dec.{ltb, leb, eqb}
use lib.Ieee.{Float}
use lib.ListN.{length, take, drop, replicate, length-append, take-append-drop, drop_of_length-le}
use lib.Seq.{length-take-le}
use borrow.Author.Tests.{ltb-true, ltb-false, leb-true, eqb-true, not-false}
use Rattle.std.specs.Prelude.{Result, Ok, Err}
use Rattle.binary64.specs.Slices.{plus_zero, zeros, padded}
use Rattle.binary64.proofs.Fill.{padded-part}
use Rattle.binary64.proofs.Booleans.{neither, both}
use Rattle.sutherland_hodgman.specs.Growth.{most_coordinates}
use Rattle.ring_calls.specs.declared.Refusal.{Refusal}
use Rattle.ring_calls.specs.declared.Refusal.TheVariants.{Lengths, Coordinates, Scratch, Output}
use Rattle.tile.specs.declared.Coord.{Coord}
use Rattle.rings.specs.LentRings.{Lent, most_rings, sum, closed_rings, total, largest, ring_room}
use Rattle.rings.proofs.LentRings.{length-closed, largest-total, rooms_below}
use Rattle.clip.specs.Polygon.{Routed}
use Rattle.polygon_rings.specs.WrittenRings.{written_rings, numbers_of, origins_of}
use Rattle.polygon_rings.specs.Internal.{none_placed, LentOriginsRoom, PolygonRoom, Filled, FilledOrigins}
use Rattle.slices.specs.SliceCall.{refused_if, lengths_fit, slice_call_room, slice_call_origin_room, check_room, check_rings, check_polygon}
use Rattle.slices.specs.Internal.{FilledWhole}

-- the rooms of a few rings are numbers of the machine
pub few_rooms : (ns : List ℕ) (s : List Float) → length ns ≤ most_rings → total length (closed_rings ns s) ≤ most_coordinates
    → (largest ring_room (closed_rings ns s) ≤ most_rings * (8 * most_coordinates))
    × (total ring_room (closed_rings ns s) ≤ most_rings * (8 * most_coordinates))
few_rooms ns s few small =
    let b = rooms_below (closed_rings ns s) small in
    let t = largest-total ring_room (closed_rings ns s) in
    let n = length-closed ns s in
    (omega arith, omega arith)

module _ (ns : List ℕ) (s : List Float) (h : lengths_fit (length s) ns ≡ true) where
  tests : (ltb 0 (length ns) ≡ true) × (leb (length ns) most_rings ≡ true) × (eqb (2 * sum ns) (length s) ≡ true)
  unfolding lengths_fit
  tests =
      let p = both (ltb 0 (length ns)) (leb (length ns) most_rings && eqb (2 * sum ns) (length s)) h in
      let q = both (leb (length ns) most_rings) (eqb (2 * sum ns) (length s)) p.1 in
      (p.0, q.0, q.1)

  pub some-rings : 0 < length ns
  some-rings = ltb-true 0 (length ns) tests.0

  pub fitting : Lent ns s
  fitting = record { few = leb-true (length ns) most_rings tests.1; fits = omega (arith, eqb-true (2 * sum ns) (length s) tests.2) }

-- a test that is one of three, none of which holds
none-of_three : (s t u : Bool) → s || (t || u) ≡ false → (s ≡ false) × (t ≡ false) × (u ≡ false)
none-of_three s t u e =
    let p = neither s (t || u) e in
    let q = neither t u p.1 in
    (p.0, q.0, q.1)

-- where the row of tests passes, its first test says no and the others pass
not-refused : (t : Bool) (r : Refusal) (c : Result ℕ Refusal) (room : ℕ) → refused_if t r c ≡ Ok room → (t ≡ false) × (c ≡ Ok room)
not-refused true r c room e = absurd (let z : ◌≡◌ {A = ℕ} 0 1 = cc in omega arith)
not-refused false r c room e = (refl, e)

module _ (ns : List ℕ) (s : List Float) (scratch origin_scratch order out lens out_origins room : ℕ)
    (h : check_polygon s ns scratch origin_scratch order out lens out_origins ≡ Ok room) where
  past_lengths : (not (lengths_fit (length s) ns) ≡ false)
      × (check_rings (closed_rings ns s) scratch origin_scratch order out lens out_origins ≡ Ok room)
  unfolding check_polygon
  past_lengths = not-refused (not (lengths_fit (length s) ns)) Lengths _ room h

  pub passes_fit : lengths_fit (length s) ns ≡ true
  passes_fit = not-false (lengths_fit (length s) ns) past_lengths.0

  pub passes-room : PolygonRoom (closed_rings ns s) scratch order out lens
      × LentOriginsRoom (closed_rings ns s) origin_scratch out_origins none_placed × (room ≡ total ring_room (closed_rings ns s))
  unfolding check_rings check_room slice_call_room slice_call_origin_room
  passes-room =
      let most = largest ring_room (closed_rings ns s) in
      let all = total ring_room (closed_rings ns s) in
      let n = length (closed_rings ns s) in
      let q2 = not-refused (ltb most_coordinates (total length (closed_rings ns s))) Coordinates _ room past_lengths.1 in
      let q3 = not-refused (ltb scratch (2 * most) || (ltb origin_scratch most || ltb order most)) Scratch _ room q2.1 in
      let q4 = not-refused (ltb out (2 * all) || (ltb lens n || ltb out_origins all)) Output _ room q3.1 in
      let ts = none-of_three (ltb scratch (2 * most)) (ltb origin_scratch most) (ltb order most) q3.0 in
      let to = none-of_three (ltb out (2 * all)) (ltb lens n) (ltb out_origins all) q4.0 in (
        record {
          small = ltb-false most_coordinates (total length (closed_rings ns s)) q2.0;
          some = omega (arith, some-rings ns s passes_fit, length-closed ns s);
          scratch-room = ltb-false scratch (2 * most) ts.0;
          positions = ltb-false order most ts.2;
          output-room = ltb-false out (2 * all) to.0;
          lengths-room = ltb-false lens n to.1;
        },
        record {
          scratch-room = ltb-false origin_scratch most ts.1;
          output-room = omega (arith, ltb-false out_origins all to.2);
        },
        cc q4.1,
      )

-- the checks, once the lengths fit
pub past-fit : (ns : List ℕ) (s : List Float) (scratch origin_scratch order out lens out_origins : ℕ) → lengths_fit (length s) ns ≡ true
    → check_polygon s ns scratch origin_scratch order out lens out_origins
    ≡ check_rings (closed_rings ns s) scratch origin_scratch order out lens out_origins
unfolding check_polygon
past-fit ns s scratch origin_scratch order out lens out_origins e = rw e refl

pub no-fit : (ns : List ℕ) (s : List Float) (scratch origin_scratch order out lens out_origins : ℕ) → lengths_fit (length s) ns ≡ false
    → check_polygon s ns scratch origin_scratch order out lens out_origins ≡ Err Lengths
unfolding check_polygon
no-fit ns s scratch origin_scratch order out lens out_origins e = rw e refl

-- where there is room everywhere, there is in the parts of the outputs that 22 asks for
pub part_room : (lent : List (List Coord)) (scratch order out lens part : ℕ) → 2 * total ring_room lent ≤ part
    → PolygonRoom lent scratch order out lens → PolygonRoom lent scratch order part lens
part_room lent scratch order out lens part h p = record {
  small = p.small;
  some = p.some;
  scratch-room = p.scratch-room;
  positions = p.positions;
  output-room = h;
  lengths-room = p.lengths-room;
}

pub part-origin-room : (lent : List (List Coord)) (origin_scratch out_origins part : ℕ) → total ring_room lent ≤ part
    → LentOriginsRoom lent origin_scratch out_origins none_placed → LentOriginsRoom lent origin_scratch part none_placed
part-origin-room lent origin_scratch out_origins part h o = record { scratch-room = o.scratch-room; output-room = omega arith }

-- ---- what was written, and the rest cleared

-- what stands at the front of a slice is no longer than the slice
front_fits : {A : Type 0} (new part : List A) (used : ℕ) → used ≡ length new → take used part ≡ new → used ≤ length part
front_fits new part used n e =
    omega (
      arith,
      n,
      ap length e,
      ap length (take-append-drop used part),
      length-append (take used part) (drop used part),
    )

-- a slice that is written from the front, and filled with zeros behind it to its end
rest_cleared : {A : Type 0} (zero : A) (new part old fill : List A) (used : ℕ) → used ≡ length new → take used part ≡ new
    → length part ≡ length old → fill ≡ replicate (length (take (length part - used) (drop used part))) zero
    → take used part ++ (fill ++ drop (length part - used) (drop used part)) ≡ padded zero new (length old) old
rest_cleared zero new part old fill used n e l h =
    let k : length old ≤ length part = omega arith in
    let none : drop (length part) old ≡ [] = drop_of_length-le old k in
    let whole : part ++ drop (length part) old ≡ part = rw (none, append-nil) in
    let p = padded-part zero new part old fill used (length part) e (sym n) (front_fits new part used n e) refl (rw whole h) in
    rw (← l) (rw whole at p)

module _ {to : Routed} {used : ℕ} {lens : List ℕ} {part : List Float} {lens' : List ℕ} (filled : Filled to used lens part lens') where
  pub filled_fits : 2 * used ≤ length part
  filled_fits = front_fits (numbers_of (written_rings to)) part (2 * used) filled.count filled.output

  pub filled_whole : (out fill : List Float) → length part ≡ length out
      → fill ≡ zeros (length (take (length part - 2 * used) (drop (2 * used) part)))
      → FilledWhole to out lens (take (2 * used) part ++ (fill ++ drop (length part - 2 * used) (drop (2 * used) part))) lens'
  filled_whole out fill l h = record {
    output = rest_cleared plus_zero (numbers_of (written_rings to)) part out fill (2 * used) filled.count filled.output l h;
    lengths = filled.lengths;
  }

module _ {origins : List (List ℕ)} {used : ℕ} {part : List ℕ} (filled : FilledOrigins origins used part) where
  pub origins_filled_fit : used ≤ length part
  origins_filled_fit = front_fits (origins_of origins) part used filled.count filled.output

  pub origins-whole : (os fill : List ℕ) → length part ≡ length os
      → fill ≡ replicate (length (take (length part - used) (drop used part))) 0
      → take used part ++ (fill ++ drop (length part - used) (drop used part)) ≡ padded 0 (origins_of origins) (length os) os
  origins-whole os fill l h = rest_cleared 0 (origins_of origins) part os fill used filled.count filled.output l h

-- a part of a slice that was filled so, and the rest of the slice
pub padded-front : {A : Type 0} (zero : A) (new part old : List A) (room : ℕ) → room ≤ length old
    → part ≡ padded zero new (length (take room old)) (take room old) → part ++ drop room old ≡ padded zero new room old
padded-front zero new part old room h e =
    let l : length (take room old) ≡ room = length-take-le room old h in
    let k : length (take room old) ≤ room = omega arith in
    let none : drop room (take room old) ≡ [] = drop_of_length-le (take room old) k in
    rw (e, l, none, append-nil, append_assoc)

-- the call is not refused, and 22 asks for room for so many coordinates and origins
pub record Passed (ns : List ℕ) (s : List Float) (scratch origin_scratch order out lens out_origins room : ℕ) : Type 0 where
  pub passes : check_polygon s ns scratch origin_scratch order out lens out_origins ≡ Ok room
  pub asked : room ≡ total ring_room (closed_rings ns s)
  pub polygon-room : PolygonRoom (closed_rings ns s) scratch order out lens
  pub origin-room : LentOriginsRoom (closed_rings ns s) origin_scratch out_origins none_placed
  pub within : 2 * room ≤ out
  pub origins-within : room ≤ out_origins
  pub small : room ≤ most_rings * (8 * most_coordinates)

pub passed_checks : (ns : List ℕ) (s : List Float) (scratch origin_scratch order out lens out_origins room : ℕ)
    → check_polygon s ns scratch origin_scratch order out lens out_origins ≡ Ok room
    → Passed ns s scratch origin_scratch order out lens out_origins room
passed_checks ns s scratch origin_scratch order out lens out_origins room e =
    let p = passes-room ns s scratch origin_scratch order out lens out_origins room e in
    record {
      passes = e;
      asked = p.2;
      polygon-room = p.0;
      origin-room = p.1;
      within = omega (arith, p.2, p.0.output-room);
      origins-within = omega (arith, p.2, p.1.output-room);
      small =
          let few = (fitting ns s (passes_fit ns s scratch origin_scratch order out lens out_origins room e)).few in
          omega (arith, p.2, (few_rooms ns s few p.0.small).1);
    }

-- what the checks of the rings that were made of lent slices say of these slices
module _ (ns : List ℕ) (s : List Float) (ns' : List ℕ) (s' : List Float) (scratch origin_scratch order out lens out_origins : ℕ)
    (fit : true ≡ lengths_fit (length s) ns) (same : (s' ≡ s) × (ns' ≡ ns)) (r : Result ℕ Refusal)
    (e : r ≡ check_rings (closed_rings ns' s') scratch origin_scratch order out lens out_origins) where
  pub checked : check_polygon s ns scratch origin_scratch order out lens out_origins ≡ r
  checked = past-fit ns s scratch origin_scratch order out lens out_origins (sym fit) ∙ sym (rw (same.0, same.1) at e)

  pub passed_rings : (room : ℕ) → r ≡ Ok room → Passed ns s scratch origin_scratch order out lens out_origins room
  passed_rings room was = passed_checks ns s scratch origin_scratch order out lens out_origins room (checked ∙ was)
