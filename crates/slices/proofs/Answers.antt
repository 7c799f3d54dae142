-- The answer of a slice call and what it leaves; each field can be read from its number, which tells the
-- guard count too. Assumes nothing.
use mathlib.Core.Path.{◌≡◌, refl}
use mathlib.Core.Bool.{Bool, true, false, cond}
use mathlib.Core.List.{List, [], ◌∷◌}
use Prim.Native.Nat.{ℕ, suc, ◌+◌, ◌*◌, ◌/◌, ◌%◌, ◌^◌, ◌<◌, ◌≤◌, zero-le}
use native.Mathlib.Omega.{arith}
use lib.Dec.{lit<, lit≤}
use lib.Ieee.{Float}
use lib.IntN.{ℤ, pos}
use lib.ListN.{length, replicate}
use borrow.Author.Tests.{ne_eqb}
use Rattle.std.specs.Prelude.{Result, Ok, Err}
use Rattle.binary64.specs.Slices.{plus_zero, zeros, over, padded}
use Rattle.tile.specs.declared.Coord.{Coord}
use Rattle.tile.specs.declared.TileBounds.{TileBounds}
use Rattle.tile.specs.declared.Edge.TheVariants.{Left, Right, Bottom, Top}
use Rattle.tile.specs.Bounds.{buffered}
use Rattle.box_pairs.specs.declared.Issue.{Issue}
use Rattle.box_pairs.specs.declared.Issue.TheVariants.{Sound, Short, Repeated, Crossing}
use Rattle.sutherland_hodgman.specs.Growth.{B, most_coordinates}
use Rattle.sutherland_hodgman.proofs.Offered.{B-le}
use Rattle.ring_calls.specs.declared.Refusal.{Refusal}
use Rattle.ring_calls.specs.declared.Refusal.TheVariants as Refusals
use Rattle.rings.specs.declared.rectangle.Rect.{Rect}
use Rattle.rings.specs.declared.rectangle.Rect.TheVariants as Rects
use Rattle.rings.specs.Rectangle.{rectangle}
use Rattle.rings.specs.Representable.{any_huge_ring}
use Rattle.rings.specs.LentRings.{exterior, most_rings, closed_rings, total, ring_room}
use Rattle.rings.proofs.LentRings.{length-closed}
use Rattle.clip.specs.declared.polygon.Flags.{Flags}
use Rattle.clip.specs.declared.polygon.Reason.{Reason}
use Rattle.clip.specs.declared.polygon.Reason.TheVariants as Reasons
use Rattle.clip.specs.declared.polygon.Route.{Route}
use Rattle.clip.specs.declared.polygon.Route.TheVariants as Routes
use Rattle.clip.specs.declared.polygon.PolygonAnswer.{PolygonAnswer}
use Rattle.clip.specs.Polygon.{cut_hole, unless_none, cut_holes, cut_rings, overlay_or_dropped, routed, route_exterior, route_rect, route, Routed}
use Rattle.clip.specs.Polygon.{nothing, dropped, unchanged, cut, overlay, detail, issue_detail, reason_detail, answer_of, told}
use Rattle.clip.proofs.Positions.{RouteWithin, exterior-within}
use Rattle.polygon_rings.specs.WrittenRings.{written_rings, numbers_of, lengths_of, origins_of}
use Rattle.slices.specs.declared.call.Answered.{Answered}
use Rattle.slices.specs.SliceCall.{PolygonSlices, polygon_slices, slice_call_check, route_lent, slice_answered, slice_call_answer}
use Rattle.slices.specs.SliceCall.{
  slice_call_room,
  slice_call_origin_room,
  polygon_slices_after,
  answer_code,
  slice_call_code,
  slice_call_guards,
  guards_in,
}
use Rattle.slices.proofs.Checks.{fitting, passes_fit, passes-room}

unless_most : (c : List Coord) (l : List (List Coord)) → length (unless_none c l) ≤ suc (length l)
unless_most [] l = omega arith
unless_most (p ∷ c) l = omega arith

holes_count : (b : TileBounds) (rings : List (List Coord)) → length (cut_holes b rings) ≤ length rings
unfolding cut_holes
holes_count b [] = omega arith
holes_count b (r ∷ rings) = omega (arith, unless_most (cut_hole b r) (cut_holes b rings), holes_count b rings)

rings-count : (b : TileBounds) (rings : List (List Coord)) → length (cut_rings b rings) ≤ length rings
unfolding cut_rings
rings-count b [] = omega arith
rings-count b (r ∷ rings) = omega (arith, holes_count b rings)

issue_number : (short repeated crossing : ℕ) (issue : Issue) → short ≤ 10 → repeated ≤ 10 → crossing ≤ 10
    → (issue_detail short repeated crossing issue).number ≤ 10
issue_number short repeated crossing Sound hs hr hc = zero-le
issue_number short repeated crossing Short hs hr hc = hs
issue_number short repeated crossing (Repeated k) hs hr hc = hr
issue_number short repeated crossing (Crossing i j) hs hr hc = hc

reason-number : (r : Reason) → (reason_detail r).number ≤ 10
reason-number (Reasons.Input issue) = issue_number 1 7 8 issue (lit≤ tt) (lit≤ tt) (lit≤ tt)
reason-number (Reasons.Cut issue) = issue_number 2 9 10 issue (lit≤ tt) (lit≤ tt) (lit≤ tt)
reason-number (Reasons.Bridge Left) = omega arith
reason-number (Reasons.Bridge Right) = omega arith
reason-number (Reasons.Bridge Bottom) = omega arith
reason-number (Reasons.Bridge Top) = omega arith

exterior-most : (rings : List (List Coord)) → length (exterior rings) ≤ total length rings
unfolding total
exterior-most [] = omega arith
exterior-most (r ∷ rings) = omega arith

-- the fields of an answer have the bits that its number has for them; a position is at most what the largest exterior has room for when it
-- is cut, which has 20
record Fields (answer : PolygonAnswer) : Type 0 where
  number : (told answer).number < 2 ^ 8
  reason : (told answer).reason.number < 2 ^ 8
  rings_or_first : (told answer).rings + (told answer).reason.first < 2 ^ 24
  second : (told answer).reason.second < 2 ^ 20

no_fields : (n : ℕ) → n < 2 ^ 8 → (rings : ℕ) → rings < 2 ^ 24 → (answer : PolygonAnswer) → (told answer).number ≡ n
    → (told answer).reason ≡ detail 0 0 0 → (told answer).rings ≡ rings → Fields answer
no_fields n hn rings hr answer en ed er = record {
  number = omega (arith, en);
  reason = rw ed (lit< tt);
  rings_or_first = rw (ed, er) (omega arith);
  second = rw ed (lit< tt);
}

module _ (b : TileBounds) (rings : List (List Coord)) (few : length rings ≤ most_rings)
    (small : length (exterior rings) ≤ most_coordinates) where
  routed_fields : (to : Route) → RouteWithin (B (length (exterior rings))) to → Fields (answer_of (routed to b rings))
  unfolding overlay_or_dropped
  routed_fields Routes.Nothing w = no_fields 0 (lit< tt) 0 (lit< tt) _ refl refl refl
  routed_fields Routes.Unchanged w = no_fields 2 (lit< tt) 0 (lit< tt) _ refl refl refl
  routed_fields (Routes.Cut n) w =
      no_fields 4 (lit< tt) (length (cut_rings b rings)) (omega (arith, rings-count b rings)) _ refl refl refl
  routed_fields (Routes.Overlay reason) w = go (any_huge_ring rings)
    where
      go : (t : Bool) → Fields (answer_of (cond t dropped (overlay reason)))
      go true = no_fields 1 (lit< tt) 0 (lit< tt) _ refl refl refl
      go false =
          let most = B-le (length (exterior rings)) small in
          record {
            number = lit< tt;
            reason = omega (arith, reason-number reason);
            rings_or_first = omega (arith, w.0);
            second = omega (arith, w.1);
          }

  route_fields : (flags : Flags) → Fields (answer_of (route flags b rings))
  unfolding route route_rect
  route_fields flags = go (rectangle rings)
    where
      go : (r : Rect) → Fields (answer_of (route_rect flags r b rings))
      go Rects.Nothing = no_fields 0 (lit< tt) 0 (lit< tt) _ refl refl refl
      go Rects.NotFinite = no_fields 1 (lit< tt) 0 (lit< tt) _ refl refl refl
      go (Rects.Box w s e n) =
          routed_fields (route_exterior flags (Rects.Box w s e n) b (exterior rings))
          (exterior-within flags (Rects.Box w s e n) b (exterior rings))

-- ---- the call

-- a slice that is filled with zeros and had kept its length
pub cleared : {A : Type 0} (zero : A) (m n : ℕ) (l : List A) → l ≡ replicate m zero → m ≡ n → l ≡ replicate n zero
cleared zero m n l e h = rw (e, h)

-- what is answered, and what the lent slices hold, where the checks refuse
pub refused : (c : Result ℕ Refusal) (rings : List (List Coord)) (to : Routed) (origins : List (List ℕ)) (lent : PolygonSlices)
    (refusal : Refusal) → c ≡ Err refusal
    → (Err refusal ≡ slice_answered c to) × (lent ≡ polygon_slices_after c rings to origins lent)
refused c rings to origins lent refusal e = (rw e, rw e)

-- and where they pass
module _ (c : Result ℕ Refusal) (to : Routed) (room : ℕ) (passes : c ≡ Ok room) where
  pub answered : (answer : PolygonAnswer) (guards : ℕ) → answer ≡ answer_of to → guards ≡ (told answer).guards
      → ◌≡◌ {A = Result Answered Refusal} (Ok (record { answer = answer; guards = guards })) (slice_answered c to)
  answered answer guards ha hg = rw (passes, hg, ha)

  pub written : (rings : List (List Coord)) (origins : List (List ℕ)) (lent : PolygonSlices) → room ≡ total ring_room rings
      → (scratch : List Float) (origin_scratch order : List ℕ) (out : List Float) (lens os : List ℕ)
      → scratch ≡ zeros (length lent.scratch) → origin_scratch ≡ replicate (length lent.origin_scratch) 0
      → order ≡ replicate (length lent.order) 0
      → out ≡ padded plus_zero (numbers_of (written_rings to)) (2 * room) lent.output
      → lens ≡ over (lengths_of (written_rings to)) lent.out_lengths
      → os ≡ padded 0 (origins_of origins) room lent.out_origins
      → polygon_slices scratch origin_scratch order out lens os ≡ polygon_slices_after c rings to origins lent
  unfolding slice_call_room slice_call_origin_room
  written rings origins lent asked scratch origin_scratch order out lens os hs hu hp ho hl hr =
      rw (passes, ← asked, hs, hu, hp, ho, hl, hr)

pub passed : (c : Result ℕ Refusal) (to : Routed) (a : Answered) → slice_answered c to ≡ Ok a
    → (room : ℕ) × (c ≡ Ok room) × (answer_of to ≡ a.answer)
passed (Err r) to a e = absurd (let z : ◌≡◌ {A = ℕ} 0 1 = cc in omega arith)
passed (Ok room) to a e = (room, refl, cc)

module _ (flags : Flags) (bounds : TileBounds) (buffer : Float) (s : List Float) (ns : List ℕ) (lent : PolygonSlices) where
  answer_fields : (a : Answered) → slice_call_answer flags bounds buffer s ns lent ≡ Ok a
      → Fields a.answer
  unfolding slice_call_answer route_lent
  answer_fields a e =
      let p = passed (slice_call_check s ns lent) (route_lent flags bounds buffer s ns) a e in
      let few : length (closed_rings ns s) ≤ most_rings =
      omega (arith, length-closed ns s, (fitting ns s (passes_fit ns s _ _ _ _ _ _ _ p.1)).few) in
      let small : length (exterior (closed_rings ns s)) ≤ most_coordinates =
      omega (arith, exterior-most (closed_rings ns s), (passes-room ns s _ _ _ _ _ _ _ p.1).0.small) in
      rw (← p.2) (route_fields (buffered bounds buffer) (closed_rings ns s) few small flags)

  pub answer-below : (a : Answered) → slice_call_answer flags bounds buffer s ns lent ≡ Ok a
      → answer_code a.answer < 2 ^ 60
  answer-below a e =
      let f = answer_fields a e in omega (arith, f.number, f.reason, f.rings_or_first, f.second)

  -- each field can be read from the number
  pub answer-read : (a : Answered) → slice_call_answer flags bounds buffer s ns lent ≡ Ok a
      → (answer_code a.answer % 2 ^ 8 ≡ (told a.answer).number) × (answer_code a.answer / 2 ^ 8 % 2 ^ 8 ≡ (told a.answer).reason.number)
      × (answer_code a.answer / 2 ^ 16 % 2 ^ 24 ≡ (told a.answer).rings + (told a.answer).reason.first)
      × (answer_code a.answer / 2 ^ 40 ≡ (told a.answer).reason.second)
  answer-read a e =
      let f = answer_fields a e in (
        omega (arith, f.number, f.reason, f.rings_or_first, f.second),
        omega (arith, f.number, f.reason, f.rings_or_first, f.second),
        omega (arith, f.number, f.reason, f.rings_or_first, f.second),
        omega (arith, f.number, f.reason, f.rings_or_first, f.second),
      )

  -- the number that is answered tells the guard count
  pub guards-told : (r : Result Answered Refusal) (code : ℤ) → r ≡ slice_call_answer flags bounds buffer s ns lent → code ≡ slice_call_code r
      → guards_in code ≡ slice_call_guards r
  unfolding slice_call_answer
  guards-told r code hr hc = rw (hc, hr) (told (slice_call_check s ns lent) (route_lent flags bounds buffer s ns))
    where
      not-one : (n : ℕ) → 1 < n → guards_in (pos n) ≡ 0
      not-one n h = rw (ne_eqb n 1 (λ e. omega arith))

      told : (c : Result ℕ Refusal) (to : Routed) → guards_in (slice_call_code (slice_answered c to)) ≡ slice_call_guards (slice_answered c to)
      told (Err Refusals.Lengths) to = refl
      told (Err Refusals.Coordinates) to = refl
      told (Err Refusals.Scratch) to = refl
      told (Err Refusals.Output) to = refl
      told (Ok room) nothing = refl
      told (Ok room) dropped = refl
      told (Ok room) unchanged = refl
      told (Ok room) (cut rings) = not-one (answer_code (answer_of (cut rings))) (omega arith)
      told (Ok room) (overlay reason) = not-one (answer_code (answer_of (overlay reason))) (omega arith)
