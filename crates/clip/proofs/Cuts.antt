-- A lent ring that is cut, and closed again: the room that it takes, and what stands at the front of the slice. Assumes nothing.
use mathlib.Core.Path.{◌≡◌, refl, sym, ◌∙◌}
use mathlib.Core.Bool.{Bool, true, false, cond}
use mathlib.Core.List.{List, [], ◌∷◌, ◌++◌}
use Prim.Native.Nat.{ℕ, suc, ◌*◌, ◌/◌, ◌<◌, ◌≤◌}
use native.Mathlib.Omega.{arith}
use borrow.Author.Tests.{lt-ltb}
use lib.Ieee.{Float}
use lib.ListN.{length, take, drop}
use lib.Seq.{take_at, length-take-le}
use Rattle.std.specs.Prelude.{Option, None, Some}
use Rattle.binary64.specs.Lists.{Every}
use Rattle.tile.specs.declared.Coord.{Coord}
use Rattle.tile.specs.declared.TileBounds.{TileBounds}
use Rattle.tile.specs.declared.Edge.{Edge}
use Rattle.tile.specs.Ring.{coords, close}
use Rattle.tile.specs.Internal.{Stands, Written}
use Rattle.tile.proofs.Rings.{stands-front, length-close, close-most, count-coords}
use Rattle.box_pairs.specs.declared.Issue.{Issue}
use Rattle.box_pairs.specs.Issue.{has_issue, issue_of}
use Rattle.sutherland_hodgman.specs.Growth.{B, most_coordinates}
use Rattle.sutherland_hodgman.specs.Clip.{clip_ring}
use Rattle.sutherland_hodgman.specs.Origins.{clip_origins, close_origins}
use Rattle.sutherland_hodgman.specs.Internal.{Fits16, CutterRoom, OriginRoom, RingCut}
use Rattle.sutherland_hodgman.proofs.Offered.{B-mono, le-B, clip_fits, clip_close, as_many, close_many, origins-close, origins_fit, close-fits}
use Rattle.clip.specs.declared.polygon.Flags.{Flags}
use Rattle.clip.specs.declared.polygon.Reason.TheVariants as Reasons
use Rattle.clip.specs.declared.polygon.Route.{Route}
use Rattle.clip.specs.declared.polygon.Route.TheVariants as Routes
use Rattle.clip.specs.Polygon.{overlay_if_issue, bridge_unless_skipped, overlay_if_bridge, cut_exterior, route_cut, left_out, cut_hole}
use Rattle.clip.specs.Polygon.{cut_rings, unless_none, cut_holes}
use Rattle.clip.specs.Origins.{exterior_origins, hole_origins, holes_origins, cut_origins}
use Rattle.clip.specs.Internal.{RingRoom, RingOriginRoom, CutStands, OriginsStand}

-- ---- room

close-none : close [] ≡ []
unfolding close
close-none = refl

-- a cut ring, closed again, has room; and so has one that is left out
pub cut-fits-room : (b : TileBounds) (r : List Coord) → length (close (clip_ring b r)) ≤ B (length r)
cut-fits-room b r = go (clip_ring b r) (clip_fits b r)
  where
    go : (c : List Coord) → (0 < length c → suc (length c) ≤ B (length r)) → length (close c) ≤ B (length r)
    go [] h = rw close-none (omega arith)
    go (p ∷ c) h = omega (arith, close-most (p ∷ c), h (omega arith))

pub hole_fits-room : (b : TileBounds) (r : List Coord) → length (cut_hole b r) ≤ B (length r)
unfolding cut_hole
hole_fits-room b r = go (left_out (clip_ring b r))
  where
    go : (t : Bool) → length (cond t [] (close (clip_ring b r))) ≤ B (length r)
    go true = omega arith
    go false = cut-fits-room b r

-- ---- there are as many origins as coordinates, and each fits 16 bits

pub exterior-origins-length : (b : TileBounds) (r : List Coord) → length (exterior_origins b r) ≡ length (cut_exterior b r)
exterior-origins-length b r = close_many (clip_ring b r) (clip_origins b r) (as_many b r)

pub hole_origins-length : (b : TileBounds) (r : List Coord) → length (hole_origins b r) ≡ length (cut_hole b r)
unfolding hole_origins cut_hole
hole_origins-length b r = go (left_out (clip_ring b r))
  where
    go : (t : Bool) → length (cond t [] (exterior_origins b r)) ≡ length (cond t [] (close (clip_ring b r)))
    go true = refl
    go false = exterior-origins-length b r

module _ (b : TileBounds) (r : List Coord) (few : length r ≤ most_coordinates) where
  pub exterior-origins_fit : Every Fits16 (exterior_origins b r)
  exterior-origins_fit = close-fits (clip_ring b r) (clip_origins b r) (origins_fit b r few)

  pub hole_origins_fit : Every Fits16 (hole_origins b r)
  unfolding hole_origins
  hole_origins_fit = go (left_out (clip_ring b r))
    where
      go : (t : Bool) → Every Fits16 (cond t [] (exterior_origins b r))
      go true = tt
      go false = exterior-origins_fit

-- ---- what a slice holds

pub copied_front : (k : ℕ) (from front rest : List Float) → k ≤ length from → front ≡ take k from → take k (front ++ rest) ≡ take k from
copied_front k from front rest h e = rw e (take_at (take k from) rest k (length-take-le k from h))

pub copied : (k : ℕ) (from before after : List Float) → k ≤ length from → after ≡ take k from ++ drop k before → take k after ≡ take k from
copied k from before after h e = rw e (copied_front k from (take k from) (drop k before) h refl)

-- ---- a lent ring, closed and cut

module _ (s : List Float) (a b : ℕ) (room : RingRoom (coords s) a b) where
  pub lent-count : length s / 2 ≤ length (close (coords s))
  lent-count = omega (arith, count-coords s, length-close (coords s))

  pub output-lent : 2 * (length s / 2) ≤ b
  output-lent =
      let g = le-B (length (close (coords s))) in omega (arith, lent-count, room.output-room)

  pub cutter_room : CutterRoom (length s / 2) (length s) a b
  cutter_room =
      let m = B-mono (length s / 2) (length (close (coords s))) lent-count in record
      { vertices = omega arith; scratch-room = omega (arith, room.scratch-room); output-room = omega (arith, room.output-room) }

  pub origin-room : (c d : ℕ) → RingOriginRoom (coords s) c d → OriginRoom (length s / 2) c d
  origin-room c d o =
      let m = B-mono (length s / 2) (length (close (coords s))) lent-count in
      record {
        positions = omega (arith, lent-count, room.few);
        scratch-room = omega (arith, o.scratch-room);
        output-room = omega (arith, o.output-room);
      }

  module _ (bounds : TileBounds) (k : ℕ) (after : List Float) (c : RingCut bounds (coords s) k after) where
    pub cut-ring : coords (take (2 * k) after) ≡ clip_ring bounds (close (coords s))
    cut-ring = stands-front c.stands ∙ sym (clip_close bounds (coords s) room.closes)

    pub cut-count : k ≡ length (clip_ring bounds (close (coords s)))
    cut-count = c.stands.count ∙ rw (clip_close bounds (coords s) room.closes)

    pub cut_fits : 0 < k → suc k ≤ B (length (close (coords s)))
    cut_fits h = let m = clip_fits bounds (close (coords s)) (omega (arith, cut-count)) in omega (arith, cut-count)

    -- closed by the domain rule
    module _ (r : ℕ) (after' : List Float) (w : Written (close (coords (take (2 * k) after))) after r after') where
      pub closed-written : Written (close (clip_ring bounds (close (coords s)))) after r after'
      closed-written = rw cut-ring at w

      pub closed-fits : 0 < k → r ≤ B (length (close (coords s)))
      closed-fits h =
          omega (arith, closed-written.count, cut-count, cut_fits h, close-most (clip_ring bounds (close (coords s))))

      pub closed-lent : 0 < k → 2 * r ≤ b
      closed-lent h = omega (arith, closed-fits h, room.output-room)

      -- the origins, likewise
      pub closed-origins : (os os' : List ℕ) → take k os ≡ clip_origins bounds (coords s)
          → os' ≡ close_origins (coords (take (2 * k) after)) (take k os) ++ drop r os
          → take r os' ≡ exterior_origins bounds (close (coords s))
      closed-origins os os' e h =
          let ring = close (coords s) in
          let o : take k os ≡ clip_origins bounds ring = e ∙ sym (origins-close bounds (coords s) room.closes) in
          let q : os' ≡ exterior_origins bounds ring ++ drop r os = rw (cut-ring, o) at h in
          let m : length (exterior_origins bounds ring) ≡ r = exterior-origins-length bounds ring ∙ sym closed-written.count in
          rw q (take_at (exterior_origins bounds ring) (drop r os) r m)

      pub closed_some : 0 < k → 0 < r
      closed_some h = omega (arith, closed-written.count, cut-count, length-close (clip_ring bounds (close (coords s))))

-- ---- a cut exterior, judged

module _ (flags : Flags) (b : TileBounds) (r ring : List Coord) (issue : Issue) (n : ℕ) (to : Route)
    (is : to ≡ overlay_if_issue issue (Reasons.Cut issue) (overlay_if_bridge (bridge_unless_skipped flags b ring) (Routes.Cut n))) where
  pub judged_route : 0 < length (clip_ring b r) → ring ≡ cut_exterior b r → issue ≡ issue_of flags.assume_simple ring
      → n ≡ length (cut_exterior b r) → to ≡ route_cut flags b r
  unfolding route_cut
  judged_route some hr hi hn = is ∙ rw (lt-ltb _ _ some, hi, hr, hn)

  pub judged_stands : (after : List Float) → Stands (cut_exterior b r) n after → 0 < n → CutStands b r to after
  judged_stands after stands some = rw is (go (has_issue issue) (bridge_unless_skipped flags b ring))
    where
      go : (t : Bool) (bridge : Option Edge) → CutStands b r
          (cond t (Routes.Overlay (Reasons.Cut issue)) (overlay_if_bridge bridge (Routes.Cut n))) after
      go true bridge = tt
      go false (Some edge) = tt
      go false None = (stands, some)

  pub judged_origins : (after : List ℕ) → take n after ≡ exterior_origins b r → OriginsStand b r to after
  judged_origins after stands = rw is (go (has_issue issue) (bridge_unless_skipped flags b ring))
    where
      go : (t : Bool) (bridge : Option Edge) → OriginsStand b r
          (cond t (Routes.Overlay (Reasons.Cut issue)) (overlay_if_bridge bridge (Routes.Cut n))) after
      go true bridge = tt
      go false (Some edge) = tt
      go false None = stands

-- ---- all rings of a cut

unless_some : {A : Type 0} (c : List A) (others : List (List A)) → 0 < length c → c ∷ others ≡ unless_none c others
unless_some [] others h = absurd (omega arith)
unless_some (p ∷ c) others h = refl

module _ (b : TileBounds) (r : List Coord) (rest : List (List Coord)) (some : 0 < length (cut_exterior b r)) where
  pub cut-rings : cut_rings b (r ∷ rest) ≡ unless_none (cut_exterior b r) (cut_holes b rest)
  unfolding cut_rings
  cut-rings = unless_some (cut_exterior b r) (cut_holes b rest) some

  pub cut-origins : cut_origins b (r ∷ rest) ≡ unless_none (exterior_origins b r) (holes_origins b rest)
  unfolding cut_origins
  cut-origins =
      let n : 0 < length (exterior_origins b r) = omega (arith, exterior-origins-length b r) in
      unless_some (exterior_origins b r) (holes_origins b rest) n
