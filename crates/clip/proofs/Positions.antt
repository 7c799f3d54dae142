-- The positions that a reason tells are those of coordinates of the exterior or of the cut exterior; and merging a reason's number gives
-- back document 01's. Assumes nothing.
use mathlib.Core.Path.{◌≡◌, refl}
use mathlib.Core.Bool.{Bool, true, false, cond}
use mathlib.Core.List.{List}
use Prim.Native.Nat.{ℕ, ◌≤◌, zero-le}
use native.Mathlib.Omega.{arith}
use lib.Dec.{ltb}
use lib.ListN.{length}
use Rattle.std.specs.Prelude.{Option, None, Some}
use Rattle.binary64.proofs.Booleans.{never_both}
use Rattle.tile.specs.declared.Coord.{Coord}
use Rattle.tile.specs.declared.TileBounds.{TileBounds}
use Rattle.tile.specs.declared.Edge.{Edge}
use Rattle.tile.specs.declared.Edge.TheVariants.{Left, Right, Bottom, Top}
use Rattle.box_pairs.specs.declared.Issue.{Issue}
use Rattle.box_pairs.specs.declared.Issue.TheVariants.{Sound, Short, Repeated, Crossing}
use Rattle.box_pairs.specs.Internal.{IssueBelow}
use Rattle.box_pairs.specs.Issue.{issue_of, has_issue}
use Rattle.box_pairs.proofs.Offered.{sound_none, issue_below}
use Rattle.sutherland_hodgman.specs.Clip.{clip_ring}
use Rattle.sutherland_hodgman.specs.Growth.{B}
use Rattle.sutherland_hodgman.proofs.Offered.{le-B}
use Rattle.rings.specs.declared.rectangle.Rect.{Rect}
use Rattle.rings.specs.Rectangle.{intersects_bounds, is_fully_inside}
use Rattle.clip.specs.declared.polygon.Flags.{Flags}
use Rattle.clip.specs.declared.polygon.Reason.{Reason}
use Rattle.clip.specs.declared.polygon.Reason.TheVariants as Reasons
use Rattle.clip.specs.declared.polygon.Route.{Route}
use Rattle.clip.specs.declared.polygon.Route.TheVariants as Routes
use Rattle.clip.specs.Polygon.{overlay_if_bridge, bridge_unless_skipped, cut_exterior, route_cut, route_exterior, reason_detail, edge_number}
use Rattle.clip.specs.Polygon.{issue_detail, merged_number}
use Rattle.clip.proofs.Cuts.{cut-fits-room}

-- ---- positions

-- the positions that a reason tells are at most n
abbrev pub Within : ℕ → Reason → Type 0
Within n reason = ((reason_detail reason).first ≤ n) × ((reason_detail reason).second ≤ n)

-- and so are those of the route, where it is an overlay
abbrev pub RouteWithin : ℕ → Route → Type 0
RouteWithin n Routes.Nothing = Unit {0}
RouteWithin n Routes.Unchanged = Unit {0}
RouteWithin n (Routes.Cut m) = Unit {0}
RouteWithin n (Routes.Overlay reason) = Within n reason

issue_within : (n short repeated crossing : ℕ) (issue : Issue) → IssueBelow n issue
    → ((issue_detail short repeated crossing issue).first ≤ n) × ((issue_detail short repeated crossing issue).second ≤ n)
issue_within n short repeated crossing Sound below = (zero-le, zero-le)
issue_within n short repeated crossing Short below = (zero-le, zero-le)
issue_within n short repeated crossing (Repeated k) below = (omega arith, zero-le)
issue_within n short repeated crossing (Crossing i j) below = (omega (arith, below.0), omega (arith, below.1))

-- an overlay that is wanted for an issue, else another route
if_issue : (n : ℕ) (t : Bool) (reason : Reason) (route : Route) → Within n reason → RouteWithin n route
    → RouteWithin n (cond t (Routes.Overlay reason) route)
if_issue n true reason route w v = w
if_issue n false reason route w v = v

cut-within : (flags : Flags) (b : TileBounds) (r : List Coord) → RouteWithin (B (length r)) (route_cut flags b r)
unfolding route_cut
cut-within flags b r = some (ltb 0 (length (clip_ring b r)))
  where
    issue : Issue
    issue = issue_of flags.assume_simple (cut_exterior b r)

    bridged : (bridge : Option Edge) → RouteWithin (B (length r)) (overlay_if_bridge bridge (Routes.Cut (length (cut_exterior b r))))
    bridged (Some edge) = (zero-le, zero-le)
    bridged None = tt

    some : (t : Bool) → RouteWithin (B (length r)) (cond t (cond (has_issue issue) (Routes.Overlay (Reasons.Cut issue))
        (overlay_if_bridge (bridge_unless_skipped flags b (cut_exterior b r)) (Routes.Cut (length (cut_exterior b r))))) Routes.Nothing)
    some false = tt
    some true = if_issue (B (length r)) (has_issue issue) (Reasons.Cut issue) _
        (issue_within (B (length r)) 2 9 10 issue
        (issue_below (B (length r)) flags.assume_simple (cut_exterior b r) (cut-fits-room b r)))
        (bridged (bridge_unless_skipped flags b (cut_exterior b r)))

-- what the exterior decides tells no position past the room for cutting it
pub exterior-within : (flags : Flags) (rect : Rect) (b : TileBounds) (r : List Coord)
    → RouteWithin (B (length r)) (route_exterior flags rect b r)
unfolding route_exterior
exterior-within flags rect b r = meets (intersects_bounds rect b)
  where
    issue : Issue
    issue = issue_of flags.assume_simple r

    inside : (t : Bool) → RouteWithin (B (length r)) (cond t Routes.Unchanged (route_cut flags b r))
    inside true = tt
    inside false = cut-within flags b r

    meets : (t : Bool) → RouteWithin (B (length r)) (cond t (cond (has_issue issue) (Routes.Overlay (Reasons.Input issue))
        (cond (is_fully_inside rect b) Routes.Unchanged (route_cut flags b r))) Routes.Nothing)
    meets false = tt
    meets true = if_issue (B (length r)) (has_issue issue) (Reasons.Input issue) _
        (issue_within (B (length r)) 1 7 8 issue (issue_below (B (length r)) flags.assume_simple r (le-B (length r))))
        (inside (is_fully_inside rect b))

-- ---- merged numbers

-- document 01's number of a reason
abbrev pub document_number : Reason → ℕ
document_number (Reasons.Input issue) = 1
document_number (Reasons.Cut issue) = 2
document_number (Reasons.Bridge edge) = edge_number edge

-- the issue of a reason is one
abbrev pub IsIssue : Reason → Type 0
IsIssue (Reasons.Input issue) = has_issue issue ≡ true
IsIssue (Reasons.Cut issue) = has_issue issue ≡ true
IsIssue (Reasons.Bridge edge) = Unit {0}

merged_issue : (document short repeated crossing : ℕ) → merged_number short ≡ document → merged_number repeated ≡ document
    → merged_number crossing ≡ document → (issue : Issue) → has_issue issue ≡ true
    → merged_number (issue_detail short repeated crossing issue).number ≡ document
merged_issue document short repeated crossing hs hr hc Sound h = absurd (never_both h sound_none)
merged_issue document short repeated crossing hs hr hc Short h = hs
merged_issue document short repeated crossing hs hr hc (Repeated k) h = hr
merged_issue document short repeated crossing hs hr hc (Crossing i j) h = hc

-- merging the number of a reason gives back document 01's
pub merged_back : (reason : Reason) → IsIssue reason → merged_number (reason_detail reason).number ≡ document_number reason
merged_back (Reasons.Input issue) h = merged_issue 1 1 7 8 refl refl refl issue h
merged_back (Reasons.Cut issue) h = merged_issue 2 2 9 10 refl refl refl issue h
merged_back (Reasons.Bridge Left) h = refl
merged_back (Reasons.Bridge Right) h = refl
merged_back (Reasons.Bridge Bottom) h = refl
merged_back (Reasons.Bridge Top) h = refl
