-- What becomes of one polygon at a tile, in document 01's order ("Nothing, or dropped", "Unchanged", "Cut rings", "Overlay wanted"), and
-- the numbers of its answers ("Frames", and document 02, Point 1). Definitions only.
use Rattle.std.specs.Prelude.{Bool, ◌&&◌, ◌||◌, cond, List, [], ◌∷◌, ℕ, ltb, eqb, length, Option, None, Some}
use Rattle.tile.specs.declared.Coord.{Coord}
use Rattle.tile.specs.declared.TileBounds.{TileBounds}
use Rattle.tile.specs.declared.Edge.{Edge}
use Rattle.tile.specs.declared.Edge.TheVariants.{Left, Right, Bottom, Top}
use Rattle.tile.specs.Ring.{close}
use Rattle.box_pairs.specs.declared.Issue.{Issue}
use Rattle.box_pairs.specs.declared.Issue.TheVariants.{Sound, Short, Repeated, Crossing}
use Rattle.box_pairs.specs.Issue.{issue_of, has_issue}
use Rattle.sutherland_hodgman.specs.Clip.{clip_ring}
use Rattle.rings.specs.declared.rectangle.Rect.{Rect}
use Rattle.rings.specs.declared.rectangle.Rect.TheVariants as Rects
use Rattle.rings.specs.Bridge.{first_bridge}
use Rattle.rings.specs.Rectangle.{rectangle, intersects_bounds, is_fully_inside}
use Rattle.rings.specs.Representable.{any_huge_ring}
use Rattle.rings.specs.LentRings.{exterior}
use Rattle.clip.specs.declared.polygon.Flags.{Flags}
use Rattle.clip.specs.declared.polygon.Reason.{Reason}
use Rattle.clip.specs.declared.polygon.Reason.TheVariants as Reasons
use Rattle.clip.specs.declared.polygon.ReasonDetail.{ReasonDetail}
use Rattle.clip.specs.declared.polygon.Route.{Route}
use Rattle.clip.specs.declared.polygon.Route.TheVariants as Routes
use Rattle.clip.specs.declared.polygon.PolygonAnswer.{PolygonAnswer}
use Rattle.clip.specs.declared.polygon.PolygonAnswer.TheVariants as PolygonAnswers

-- ---- the exterior decides

-- an exterior with an issue wants an overlay
abbrev pub overlay_if_issue : Issue → Reason → Route → Route
overlay_if_issue issue reason route = cond (has_issue issue) (Routes.Overlay reason) route

-- "This last test is skipped only if both flags are set."
unfoldable pub bridge_unless_skipped : Flags → TileBounds → List Coord → Option Edge
bridge_unless_skipped flags b r = cond (flags.assume_simple && flags.skip_boundary_fallback) None (first_bridge b r)

-- "Reasons 3 to 6: no issue, but an edge of the cut exterior .."
abbrev pub overlay_if_bridge : Option Edge → Route → Route
overlay_if_bridge (Some edge) route = Routes.Overlay (Reasons.Bridge edge)
overlay_if_bridge None route = route

-- the cut exterior as the polygon holds it: "This also applies to cut rings"
abbrev pub cut_exterior : TileBounds → List Coord → List Coord
cut_exterior b r = close (clip_ring b r)

-- "An empty exterior: nothing." "Reason 2: the cut exterior has one.", since document 02, Point 1, one of 2, 9 and 10
unfoldable pub route_cut : Flags → TileBounds → List Coord → Route
route_cut flags b r =
    let cut = cut_exterior b r in
    let issue = issue_of flags.assume_simple cut in
    cond (ltb 0 (length (clip_ring b r))) (overlay_if_issue issue (Reasons.Cut issue)
    (overlay_if_bridge (bridge_unless_skipped flags b cut) (Routes.Cut (length cut)))) Routes.Nothing

-- "Rectangle and buffered bounds apart: nothing." "Reason 1: the input exterior has an issue.", since Point 1 one of 1, 7 and 8. "Holes
-- are not checked." "No issue and rectangle inside the bounds (edges included): unchanged."
unfoldable pub route_exterior : Flags → Rect → TileBounds → List Coord → Route
route_exterior flags rect b r =
    let issue = issue_of flags.assume_simple r in
    cond (intersects_bounds rect b) (overlay_if_issue issue (Reasons.Input issue)
    (cond (is_fully_inside rect b) Routes.Unchanged (route_cut flags b r))) Routes.Nothing

-- ---- all rings

-- "A cut hole under 4 coordinates is left out."
abbrev pub left_out : List Coord → Bool
left_out hole = ltb (length hole) 4

-- a hole, cut and closed; none where it is left out
unfoldable pub cut_hole : TileBounds → List Coord → List Coord
cut_hole b r = cond (left_out (clip_ring b r)) [] (close (clip_ring b r))

-- a ring that is not left out, before others
abbrev pub unless_none : {A : Type 0} → List A → List (List A) → List (List A)
unless_none [] rings = rings
unless_none (p ∷ r) rings = (p ∷ r) ∷ rings

unfoldable pub cut_holes : TileBounds → List (List Coord) → List (List Coord)
cut_holes b [] = []
cut_holes b (r ∷ rs) = unless_none (cut_hole b r) (cut_holes b rs)

-- the rings of a cut, exterior first
unfoldable pub cut_rings : TileBounds → List (List Coord) → List (List Coord)
cut_rings b [] = []
cut_rings b (r ∷ rs) = cut_exterior b r ∷ cut_holes b rs

-- what becomes of a polygon
pub data Routed : Type 0 where
  nothing dropped unchanged : Routed
  cut : List (List Coord) → Routed
  overlay : Reason → Routed

-- "Where any coordinate of the polygon has magnitude 1e150 or more, an overlay is dropped instead"
unfoldable pub overlay_or_dropped : List (List Coord) → Reason → Routed
overlay_or_dropped rings reason = cond (any_huge_ring rings) dropped (overlay reason)

-- what the exterior decides, with all rings; how many coordinates a cut exterior has is told for the code alone
abbrev pub routed : Route → TileBounds → List (List Coord) → Routed
routed Routes.Nothing b rings = nothing
routed Routes.Unchanged b rings = unchanged
routed (Routes.Cut n) b rings = cut (cut_rings b rings)
routed (Routes.Overlay reason) b rings = overlay_or_dropped rings reason

-- a polygon, rect being taken for its rectangle; `route_rect` asks it only where that is four numbers
abbrev pub route_measured : Flags → Rect → TileBounds → List (List Coord) → Routed
route_measured flags rect b rings = routed (route_exterior flags rect b (exterior rings)) b rings

-- "No coordinate in any ring: nothing." "Any coordinate NaN or infinite: dropped, .. before the bounds are looked at."
unfoldable pub route_rect : Flags → Rect → TileBounds → List (List Coord) → Routed
route_rect flags Rects.Nothing b rings = nothing
route_rect flags Rects.NotFinite b rings = dropped
route_rect flags (Rects.Box w s e n) b rings = route_measured flags (Rects.Box w s e n) b rings

-- a polygon of closed rings, exterior first, at buffered bounds
unfoldable pub route : Flags → TileBounds → List (List Coord) → Routed
route flags b rings = route_rect flags (rectangle rings) b rings

-- ---- answers

-- "Reasons 3 to 6: .. the Left, Right, Bottom or Top bound"
abbrev pub edge_number : Edge → ℕ
edge_number Left = 3
edge_number Right = 4
edge_number Bottom = 5
edge_number Top = 6

-- a reason's number and two positions
abbrev pub detail : ℕ → ℕ → ℕ → ReasonDetail
detail number first second = record { number = number; first = first; second = second }

-- an issue, by the numbers of its three cases: "the position, from 0, of the first of the earliest such pair"; "both edge numbers, from 0
-- and the lower first"; "zero where they don't apply". No reason has `Sound`.
abbrev pub issue_detail : ℕ → ℕ → ℕ → Issue → ReasonDetail
issue_detail short repeated crossing Sound = detail 0 0 0
issue_detail short repeated crossing Short = detail short 0 0
issue_detail short repeated crossing (Repeated position) = detail repeated position 0
issue_detail short repeated crossing (Crossing lower higher) = detail crossing lower higher

-- the papers' number of each reason: "The short ring keeps reason 1; reason 7 is a repeated neighbour ..; reason 8 is a crossing ..
-- Reason 2 is split likewise into 2, 9 and 10."
abbrev pub reason_detail : Reason → ReasonDetail
reason_detail (Reasons.Input issue) = issue_detail 1 7 8 issue
reason_detail (Reasons.Cut issue) = issue_detail 2 9 10 issue
reason_detail (Reasons.Bridge edge) = detail (edge_number edge) 0 0

-- a reason's number as document 01 has it: "The equality rule and document 01's worked cases speak of the reasons merged back."
abbrev pub merged_number : ℕ → ℕ
merged_number number = cond (eqb number 7 || eqb number 8) 1 (cond (eqb number 9 || eqb number 10) 2 number)

-- the answer, without the rings of a cut
abbrev pub answer_of : Routed → PolygonAnswer
answer_of nothing = PolygonAnswers.Nothing
answer_of dropped = PolygonAnswers.Dropped
answer_of unchanged = PolygonAnswers.Unchanged
answer_of (cut rings) = PolygonAnswers.Cut (length rings)
answer_of (overlay reason) = PolygonAnswers.Overlay reason

-- what an answer tells: the paper's number of it, "(0 nothing, 1 whole dropped, 2 whole unchanged, ..", "(2 unchanged, 4 cut, 5 overlay)";
-- the reason, "0 unless overlay", with its positions; of a cut "how many rings", else 0; and the guard count, how many polygons were
-- dropped: "dropped, guard count 1"
pub record Told : Type 0 where
  pub number : ℕ
  pub reason : ReasonDetail
  pub rings : ℕ
  pub guards : ℕ

abbrev pub told : PolygonAnswer → Told
told PolygonAnswers.Nothing = record { number = 0; reason = detail 0 0 0; rings = 0; guards = 0 }
told PolygonAnswers.Dropped = record { number = 1; reason = detail 0 0 0; rings = 0; guards = 1 }
told PolygonAnswers.Unchanged = record { number = 2; reason = detail 0 0 0; rings = 0; guards = 0 }
told (PolygonAnswers.Cut rings) = record { number = 4; reason = detail 0 0 0; rings = rings; guards = 0 }
told (PolygonAnswers.Overlay reason) = record { number = 5; reason = reason_detail reason; rings = 0; guards = 0 }
