-- Document 01's worked cases marked P ("Worked on bounds 0, 0, 10, 10, buffer 0"), which "speak of the reasons merged back", and cases of
-- document 02, Point 1, with their positions, and Point 12, with their origins: three tables and one claim, computed from the definitions,
-- from a frame's bytes to the bytes that answer it. Assumes nothing.
use mathlib.Core.Path.{◌≡◌, refl}
use mathlib.Core.Bool.{Bool, true, false, cond, ◌&&◌}
use mathlib.Core.List.{List, [], ◌∷◌, ◌++◌}
use Prim.Native.Nat.{ℕ, ◌*◌, ◌^◌}
use lib.Dec.{eqb}
use lib.IntN.{pos, neg_ℤ}
use lib.ListN.{get_or, take}
use lib.Ieee.{nan, binary64, of_int, of_bits, to_bits, round, is_nan, lt, le, eq, add, sub, mul, div}
use Rattle.binary64.specs.Bytes.{Little, double_bytes, from_low, to_low}
use Rattle.binary64.specs.Compare.{minimum, maximum, magnitude, tolerance, near, overlay_limit, huge}
use Rattle.binary64.specs.Interpolation.{interpolate}
use Rattle.tile.specs.declared.Coord.{Coord}
use Rattle.tile.specs.Bounds.{new_of}
use Rattle.tile.specs.Ring.{same, last, closed, close}
use Rattle.tile.proofs.WholeNumbers.{num, at}
use Rattle.exact.specs.Grid.{on_grid, grid_steps, from_lowest, point_of, coord_on_grid, all_on_grid, may_share_point}
use Rattle.exact.specs.Segments as Segments
use Rattle.box_pairs.specs.Cross.{cross_product_sign, above_below, splits, intersect_properly, degenerate, apart_on, apart, cross_in_floats}
use Rattle.box_pairs.specs.Cross.{cross}
use Rattle.box_pairs.specs.Pairs.{first_in_row, first_from, edges_cross, first_pair}
use Rattle.box_pairs.specs.Issue.{repeated_from, issue_of, has_issue}
use Rattle.cutting_lines.specs.CuttingLines.{inside, crossing}
use Rattle.edge_pass.specs.Pass.{steps, leave_off, around, pass}
use Rattle.edge_pass.specs.Origins.{steps_origins, around_origins, pass_origins}
use Rattle.sutherland_hodgman.specs.Clip.{passes, finish, clip_ring}
use Rattle.sutherland_hodgman.specs.Origins.{positions_from, passes_origins, close_origins, finish_origins, clip_origins}
use Rattle.rings.specs.Bridge.{runs_along, bridge_of, first_bridge}
use Rattle.rings.specs.Rectangle.{with_coord, with_ring, with_rings, reaches, intersects_bounds, lies_between, is_fully_inside, with_parts}
use Rattle.rings.specs.Representable.{huge_coord, any_huge, any_huge_ring}
use Rattle.clip.specs.Polygon.{bridge_unless_skipped, route_cut, route_exterior, cut_hole, cut_holes, cut_rings, overlay_or_dropped, route_rect}
use Rattle.clip.specs.Polygon.{route, merged_number}
use Rattle.clip.specs.Origins.{hole_origins, holes_origins, cut_origins}
use Rattle.frame_bytes.specs.declared.reader.FrameRefusal.{FrameRefusal}
use Rattle.frame_bytes.specs.Frame.{polygon_kind, multipolygon_kind, Reading, refused, read, Frame, read_many, count_of, coords_of, read_count}
use Rattle.frame_bytes.specs.Frame.{read_coords, read_ring, read_part, read_parts, read_frame}
use Rattle.frame_bytes.specs.Encoding.{each, count_bytes, coord_bytes, answer_coord_bytes, with_origins, rings_with_origins, ring_bytes}
use Rattle.frame_parts.specs.Part.{part_bytes}
use Rattle.frames.specs.Answer.{route_part, list_parts, of_multipolygon, answer_to}
use Rattle.frames.specs.Output.{answer_bytes, frame_bytes}

-- ---- coordinates

-- a NaN in one of the two places
nan_x : ℕ → Coord
unfolding num
nan_x y = record { x = nan; y = num y }

nan_y : ℕ → Coord
unfolding num
nan_y x = record { x = num x; y = nan }

-- west of 0
west_of : ℕ → ℕ → Coord
unfolding num of_int
west_of x y = record { x = of_int binary64 (neg_ℤ (pos x)); y = num y }

-- south-west of 0, 0
south_west_of : ℕ → Coord
unfolding num of_int
south_west_of d = record { x = of_int binary64 (neg_ℤ (pos d)); y = of_int binary64 (neg_ℤ (pos d)) }

-- ---- origins: "the position, or 65,532 to 65,535 for the four lines"

abbrev left : ℕ
left = 65532

abbrev right : ℕ
right = 65533

abbrev bottom : ℕ
bottom = 65534

-- ---- rows

-- a frame with one part of one ring, of a kind and with flags; or a ring for the ring cutter alone
pub data Case : Type 0 where
  frame : ℕ → ℕ → List Coord → Case
  ring : List Coord → Case

-- a frame is refused or answered with bytes; the ring cutter gives a ring
pub data Outcome : Type 0 where
  refusal : FrameRefusal → Outcome
  answer : List ℕ → Outcome
  cut_ring : List Coord → Outcome

pub record Row : Type 0 where
  pub given : Case
  pub becomes : Outcome

-- "1 byte (0 nothing, 1 whole dropped, 2 whole unchanged, 3 listed), guard count 2 bytes, number of listed parts 2 bytes"
abbrev nothing : Outcome
nothing = answer (0 ∷ 0 ∷ 0 ∷ 0 ∷ 0 ∷ [])

abbrev dropped : Outcome
dropped = answer (1 ∷ 1 ∷ 0 ∷ 0 ∷ 0 ∷ [])

abbrev unchanged : Outcome
unchanged = answer (2 ∷ 0 ∷ 0 ∷ 0 ∷ 0 ∷ [])

-- one part is listed: "index from 0, 2 bytes; 1 byte (2 unchanged, 4 cut, 5 overlay); reason, 1 byte"
abbrev overlay : ℕ → Outcome
overlay reason = answer (3 ∷ 0 ∷ 0 ∷ 1 ∷ 0 ∷ 0 ∷ 0 ∷ 5 ∷ reason ∷ [])

-- "A listed overlay part now ends with two 2-byte positions": here below 256
abbrev overlay_at : ℕ → ℕ → ℕ → Outcome
overlay_at reason first second = answer (3 ∷ 0 ∷ 0 ∷ 1 ∷ 0 ∷ 0 ∷ 0 ∷ 5 ∷ reason ∷ first ∷ 0 ∷ second ∷ 0 ∷ [])

-- "if cut, ring count and rings as above"; "Coordinates in answers are followed by 2 bytes"
abbrev cut_to : List Coord → List ℕ → Outcome
cut_to r origins = answer (3 ∷ 0 ∷ 0 ∷ 1 ∷ 0 ∷ 0 ∷ 0 ∷ 4 ∷ 0 ∷ 1 ∷ 0 ∷ ring_bytes answer_coord_bytes (with_origins r origins))

-- a polygon with one number of flags
abbrev row : ℕ → List Coord → Outcome → Row
row flags r to = record { given = frame polygon_kind flags r; becomes = to }

-- with the flags 0, 1 and 2
abbrev unless_both : List Coord → Outcome → List Row
unless_both r to = row 0 r to ∷ row 1 r to ∷ row 2 r to ∷ []

-- where the document names no flags: with all four
abbrev always : List Coord → Outcome → List Row
always r to = unless_both r to ++ (row 3 r to ∷ [])

-- ---- the table: each line of the document, then its rows

abbrev bow_tie : List Coord
bow_tie = at 2 2 ∷ at 8 8 ∷ at 8 2 ∷ at 2 8 ∷ at 2 2 ∷ []

abbrev across_east : List Coord
across_east = at 5 5 ∷ at 15 5 ∷ at 15 8 ∷ at 5 8 ∷ at 5 5 ∷ []

abbrev table : List (List Row)
table =
    -- "(2,2)(8,2)(8,8)(2,8)(2,2): unchanged."
    always (at 2 2 ∷ at 8 2 ∷ at 8 8 ∷ at 2 8 ∷ at 2 2 ∷ []) unchanged
    -- "(5,5)(15,5)(15,8)(5,8)(5,5): cut (5,5)(10,5)(10,8)(5,8)(5,5) with flags 3; overlay, reason 4, with 0, 1, 2."
    ∷ (row 3 across_east (cut_to (at 5 5 ∷ at 10 5 ∷ at 10 8 ∷ at 5 8 ∷ at 5 5 ∷ []) (0 ∷ right ∷ right ∷ 3 ∷ 0 ∷ [])) ∷ [])
    ∷ unless_both across_east (overlay 4)
    -- "Bow tie (2,2)(8,8)(8,2)(2,8)(2,2): flags 0 overlay, reason 1; flags 1 unchanged; as a multipolygon's only part, flags 0, unchanged."
    ∷ (row 0 bow_tie (overlay 1) ∷ row 1 bow_tie unchanged ∷ record { given = frame multipolygon_kind 0 bow_tie; becomes = unchanged } ∷ [])
    -- "(2,2)(8,2)(2,2): overlay, reason 1."
    ∷ always (at 2 2 ∷ at 8 2 ∷ at 2 2 ∷ []) (overlay 1)
    -- "(2,2)(2,2)(8,2)(8,8)(2,2): overlay, reason 1; (2,2)(8,2)(8,8)(2,2)(2,2): unchanged."
    ∷ always (at 2 2 ∷ at 2 2 ∷ at 8 2 ∷ at 8 8 ∷ at 2 2 ∷ []) (overlay 1)
    ∷ always (at 2 2 ∷ at 8 2 ∷ at 8 8 ∷ at 2 2 ∷ at 2 2 ∷ []) unchanged
    -- "(10,2)(20,2)(20,8)(10,8)(10,2): overlay, reason 2."
    ∷ always (at 10 2 ∷ at 20 2 ∷ at 20 8 ∷ at 10 8 ∷ at 10 2 ∷ []) (overlay 2)
    -- "Ring (1,1)(2,2)(1,1)(1,1): the ring cutter gives none." The first pass leaves (1,1)(2,2)(1,1), and the second leaves off a vertex
    -- too.
    ∷ (record { given = ring (at 1 1 ∷ at 2 2 ∷ at 1 1 ∷ at 1 1 ∷ []); becomes = cut_ring [] } ∷ [])
    -- "(2,2)(1e150,2)(2,2): dropped; with 9e149, overlay, reason 1."
    ∷ always (at 2 2 ∷ at (10 ^ 150) 2 ∷ at 2 2 ∷ []) dropped
    ∷ always (at 2 2 ∷ at (9 * 10 ^ 149) 2 ∷ at 2 2 ∷ []) (overlay 1)
    -- "(20,20)(30,20)(30,30)(20,20): nothing; with one NaN, dropped." The NaN in each of the eight places.
    ∷ always (at 20 20 ∷ at 30 20 ∷ at 30 30 ∷ at 20 20 ∷ []) nothing
    ∷ always (nan_x 20 ∷ at 30 20 ∷ at 30 30 ∷ at 20 20 ∷ []) dropped
    ∷ always (nan_y 20 ∷ at 30 20 ∷ at 30 30 ∷ at 20 20 ∷ []) dropped
    ∷ always (at 20 20 ∷ nan_x 20 ∷ at 30 30 ∷ at 20 20 ∷ []) dropped
    ∷ always (at 20 20 ∷ nan_y 30 ∷ at 30 30 ∷ at 20 20 ∷ []) dropped
    ∷ always (at 20 20 ∷ at 30 20 ∷ nan_x 30 ∷ at 20 20 ∷ []) dropped
    ∷ always (at 20 20 ∷ at 30 20 ∷ nan_y 30 ∷ at 20 20 ∷ []) dropped
    ∷ always (at 20 20 ∷ at 30 20 ∷ at 30 30 ∷ nan_x 20 ∷ []) dropped
    ∷ always (at 20 20 ∷ at 30 20 ∷ at 30 30 ∷ nan_y 20 ∷ []) dropped
    ∷ []

-- ---- cases of document 02, Point 1

abbrev located : List (List Row)
located =
    -- "The short ring keeps reason 1"
    always (at 2 2 ∷ at 8 2 ∷ at 2 2 ∷ []) (overlay_at 1 0 0)
    -- "reason 7 is a repeated neighbour with the position, from 0, of the first of the earliest such pair"
    ∷ always (at 2 2 ∷ at 2 2 ∷ at 8 2 ∷ at 8 8 ∷ at 2 2 ∷ []) (overlay_at 7 0 0)
    ∷ always (at 2 2 ∷ at 8 2 ∷ at 8 2 ∷ at 8 8 ∷ at 8 8 ∷ at 2 2 ∷ []) (overlay_at 7 1 0)
    -- a repeated neighbour comes before a crossing
    ∷ always (at 2 2 ∷ at 8 8 ∷ at 8 2 ∷ at 2 8 ∷ at 2 8 ∷ at 2 2 ∷ []) (overlay_at 7 3 0)
    -- "reason 8 is a crossing, with both edge numbers": the edges 0 and 2; then 0 and 4, and 1 and 3 too
    ∷ (row 0 bow_tie (overlay_at 8 0 2) ∷ [])
    ∷ (row 0 (at 2 6 ∷ at 3 7 ∷ at 4 2 ∷ at 6 7 ∷ at 3 5 ∷ at 2 8 ∷ at 2 6 ∷ []) (overlay_at 8 0 4) ∷ [])
    -- "Reason 2 is split likewise into 2, 9 and 10": a triangle whose cut is one corner, three times; a cut whose first two corners are
    -- one; a cut whose edges 0 and 3 cross
    ∷ always (at 5 10 ∷ at 8 15 ∷ at 2 15 ∷ at 5 10 ∷ []) (overlay_at 2 0 0)
    ∷ always (at 10 2 ∷ at 20 2 ∷ at 20 8 ∷ at 10 8 ∷ at 10 2 ∷ []) (overlay_at 9 0 0)
    ∷ (row 0 (at 5 3 ∷ west_of 4 6 ∷ at 9 2 ∷ at 2 4 ∷ at 5 3 ∷ []) (overlay_at 10 0 3) ∷ [])
    -- the reasons 3 to 6 have no position
    ∷ unless_both across_east (overlay_at 4 0 0)
    ∷ []

-- ---- a case of document 02, Point 12

-- From (8,8) far to the north-east and further to the south-west: the first coordinate of the cut holds a NaN, so that it "ends with it
-- appended twice", and "any closing vertex appended after the passes has its first's" origin.
abbrev traced : List (List Row)
traced =
    (row 3 (at 8 8 ∷ at (10 ^ 308) (10 ^ 308) ∷ south_west_of (17 * 10 ^ 307) ∷ at 8 8 ∷ []) (cut_to
    (nan_x 0 ∷ at 0 0 ∷ at 8 8 ∷ at 10 10 ∷ nan_x 0 ∷ nan_x 0 ∷ nan_x 0 ∷ [])
    (bottom ∷ left ∷ 0 ∷ right ∷ bottom ∷ bottom ∷ bottom ∷ [])) ∷ [])
    ∷ []

-- ---- the claim

-- "Kind, 1 byte ..; flags, 1 byte ..; west, south, east, north, buffer, 8 bytes each; part count, 2 bytes": one part, of one ring
abbrev frame_of : ℕ → ℕ → List Coord → List ℕ
frame_of kind flags r =
    let zero = double_bytes Little (num 0) in
    let ten = double_bytes Little (num 10) in
    kind ∷ flags ∷ zero ++ (zero ++ (ten ++ (ten ++ (zero ++ (count_bytes 1 ++ (count_bytes 1 ++ ring_bytes coord_bytes r))))))

-- an answer that lists one part at most, with the reason of an overlay merged back and without its positions: byte 7 says what becomes of
-- the part, and byte 8 has the reason
abbrev merged : List ℕ → List ℕ
merged bytes = cond (eqb (get_or bytes 7 0) 5) (take 8 bytes ++ (merged_number (get_or bytes 8 0) ∷ [])) bytes

abbrev as_written : List ℕ → List ℕ
as_written bytes = bytes

-- what is answered, the bytes of an answer as they are looked at
abbrev replied : (List ℕ → List ℕ) → Reading Frame → Outcome
replied look (refused r) = refusal r
replied look (read f rest) = answer (look (frame_bytes f))

abbrev outcome_of : (List ℕ → List ℕ) → Case → Outcome
outcome_of look (frame kind flags r) = replied look (read_frame (frame_of kind flags r))
outcome_of look (ring r) = cut_ring (clip_ring (new_of (num 0) (num 0) (num 10) (num 10)) r)

abbrev rows : List (List Row) → List Row
rows [] = []
rows (group ∷ groups) = group ++ rows groups

abbrev outcomes : (List ℕ → List ℕ) → List Row → List Outcome
outcomes look [] = []
outcomes look (c ∷ cs) = outcome_of look c.given ∷ outcomes look cs

abbrev becoming : List Row → List Outcome
becoming [] = []
becoming (c ∷ cs) = c.becomes ∷ becoming cs

-- Whether answers are the same, byte by byte: numbers that come from coordinates near the largest double are compared quicker than terms.
abbrev same_bytes : List ℕ → List ℕ → Bool
same_bytes [] [] = true
same_bytes [] (b ∷ m) = false
same_bytes (a ∷ l) [] = false
same_bytes (a ∷ l) (b ∷ m) = eqb a b && same_bytes l m

abbrev same_answer : Outcome → Outcome → Bool
same_answer (answer l) (answer m) = same_bytes l m
same_answer (answer l) (refusal r) = false
same_answer (answer l) (cut_ring c) = false
same_answer (refusal r) to = false
same_answer (cut_ring c) to = false

abbrev all_same : List Row → Bool
all_same [] = true
all_same (c ∷ cs) = same_answer (outcome_of as_written c.given) c.becomes && all_same cs

each_becomes : (outcomes merged (rows table) ≡ becoming (rows table)) × (outcomes as_written (rows located) ≡ becoming (rows located))
    × (all_same (rows traced) ≡ true)
unfolding read_frame read_parts read_part read_ring read_coords read_count read_many coords_of count_of from_low to_low answer_to of_multipolygon
    with_parts list_parts route_part answer_bytes part_bytes ring_bytes each route route_rect route_exterior route_cut overlay_or_dropped cut_rings
    cut_holes cut_hole bridge_unless_skipped first_bridge bridge_of runs_along with_rings with_ring with_coord intersects_bounds reaches
    is_fully_inside lies_between any_huge_ring any_huge huge_coord issue_of has_issue repeated_from first_pair first_from first_in_row edges_cross cross
    cross_in_floats may_share_point all_on_grid coord_on_grid on_grid point_of from_lowest grid_steps Segments.shares_point Segments.one_side
    Segments.both_left Segments.is_left Segments.boxes_apart Segments.ranges_apart
    apart apart_on degenerate intersect_properly splits above_below cross_product_sign clip_ring finish passes pass around leave_off steps inside
    crossing interpolate cut_origins holes_origins hole_origins clip_origins close_origins finish_origins passes_origins pass_origins around_origins
    steps_origins positions_from with_origins rings_with_origins same last closed close at nan_x nan_y west_of south_west_of num minimum maximum
    magnitude tolerance near overlay_limit huge of_int of_bits to_bits round is_nan lt le eq add sub mul div
each_becomes = (refl, refl, refl)
