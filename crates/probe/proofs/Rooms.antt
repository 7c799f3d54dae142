-- The room that the calls test is the room that `box_pairs` and the pass ask for. Assumes nothing.
use mathlib.Core.Path.{◌≡◌, subst, ◌∙◌}
use mathlib.Core.Bool.{Bool, true, ◌&&◌}
use mathlib.Core.List.{List}
use Rattle.std.specs.Prelude.{Option}
use Prim.Native.Nat.{ℕ, ◌+◌, ◌-◌, ◌*◌, ◌/◌, ◌<◌, ◌≤◌}
use native.Mathlib.Omega.{arith}
use lib.Dec.{leb, ltb}
use lib.Ieee.{Float}
use lib.ListN.{length}
use borrow.Author.Tests.{leb-true, ltb-true}
use Rattle.binary64.specs.Slices.{over}
use Rattle.binary64.proofs.Booleans.{both}
use Rattle.tile.specs.declared.Coord.{Coord}
use Rattle.tile.specs.Ring.{flat}
use Rattle.tile.specs.Internal.{Written}
use Rattle.tile.proofs.Rings.{length-flat, length_front}
use Rattle.box_pairs.specs.declared.pairs.Pair.{Pair}
use Rattle.box_pairs.specs.Internal.{front, SortRoom, PairBelow, IssueBelow}
use Rattle.box_pairs.specs.Pairs.{first_pair}
use Rattle.box_pairs.specs.Issue.{issue_of}
use Rattle.box_pairs.proofs.Offered.{issue_below, pair_below}
use Rattle.edge_pass.specs.Growth.{half_growth}
use Rattle.edge_pass.specs.Internal.{PassOriginRoom}
use Rattle.sutherland_hodgman.specs.Growth.{most_coordinates}
use Rattle.probe.specs.Edges.{most, has_room, pair_code}
use Rattle.probe.specs.Passes.{has_pass_room}

pub room_of : (n : ℕ) (work : List Float) (order : List ℕ) → has_room n work order ≡ true → SortRoom n work order
unfolding has_room
room_of n work order h =
    let a = both (leb n (length work / 2)) (leb n (length order) && ltb n most) h in
    let b = both (leb n (length order)) (ltb n most) a.1 in
    (omega (arith, leb-true n (length work / 2) a.0), leb-true n (length order) b.0, omega (arith, ltb-true n most b.1))

-- and the positions that are told have the bits that they are written in
pub few-of : (n : ℕ) (work : List Float) (order : List ℕ) → has_room n work order ≡ true → n < most
unfolding has_room
few-of n work order h =
    ltb-true n most (both (leb n (length order)) (ltb n most) (both (leb n (length work / 2)) (leb n (length order) && ltb n most) h).1).1

pub issue_fits : (ring : List Float) (b : Bool) → length ring / 2 < most → IssueBelow most (issue_of b (front ring (length ring / 2)))
issue_fits ring b l =
    issue_below most b (front ring (length ring / 2)) (omega (arith, length_front ring (length ring / 2) (omega arith)))

pub pair_fits : (ring : List Float) (n : ℕ) (x : Option Pair) → n < most → 2 * n ≤ length ring → (n ≡ 0 → ⊥) → x ≡ first_pair
    (front ring (n - 1 + 1))
    → PairBelow most x
pair_fits ring n x l room some e =
    let q : n - 1 + 1 ≡ n = omega arith in
    rw (e, q) (pair_below most (front ring n) (omega (arith, length_front ring n room)))

-- a ring of n coordinates has one edge less
pub one_edge_less : (P : ℕ → Type 0) (n : ℕ) → (n ≡ 0 → ⊥) → P n → P (n - 1 + 1)
one_edge_less P n h p = let q : n ≡ n - 1 + 1 = omega arith in subst P q p

pub same_pair : (ring : List Float) (n : ℕ) (x : Option Pair) → (n ≡ 0 → ⊥) → x ≡ first_pair (front ring (n - 1 + 1))
    → pair_code x ≡ pair_code (first_pair (front ring n))
same_pair ring n x h e = let q : n - 1 + 1 ≡ n = omega arith in rw (e, q)

-- the room that the call of a pass tests is the room that the pass asks for
pub pass-room-of : (n origins out out_origins : ℕ) → has_pass_room n origins out out_origins ≡ true
    → (2 * half_growth n ≤ out) × PassOriginRoom n origins out_origins
unfolding has_pass_room
pass-room-of n origins out out_origins h =
    let p = both (leb n (8 * most_coordinates)) _ h in
    let q = both (leb n origins) _ p.1 in
    let r = both (leb (2 * half_growth n) out) (leb (half_growth n) out_origins) q.1 in
    (leb-true _ out r.0, (leb-true n origins q.0, leb-true _ out_origins r.1))

-- what is written stands over what was lent
pub pass-over : (ring : List Coord) (d : List Float) (k : ℕ) (d' : List Float) → Written ring d k d' → d' ≡ over (flat ring) d
pass-over ring d k d' w =
    let n : 2 * k ≡ length (flat ring) = omega (arith, length-flat ring, w.count) in w.numbers ∙ rw n
