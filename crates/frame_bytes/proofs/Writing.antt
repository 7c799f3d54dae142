-- The bytes of an answer in the output: how many each thing has, what is written in two steps, and one more coordinate of a ring written.
-- A ring with its origins: how long it is, and what stands at a place of it. Assumes nothing.
use mathlib.Core.Path.{◌≡◌, refl, sym, ◌∙◌, ap}
use mathlib.Core.List.{List, [], ◌∷◌, ◌++◌, append_assoc}
use Prim.Native.Nat.{ℕ, zero, suc, ◌+◌, ◌*◌, ◌<◌, ◌≤◌}
use native.Mathlib.Nat.{add-zero}
use native.Mathlib.Numerals.{add-one}
use native.Mathlib.Omega.{arith}
use lib.ListN.{length, get_or, take, drop, set, length-append, drop_of_length-le}
use lib.Seq.{sets, set_comm, drop-cons, get_or-take, get_or-drop}
use lib.Ieee.{Float}
use Rattle.binary64.specs.Bytes.{Little, to_low, double_bytes}
use Rattle.binary64.proofs.Fill.{sets_append}
use Rattle.tile.specs.declared.Coord.{Coord}
use Rattle.tile.specs.Ring.{coords}
use Rattle.tile.specs.Internal.{coord_at}
use Rattle.tile.proofs.Rings.{length_front, front_at}
use Rattle.frame_bytes.specs.Encoding.{each, count_bytes, coord_bytes, AnswerCoord, answer_coord_bytes, with_origins, ring_bytes, header_bytes}
use Rattle.frame_bytes.specs.Room.{answer_coord_size}
use Rattle.frame_bytes.specs.Internal.{front_answer_coords}

-- ---- what is written behind, and then before, is one writing

set_before : {A : Type 0} (d : List A) (i j : ℕ) (a : A) (r : List A) → i < j → set (sets d j r) i a ≡ sets (set d i a) j r
set_before d i j a [] h = refl
set_before d i j a (b ∷ r) h = set_before (set d j b) i (suc j) a r (omega arith) ∙ rw (set_comm d j i b a (λ e. omega arith))

pub sets_before : {A : Type 0} (d : List A) (i : ℕ) (h r : List A) → sets (sets d (i + length h) r) i h ≡ sets d i (h ++ r)
sets_before d i [] r = rw (add-zero i)
sets_before d i (x ∷ h) r =
    let n : i + suc (length h) ≡ suc i + length h = omega arith in
    rw (n, set_before d i (suc i + length h) x r (omega arith)) (sets_before (set d i x) (suc i) h r)

-- ---- what is written of one list after another

pub each_append : {A : Type 0} (f : A → List ℕ) (x y : List A) → each f (x ++ y) ≡ each f x ++ each f y
unfolding each
each_append f [] y = refl
each_append f (a ∷ x) y = rw (each_append f x y) (sym (append_assoc (f a) (each f x) (each f y)))

-- ---- lengths

pub length-count : (n : ℕ) → length (count_bytes n) ≡ 2
unfolding to_low
length-count n = refl

length-double : (x : Float) → length (double_bytes Little x) ≡ 8
unfolding to_low
length-double x = refl

length-coord : (p : Coord) → length (coord_bytes p) ≡ 16
unfolding to_low
length-coord p = refl

pub length_header : (number guard parts : ℕ) → length (header_bytes number guard parts) ≡ 5
unfolding to_low
length_header number guard parts = refl

length-answer-coord : (v : AnswerCoord) → length (answer_coord_bytes v) ≡ answer_coord_size
unfolding to_low
length-answer-coord v = refl

length-each : (ring : List AnswerCoord) → length (each answer_coord_bytes ring) ≡ answer_coord_size * length ring
unfolding each
length-each [] = refl
length-each (v ∷ ring) = omega (arith, length-append (answer_coord_bytes v) (each answer_coord_bytes ring), length-answer-coord v, length-each ring)

pub length-with : (ring : List Coord) (origins : List ℕ) → length (with_origins ring origins) ≡ length ring
unfolding with_origins
length-with [] origins = refl
length-with (p ∷ ring) origins = ap suc (length-with ring (drop 1 origins))

pub length-ring : (ring : List AnswerCoord) → length (ring_bytes answer_coord_bytes ring) ≡ 2 + answer_coord_size * length ring
unfolding ring_bytes
length-ring ring =
    omega (arith, length-append (count_bytes (length ring)) (each answer_coord_bytes ring), length-count (length ring), length-each ring)

-- ---- a coordinate of a ring with its origin

with_at : (ring : List Coord) (origins : List ℕ) (i : ℕ) (none : Coord) → i < length ring
    → get_or (with_origins ring origins) i (record { coord = none; origin = 0 })
    ≡ record { coord = get_or ring i none; origin = get_or origins i 0 }
unfolding with_origins
with_at [] origins i none h = absurd (omega arith)
with_at (p ∷ ring) origins zero none h = refl
with_at (p ∷ ring) origins (suc i) none h =
    let e : get_or (drop 1 origins) i 0 ≡ get_or origins (suc i) 0 = get_or-drop 1 origins i 0 ∙ ap (λ (k : ℕ). get_or origins k 0) (omega arith) in
    rw (← e) (with_at ring (drop 1 origins) i none (omega arith))

-- at the front of two slices

pub length-vertices : (ring : List Float) (origins : List ℕ) (n : ℕ) → 2 * n ≤ length ring → length (front_answer_coords ring origins n) ≡ n
length-vertices ring origins n h = length-with (coords (take (2 * n) ring)) (take n origins) ∙ length_front ring n h

pub answer-coord-at : (ring : List Float) (origins : List ℕ) (n i : ℕ) (none : Coord) → 2 * n ≤ length ring → i < n
    → get_or (front_answer_coords ring origins n) i (record { coord = none; origin = 0 })
    ≡ record { coord = coord_at ring i; origin = get_or origins i 0 }
answer-coord-at ring origins n i none h few =
    with_at (coords (take (2 * n) ring)) (take n origins) i none (omega (arith, length_front ring n h))
    ∙ rw (front_at ring n i none h few, get_or-take n origins i 0 few)

-- ---- what is written in steps

pub coord_put : (out first all : List ℕ) (at : ℕ) (p : Coord) → first ≡ sets out at (double_bytes Little p.x)
    → all ≡ sets first (at + 8) (double_bytes Little p.y) → all ≡ sets out at (coord_bytes p)
coord_put out first all at p e f =
    f ∙ rw e (sym (rw (length-double p.x) at (sets_append out at (double_bytes Little p.x) (double_bytes Little p.y))))

pub answer-coord_put : (out first all : List ℕ) (at : ℕ) (p : Coord) (origin : ℕ) → first ≡ sets out at (coord_bytes p)
    → all ≡ sets first (at + 16) (count_bytes origin) → all ≡ sets out at (answer_coord_bytes (record { coord = p; origin = origin }))
answer-coord_put out first all at p origin e f =
    f ∙ rw e (sym (rw (length-coord p) at (sets_append out at (coord_bytes p) (count_bytes origin))))

pub header_put : (out first all : List ℕ) (number guard parts : ℕ) → first ≡ sets (set out 0 number) 1 (count_bytes guard)
    → all ≡ sets first 3 (count_bytes parts) → all ≡ sets out 0 (header_bytes number guard parts)
unfolding to_low
header_put out first all number guard parts e f = rw (f, e)

pub part_put : (out first : List ℕ) (at index number reason : ℕ) → first ≡ sets out at (count_bytes index)
    → set (set first (at + 2) number) (at + 3) reason ≡ sets out at (count_bytes index ++ (number ∷ reason ∷ []))
part_put out first at index number reason e =
    let n : at + 3 ≡ suc (at + 2) = omega arith in
    rw (e, n) (sym (rw (length-count index) at (sets_append out at (count_bytes index) (number ∷ reason ∷ []))))

-- ---- a ring: its count, and what is left to write with one coordinate of it written

pub count_put : (out : List ℕ) (at : ℕ) (ring : List AnswerCoord) → sets out at (ring_bytes answer_coord_bytes ring) ≡ sets
    (sets out at (count_bytes (length ring))) (at + 2) (each answer_coord_bytes ring)
unfolding ring_bytes
count_put out at ring = rw (length-count (length ring)) at (sets_append out at (count_bytes (length ring)) (each answer_coord_bytes ring))

pub none_put : (out : List ℕ) (at : ℕ) (ring : List AnswerCoord) → sets out at (each answer_coord_bytes ring) ≡ sets out (at + answer_coord_size * 0)
    (each answer_coord_bytes (drop 0 ring))
none_put out at ring = let e : at + answer_coord_size * 0 ≡ at = omega arith in rw e

pub one_put : (out : List ℕ) (at i : ℕ) (ring : List AnswerCoord) (z : AnswerCoord) → i < length ring
    → sets out (at + answer_coord_size * i) (each answer_coord_bytes (drop i ring)) ≡ sets
    (sets out (at + answer_coord_size * i) (answer_coord_bytes (get_or ring i z))) (at + answer_coord_size * (i + 1))
    (each answer_coord_bytes (drop (i + 1) ring))
unfolding each
one_put out at i ring z h =
    let e : at + answer_coord_size * (i + 1) ≡ at + answer_coord_size * i + answer_coord_size = omega arith in
    rw (e, add-one i, drop-cons ring i z h) (rw (length-answer-coord (get_or ring i z))
    at (sets_append out (at + answer_coord_size * i) (answer_coord_bytes (get_or ring i z)) (each answer_coord_bytes (drop (suc i) ring))))

pub all_put : (out : List ℕ) (at i : ℕ) (ring : List AnswerCoord) → length ring ≤ i → sets out at (each answer_coord_bytes (drop i ring)) ≡ out
unfolding each
all_put out at i ring h = rw (drop_of_length-le ring h)
