-- A list F that a loop writes from the front over another, d: j of its elements stand there already. Assumes nothing.
use mathlib.Core.Path.{◌≡◌, refl, ◌∙◌, ap}
use mathlib.Core.List.{List, [], ◌∷◌, ◌++◌, append-nil, append_assoc}
use Prim.Native.Nat.{ℕ, suc, ◌+◌, ◌-◌, ◌≤◌, ◌<◌}
use native.Mathlib.Nat.{zero-add, add-zero}
use native.Mathlib.Numerals.{add-one}
use native.Mathlib.Omega.{arith}
use lib.ListN.{length, get_or, take, drop, set, replicate, length-append, length-set, length-drop, drop_of_length-le}
use lib.Seq.{sets, sets-eq, set_at, take-suc, take_all, take-append-le, take-append-add, drop-append_seam, drop-cons, drop-drop}
use lib.Seq.{length-take-le}
use Rattle.binary64.specs.Slices.{over, padded}

pub record Upto {A : Type 0} (F d : List A) (j : ℕ) (l : List A) : Type 0 where
  pub here : l ≡ take j F ++ drop j d
  pub same : length l ≡ length d

pub upto_start : {A : Type 0} (F d : List A) → Upto F d 0 d
upto_start F d = record { here = refl; same = refl }

pub upto_step : {A : Type 0} {F d l : List A} {j : ℕ} (z v : A) → j < length d → j < length F → v ≡ get_or F j z → Upto F d j l
    → Upto F d (j + 1) (set l j v)
upto_step {F = F} {d = d} {l = l} {j = j} z v hd hf e u = record {
  here =
      let n : length (take j F) ≡ j = length-take-le j F (omega arith) in
      rw (
        u.here,
        e,
        add-one,
        drop-cons d j z hd,
        set_at (take j F) (get_or d j z) (drop (suc j) d) (get_or F j z) j n,
        take-suc F j z hf,
        append_assoc,
      );
  same = length-set l j v ∙ u.same;
}

pub upto_end : {A : Type 0} {F d l : List A} {j : ℕ} → length F ≤ j → Upto F d j l → l ≡ F ++ drop j d
upto_end {F = F} {j = j} h u = u.here ∙ rw (take_all j F h)

-- where F is as long as d, nothing of d is left
pub upto-whole : {A : Type 0} {F d l : List A} {j : ℕ} → length F ≤ j → length d ≤ j → Upto F d j l → l ≡ F
upto-whole {d = d} h k u = upto_end h u ∙ rw (drop_of_length-le d k, append-nil)

-- ---- two lists stored one behind the other

pub sets_append : {A : Type 0} (d : List A) (j : ℕ) (a r : List A) → sets d j (a ++ r) ≡ sets (sets d j a) (j + length a) r
sets_append d j [] r = rw (add-zero j)
sets_append d j (x ∷ a) r = let n : j + suc (length a) ≡ suc j + length a = omega arith in rw n (sets_append _ (suc j) a r)

-- ---- the part of a list from a place on

pub tail_part : {A : Type 0} (s : List A) (at : ℕ) → take (length s - at) (drop at s) ≡ drop at s
tail_part s at = take_all (length s - at) (drop at s) (omega (arith, length-drop at s))

-- what is written to the front of that part stands behind what lies before it
pub front-part : {A : Type 0} (to part new to' : List A) (at k : ℕ) → at ≤ length to → k ≤ length part → take k part ≡ new
    → to' ≡ take at to ++ (part ++ drop (length to - at) (drop at to)) → take (at + k) to' ≡ take at to ++ new
front-part to part new to' at k ha hk e h =
    let n : length (take at to) ≡ at = length-take-le at to ha in
    let rest = part ++ drop (length to - at) (drop at to) in
    let t : take (length (take at to) + k) (take at to ++ rest) ≡ take at to ++ take k rest = take-append-add (take at to) rest k in
    let q : take k rest ≡ new = take-append-le k part (drop (length to - at) (drop at to)) hk ∙ e in
    rw (h, ← q, ← t, n)

-- all that is written, from the front
pub whole-over : {A : Type 0} (vs l : List A) → length vs ≤ length l → sets l 0 vs ≡ over vs l
whole-over vs l h = sets-eq vs l 0 (omega arith) ∙ rw (zero-add (length vs))

-- ---- the part of a list up to a place, at whose front something is written and the rest of which is cleared

pub padded-part : {A : Type 0} (zero : A) (new part old fill : List A) (used room : ℕ) → take used part ≡ new → length new ≡ used
    → used ≤ room → length part ≡ room
    → fill ≡ replicate (length (take (room - used) (drop used (part ++ drop room old)))) zero
    → take used (part ++ drop room old) ++ (fill ++ drop (room - used) (drop used (part ++ drop room old))) ≡ padded zero new room old
padded-part zero new part old fill used room e l h n hz =
    let all = part ++ drop room old in
    let k : room - used ≤ length (drop used all) = omega (arith, length-drop used all, length-append part (drop room old)) in
    let q : length (take (room - used) (drop used all)) ≡ room - used = length-take-le (room - used) (drop used all) k in
    let m : used + (room - used) ≡ length part = omega arith in
    let t : take used all ≡ new = take-append-le used part (drop room old) (omega arith) ∙ e in
    let d : drop (room - used) (drop used all) ≡ drop room old =
    drop-drop (room - used) used all ∙ ap (λ (i : ℕ). drop i all) m ∙ drop-append_seam part (drop room old) in
    rw (t, hz, q, d, l)
