-- Slices that have room: each is the front of an array of marks. Assumes nothing.
use mathlib.Core.Path.{◌≡◌, refl, sym, ◌∙◌}
use mathlib.Core.Bool.{Bool, true}
use mathlib.Core.List.{List}
use Prim.Native.Nat.{ℕ, zero, suc, ◌≤◌}
use native.Mathlib.Omega.{arith}
use borrow.Author.Tests.{leb-true}
use lib.Dec.{leb}
use lib.Ieee.{Float, binary64, of_bits}
use lib.ListN.{length, take, replicate, length-replicate}
use lib.Seq.{length-take-le}
use Rattle.binary64.proofs.Booleans.{both}
use Rattle.replay.specs.declared.ring_vectors.RingVector.{RingVector}
use Rattle.replay.specs.declared.slice_vectors.SliceVector.{SliceVector}
use Rattle.replay.specs.Lent.{mark, whole_mark, origin_mark, marks, whole_marks, origin_marks, most_lent}
use Rattle.ring_calls.specs.RingCall.{ring_slices}
use Rattle.slices.specs.SliceCall.{polygon_slices}
use Rattle.replay.specs.Calls.{ring_fits, ring_lent, slice_fits, slice_lent}

take-replicate : {A : Type 0} (n m : ℕ) (x : A) → n ≤ m → take n (replicate m x) ≡ replicate n x
take-replicate zero m x h = refl
take-replicate (suc n) zero x h = absurd (omega arith)
take-replicate (suc n) (suc m) x h = rw (take-replicate n m x (omega arith))

-- the front of an array that holds the same everywhere
pub record Front {A : Type 0} (m : List A) (n : ℕ) (marked : List A) : Type 0 where
  pub within : n ≤ length m
  pub here : n ≡ length (take n m)
  pub is : take n m ≡ marked

replicated : {A : Type 0} (m : List A) (n : ℕ) (x : A) → m ≡ replicate most_lent x → n ≤ most_lent → Front m n (replicate n x)
replicated m n x e h =
    let w : n ≤ length m = rw (e, length-replicate most_lent x) h in
    record { within = w; here = sym (length-take-le n m w); is = rw e (take-replicate n most_lent x h) }

pub front : (m : List Float) (n : ℕ) → m ≡ replicate most_lent (of_bits binary64 mark) → n ≤ most_lent → Front m n (marks n)
unfolding marks
front m n = replicated m n _

pub whole-front : (m : List ℕ) (n : ℕ) → m ≡ replicate most_lent whole_mark → n ≤ most_lent → Front m n (whole_marks n)
unfolding whole_marks
whole-front m n = replicated m n _

pub origin-front : (m : List ℕ) (n : ℕ) → m ≡ replicate most_lent origin_mark → n ≤ most_lent → Front m n (origin_marks n)
unfolding origin_marks
origin-front m n = replicated m n _

-- the lengths of the slices of a ring call that have room
pub record RingRoom (head : RingVector) : Type 0 where
  pub scratch : head.scratch ≤ most_lent
  pub origin-scratch : head.origin_scratch ≤ most_lent
  pub out : head.out ≤ most_lent
  pub out_origins : head.out_origins ≤ most_lent

pub ring-room : (head : RingVector) → ring_fits head ≡ true → RingRoom head
unfolding ring_fits
ring-room head e =
    let p = both (leb head.scratch most_lent) _ e in
    let q = both (leb head.origin_scratch most_lent) _ p.1 in
    let r = both (leb head.out most_lent) _ q.1 in
    let s = both (leb head.out_origins most_lent) _ r.1 in
    record {
      scratch = leb-true _ _ p.0;
      origin-scratch = leb-true _ _ q.0;
      out = leb-true _ _ r.0;
      out_origins = leb-true _ _ s.0;
    }

-- by the answer of `has_room`
pub ring-fits : (head : RingVector) (r : Bool) → r ≡ ring_fits head → r ≡ true → RingRoom head
ring-fits head r e t = ring-room head (sym e ∙ t)

-- so the slices that are lent are those that the call is to be made on
pub ring-slices-lent : (head : RingVector) → RingRoom head → (scratch out : List Float) (origin_scratch out_origins : List ℕ)
    → scratch ≡ replicate most_lent (of_bits binary64 mark) → origin_scratch ≡ replicate most_lent origin_mark → out ≡ replicate most_lent (of_bits binary64 mark) → out_origins ≡ replicate most_lent origin_mark
    → ring_slices (take head.scratch scratch) (take head.origin_scratch origin_scratch) (take head.out out)
    (take head.out_origins out_origins)
    ≡ ring_lent head
ring-slices-lent head room scratch out origin_scratch out_origins a b c d =
    rw (
      (front scratch head.scratch a room.scratch).is,
      (origin-front origin_scratch head.origin_scratch b room.origin-scratch).is,
      (front out head.out c room.out).is,
      (origin-front out_origins head.out_origins d room.out_origins).is,
    )

-- of a slice call
pub record SliceRoom (head : SliceVector) : Type 0 where
  pub scratch : head.scratch ≤ most_lent
  pub origin-scratch : head.origin_scratch ≤ most_lent
  pub order : head.order ≤ most_lent
  pub out : head.out ≤ most_lent
  pub out_lengths : head.out_lengths ≤ most_lent
  pub out_origins : head.out_origins ≤ most_lent

pub slice-room : (head : SliceVector) → slice_fits head ≡ true → SliceRoom head
unfolding slice_fits
slice-room head e =
    let p = both (leb head.scratch most_lent) _ e in
    let q = both (leb head.origin_scratch most_lent) _ p.1 in
    let r = both (leb head.order most_lent) _ q.1 in
    let s = both (leb head.out most_lent) _ r.1 in
    let t = both (leb head.out_lengths most_lent) _ s.1 in
    let u = both (leb head.out_origins most_lent) _ t.1 in
    record {
      scratch = leb-true _ _ p.0;
      origin-scratch = leb-true _ _ q.0;
      order = leb-true _ _ r.0;
      out = leb-true _ _ s.0;
      out_lengths = leb-true _ _ t.0;
      out_origins = leb-true _ _ u.0;
    }

pub slice-fits : (head : SliceVector) (r : Bool) → r ≡ slice_fits head → r ≡ true → SliceRoom head
slice-fits head r e t = slice-room head (sym e ∙ t)

pub polygon-slices-lent : (head : SliceVector) → SliceRoom head → (scratch out : List Float)
    (origin_scratch order out_lengths out_origins : List ℕ) → scratch ≡ replicate most_lent (of_bits binary64 mark) → origin_scratch ≡ replicate most_lent origin_mark
    → order ≡ replicate most_lent whole_mark → out ≡ replicate most_lent (of_bits binary64 mark) → out_lengths ≡ replicate most_lent whole_mark → out_origins ≡ replicate most_lent origin_mark
    → polygon_slices (take head.scratch scratch) (take head.origin_scratch origin_scratch) (take head.order order) (take head.out out)
    (take head.out_lengths out_lengths) (take head.out_origins out_origins)
    ≡ slice_lent head
polygon-slices-lent head room scratch out origin_scratch order out_lengths out_origins a b c d e f =
    rw (
      (front scratch head.scratch a room.scratch).is,
      (origin-front origin_scratch head.origin_scratch b room.origin-scratch).is,
      (whole-front order head.order c room.order).is,
      (front out head.out d room.out).is,
      (whole-front out_lengths head.out_lengths e room.out_lengths).is,
      (origin-front out_origins head.out_origins f room.out_origins).is,
    )
