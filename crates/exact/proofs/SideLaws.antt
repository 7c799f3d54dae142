-- The side of a line that a point lies on, and what it says of two points. Assumes nothing.
use Rattle.std.proofs.Common.{◌≡◌, ℕ, Bool, true, false, cond, ltb, sym, refl, arith, ltb-true, le-ltb}
use mathlib.Core.Bool.{or-false}
use Rattle.exact.specs.declared.segments.Side.TheVariants.{Left, On, Right}
use Rattle.exact.specs.Segments.{Point, shoelace, is_left, both_left, one_side}
use Rattle.exact.specs.Internal.{side_of}

-- ---- the ways out of `side_of`

-- the order of the two sums tells it
pub by_sums : (a b c : Point) (r : Bool) (v w : ℕ) → r ≡ ltb v w → v ≡ shoelace b a c → w ≡ shoelace a b c → r ≡ is_left a b c
unfolding is_left
by_sums a b c r v w e p q = rw (← p, ← q) e

pub on-left : (a b c : Point) → is_left a b c ≡ true → Left ≡ side_of a b c
unfolding side_of
on-left a b c e = rw e

pub on-right : (a b c : Point) → is_left a b c ≡ false → is_left b a c ≡ true → Right ≡ side_of a b c
unfolding side_of
on-right a b c e f = rw (e, f)

pub on_neither : (a b c : Point) → is_left a b c ≡ false → is_left b a c ≡ false → On ≡ side_of a b c
unfolding side_of
on_neither a b c e f = rw (e, f)

-- ---- what it tells

not-both-sides : (a b c : Point) → is_left a b c ≡ true → is_left b a c ≡ false
unfolding is_left
not-both-sides a b c e = le-ltb (shoelace a b c) (shoelace b a c) (omega (arith, ltb-true (shoelace b a c) (shoelace a b c) e))

told-left : (l r : Bool) → cond l Left (cond r Right On) ≡ Left → l ≡ true
told-left true r e = refl
told-left false true e = absurd (let z : ◌≡◌ {A = ℕ} 0 1 = cc in omega arith)
told-left false false e = absurd (let z : ◌≡◌ {A = ℕ} 0 1 = cc in omega arith)

told-on : (l r : Bool) → cond l Left (cond r Right On) ≡ On → (l ≡ false) × (r ≡ false)
told-on true r e = absurd (let z : ◌≡◌ {A = ℕ} 0 1 = cc in omega arith)
told-on false true e = absurd (let z : ◌≡◌ {A = ℕ} 0 1 = cc in omega arith)
told-on false false e = (refl, refl)

told-right : (l r : Bool) → cond l Left (cond r Right On) ≡ Right → (l ≡ false) × (r ≡ true)
told-right true r e = absurd (let z : ◌≡◌ {A = ℕ} 0 1 = cc in omega arith)
told-right false true e = (refl, refl)
told-right false false e = absurd (let z : ◌≡◌ {A = ℕ} 0 1 = cc in omega arith)

-- ---- where one point lies, the other decides whether both lie strictly on one side

pub one_left : (a b c d : Point) → side_of a b c ≡ Left → is_left a b d ≡ one_side a b c d
unfolding side_of one_side both_left
one_left a b c d e =
    let l = told-left (is_left a b c) (is_left b a c) e in
    rw (l, not-both-sides a b c l) (sym (or-false (is_left a b d)))

pub one_on : (a b c d : Point) → side_of a b c ≡ On → false ≡ one_side a b c d
unfolding side_of one_side both_left
one_on a b c d e = let l = told-on (is_left a b c) (is_left b a c) e in rw (l.0, l.1)

pub one_right : (a b c d : Point) → side_of a b c ≡ Right → is_left b a d ≡ one_side a b c d
unfolding side_of one_side both_left
one_right a b c d e = let l = told-right (is_left a b c) (is_left b a c) e in rw (l.0, l.1)
