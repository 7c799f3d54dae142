-- `numbers_in` meets its contract. Assumes nothing.
use mathlib.Core.Path.{◌≡◌}
use mathlib.Core.List.{List}
use Prim.Native.Nat.{ℕ, ◌+◌, ◌*◌, ◌<◌, ◌≤◌}
use native.Mathlib.Numerals.{add-one}
use native.Mathlib.Omega.{arith}
use borrow.Author.Tests.{le-leb, lt-leb}
use lib.ListN.{length, get_or, drop, drop_of_length-le}
use lib.Seq.{drop-cons}
use Rattle.rings.specs.LentRings as LentRings
use Rattle.replay.proofs.slice_vectors.numbers_in.Goals as goal

sum-at : (l : List ℕ) (i : ℕ) → i < length l → LentRings.sum (drop i l) ≡ get_or l i 0 + LentRings.sum (drop (i + 1) l)
unfolding LentRings.sum
sum-at l i h = rw (add-one i, drop-cons l i 0 h)

sum_end : (l : List ℕ) (i : ℕ) → length l ≤ i → LentRings.sum (drop i l) ≡ 0
unfolding LentRings.sum
sum_end l i h = rw (drop_of_length-le l h)

pub returns-then-sum : goal.returns-then-sum
returns-then-sum c =
    let s = c.args.lengths.now in
    let l = c.loop-length in
    let this = sum-at s l.length-index c.loop-length-test.true in
    let more : 4096 < 2 * LentRings.sum s = omega (arith, this, l.invariant.1, c.wide-sum.ensures.0) in
    rw (lt-leb (2 * LentRings.sum s) 4096 more)

pub loop-length-preserved : goal.loop-length-preserved
loop-length-preserved c =
    let l = c.loop-length in
    let this = sum-at c.args.lengths.now l.length-index c.loop-length-test.true in
    (omega arith, omega (arith, this, l.invariant.1, c.wide-sum.ensures.0))

pub returns : goal.returns
returns c =
    let s = c.args.lengths.now in
    let l = c.loop-length in
    let none = sum_end s l.length-index c.loop-length-test.false in
    let few : 2 * LentRings.sum s ≤ 4096 = omega (arith, none, l.invariant.0, l.invariant.1) in
    rw (le-leb (2 * LentRings.sum s) 4096 few) (omega (arith, none, l.invariant.1))
