-- `take_pairs` meets its contract. The invariant: the characters so far are read on within the line. Assumes nothing.
use mathlib.Core.Path.{refl}
use Prim.Native.Nat.{◌+◌, ◌≤◌, ◌<◌}
use native.Mathlib.Omega.{arith}
use lib.ListN.{length, get_or, take}
use borrow.Author.Rules.{rules}
use Rattle.frame_bytes.specs.Frame.{longest}
use Rattle.lines.specs.Lines.{digit}
use Rattle.lines.specs.Internal.{whole}
use Rattle.lines.proofs.Running.{passes_start, passes_then, passes_pair}
use Rattle.lines.proofs.line.take_pairs.Goals as goal

pub loop-at-init : goal.loop-at-init
loop-at-init c = let a = c.args in (refl, passes_start a.block.now 0 (whole (take a.bytes a.kept.now)) (omega arith))

pub loop-at-preserved : goal.loop-at-preserved
loop-at-preserved c = let block = c.args.block.now in
    let l = c.loop-at in
    let e = c.digit_of-high.ensures in
    let f = c.digit_of-low.ensures in
    let first : digit (get_or block l.at 0) < 16 = omega (arith, e) in
    let second : digit (get_or block (l.at + 1) 0) < 16 = omega (arith, f) in
    let room : longest ≤ length l.kept = search rules in
    let p = passes_pair block l.kept l.at l.n room (omega arith) (omega arith) first second in (search rules, rw (e, f) (passes_then l.invariant.1 p))
