-- `pass_ring` meets its contract: each return is one of the ways in which a ring is read or refused. Assumes nothing.
use mathlib.Core.Path.{ap}
use Prim.Native.Nat.{◌+◌, ◌*◌, ◌≤◌}
use native.Mathlib.Omega.{arith}
use lib.ListN.{length, drop, length-drop}
use Rattle.std.specs.Prelude.{Ok}
use Rattle.frame_bytes.specs.Frame.{count_of}
use Rattle.frame_bytes.proofs.Walks.{ring_without_count, ring_too_long, ring_truncated, ring-whole}
use Rattle.frame_bytes.proofs.reader.pass_ring.Goals as goal

pub returns-then-left-lt-COUNT : goal.returns-then-left-lt-COUNT
returns-then-left-lt-COUNT c = let a = c.args in
    let l = drop a.at a.frame.now in rw (ring_without_count l (omega (arith, length-drop a.at a.frame.now)))

pub returns-then-n-gt-MOST_IN_RING : goal.returns-then-n-gt-MOST_IN_RING
returns-then-n-gt-MOST_IN_RING c = let a = c.args in
    let l = drop a.at a.frame.now in
    let n = c.count_at-n.ensures.0 in rw (ring_too_long l (omega (arith, length-drop a.at a.frame.now)) (rw (← n) (omega arith)))

pub returns-then-left-n : goal.returns-then-left-n
returns-then-left-n c = let a = c.args in
    let l = drop a.at a.frame.now in
    let n = c.count_at-n.ensures.0 in
    let d = length-drop a.at a.frame.now in rw (ring_truncated l (omega arith) (rw (← n) (omega arith)) (rw (← n) (omega arith)))

pub returns : goal.returns
returns c = let a = c.args in
    let f = c.args.frame.now in
    let l = drop a.at f in
    let n = c.count_at-n.ensures.0 in
    let d = length-drop a.at f in
    let w : 2 + 16 * count_of l ≤ length l = rw (← n) (omega arith) in
    let e = length-drop (2 + 16 * count_of l) l in rw (ring-whole l (rw (← n) (omega arith)) w)
    (ap Ok (omega arith))
