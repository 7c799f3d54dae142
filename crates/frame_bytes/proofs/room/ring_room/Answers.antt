-- `ring_room` meets its contract. Assumes nothing.
use mathlib.Core.Path.{◌∙◌, ap}
use native.Mathlib.Omega.{arith}
use lib.ListN.{drop}
use Rattle.sutherland_hodgman.specs.Growth.{B}
use Rattle.frame_bytes.proofs.Rooms.{ring-fits, ring-few, ring-passed, closed-few}
use Rattle.frame_bytes.proofs.room.ring_room.Goals as goal

pub ring_at-ring-requires : goal.ring_at-ring-requires
ring_at-ring-requires c = omega (arith, ring-fits c.args.frame.now c.args.at c.requires.0 c.requires.1)

pub room_for-requires : goal.room_for-requires
room_for-requires c = let r = c.ring_at-ring.result in
    let few = ring-few c.args.frame.now c.args.at c.requires.0 c.requires.1 in
    omega (arith, c.closed_count.ensures, closed-few r.n (drop r.at r.frame.now) (rw c.ring_at-ring.ensures.2 few))

pub returns : goal.returns
returns c = let e = c.room_for.ensures ∙ ap B c.closed_count.ensures in
    let r = c.ring_at-ring.ensures in
    rw (ring-passed c.args.frame.now c.args.at c.requires.0 c.requires.1, e, r.0, r.1, r.2)
