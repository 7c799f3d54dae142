-- `finish` meets its contract. Assumes nothing.
use lib.ListN.{take}
use Rattle.sutherland_hodgman.proofs.Finishing.{finish-few, finish-close}
use Rattle.sutherland_hodgman.proofs.OriginStages.{finish-origins-few, finish-origins-close}
use Rattle.sutherland_hodgman.proofs.finish.Goals as goal

pub returns-then-n-lt3-clause-ring : goal.returns-then-n-lt3-clause-ring
returns-then-n-lt3-clause-ring c = let s = c.args.ring.now in finish-few s c.args.n c.requires.numbers_room.0 c.if-n-lt3.true

pub returns-then-n-lt3-clause-origins : goal.returns-then-n-lt3-clause-origins
returns-then-n-lt3-clause-origins c = let s = c.args.ring.now in finish-origins-few s c.args.n c.requires.numbers_room.0 c.args.origins.now c.if-n-lt3.true

pub returns-clause-ring : goal.returns-clause-ring
returns-clause-ring c = let s = c.args.ring.now in
    let l = c.if-n-lt3.false in
    let e = c.close_with_origins.ensures in rw (finish-close s c.args.n c.requires.numbers_room.0 l) e.ring

pub returns-clause-origins : goal.returns-clause-origins
returns-clause-origins c = let s = c.args.ring.now in
    let l = c.if-n-lt3.false in
    let e = c.close_with_origins.ensures in rw (finish-origins-close s c.args.n c.requires.numbers_room.0 (take c.args.n c.args.origins.now) l) e.origins
