-- `answer_route` meets its contract: each arm knows its route. Assumes nothing.
use mathlib.Core.Path.{refl}
use Rattle.rings.specs.Internal.{rings_of}
use Rattle.polygon_rings.specs.WrittenRings.{numbers_of, lengths_of, origins_of}
use Rattle.polygon_rings.proofs.Routes.{overlay_filled}
use Rattle.polygon_rings.proofs.answer_route.Goals as goal

pub returns-in-Nothing-clause-origins : goal.returns-in-Nothing-clause-origins
unfolding numbers_of lengths_of origins_of
returns-in-Nothing-clause-origins c = rw c.in-Nothing.is (record { count = refl; output = refl })

pub returns-in-Unchanged-clause-origins : goal.returns-in-Unchanged-clause-origins
unfolding numbers_of lengths_of origins_of
returns-in-Unchanged-clause-origins c = rw c.in-Unchanged.is (record { count = refl; output = refl })

pub returns-in-Overlay-clause-written : goal.returns-in-Overlay-clause-written
returns-in-Overlay-clause-written c = rw c.in-Overlay.is ((overlay_filled c.args.bounds (rings_of c.args.rings) c.in-Overlay.reason c.args.out.now
    c.args.out_lengths.now c.args.out_origins.now).0)

pub returns-in-Overlay-clause-origins : goal.returns-in-Overlay-clause-origins
returns-in-Overlay-clause-origins c = rw c.in-Overlay.is ((overlay_filled c.args.bounds (rings_of c.args.rings) c.in-Overlay.reason c.args.out.now
    c.args.out_lengths.now c.args.out_origins.now).1)
