-- `close_with_origins` meets its contract: by whether closing appends a vertex. Assumes nothing.
use native.Mathlib.Omega.{arith}
use Rattle.sutherland_hodgman.proofs.OriginStages.{close-origins-closed, close-origins_open}
use Rattle.sutherland_hodgman.proofs.origins.close_with_origins.Goals as goal

pub returns-then-len-n-clause-origins : goal.returns-then-len-n-clause-origins
returns-then-len-n-clause-origins c = let e = c.close-len.ensures in close-origins-closed c.args.ring.now c.args.n (omega (arith, c.requires.0)) c.args.origins.now _ e.count
    c.if-len-n.true

pub returns-clause-origins : goal.returns-clause-origins
returns-clause-origins c = let e = c.close-len.ensures in close-origins_open c.args.ring.now c.args.n (omega (arith, c.requires.0)) c.args.origins.now _ (omega (arith, c.requires.1))
    e.count c.if-len-n.false
