-- `is_sound_if_simple` meets its contract. Assumes nothing.
use mathlib.Core.Path.{sym, ◌∙◌, ap}
use mathlib.Core.Bool.{not}
use native.Mathlib.Omega.{arith}
use Rattle.frame_bytes.proofs.SimpleExteriors.{sound_short, sound_long}
use Rattle.frame_bytes.proofs.PartRings.{first_ring}
use Rattle.frame_bytes.proofs.simple.is_sound_if_simple.Goals as goal

pub ring_at-exterior-requires : goal.ring_at-exterior-requires
ring_at-exterior-requires c = let p = c.args.part in (first_ring p.frame.now p.at p.within p.accepted).whole

pub returns-then-count-lt4 : goal.returns-then-count-lt4
returns-then-count-lt4 c = let p = c.args.part in
    let r = c.ring_at-exterior.ensures in
    sym (sound_short p.frame.now p.at p.accepted p.within (rw (r.0, r.1, r.2) at (rw c.closed_count-count.ensures at c.if-count-lt4.true)))

pub has_repeated-requires : goal.has_repeated-requires
has_repeated-requires c = (c.closed_count-count.ensures, omega (arith, c.if-count-lt4.false))

pub returns : goal.returns
returns c = let p = c.args.part in
    let r = c.ring_at-exterior.ensures in
    sym (sound_long p.frame.now p.at p.accepted p.within (rw (r.0, r.1, r.2) at (rw c.closed_count-count.ensures at c.if-count-lt4.false))
    ∙ ap not (sym (rw (r.0, r.1, r.2) at c.has_repeated.ensures)))
