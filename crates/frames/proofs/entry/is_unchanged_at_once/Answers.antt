-- `is_unchanged_at_once` meets its contract: each return is a case of the definition. Assumes nothing.
use mathlib.Core.Path.{◌∙◌}
use borrow.Author.Tests.{ne_eqb}
use Rattle.frame_bytes.proofs.Rooms.{frame_head}
use Rattle.frames.proofs.Entries.{polygon-else, only_accepted, only_sound}
use Rattle.frames.proofs.entry.is_unchanged_at_once.Goals as goal

pub invariant_of-part : goal.invariant_of-part
invariant_of-part c = let a = c.args in record {
  within = frame_head a.frame.bytes.now a.frame.accepted;
  accepted = only_accepted a.frame.bytes.now a.frame.accepted
      (polygon-else a.frame.bytes.now a.head a.frame.accepted c.requires c.if-head.false);
}

pub returns-then-head-2 : goal.returns-then-head-2
returns-then-head-2 c = let a = c.args in
    let k = polygon-else a.frame.bytes.now a.head c.args.frame.accepted
    c.requires c.if-head.false in rw (
      ← c.is_fully_inside.ensures,
      c.if-not-is_fully_inside.false,
      ne_eqb _ _
          c.if-head.false,
      c.if-head-2.true,
    ) (c.is_sound_if_simple.ensures
    ∙ only_sound a.frame.bytes.now c.args.frame.accepted k)
