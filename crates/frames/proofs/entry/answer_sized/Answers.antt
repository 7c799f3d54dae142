-- `answer_sized` meets its contract: each size has room for a frame that is no longer than its rings allow. Assumes nothing.
use mathlib.Core.Path.{refl, sym}
use native.Mathlib.Omega.{arith}
use Rattle.sutherland_hodgman.proofs.Offered.{B-6, B-32, B-81, B-318}
use Rattle.frames.proofs.Entries.{holds}
use Rattle.frames.proofs.entry.answer_sized.Goals as goal

pub answer_with-requires-clause-room : goal.answer_with-requires-clause-room
answer_with-requires-clause-room c = record {
  short = omega (arith, c.if-frame-le-SMALL.true);
  small = omega arith;
  origin-room = sym B-6;
  work-room = refl;
}

pub answer_with-requires-then-frame-le-MEDIUM-clause-room : goal.answer_with-requires-then-frame-le-MEDIUM-clause-room
answer_with-requires-then-frame-le-MEDIUM-clause-room c = record {
  short = omega (arith, c.if-frame-le-MEDIUM.true);
  small = omega arith;
  origin-room = sym B-32;
  work-room = refl;
}

pub answer_with-requires-then-frame-le-LARGE-clause-room : goal.answer_with-requires-then-frame-le-LARGE-clause-room
answer_with-requires-then-frame-le-LARGE-clause-room c = record {
  short = omega (arith, c.if-frame-le-LARGE.true);
  small = omega arith;
  origin-room = sym B-81;
  work-room = refl;
}

pub answer_with-requires-2-clause-room : goal.answer_with-requires-2-clause-room
answer_with-requires-2-clause-room c = record {
  short = omega (arith, (holds c.args.frame.bytes.now c.args.frame.accepted).long);
  small = omega arith;
  origin-room = sym B-318;
  work-room = refl;
}
