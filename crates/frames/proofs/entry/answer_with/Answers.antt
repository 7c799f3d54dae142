-- `answer_with` meets its contract: its arrays have room for the rings of a frame of its size. Assumes nothing.
use mathlib.Core.Path.{sym, ap}
use Prim.Native.Nat.{◌/◌}
use native.Mathlib.Omega.{arith}
use Rattle.std.proofs.lemmas.List.{length-replicate}
use Rattle.frames.specs.Internal.{answer_measured}
use Rattle.frames.proofs.Sizes.{enough, few_work, few_origins}
use Rattle.frames.proofs.Entries.{ready, parts-read, as-answer}
use Rattle.frames.proofs.entry.answer_with.Goals as goal

pub whole_as_slice-answer_in-2 : goal.whole_as_slice-answer_in-2
whole_as_slice-answer_in-2 g c = omega (arith, few_work _ _ _ _ c.requires.room)

pub whole_as_slice-answer_in-3 : goal.whole_as_slice-answer_in-3
whole_as_slice-answer_in-3 g c = omega (arith, few_origins _ _ _ _ c.requires.room)

pub whole_as_slice-answer_in-4 : goal.whole_as_slice-answer_in-4
whole_as_slice-answer_in-4 g c = omega (arith, few_work _ _ _ _ c.requires.room)

pub whole_as_slice-answer_in-5 : goal.whole_as_slice-answer_in-5
whole_as_slice-answer_in-5 g c = omega (arith, few_origins _ _ _ _ c.requires.room)

pub whole_as_slice-answer_in-6 : goal.whole_as_slice-answer_in-6
whole_as_slice-answer_in-6 g c = omega (arith, few_origins _ _ _ _ c.requires.room)

pub answer_in-requires : goal.answer_in-requires
answer_in-requires g c = ready c.args.frame c.args.head (g.row.RING / 2) _ _ _ c.requires.cuttable
    (omega (arith, c.requires.room.short))
    (enough _ _ _ _ _ _ c.requires.room (length-replicate g.row.RING _) (length-replicate g.row.WORK _) (length-replicate g.row.ORIGINS _)
    (length-replicate g.row.WORK _) (length-replicate g.row.ORIGINS _) (length-replicate g.row.ORIGINS _))

pub returns : goal.returns
returns g c = as-answer (ap (answer_measured c.args.head c.args.rect c.args.bounds)
    (sym (parts-read c.args.frame c.args.head _ c.requires.cuttable.answerable))) c.answer_in.ensures
