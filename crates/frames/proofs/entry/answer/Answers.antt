-- `answer` meets its contract: without a coordinate, with one that is not finite, and measured. Assumes nothing.
use mathlib.Core.Path.{refl, sym, ◌∙◌}
use native.Mathlib.Omega.{arith}
use Rattle.rings.specs.declared.rectangle.Rect.TheVariants as Rects
use Rattle.clip.specs.Polygon.{route_rect}
use Rattle.frame_bytes.proofs.Rooms.{frame_head}
use Rattle.frames.specs.Answer.{Nothing, Dropped}
use Rattle.frames.specs.Output.{answer_bytes}
use Rattle.frames.proofs.Listings.{alone}
use Rattle.frames.proofs.Entries.{holds, as-answer, unmeasured}
use Rattle.frames.proofs.entry.answer.Goals as goal

pub read_head-head-requires : goal.read_head-head-requires
read_head-head-requires c = frame_head c.args.frame.bytes.now c.args.frame.accepted

pub put_alone-requires : goal.put_alone-requires
put_alone-requires c = omega (
  arith,
  c.requires,
  (holds
      c.args.frame.bytes.now
      c.args.frame.accepted).fits,
)

pub put_alone-requires-in-NotFinite : goal.put_alone-requires-in-NotFinite
put_alone-requires-in-NotFinite c = omega (
  arith,
  c.requires,
  (holds
      c.args.frame.bytes.now
      c.args.frame.accepted).fits,
)

pub returns-in-Nothing : goal.returns-in-Nothing
unfolding route_rect answer_bytes
returns-in-Nothing c = let a = c.args in as-answer (unmeasured a.frame.bytes.now _ c.args.frame.accepted
    c.read_head-head.ensures Rects.Nothing (Nothing 0)
    (sym c.whole_rect.ensures
    ∙ c.in-Nothing.is) (λ b rings. refl) (λ other. refl))
    (alone a.out.now _ _ _ 0 0 (Nothing 0) refl refl c.put_alone.ensures.0
    c.put_alone.ensures.1)

pub returns-in-NotFinite : goal.returns-in-NotFinite
unfolding route_rect answer_bytes
returns-in-NotFinite c = let a = c.args in as-answer (unmeasured a.frame.bytes.now _ c.args.frame.accepted
    c.read_head-head.ensures Rects.NotFinite Dropped
    (sym c.whole_rect.ensures
    ∙ c.in-NotFinite.is) (λ b rings. refl) (λ other. refl))
    (alone a.out.now _ _ _ 1 1 Dropped refl refl c.put_alone-in-NotFinite.ensures.0
    c.put_alone-in-NotFinite.ensures.1)
