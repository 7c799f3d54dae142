-- `answer_measured` meets its contract: apart, inside as a whole, and part by part. Assumes nothing.
use mathlib.Core.Path.{refl, sym, ◌∙◌}
use native.Mathlib.Omega.{arith}
use Rattle.frames.specs.Answer.{Nothing, Unchanged}
use Rattle.frames.specs.Output.{answer_bytes}
use Rattle.frames.proofs.Listings.{alone}
use Rattle.frames.proofs.Entries.{holds, as-answer, apart, inside, measured}
use Rattle.frames.proofs.entry.answer_measured.Goals as goal

pub put_alone-requires : goal.put_alone-requires
put_alone-requires c = let y = c.requires.0.answerable in omega (arith, y.output, (holds c.args.frame.bytes.now c.args.frame.accepted).fits)

pub returns-then-not-intersects_bounds : goal.returns-then-not-intersects_bounds
unfolding answer_bytes
returns-then-not-intersects_bounds c = let a = c.args in as-answer (apart a.frame a.head _ c.requires.0
    a.rect _ c.requires.1
    c.buffered-bounds.ensures
    (sym c.intersects_bounds.ensures
    ∙ c.if-not-intersects_bounds.true))
    (alone a.out.now _ _ _ 0 0 (Nothing 0) refl refl c.put_alone.ensures.0
    c.put_alone.ensures.1)

pub put_alone-requires-then-is_unchanged_at_once : goal.put_alone-requires-then-is_unchanged_at_once
put_alone-requires-then-is_unchanged_at_once c = let y = c.requires.0.answerable in omega (
  arith,
  y.output,
  (holds c.args.frame.bytes.now
      c.args.frame.accepted).fits,
)

pub returns-then-is_unchanged_at_once : goal.returns-then-is_unchanged_at_once
unfolding answer_bytes
returns-then-is_unchanged_at_once c = let a = c.args in as-answer (inside a.frame a.head _
    c.requires.0 a.rect _
    c.requires.1
    c.buffered-bounds.ensures
    (sym c.intersects_bounds.ensures
    ∙ c.if-not-intersects_bounds.false)
    (sym c.is_unchanged_at_once.ensures ∙ c.if-is_unchanged_at_once.true))
    (alone a.out.now _ _ _ 2 0 Unchanged refl refl c.put_alone-then-is_unchanged_at_once.ensures.0
    c.put_alone-then-is_unchanged_at_once.ensures.1)

pub returns : goal.returns
returns c = let a = c.args in as-answer (measured a.frame a.head _
    c.requires.0 a.rect _
    c.requires.1
    c.buffered-bounds.ensures
    (sym c.intersects_bounds.ensures
    ∙ c.if-not-intersects_bounds.false)
    (sym c.is_unchanged_at_once.ensures ∙ c.if-is_unchanged_at_once.false))
    c.answer_sized.ensures
