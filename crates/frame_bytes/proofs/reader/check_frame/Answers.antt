-- `check_frame` meets its contract: each return rewrites the definition by the tests that led there. Assumes nothing.
use mathlib.Core.Path.{◌≡◌, sym, ◌∙◌}
use mathlib.Core.Bool.{false}
use borrow.Author.Tests.{lt-ltb, le-ltb}
use Rattle.frame_bytes.specs.Frame.{most_flags, kind_of, flags_byte, part_count_of, wrong_part_count, read_frame}
use Rattle.frame_bytes.proofs.Walks.{check_parts}
use Rattle.frame_bytes.proofs.reader.check_frame.Goals as goal

pub returns-then-is_wrong_size : goal.returns-then-is_wrong_size
unfolding read_frame
returns-then-is_wrong_size c = rw (← c.is_wrong_size.ensures, c.if-is_wrong_size.true)

pub returns-then-is_wrong_kind : goal.returns-then-is_wrong_kind
unfolding read_frame
returns-then-is_wrong_kind c = rw (
  ← c.is_wrong_size.ensures,
  c.if-is_wrong_size.false,
  ←
      c.is_wrong_kind.ensures,
  c.if-is_wrong_kind.true,
)

pub returns-then-frame-gt-MOST_FLAGS : goal.returns-then-frame-gt-MOST_FLAGS
unfolding read_frame
returns-then-frame-gt-MOST_FLAGS c = rw (
  ← c.is_wrong_size.ensures,
  c.if-is_wrong_size.false,
  ← c.is_wrong_kind.ensures,
  c.if-is_wrong_kind.false,
  lt-ltb _ _ c.if-frame-gt-MOST_FLAGS.true,
)

pub returns-then-is_wrong_part_count : goal.returns-then-is_wrong_part_count
unfolding read_frame
returns-then-is_wrong_part_count c = rw (
  ← c.is_wrong_size.ensures,
  c.if-is_wrong_size.false,
  ←
      c.is_wrong_kind.ensures,
  c.if-is_wrong_kind.false,
  le-ltb _ _ c.if-frame-gt-MOST_FLAGS.false,
  ← c.count_at-parts.ensures.0,
  ←
      c.is_wrong_part_count.ensures,
  c.if-is_wrong_part_count.true,
)

pub returns : goal.returns
returns c = let f = c.args.frame.now in
    let n = c.count_at-parts.ensures.0 in
    let size = sym c.is_wrong_size.ensures
    ∙ c.if-is_wrong_size.false in
    let kind = sym c.is_wrong_kind.ensures
    ∙ c.if-is_wrong_kind.false in
    let parts : wrong_part_count (kind_of f) (part_count_of f) ≡ false = rw (← n) (sym c.is_wrong_part_count.ensures
    ∙ c.if-is_wrong_part_count.false) in rw (check_parts f size kind (le-ltb most_flags (flags_byte f) c.if-frame-gt-MOST_FLAGS.false) parts, ← n)
    c.check_parts.ensures
