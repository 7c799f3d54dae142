-- `take_char` meets its contract. Assumes nothing.
use borrow.Author.Tests.{lt-ltb, le-ltb}
use Rattle.lines.specs.Internal.{after}
use Rattle.lines.proofs.line.take_char.Goals as goal

pub returns-then-d-lt-NOT_A_DIGIT : goal.returns-then-d-lt-NOT_A_DIGIT
unfolding after
returns-then-d-lt-NOT_A_DIGIT c = record {
  state = rw (← c.digit_of-d.ensures, lt-ltb _ _ c.if-d-lt-NOT_A_DIGIT.true)
      c.take_digit.ensures.state;
}

pub returns : goal.returns
unfolding after
returns c = record {
  state = rw (← c.digit_of-d.ensures, le-ltb _ _ c.if-d-lt-NOT_A_DIGIT.false);
}
