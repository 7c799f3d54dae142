-- `take_line` meets its contract. Assumes nothing.
use Rattle.lines.proofs.Running.{passes_then}
use Rattle.lines.proofs.line.take_line.Goals as goal

pub returns-in-Whole : goal.returns-in-Whole
returns-in-Whole c = let e = c.take_chars.ensures.takes in
    let p = c.take_pairs-pairs.ensures.passes in record {
      takes = rw c.in-Whole.is
          record { passes = passes_then p e.passes; stops = e.stops };
    }
