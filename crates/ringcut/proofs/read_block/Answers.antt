-- `read_block` meets its contract: where a read is to be made again, no character was read. Assumes nothing.
use mathlib.Core.List.{[]}
use Rattle.std.proofs.KnownBytes.{Consumes-nil, Consumes-kept}
use Rattle.lines.proofs.Feeding.{prints-nothing}
use Rattle.ringcut.proofs.Fed.{none_answered}
use Rattle.ringcut.proofs.read_block.Goals as goal

pub returns-then-try_again : goal.returns-then-try_again
returns-then-try_again g c =
    let a = c.args in
    record {
      turns = (
        [],
        Consumes-kept _ _ _ [] (Consumes-nil _) c.in-Err.ensures.bytes,
        none_answered _ a.line a.kept.now,
        (prints-nothing a.line a.kept.now a.out.now).goes_on,
      );
    }
