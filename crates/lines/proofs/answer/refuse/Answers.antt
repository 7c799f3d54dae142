-- `refuse` meets its contract: the bytes of a refusal are those of a header with no counts. Assumes nothing.
use mathlib.Core.Path.{◌≡◌, refl, ◌∙◌}
use Prim.Native.Nat.{ℕ}
use Rattle.binary64.specs.Bytes.{to_low}
use Rattle.binary64.proofs.Fill.{whole-over}
use Rattle.frame_bytes.specs.Encoding.{header_bytes}
use Rattle.lines.specs.Lines.{refusal_bytes}
use Rattle.lines.proofs.answer.refuse.Goals as goal

no-counts : (number : ℕ) → header_bytes number 0 0 ≡ refusal_bytes number
unfolding to_low
no-counts number = refl

pub returns-clause-output : goal.returns-clause-output
returns-clause-output c = let a = c.args in
    let e = c.put_alone.ensures in e.1 ∙ rw (no-counts a.number) (whole-over (refusal_bytes a.number) a.out.now
    c.requires)
