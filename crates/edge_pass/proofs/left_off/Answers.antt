-- `left_off` meets its contract. Assumes nothing.
use mathlib.Core.Path.{sym, ◌∙◌}
use native.Mathlib.Nat.{le_refl}
use borrow.Author.Rules.{rules}
use Rattle.edge_pass.proofs.LeavingOff.{left-few, left-closed, left_open}
use Rattle.edge_pass.proofs.left_off.Goals as goal

pub returns-then-n-lt2 : goal.returns-then-n-lt2
returns-then-n-lt2 c = (le_refl c.args.n, left-few c.args.ring.now c.args.n c.requires c.if-n-lt2.true)

pub returns-then-is_closed : goal.returns-then-is_closed
returns-then-is_closed c = (
  search rules,
  left-closed c.args.ring.now c.args.n c.requires c.if-n-lt2.false
      (sym c.is_closed.ensures ∙ c.if-is_closed.true),
)

pub returns : goal.returns
returns c = (le_refl c.args.n, left_open c.args.ring.now c.args.n c.requires (sym c.is_closed.ensures ∙ c.if-is_closed.false))
