-- `grid::grid_point_of` meets its contract. Assumes nothing.
use Rattle.std.proofs.Common.{sym, ◌∙◌}
use Rattle.exact.proofs.MayShareLaws.{x_off, y_off, both-on, number_bounded}
use Rattle.exact.proofs.grid.grid_point_of.Goals as goal

pub returns-in_err-x : goal.returns-in_err-x
returns-in_err-x c = c.from_residual.ensures ∙ x_off c.args.p (sym (c.in_err-x.ensures))

pub returns-in_err-y : goal.returns-in_err-y
returns-in_err-y c = c.from_residual-in_err-y.ensures ∙ y_off c.args.p (sym (c.in_err-y.ensures))

pub returns : goal.returns
returns c = both-on c.args.p _ _ (sym (c.in_ok-x.ensures)) (sym (c.in_ok-y.ensures))

pub invariant_of-result : goal.invariant_of-result
invariant_of-result c = (number_bounded c.args.p.x _ (sym c.in_ok-x.ensures), number_bounded c.args.p.y _ (sym c.in_ok-y.ensures))
