-- `grid::grid_number_of` meets its contract. Assumes nothing.
use Rattle.std.proofs.Common.{T, sym, ◌∙◌, subst, arith}
use lib.Ieee.{of_bits, neg}
use Rattle.exact.proofs.GridLaws.{told-small, above_off, above_on, below-above, below_off, below_on, zero-on, nan_off}
use Rattle.exact.proofs.grid.grid_number_of.Goals as goal

pub returns-in_err-steps_of : goal.returns-in_err-steps_of
returns-in_err-steps_of c = c.from_residual.ensures ∙ above_off c.args.x (sym (c.in_err-steps_of.ensures))

pub overflow_add-result : goal.overflow_add-result
overflow_add-result c = record { fits = omega (arith, told-small c.args.x _ (sym (c.in_ok-steps_of.ensures))) }

pub returns-then-x : goal.returns-then-x
unfolding of_bits
returns-then-x c = above_on c.args.x _ (subst T (sym c.if-x.true) tt) (sym (c.in_ok-steps_of.ensures))

pub steps_of-requires-then-x-2 : goal.steps_of-requires-then-x-2
unfolding of_bits
steps_of-requires-then-x-2 c = below-above c.args.x c.if-x-2.true

pub returns-in_err-steps_of-2 : goal.returns-in_err-steps_of-2
returns-in_err-steps_of-2 c = c.from_residual-in_err-steps_of-2.ensures ∙ below_off c.args.x (sym (c.in_err-steps_of-2.ensures))

pub overflow_sub-result : goal.overflow_sub-result
overflow_sub-result c = told-small (neg c.args.x) _ (sym (c.in_ok-steps_of-2.ensures))

pub returns-then-x-2 : goal.returns-then-x-2
unfolding of_bits
returns-then-x-2 c = below_on c.args.x _ c.if-x-2.true (sym (c.in_ok-steps_of-2.ensures))

pub returns-then-x-3 : goal.returns-then-x-3
unfolding of_bits
returns-then-x-3 c = zero-on c.args.x c.if-x-3.true

pub returns : goal.returns
unfolding of_bits
returns c = nan_off c.args.x c.if-x.false c.if-x-2.false c.if-x-3.false
