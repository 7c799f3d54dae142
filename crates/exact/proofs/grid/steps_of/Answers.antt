-- `grid::steps_of` meets its contract. Assumes nothing.
use Rattle.std.proofs.Common.{T, rules}
use lib.Ieee.{binary64, fits, of_bits}
use Rattle.exact.proofs.GridLaws.{can-cut, steps-answer, beyond_256}
use Rattle.exact.proofs.grid.steps_of.Goals as goal

pub returns-then-nearest_u64_to_f64-scaled : goal.returns-then-nearest_u64_to_f64-scaled
unfolding of_bits
returns-then-nearest_u64_to_f64-scaled c = let x = c.args.x in
    let t : T (fits binary64 x) = search rules in rw c.if-nearest_u64_to_f64-scaled.true at (steps-answer x t c.requires c.if-x.true _
    c.truncating_f64_to_u64-n.ensures _ c.nearest_u64_to_f64.ensures)

pub returns-else-nearest_u64_to_f64-scaled : goal.returns-else-nearest_u64_to_f64-scaled
unfolding of_bits
returns-else-nearest_u64_to_f64-scaled c = let x = c.args.x in
    let t : T (fits binary64 x) = search rules in rw c.if-nearest_u64_to_f64-scaled.false at (steps-answer x t c.requires c.if-x.true _
    c.truncating_f64_to_u64-n.ensures _ c.nearest_u64_to_f64.ensures)

pub returns-else-x : goal.returns-else-x
unfolding of_bits
returns-else-x c = beyond_256 c.args.x c.requires c.if-x.false

pub truncating_f64_to_u64-n-requires-clause-lower_bound : goal.truncating_f64_to_u64-n-requires-clause-lower_bound
unfolding of_bits
truncating_f64_to_u64-n-requires-clause-lower_bound c =
    let x = c.args.x in
    let t : T (fits binary64 x) = search rules in
    (can-cut x t c.requires c.if-x.true).0

pub truncating_f64_to_u64-n-requires-clause-upper_bound : goal.truncating_f64_to_u64-n-requires-clause-upper_bound
unfolding of_bits
truncating_f64_to_u64-n-requires-clause-upper_bound c =
    let x = c.args.x in
    let t : T (fits binary64 x) = search rules in
    (can-cut x t c.requires c.if-x.true).1
