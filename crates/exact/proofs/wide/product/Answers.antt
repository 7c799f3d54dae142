-- `wide::product` meets its contract. Assumes nothing.
use Rattle.std.proofs.Common.{◌/◌, ◌%◌, ◌^◌, arith}
use Rattle.exact.proofs.WideLaws.{bounded, halves}
use Rattle.exact.proofs.wide.product.Goals as goal

pub returns : goal.returns
returns c = halves c.args.a c.args.b

pub invariant_of-result : goal.invariant_of-result
invariant_of-result c = let a = c.args.a in
    let b = c.args.b in record {
      addable = (
        omega (
          arith,
          bounded (a / 2 ^ 30) (b / 2 ^ 30) (2 ^ 27) (2 ^ 27) (omega (arith, c.requires.0)) (omega (arith, c.requires.1)),
        ),
        omega (
          arith,
          bounded (a / 2 ^ 30) (b % 2 ^ 30) (2 ^ 27) (2 ^ 30) (omega (arith, c.requires.0)) (omega arith),
          bounded (a % 2 ^ 30) (b / 2 ^ 30) (2 ^ 30) (2 ^ 27) (omega arith) (omega (arith, c.requires.1)),
        ),
        omega (arith, bounded (a % 2 ^ 30) (b % 2 ^ 30) (2 ^ 30) (2 ^ 30) (omega arith) (omega arith)),
      );
    }
