-- `cross::cross_product_sign` meets its contract. Assumes nothing.
use mathlib.Core.Path.{refl}
use Rattle.box_pairs.specs.Cross.{cross_product_sign}
use Rattle.box_pairs.proofs.cross.cross_product_sign.Goals as goal

pub returns : goal.returns
unfolding cross_product_sign
returns c = refl
