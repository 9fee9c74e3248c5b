use Rattle.std.proofs.Common.{arith}
use Rattle.std.proofs.lemmas.Int.{to_z-of_z}
use Rattle.asc_step.proofs.Products.{product-FitsSigned}
use Rattle.asc_step.proofs.arithmetic.high_product_signed.Goals as goal

pub returns : goal.returns
returns c = grind (arith, to_z-of_z, product-FitsSigned)
