-- Products of words.
use Rattle.std.proofs.Common.{◌^◌, ◌*ℤ◌, ℤ, w32, w64, arith, FitsSigned}
use Rattle.std.proofs.lemmas.Int.{ints, fits_signed_mul}

-- a product of two numbers of 32 bits has 64
pub product-FitsSigned : (x y : ℤ) → FitsSigned w32 x → FitsSigned w32 y → FitsSigned w64 (x *ℤ y)
product-FitsSigned x y f g =
    fits_signed_mul w64 x y (2 ^ 31) (2 ^ 31) (omega (arith, ints)) (omega (arith, ints)) (omega arith)
