-- Which shapes are made.
use Rattle.std.proofs.Common.{◌≡◌, ℕ, Bool, true, false, not, cond, Result, Ok, Err, refl, ◌∙◌, ap, arith}
use Rattle.std.proofs.lemmas.Bool.Decides.{nat_tests}
use Rattle.asc_model.specs.Shape.{Shape, IsShape, IsBase, IsSize, is_base, is_size}
use Rattle.asc_shape.specs.declared.shape.ShapeFault.{ShapeFault}
use Rattle.asc_shape.specs.declared.shape.ShapeFault.TheVariants.{Base, Size}
use Rattle.asc_shape.specs.Shape.{shape_of}

is_base-true : (base size : ℕ) → IsBase base size → is_base base size ≡ true
is_base-true base size h = let a = h.aligned in let w = h.within in grind (arith, nat_tests)

is_size-true : (size : ℕ) → IsSize size → is_size size ≡ true
is_size-true size h = let a = h.aligned in let l = h.least in let m = h.most in grind (arith, nat_tests)

IsBase-from : (base size : ℕ) → is_base base size ≡ true → IsBase base size
IsBase-from base size is = record { aligned = grind (arith, nat_tests); within = grind (arith, nat_tests) }

IsSize-from : (size : ℕ) → is_size size ≡ true → IsSize size
IsSize-from size is = record { aligned = grind (arith, nat_tests); least = grind (arith, nat_tests); most = grind (arith, nat_tests) }

-- a good shape is made of its parts
pub made : (shape : Shape) → IsShape shape → shape_of shape.base shape.size shape.version ≡ Ok shape
made shape h =
    ap (λ (b : Bool). cond (not b) (Err Base) (cond (not (is_size shape.size)) (Err Size) (Ok shape))) (is_base-true shape.base shape.size h.base)
    ∙ ap (λ (b : Bool). let r : Result Shape ShapeFault = cond (not b) (Err Size) (Ok shape) in r) (is_size-true shape.size h.size)

-- what each test says where a shape is made
tests : (shape : Shape) (b s : Bool) → is_base shape.base shape.size ≡ b → is_size shape.size ≡ s → cond (not b) (Err Base) (cond (not s) (Err Size) (Ok shape)) ≡ Ok shape → IsShape shape
tests shape true true base size is = record { base = IsBase-from shape.base shape.size base; size = IsSize-from shape.size size }
tests shape true false base size is = absurd (cc)
tests shape false s base size is = absurd (cc)

-- a shape that is made is good
pub good : (shape : Shape) → shape_of shape.base shape.size shape.version ≡ Ok shape → IsShape shape
good shape is = tests shape (is_base shape.base shape.size) (is_size shape.size) refl refl is
