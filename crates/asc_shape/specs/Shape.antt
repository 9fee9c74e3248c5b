-- Which base and size make a shape, or the first fault.
use Rattle.std.specs.Prelude.{ℕ, not, Result, Ok, Err, if◌then◌else◌}
use Rattle.asc_model.specs.declared.version.Version.{Version}
use Rattle.asc_model.specs.Shape.{Shape, is_base, is_size}
use Rattle.asc_shape.specs.declared.shape.ShapeFault.{ShapeFault}
use Rattle.asc_shape.specs.declared.shape.ShapeFault.TheVariants.{Base, Size}

-- the base is tested first
abbrev pub shape_of : ℕ → ℕ → Version → Result Shape ShapeFault
shape_of base size version =
    if not (is_base base size) then Err Base
    else (if not (is_size size) then Err Size
    else Ok (record { base = base; size = size; version = version }))
