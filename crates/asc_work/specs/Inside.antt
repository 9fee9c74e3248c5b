-- What holds of the fields of a worker.
use Rattle.std.specs.Prelude.{◌≡◌, Option, Some, None}
use Rattle.asc_model.specs.declared.limits.TheConstants.{MOST_PLACES}
use Rattle.asc_model.specs.Shape.{Shape}
use Rattle.asc_depvec.specs.Tracer.{Tracing}
use Rattle.asc_depvec.specs.Unfilled.{Filling}

-- a tracer of this shape for the traces of guesses
pub record IsOwn (shape : Shape) (t : Tracing) : Type 0 where
  pub shape_is : t.shape ≡ shape
  pub state : t.state.shape ≡ shape
  pub cap : t.cap ≡ MOST_PLACES

-- memory of such a tracer
pub record IsOwnMemory (shape : Shape) (u : Filling) : Type 0 where
  pub shape_is : u.shape ≡ shape
  pub cap : u.cap ≡ MOST_PLACES

-- there is such a tracer
abbrev pub HasTracer : Shape → Option Tracing → Type 0
HasTracer shape None = ⊥
HasTracer shape (Some tracer) = IsOwn shape tracer

-- there is memory of such a tracer, or else the tracer
abbrev pub HasOwn : Shape → Option Filling → Option Tracing → Type 0
HasOwn shape (Some unfilled) tracer = IsOwnMemory shape unfilled
HasOwn shape None tracer = HasTracer shape tracer
