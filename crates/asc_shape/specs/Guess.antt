-- The state that a guess stands for.
use Rattle.std.specs.Prelude.{◌≡◌, ℕ, Option, Some, None}
use Rattle.std.specs.declared.sync.Arc.{Arc}
use Rattle.std.specs.Global.{Global}
use Rattle.asc_model.specs.Shape.{Shape}
use Rattle.asc_model.specs.State.{State}
use Rattle.asc_shape.specs.Stride.{strided}

-- the last state, or where there is one before it, so many times further on
abbrev pub guessed : (ahead : ℕ) → Option (Arc State Global) → State → State
guessed ahead None last = last
guessed ahead (Some prev) last = record last { bytes = strided ahead last.bytes prev.value.bytes }

-- a state before it, where there is one, has this shape
abbrev pub HasShape : Shape → Option (Arc State Global) → Type 0
HasShape shape None = Unit {0}
HasShape shape (Some prev) = prev.value.shape ≡ shape
