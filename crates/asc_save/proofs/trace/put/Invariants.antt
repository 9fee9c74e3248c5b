use Rattle.std.proofs.Common.{◌≡◌, ◌<◌, All}
use Rattle.asc_model.specs.Shape.{length_of}
use Rattle.asc_model.specs.Places.{bytes_after}
use Rattle.asc_save.proofs.trace.put.Given as goal

abbrev pub invariant-loop-place : goal.invariant-loop-place
invariant-loop-place l = record {
  can : (goal.iterator-loop-place).can_next l.place-iterator;
  finite : (goal.iterator-loop-place).is_finite l.place-iterator;
  shape : l.state.shape ≡ l.fn.state.shape;
  within : All (λ cell. cell.0 < length_of l.fn.state.shape) l.place-iterator;
  left : bytes_after l.state.bytes l.place-iterator ≡ bytes_after l.fn.state.bytes l.fn.cells;
}
