-- What is left to put.
use Rattle.std.proofs.Common.{◌≡◌, ◌+◌, ◌-◌}
use Rattle.asc_model.specs.Places.{bytes_after}
use Rattle.asc_traj.specs.Parts.{masked}
use Rattle.asc_traj.proofs.part.put_bytes.Given as goal

abbrev pub invariant-loop-k : goal.invariant-loop-k
invariant-loop-k l = record {
  shape : l.state.shape ≡ l.fn.state.shape;
  bytes : bytes_after l.state.bytes (masked (4 - l.k) l.rest (l.place + l.k) l.left) ≡ bytes_after l.fn.state.bytes (masked 4 l.fn.mask l.fn.place l.fn.word);
}
