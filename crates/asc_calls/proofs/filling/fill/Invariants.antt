-- So many bytes were taken into the buffer.
use Rattle.std.proofs.Common.{◌≡◌, ◌≤◌, ◌-◌}
use Rattle.asc_calls.specs.Filling.{Fills}
use Rattle.asc_calls.proofs.filling.fill.Given as goal

abbrev pub invariant-loop-filled : goal.invariant-loop-filled
invariant-loop-filled g l = record {
  within : l.filled ≤ l.n;
  fills : Fills (g.I.Source.left l.fn.input) (g.I.Source.left l.input) l.fn.state l.state l.buffer l.n l.filled;
  faults : g.I.Source.faults l.input ≡ g.I.Source.faults l.fn.input;
}

abbrev pub decreases-loop-filled : goal.decreases-loop-filled
decreases-loop-filled g l = l.n - l.filled
