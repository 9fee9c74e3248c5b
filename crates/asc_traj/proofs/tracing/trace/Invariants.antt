-- The trace is on its way, and the halt has not asked to stop it.
use Rattle.std.proofs.Common.{◌≡◌, ℕ, ◌-◌, ◌==◌, ◌≤◌, false, Some}
use Rattle.asc_model.specs.Machine.{view_of}
use Rattle.asc_shape.specs.Face.{room_of}
use Rattle.asc_depvec.specs.Tracer.{face_of}
use Rattle.asc_traj.specs.Inside.{AreSure, counted}
use Rattle.asc_traj.specs.Trace.{Asked, bounds_of}
use Rattle.asc_traj.proofs.Traces.{IsOnWay, HasLeft}
use Rattle.asc_traj.proofs.tracing.trace.Given as goal

abbrev pub invariant-loop-shape : goal.invariant-loop-shape
invariant-loop-shape g l = record {
  way : IsOnWay (bounds_of l.fn.stop l.fn.tracer.cap) l.fn.tracer.state l.steps (counted l.laps ((view_of l.tracer.state).pc == l.fn.stop.pc)) l.tracer;
  few : ((view_of l.tracer.state).pc == l.fn.stop.pc) ≡ false → (l.laps == l.fn.stop.laps) ≡ false;
  sure : AreSure l.fn.stop.span l.steps l.sure (room_of (face_of l.tracer).marks);
  count : g.H.Halt.count l.halt ≡ g.H.Halt.count l.fn.halt;
  asks : Asked (g.H.Halt.asks l.fn.halt) (g.H.Halt.asks l.halt) l.steps;
  patience : (n : ℕ) → g.H.Halt.patience l.fn.halt ≡ Some n → HasLeft (g.H.Halt.patience l.halt) l.steps n;
  most : (n : ℕ) → g.H.Halt.patience l.fn.halt ≡ Some n → l.steps ≤ n;
}

abbrev pub decreases-loop-shape : goal.decreases-loop-shape
decreases-loop-shape g l = l.fn.stop.span - l.steps
