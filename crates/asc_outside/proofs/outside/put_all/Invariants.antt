-- The sink was given the first bytes of the piece.
use Rattle.std.proofs.Common.{◌≡◌, ◌≤◌, ◌-◌, length, take}
use Rattle.asc_outside.specs.Outside.{given_after}
use Rattle.asc_outside.proofs.outside.put_all.Given as goal

abbrev pub invariant-loop-put : goal.invariant-loop-put
invariant-loop-put g l = record {
  within : l.put ≤ length l.piece;
  given : g.S.Sink.given l.sink ≡ given_after (g.S.Sink.given l.fn.sink) (take l.put l.piece);
  faults : g.S.Sink.faults l.sink ≡ g.S.Sink.faults l.fn.sink;
}

abbrev pub decreases-loop-put : goal.decreases-loop-put
decreases-loop-put g l = length l.piece - l.put
