-- What is still to be forgotten is among the items that are still to come.
use Rattle.std.proofs.Common.{◌≡◌, drop}
use Rattle.asc_depvec.specs.Tracer.{places_of}
use Rattle.asc_depvec.specs.Inside.{TellAmong, statuses_of}
use Rattle.asc_depvec.proofs.tracer.forget_all.Given as goal

abbrev pub invariant-loop-item : goal.invariant-loop-item
invariant-loop-item l = record {
  statuses : statuses_of l.marks ≡ statuses_of l.fn.marks;
  among : TellAmong l.marks (places_of (drop l.item-index l.fn.items));
}
