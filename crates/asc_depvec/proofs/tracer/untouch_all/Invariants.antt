-- As much is still to be made untouched as at first.
use Rattle.std.proofs.Common.{◌≡◌, drop}
use Rattle.asc_depvec.specs.Tracer.{places_of}
use Rattle.asc_depvec.specs.Inside.{statuses_of, without}
use Rattle.asc_depvec.proofs.tracer.untouch_all.Given as goal

abbrev pub invariant-loop-item : goal.invariant-loop-item
invariant-loop-item l = without (statuses_of l.marks) (places_of (drop l.item-index l.fn.items)) ≡ without (statuses_of l.fn.marks) (places_of l.fn.items)
