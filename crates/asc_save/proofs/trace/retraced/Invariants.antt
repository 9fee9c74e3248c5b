use Rattle.std.proofs.Common.{◌≡◌, ◌-◌, ◌++◌, None, map}
use Rattle.std.specs.Arc.{arc_value}
use Rattle.asc_depvec.specs.declared.tracer.TheConstants.{MOST_CAP}
use Rattle.asc_model.specs.Case.{first_fault}
use Rattle.asc_model.specs.EntryFile.{entries_cases, entries_in, own_cases}
use Rattle.asc_shape.specs.State.{zero_state}
use Rattle.asc_save.proofs.trace.retraced.Given as goal

abbrev pub invariant-loop-index : goal.invariant-loop-index
invariant-loop-index l = record {
  shape : l.tracer.shape ≡ l.fn.shape;
  cap : l.tracer.cap ≡ MOST_CAP;
  zeros : l.zeros ≡ zero_state l.fn.shape;
  no_fault : first_fault (entries_cases l.fn.shape l.index (l.count - l.index) l.rest) ≡ None;
  entries : map arc_value l.entries.items ++ entries_in l.fn.shape (l.count - l.index) l.rest ≡ entries_in l.fn.shape l.count l.bytes;
  own : first_fault (own_cases l.index (entries_in l.fn.shape (l.count - l.index) l.rest)) ≡ first_fault (own_cases 0 (entries_in l.fn.shape l.count l.bytes));
}
