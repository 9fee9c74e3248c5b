use Rattle.std.proofs.Common.{◌≡◌, ◌-◌}
use Rattle.asc_model.specs.Case.{first_fault}
use Rattle.asc_model.specs.EntryFile.{entries_cases}
use Rattle.asc_save.proofs.faults.entries_fault.Given as goal

abbrev pub invariant-loop-index : goal.invariant-loop-index
invariant-loop-index l =
    first_fault (entries_cases l.shape l.index (l.count - l.index) l.rest) ≡ first_fault (entries_cases l.shape 0 l.count l.bytes)
