-- What tracing the entries of a file anew answers.
use Rattle.std.specs.Prelude.{◌≡◌, true, false, List, map, Option, Some, None, Result, Ok, Err}
use Rattle.std.specs.Arc.{arc_value}
use Rattle.std.specs.declared.sync.Arc.{Arc}
use Rattle.std.specs.declared.vec.Vec.{Vec}
use Rattle.std.specs.declared.alloc.Global.{Global}
use Rattle.asc_model.specs.Entry.{Entry}
use Rattle.asc_model.specs.Case.{first_fault}
use Rattle.asc_model.specs.EntryFile.{own_cases, is_canonical}
use Rattle.asc_save.specs.declared.loading.LoadFault.{LoadFault}
use Rattle.asc_save.specs.declared.loading.LoadFault.TheVariants.{Bad, Memory}

-- the entry, where it is its own
abbrev pub IsRetraced : Entry → Option (Arc Entry Global) → Type 0
IsRetraced e (Some made) = (arc_value made ≡ e) × (is_canonical e ≡ true)
IsRetraced e None = is_canonical e ≡ false

-- all entries, where each is its own, or the fault of the first that is not; want of memory is free
abbrev pub AreRetraced : List Entry → Result (Vec (Arc Entry Global) Global) LoadFault → Type 0
AreRetraced entries (Ok made) = (map arc_value made.items ≡ entries) × (first_fault (own_cases 0 entries) ≡ None)
AreRetraced entries (Err (Bad fault)) = first_fault (own_cases 0 entries) ≡ Some fault
AreRetraced entries (Err Memory) = Unit {0}
