-- What loading answers.
use Rattle.std.specs.Prelude.{◌≡◌, ℕ, List, Result, Ok, Err}
use Rattle.asc_model.specs.EntryFile.{Saved, saved_of}
use Rattle.asc_save.specs.declared.loading.LoadFault.{LoadFault}
use Rattle.asc_save.specs.declared.loading.LoadFault.TheVariants.{Bad, Memory}

-- what the file means; want of memory is free
abbrev pub IsLoaded : List ℕ → Result Saved LoadFault → Type 0
IsLoaded file (Ok saved) = saved_of file ≡ Ok saved
IsLoaded file (Err (Bad fault)) = saved_of file ≡ Err fault
IsLoaded file (Err Memory) = Unit {0}
