-- What is known of the entry at the front of bytes once it has no fault.
use Rattle.std.specs.Prelude.{◌≡◌, ℕ, ◌≤◌, true, List, length}
use Rattle.asc_model.specs.declared.limits.TheConstants.{MOST_ENTRY_STEPS, MOST_PLACES}
use Rattle.asc_model.specs.Shape.{Shape}
use Rattle.asc_model.specs.EntryFile.{steps_in, read_count, write_count, writes_end, reads_in, writes_in, is_listing}

-- All of it is there, and it is within the bounds.
pub record IsListed (shape : Shape) (bytes : List ℕ) : Type 0 where
  pub whole : writes_end bytes ≤ length bytes
  pub least : 1 ≤ steps_in bytes
  pub most : steps_in bytes ≤ MOST_ENTRY_STEPS
  pub few_reads : read_count bytes ≤ MOST_PLACES
  pub few_writes : write_count bytes ≤ MOST_PLACES
  pub reads : is_listing shape (reads_in bytes) ≡ true
  pub writes : is_listing shape (writes_in bytes) ≡ true
