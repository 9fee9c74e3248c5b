-- How steps touch places: the dependency vector, place by place (Waterland and others, "ASC: Automatically Scalable
-- Computation", ASPLOS 2014, section 4.2).
use Rattle.std.specs.Prelude.{ℕ, Bool, true, false}
use Rattle.asc_model.specs.declared.status.Status.{Status}
use Rattle.asc_model.specs.declared.status.Status.TheVariants.{Untouched, Read, Written, ReadWritten}
use Rattle.asc_model.specs.State.{State}
use Rattle.asc_model.specs.DependencyVector.{is_among, first_reads, written_in}

-- the status of a place, by whether it was read before it was written, and whether it was written
abbrev pub status_by : (read written : Bool) → Status
status_by false false = Untouched
status_by true false = Read
status_by false true = Written
status_by true true = ReadWritten

-- the status of a place after n steps of a state, where they all go on and nothing was touched before them
abbrev pub status_of : ℕ → State → ℕ → Status
status_of n s place = status_by (is_among place (first_reads n s)) (is_among place (written_in n s))
