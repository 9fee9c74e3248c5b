-- Words of private contracts: a walk's search for the address at which it is visited.
use Rattle.std.specs.Prelude.{◌≡◌, ◌⊎◌, ℕ, ◌+◌, Bool, true, false, Option, Some, None}
use Rattle.std.specs.Option.{option_map}
use Rattle.asc_model.specs.State.{State}
use Rattle.asc_model.specs.Machine.{view_of}
use Rattle.asc_step.specs.Step.{Climbs, Lowers}
use Rattle.asc_seek.specs.Heads.{note}
use Rattle.asc_seek.specs.declared.seeker.Seeking.{Seeking}
use Rattle.asc_seek.specs.Seek.{Seek, new_seek, seek_visit}
use Rattle.asc_run.specs.declared.recognised.Recognised.{Recognised}
use Rattle.asc_run.specs.declared.recognised.Recognised.TheVariants as recognised

-- what is sought, where an address is
abbrev pub sought_by : Recognised → Option Seeking
sought_by recognised.Nowhere = None
sought_by (recognised.At address) = None
sought_by (recognised.Chosen profile least) = None
sought_by (recognised.Sought seeking) = Some seeking

-- there is a search for that, and for nothing else
abbrev pub HasSeeker : Recognised → Option Seek → Type 0
HasSeeker by seeker = option_map (λ m. m.seeking) seeker ≡ sought_by by

-- a search has not begun
abbrev pub HasNewSeeker : Option Seek → Type 0
HasNewSeeker (Some m) = m ≡ new_seek m.seeking
HasNewSeeker None = Unit {0}

-- a landing at a count is learnt of, where it is a visit
abbrev pub learning : (is_visit : Bool) → (at : ℕ) → (reply : Option ℕ) → Seek → Seek
learning true at reply m = seek_visit at reply m
learning false at reply m = m

-- a head that was met at a count is noted, where one was
abbrev pub noting : (count : ℕ) → (met : Option ℕ) → Seek → Seek
noting count met m = record m { table = note count met m.table }

-- where a state stands
abbrev pub pc_in : State → Option ℕ
pc_in s = Some (view_of s).pc

-- Of so many steps of a state, of which none but the last leads back, that one was noted at its count, if it does.
abbrev pub NotesAlong : (start : State) → (steps count : ℕ) → (after : State) → (old new : Seek) → Type 0
NotesAlong start steps count after old new = Climbs start steps
    × ((Lowers start steps × (new ≡ noting count (pc_in after) old)) ⊎ (Climbs start (steps + 1) × (new ≡ old)))
