-- What became of a guess.
use Rattle.std.specs.Prelude.{◌≡◌, ◌⊎◌, ℕ, ◌≤◌, Some}
use Rattle.std.specs.Arc.{arc_value}
use Rattle.asc_model.specs.State.{State}
use Rattle.asc_model.specs.Entry.{entry_of}
use Rattle.asc_model.specs.Reach.{Bounds, reach_of}
use Rattle.asc_outside.specs.Outside.{one_more}
use Rattle.asc_traj.specs.declared.made.Made.{Made}
use Rattle.asc_traj.specs.declared.made.Made.TheVariants.{One, Empty, Stopped, Refused}

-- A count of yes answers stays, or is one more.
abbrev pub RisesAtMostOnce : (before now : ℕ) → Type 0
RisesAtMostOnce before now = (now ≡ before) ⊎ (now ≡ one_more before)

-- What became of a guess that was traced within bounds, and of the count of yes answers of its halt: the trace made an
-- entry, or it has no step, or it was stopped, or memory was wanting. One with no step may have been asked to stop before
-- that was known.
abbrev pub IsMade : Bounds → (guess : State) → (before now : ℕ) → Made → Type 0
IsMade bounds guess before now (One entry) =
    (1 ≤ reach_of bounds guess) × (entry_of (reach_of bounds guess) guess ≡ Some (arc_value entry)) × (now ≡ before)
IsMade bounds guess before now Empty = (reach_of bounds guess ≡ 0) × RisesAtMostOnce before now
IsMade bounds guess before now Stopped = (1 ≤ reach_of bounds guess) × (now ≡ one_more before)
IsMade bounds guess before now Refused = (1 ≤ reach_of bounds guess) × (now ≡ before)
