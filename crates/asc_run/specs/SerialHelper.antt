-- A helper that is the machine of a run without workers.
use Rattle.std.specs.Prelude.{◌≡◌, ◌≢◌, ◌⊎◌, ℕ, ◌+◌, ◌-◌, ◌^◌, nat_lt, true, List, [], length, Option, Some, None, if◌then◌else◌}
use Rattle.std.specs.Arc.{arc_value}
use Rattle.std.specs.Option.{is_some}
use Rattle.asc_model.specs.declared.limits.TheConstants.{MOST_ENTRIES}
use Rattle.asc_model.specs.Shape.{Shape}
use Rattle.asc_model.specs.State.{State}
use Rattle.asc_model.specs.Entry.{Entry}
use Rattle.asc_outside.specs.Outside.{one_more}
use Rattle.asc_guess.specs.Guess.{Task}
use Rattle.asc_find.specs.declared.guessing.Guessing.{Guessing}
use Rattle.asc_traj.specs.declared.made.Made.{Made}
use Rattle.asc_traj.specs.declared.made.Made.TheVariants.{One, Empty, Stopped, Refused}
use Rattle.asc_find.specs.Finder.{Aid, Jumps, Plan}
use Rattle.asc_find.specs.Serial.{Serial, add_joined, due_join}
use Rattle.asc_shard.specs.Content.{add}
use Rattle.asc_run.specs.Walk.{jumps}
use Rattle.asc_run.specs.SerialRun.{serial_of}
use Rattle.asc_run.specs.LastVisits.{tasks_after, issued_after}

-- the machine, the guesses that were planned at the last visit, and what was counted
pub record SerialHelper : Type 0 where
  pub machine : Serial
  pub jobs : List Task
  pub jumps : Jumps
  pub made : ℕ
  pub refused : ℕ

-- one that was not visited yet
abbrev pub first_helper : Shape → Guessing → SerialHelper
first_helper shape guessing =
    record { machine = serial_of shape guessing []; jobs = []; jumps = jumps 0 0 0; made = 0; refused = 0 }

-- one that was not visited yet in a run, which has the entries that the runs before left
abbrev pub begun : SerialHelper → SerialHelper
begun h = record (first_helper h.machine.shape h.machine.guessing) {
  machine = serial_of h.machine.shape h.machine.guessing h.machine.content;
}

-- what was made for it, as a finder tells it
abbrev pub plan_of : SerialHelper → Plan
plan_of h = record { made = h.made; refused = h.refused; full = 0; seen = None; queue = None }

-- The machine, as a finder tells it. It is told until the count of refusals stands at its last value.
abbrev pub told_machine : SerialHelper → Option Serial
told_machine h = if nat_lt h.refused (2 ^ 64 - 1) then Some h.machine else None

-- all that it tells
abbrev pub aid_of : SerialHelper → Aid
aid_of h = record { jumps = h.jumps; replies = None; plan = plan_of h; machine = told_machine h }

-- the guesses of a visit, where there was one before
abbrev pub jobs_at : (number : ℕ) → Serial → List Task
jobs_at number m = tasks_after m.guessing m.issued number m.last

-- the last visit that is guessed once those guesses are made
abbrev pub issued_at : (number : ℕ) → Serial → ℕ
issued_at number m = issued_after m.guessing m.issued number m.last

-- a visit was planned: the state is kept, and its guesses are to be made
abbrev pub planned : (number : ℕ) → State → SerialHelper → SerialHelper
planned number now h = record h {
  machine = record h.machine { prev = h.machine.last; last = Some now; issued = issued_at number h.machine };
  jobs = jobs_at number h.machine;
  made = h.made + length (jobs_at number h.machine);
}

-- memory was wanting for the state: both states are given up, and nothing is to be made
abbrev pub refused_visit : SerialHelper → SerialHelper
refused_visit h = record h {
  machine = record h.machine { prev = None; last = None };
  jobs = [];
  refused = one_more h.refused;
}

-- a visit at a state of another shape: nothing is to be made
abbrev pub passed_over : SerialHelper → SerialHelper
passed_over h = record h { jobs = [] }

-- The visit of a state of the machine's shape was planned, or memory was wanting. One of another shape is passed over.
abbrev pub IsPlanned : (number : ℕ) → State → (old new : SerialHelper) → Type 0
IsPlanned number now old new =
    ((now.shape ≡ old.machine.shape) × ((new ≡ planned number now old) ⊎ (new ≡ refused_visit old)))
    ⊎ ((now.shape ≢ old.machine.shape) × (new ≡ passed_over old))

-- an entry is added to those that it keeps
abbrev pub added : SerialHelper → Entry → SerialHelper
added h e = record h { machine = record h.machine { content = add MOST_ENTRIES h.machine.content e } }

-- an entry is added, and where entries are joined its join too
abbrev pub added_joined : SerialHelper → Entry → SerialHelper
added_joined h e =
    record h { machine = record h.machine { content = add_joined h.machine.guessing.join h.machine.content e } }

-- memory was wanting, and that is counted
abbrev pub one_refused : SerialHelper → SerialHelper
one_refused h = record h { refused = one_more h.refused }

-- What became of a guess is noted: an entry is added, and its join where one is due, unless memory was wanting for that.
abbrev pub IsSettled : (old : SerialHelper) → Made → (new : SerialHelper) → Type 0
IsSettled old (One entry) new = (new ≡ added_joined old (arc_value entry))
    ⊎ ((is_some (due_join old.machine.guessing.join old.machine.content (arc_value entry)) ≡ true)
    × (new ≡ one_refused (added old (arc_value entry))))
IsSettled old Empty new = new ≡ old
IsSettled old Stopped new = new ≡ old
IsSettled old Refused new = new ≡ one_refused old
