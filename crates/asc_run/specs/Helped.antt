-- What a walk does with its helper.
use Rattle.std.specs.Prelude.{◌≡◌, ℕ, ◌+◌, ◌-◌, ◌<◌, Bool, true, false, List, [], ◌∷◌, length, Option, Some}
use Rattle.asc_model.specs.State.{State}
use Rattle.asc_find.specs.Finder.{Aid, Tells}
use Rattle.asc_find.specs.Helper.{Plans}
use Rattle.asc_find.specs.Serial.{Serial, serial_reply, visited, made_at}
use Rattle.asc_run.specs.Execution.{Progress, On, Off}
use Rattle.asc_run.specs.Visits.{Course, Visit, AreVisits, replies_of, jumps_of, VisitRule}

-- the counts that a walk raises are below a bound
pub record HasRoom (bound : ℕ) (a : Aid) : Type 0 where
  pub asked : a.jumps.asked < bound
  pub given : a.jumps.given < bound
  pub made : a.plan.made < bound
  pub full : a.plan.full < bound

-- from old to new a helper was asked at these visits
pub record Helped (visits : List Visit) (old new : Aid) : Type 0 where
  pub jumps : new.jumps ≡ jumps_of visits old.jumps
  pub replies : Tells (replies_of visits) old.replies new.replies
  pub plans : Plans (length visits) old.plan new.plan

-- ---- the machine of a run without workers

-- at a visit of this number the machine went on by the visit's state, and gave the reply
abbrev pub SerialAt : (limit number : ℕ) → Visit → Progress → (m after : Serial) → Type 0
SerialAt limit number v (On position) m after =
    (after ≡ visited number position.state m) × (v.reply ≡ serial_reply after position.state (limit - v.at))
SerialAt limit number v (Off count ended last) m after = ⊥

-- these visits, the newest first, took a machine from first to now, with so many guesses
abbrev pub IsSerial : (limit : ℕ) → Course → (first : Serial) → List Visit → (now : Serial) → (made : ℕ) → Type 0
IsSerial limit run first [] now made = (now ≡ first) × (made ≡ 0)
IsSerial limit run first (v ∷ before) now made = (m : Serial) × (earlier : ℕ)
    × IsSerial limit run first before m earlier
    × (SerialAt limit (length before + 1) v (run v.at) m now × (made ≡ earlier + made_at (length before + 1) m))

-- where a machine of the run's shape is told, and memory was not wanting, the helper is that machine still
abbrev pub KeepsMachine : (limit : ℕ) → (start : State) → List Visit → (old new : Aid) → Course → Type 0
KeepsMachine limit start visits old new run = (m : Serial) → old.machine ≡ Some m → start.shape ≡ m.shape
    → new.plan.refused ≡ old.plan.refused
    → (now : Serial) × (made : ℕ) × (new.machine ≡ Some now) × (now.shape ≡ m.shape)
    × (IsSerial limit run m visits now made × (new.plan.made ≡ old.plan.made + made))

-- All that a walk says of a run up to a count: these are its visits; and where its helper tells a machine, the replies
-- and the guesses are that machine's.
pub record HasVisits (limit : ℕ) (rule : Course → VisitRule) (start : State) (visits : List Visit) (old new : Aid)
    (to : ℕ) (run : Course) : Type 0 where
  pub are : AreVisits limit run (rule run) visits to
  pub serial : KeepsMachine limit start visits old new run

-- What a landing in a state does with the helper's machine, where it is told. Where that is a visit, the machine's shape
-- is the state's, and memory was not wanting, it went on by the state, and gave the reply.
abbrev pub Lands : (is_visit : Bool) → (before : ℕ) → State → (left : ℕ) → (reply : Option ℕ) → (old new : Aid)
    → Type 0
Lands false before s left reply old new = (new.machine ≡ old.machine) × (new.plan ≡ old.plan)
Lands true before s left reply old new = (m : Serial) → old.machine ≡ Some m → s.shape ≡ m.shape
    → new.plan.refused ≡ old.plan.refused → (new.machine ≡ Some (visited (before + 1) s m))
    × ((new.plan.made ≡ old.plan.made + made_at (before + 1) m)
    × (reply ≡ serial_reply (visited (before + 1) s m) s left))
