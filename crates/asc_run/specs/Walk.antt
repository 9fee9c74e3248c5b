-- What a walk does to the world.
use Rattle.std.specs.Prelude.{◌≡◌, ℕ, ◌+◌, ◌<◌, List, ◌++◌, Option, Some, None, false}
use Rattle.asc_model.specs.State.{State}
use Rattle.asc_elf.specs.Image.{Image, high_of}
use Rattle.asc_calls.specs.GuestCall.{Io, then_io, IsBeginning, Device}
use Rattle.asc_calls.specs.World.{CallState, Outside, World, DoesIo, MayCome, KnowsEnd}
use Rattle.asc_find.specs.Finder.{Aid, Jumps}
use Rattle.asc_run.specs.declared.walk.Ended.{Ended}
use Rattle.asc_run.specs.declared.walk.Settings.{Settings}
use Rattle.asc_run.specs.declared.recognised.Recognised.{Recognised}
use Rattle.asc_run.specs.declared.recognised.Recognised.TheVariants.{Nowhere}
use Rattle.asc_run.specs.declared.walk.Ended.TheVariants.{Limit}
use Rattle.asc_run.specs.Execution.{Run, exec, Progress, progress, first_position, device_of, StandsAtFailure}
use Rattle.asc_run.specs.Visits.{Course, Visit, visit_rule, VisitRule}
use Rattle.asc_run.specs.Guessed.{SeesAll}
use Rattle.asc_run.specs.Helped.{Helped, HasVisits}

-- A walk: where its program stands, its settings, the steps done or jumped over so far, what was asked for and given,
-- and how it has ended, once it has.
pub record Walk : Type 0 where
  pub state : State
  pub calls : CallState
  pub settings : Settings
  pub count : ℕ
  -- the visits, the steps jumped over, and the jumps
  pub jumps : Jumps
  pub ended : Option Ended

-- what was asked and given, from its three numbers
abbrev pub jumps : (asked given hits : ℕ) → Jumps
jumps asked given hits = record { asked = asked; given = given; hits = hits }

-- a program that has done no step, whose break stands at low, and which has not found the end of its input
pub record HasNotBegun (count : ℕ) (calls : CallState) : Type 0 where
  pub none : count ≡ 0
  pub brk : calls.brk ≡ calls.low
  pub going : calls.ended ≡ false

-- a walk that has not begun
abbrev pub new_walk : Image → Settings → Walk
new_walk image settings = record {
  state = image.start;
  calls = record { low = image.low; high = high_of image; brk = image.low; ended = false };
  settings = settings;
  count = 0;
  jumps = jumps 0 0 0;
  ended = None;
}

-- the world of a walk
abbrev pub world_of : Walk → Outside → World
world_of walk o = record { state = walk.state; calls = walk.calls; outside = o }

-- the run of a program that stands in a world and has not begun, over this input
abbrev pub run_from : (limit : ℕ) → World → List ℕ → Run
run_from limit w left = exec limit w.calls.low w.calls.high w.state left

-- how far that program comes in n steps
abbrev pub progress_from : World → List ℕ → (n : ℕ) → Progress
progress_from w left n = progress w.calls.low w.calls.high (first_position w.state w.calls.low left) n

-- From old to new a program went as plain execution does, up to a limit. What was taken and put is io: over the bytes
-- taken, with whatever input may still come behind them, plain execution takes and puts just that, ends so after as many
-- steps, and goes as is said. Of the steps so many were jumped over.
pub record Follows (limit : ℕ) (Says : Course → Type 0) (old new : World) (count skipped : ℕ) (ended : Ended)
    : Type 0 where
  pub io : Io
  pub does : DoesIo old.outside new.outside io
  pub run : (rest : List ℕ) → MayCome new rest
      → run_from limit old (io.taken ++ rest) ≡ record { ended = ended; count = count; io = io }
  pub says : (rest : List ℕ) → MayCome new rest → Says (progress_from old (io.taken ++ rest))
  pub known : KnowsEnd new
  pub steps : new.steps + skipped ≡ old.steps + count

-- From old to new a program went as plain execution does for count steps, fewer than the limit, and then a device
-- failed in the call at which it stood. The steps took and put io, and what was done of the call is done: over the bytes
-- taken, with whatever input may still come behind them, plain execution limited to these steps takes and puts just io,
-- and up to the limit it begins with io and what was done. It goes as is said.
pub record StopsAt (limit : ℕ) (Says : Course → Type 0) (old new : World) (count skipped : ℕ) (device : Device)
    : Type 0 where
  pub below : count < limit
  pub io : Io
  pub done : Io
  pub does : DoesIo old.outside new.outside (then_io io done)
  pub run : (rest : List ℕ) → MayCome new rest
      → run_from count old (io.taken ++ (done.taken ++ rest)) ≡ record { ended = Limit; count = count; io = io }
  pub says : (rest : List ℕ) → MayCome new rest → Says (progress_from old (io.taken ++ (done.taken ++ rest)))
  pub call : (rest : List ℕ) → MayCome new rest
      → StandsAtFailure old.calls.low old.calls.high device done
      (progress_from old (io.taken ++ (done.taken ++ rest)) count)
  pub begins : (rest : List ℕ) → MayCome new rest
      → IsBeginning (then_io io done) (run_from limit old (io.taken ++ (done.taken ++ rest))).io
  pub known : KnowsEnd new
  pub steps : new.steps + skipped ≡ old.steps + count

-- From old to new a program went as plain execution does, or stopped where a device failed. Of its run it is said what
-- holds up to a count: the limit, or the count behind the failing call.
pub record Goes (limit : ℕ) (Says : (to : ℕ) → Course → Type 0) (old new : World) (count skipped : ℕ) (ended : Ended)
    : Type 0 where
  pub follows : device_of ended ≡ None → Follows limit (Says limit) old new count skipped ended
  pub stops : (device : Device) → device_of ended ≡ Some device
      → StopsAt limit (Says (count + 1)) old new count skipped device

-- It went so with a helper, which was visited by a rule, and came from first to last.
pub record GoesHelped (limit : ℕ) (rule : Course → VisitRule) (old new : World) (first last : Aid) (count skipped : ℕ)
    (ended : Ended) : Type 0 where
  pub visits : List Visit
  pub helped : Helped visits first last
  pub goes : Goes limit (HasVisits limit rule old.state visits first last) old new count skipped ended

-- a helper's counts rose by those of a walk
abbrev pub IsRaisedBy : Jumps → (old new : Jumps) → Type 0
IsRaisedBy walk old new =
    new ≡ jumps (old.asked + walk.asked) (old.given + walk.given) (old.hits + walk.hits)

-- ---- a call of go

-- what the first call does with the walk and the devices
pub record GoesFirst (was now : Walk) (old new : Outside) (first last : Aid) (ended : Ended) : Type 0 where
  -- it goes as plain execution does, or stops where a device failed; the visits are those that the helper's replies
  -- leave on that run
  pub goes : GoesHelped was.settings.limit (visit_rule was.settings.recognised) (world_of was old) (world_of now new) first last
      now.count now.jumps.given ended
  -- where it is told that there was no visit yet, and memory was not wanting, each visit was guessed
  pub seen : SeesAll now.jumps.asked first.plan last.plan
  -- the settings stay
  pub settings : now.settings ≡ was.settings
  -- the answer is kept for a further call
  pub kept : now.ended ≡ Some ended

-- what the first call does with a helper whose counts of jumps were before and are after
pub record HelpsFirst {H : Type 0} (address : Recognised) (walk : Jumps) (old new : H) (before after : Jumps) : Type 0
  where
    -- its counts rise by the walk's
    pub raised : IsRaisedBy walk before after
    -- where no address is to be recognised, it stays as it was
    pub unset : address ≡ Nowhere → new ≡ old

-- the device that failed in a call, where one did: none does once a walk has ended
abbrev pub device_in : (before : Option Ended) → Ended → Option Device
device_in None ended = device_of ended
device_in (Some earlier) ended = None
