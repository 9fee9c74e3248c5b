-- A helper that has others do what it guesses.
use Rattle.std.specs.Prelude.{◌≡◌, ◌⊎◌, ℕ, ◌+◌, ◌/◌, ◌^◌, ◌≤◌, ◌<◌, nat_lt, ◌==◌, ◌&&◌, ◌||◌, not, Bool, true, false, List, [], length, Option, Some, None, if◌then◌else◌}
use Rattle.std.specs.List.{list_any}
use Rattle.std.specs.Option.{is_some}
use Rattle.asc_model.specs.declared.limits.TheConstants.{MOST_AHEAD}
use Rattle.asc_model.specs.Shape.{length_of}
use Rattle.asc_model.specs.State.{State}
use Rattle.asc_outside.specs.Outside.{one_more}
use Rattle.asc_guess.specs.Guess.{targets_of}
use Rattle.asc_jobs.specs.Jobs.{Giver, queue_of}
use Rattle.asc_find.specs.declared.guessing.Guessing.{Guessing}
use Rattle.asc_find.specs.Finder.{Aid, Plan}
use Rattle.asc_find.specs.Serial.{kinds_of, tasks_of}
use Rattle.asc_run.specs.LastVisits.{LastVisits, issued_after}
use Rattle.asc_run.specs.Guessed.{guesses_until}
use Rattle.asc_find.specs.Helper.{seen}
use Rattle.asc_live.specs.Budget.{Budget, new_budget, passes, after_visit, visit_cost}
use Rattle.asc_live.specs.Due.{Due, Pusher, Pushes, new_pusher, full_of, is_filled, is_for_workers, is_offered, jobs_of}

-- the helper of a walk that has workers beside it
pub record Live (F : Type 0) : Type 0 where
  pub finder : F
  pub guessing : Guessing
  -- the states of the last visit and of the one before, where they are kept
  pub prev : Option State
  pub last : Option State
  -- the last visit that was guessed
  pub issued : ℕ
  pub pusher : Pusher
  -- up to which visit all were guessed, where memory never was wanting
  pub seen : Option ℕ
  -- how many workers there are
  pub workers : ℕ
  -- what its visits may cost
  pub budget : Budget

-- what is seen of its fields
abbrev pub live : {F : Type 0} → F → LastVisits → Pusher → (seen : Option ℕ) → (workers : ℕ) → Budget → Live F
live finder visits pusher seen workers budget = record {
  finder = finder;
  guessing = visits.guessing;
  prev = visits.prev;
  last = visits.last;
  issued = visits.issued;
  pusher = pusher;
  seen = seen;
  workers = workers;
  budget = budget;
}

-- one that was not visited yet, and whose queue never had a job
abbrev pub new_live : {F : Type 0} → F → Giver → Guessing → (workers : ℕ) → (knows : Bool) → Live F
new_live finder giver guessing workers knows = record {
  finder = finder;
  guessing = guessing;
  prev = None;
  last = None;
  issued = 0;
  pusher = new_pusher giver;
  seen = Some 0;
  workers = workers;
  budget = new_budget workers knows;
}

-- what was made for it, as a finder tells it: a guess is made where its job is pushed
abbrev pub plan_of : {F : Type 0} → Live F → Plan
plan_of l = record {
  made = length l.pusher.giver.pushed;
  refused = l.pusher.refused;
  full = full_of l.pusher;
  seen = elim l.seen [ Some number ↦ Some (seen number l.guessing) | None ↦ None ];
  queue = Some (queue_of l.pusher.giver);
}

-- what it tells, over a finder that tells so much
abbrev pub told_over : {F : Type 0} → Aid → Live F → Aid
told_over told l = record told { plan = plan_of l; machine = None }

-- The jobs that are due at a visit, by the states of the visit before and of this one. There are none where the former is
-- not kept, and none once 2 ^ 60 were pushed.
abbrev pub due_by : {F : Type 0} → (number : ℕ) → (prev last : Option State) → Live F → List Due
due_by number (Some prev) (Some last) l = if nat_lt (length l.pusher.giver.pushed) (2 ^ 60)
    then jobs_of prev last (tasks_of l.guessing l.issued number) else []
due_by number (Some prev) None l = []
due_by number None last l = []

-- which of them are offered to the workers
abbrev pub offers_at : {F : Type 0} → (number : ℕ) → Live F → Due → Bool
offers_at number l = is_offered (is_filled l.pusher.giver) l.workers number

-- up to which visit all are guessed after a visit, where so often memory was wanting
abbrev pub seen_after : (number refused : ℕ) → Option ℕ → Option ℕ
seen_after number refused (Some before) = if (number == before + 1) && (refused == 0) then Some number else None
seen_after number refused None = None

-- whether a kind of guess is on
abbrev pub is_guessing : Guessing → Bool
is_guessing g = g.last || g.stride

-- whether a visit is passed over
abbrev pub is_passed_over : {F : Type 0} → Live F → Bool
is_passed_over l = passes (is_guessing l.guessing) (is_filled l.pusher.giver) l.budget

-- Whether nobody needs the state of a visit. The queue had been filled up, guesses go by the last state alone, and one is
-- kept. And none of the visits that are to be guessed is the workers'.
abbrev pub is_needless : {F : Type 0} → (number : ℕ) → Live F → Bool
is_needless number l = is_filled l.pusher.giver && not l.guessing.stride && is_some l.last
    && not (list_any (is_for_workers l.workers) (targets_of l.issued number l.guessing.ahead))

-- one whose budget was charged for a visit that copies so many pages, where it pays for it
abbrev pub charged : {F : Type 0} → (pages : ℕ) → Live F → Live F
charged pages l =
    record l { budget = after_visit (is_guessing l.guessing) (is_filled l.pusher.giver) pages l.budget }

-- no job of a visit is pushed, nor offered: for each kind that is on one is counted
abbrev pub given_up : {F : Type 0} → (number : ℕ) → (last : Option State) → Live F → Live F
given_up number last l = record l {
  prev = None;
  last = last;
  issued = number + l.guessing.ahead;
  pusher = record l.pusher { passed = l.pusher.passed + length (kinds_of l.guessing) };
  seen = seen_after number l.pusher.refused l.seen;
}

-- memory is wanting for a visit's state: both states are given up, and no job is pushed
abbrev pub refused_visit : {F : Type 0} → Live F → Live F
refused_visit l = record l {
  prev = None;
  last = None;
  pusher = record l.pusher { refused = one_more l.pusher.refused };
  seen = None;
}

-- A visit is passed over: its state is not kept, and it is not charged.
pub record PassesOver {F : Type 0} (number pages : ℕ) (old new : Live F) : Type 0 where
  pub passed : is_passed_over old ≡ true
  pub rest : new ≡ given_up number None (charged pages old)

-- No kind of guess is on, and a jump is looked for all the same. No state is kept.
pub record LooksAlone {F : Type 0} (number : ℕ) (old new : Live F) : Type 0 where
  pub made : is_passed_over old ≡ false
  pub off : is_guessing old.guessing ≡ false
  pub rest : new ≡ given_up number None (charged 0 old)

-- A visit keeps its state alone: the queue had been filled up, and the state of the visit before was not kept.
pub record BeginsRow {F : Type 0} (number pages : ℕ) (now : State) (old new : Live F) : Type 0 where
  pub made : is_passed_over old ≡ false
  pub on : is_guessing old.guessing ≡ true
  pub filled : is_filled old.pusher.giver ≡ true
  pub alone : old.last ≡ None
  pub rest : new ≡ given_up number (Some now) (charged pages old)

-- A visit keeps no state, since nobody needs it. It copies no page, and the guesses that are due are left to the walk.
pub record KeepsNone {F : Type 0} (number : ℕ) (now : State) (old new : Live F) : Type 0 where
  pub made : is_passed_over old ≡ false
  pub on : is_guessing old.guessing ≡ true
  pub needless : is_needless number old ≡ true
  pub rest : new ≡ record (charged 0 old) {
    issued = issued_after old.guessing old.issued number old.last;
    pusher = record old.pusher { left = old.pusher.left + length (due_by number old.last (Some now) old) };
    seen = seen_after number old.pusher.refused old.seen;
  }

-- At any other visit its state is kept, and the jobs that are due and offered are pushed, but where memory or room is
-- wanting.
pub record Keeps {F : Type 0} (number pages : ℕ) (now : State) (old new : Live F) : Type 0 where
  pub made : is_passed_over old ≡ false
  pub on : is_guessing old.guessing ≡ true
  pub needed : is_needless number old ≡ false
  pub pair : is_filled old.pusher.giver ≡ true → (last : State) × (old.last ≡ Some last)
  pub pushes : Pushes (offers_at number old) (due_by number old.last (Some now) old) old.pusher new.pusher
  pub rest : new ≡ record (charged pages old) {
    prev = old.last;
    last = Some now;
    issued = issued_after old.guessing old.issued number old.last;
    pusher = new.pusher;
    seen = seen_after number new.pusher.refused old.seen;
  }

-- Memory is wanting for the state of a visit that is to be kept.
pub record Refuses {F : Type 0} (number pages : ℕ) (old new : Live F) : Type 0 where
  pub made : is_passed_over old ≡ false
  pub on : is_guessing old.guessing ≡ true
  pub needed : is_needless number old ≡ false
  pub rest : new ≡ refused_visit (charged pages old)

-- what a visit does, where so many pages of its state were written since the last one was kept
abbrev pub LearnsOf : {F : Type 0} → (number pages : ℕ) → State → (old new : Live F) → Type 0
LearnsOf number pages now old new = PassesOver number pages old new
    ⊎ (LooksAlone number old new ⊎ (KeepsNone number now old new
    ⊎ (BeginsRow number pages now old new ⊎ (Keeps number pages now old new ⊎ Refuses number pages old new))))

-- and where these are some of the pages of its shape
abbrev pub LearnsOfWritten : {F : Type 0} → (number : ℕ) → State → (old new : Live F) → Type 0
LearnsOfWritten number now old new =
    (pages : ℕ) × (pages ≤ length_of now.shape / 1024 + 1) × LearnsOf number pages now old new

-- what holds where all visits up to one were guessed
pub record HasSeen {F : Type 0} (number : ℕ) (l : Live F) : Type 0 where
  pub most : number ≤ 2 ^ 40
  pub refused : l.pusher.refused ≡ 0
  pub guesses : length l.pusher.giver.pushed + full_of l.pusher ≡ guesses_until l.guessing number
  pub first : number ≡ 0 → l.last ≡ None
  pub later : is_guessing l.guessing ≡ true → 0 < number
      → ((last : State) × (l.last ≡ Some last)) ⊎ (is_filled l.pusher.giver ≡ true)
  pub none_issued : is_guessing l.guessing ≡ true → number < 2 → l.issued ≡ 0
  pub issued : is_guessing l.guessing ≡ true → 2 ≤ number → l.issued ≡ number + l.guessing.ahead

-- what holds of every such helper
pub record IsLive {F : Type 0} (l : Live F) : Type 0 where
  pub least : 1 ≤ l.guessing.ahead
  pub most : l.guessing.ahead ≤ MOST_AHEAD
  pub issued : l.issued ≤ 2 ^ 41
  pub price : l.budget.cost ≡ visit_cost l.workers
  -- a guess finds no room, or is not offered, only once the queue had been filled up
  pub room : 0 < full_of l.pusher → l.pusher.giver.capacity ≤ length l.pusher.giver.pushed
  pub seen : (number : ℕ) → l.seen ≡ Some number → HasSeen number l
