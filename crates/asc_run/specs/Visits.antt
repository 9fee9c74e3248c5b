-- The visits that a walk leaves on the one plain run: the counts at which its helper is told of the state and asked for
-- a jump, each with the reply.
use Rattle.std.specs.Prelude.{◌≡◌, ℕ, zero, suc, ◌+◌, ◌-◌, ◌≤◌, ◌<◌, Bool, true, false, nat_le, ◌==◌, ◌&&◌, List, [], ◌∷◌, ◌++◌, Option, Some, None}
use Rattle.asc_model.specs.State.{State}
use Rattle.asc_model.specs.Machine.{view_of}
use Rattle.asc_model.specs.Step.{Went}
use Rattle.asc_model.specs.Plain.{plain}
use Rattle.asc_find.specs.Finder.{Jumps, jumps_after}
use Rattle.asc_guess.specs.Choice.{chosen_address}
use Rattle.asc_seek.specs.Heads.{Path}
use Rattle.asc_seek.specs.Seek.{IsSeeking, Seek, new_seek, seek_along, seek_visit, watched_in}
use Rattle.asc_seek.specs.declared.seeker.Seeking.{Seeking}
use Rattle.asc_run.specs.declared.recognised.Recognised.{Recognised}
use Rattle.asc_run.specs.declared.recognised.Recognised.TheVariants as recognised
use Rattle.asc_run.specs.Execution.{Progress, On, Off}

-- how a run goes: how far it has come at each count
abbrev pub Course : Type 0
Course = ℕ → Progress

-- whether a state stands at an address, where there is one
abbrev pub is_at : Option ℕ → State → Bool
is_at None s = false
is_at (Some address) s = (view_of s).pc == address

-- of so many plain steps of a state, none but the last leads to an address, where one is set
abbrev pub Passes : Option ℕ → State → (n : ℕ) → Type 0
Passes address s n =
    (k : ℕ) → 0 < k → k < n → (after : State) → plain k s ≡ Went after → is_at address after ≡ false

-- whether a run goes on there
abbrev pub goes_on_at : Option ℕ → Progress → Bool
goes_on_at address (On position) = is_at address position.state
goes_on_at address (Off count ended last) = false

-- its address and this count, where it goes on
abbrev pub pair_at : ℕ → Progress → List (ℕ × ℕ)
pair_at count (On position) = ((view_of position.state).pc, count) ∷ []
pair_at count (Off n ended last) = []

-- the addresses at a run's first counts, each with its count
unfoldable pub profile_of : Course → (counts : ℕ) → List (ℕ × ℕ)
profile_of run zero = []
profile_of run (suc n) = profile_of run n ++ pair_at n (run n)

-- at how many counts, from 0 on, the address is noted before one is chosen
abbrev pub noted_counts : Recognised → ℕ
noted_counts recognised.Nowhere = 0
noted_counts (recognised.At address) = 0
noted_counts (recognised.Chosen profile least) = profile
noted_counts (recognised.Sought seeking) = 0

-- the bounds of what is noted or sought, and of how often an address has to stand there
abbrev pub HasBounds : Recognised → Type 0
HasBounds recognised.Nowhere = Unit {0}
HasBounds (recognised.At address) = Unit {0}
HasBounds (recognised.Chosen profile least) = (2 ≤ profile) × (profile ≤ 65536) × (2 ≤ least) × (least ≤ 65536)
HasBounds (recognised.Sought seeking) = IsSeeking seeking

pub record Visit : Type 0 where
  -- at which count
  pub at : ℕ
  pub reply : Option ℕ

-- where a walk lands after a visit: behind the jump, or one step on
abbrev pub landing : Visit → ℕ
landing v = v.at + elim v.reply [ Some n ↦ n | None ↦ 1 ]

-- the address at which a run stands, while it goes on
abbrev pub stands_at : Progress → Option ℕ
stands_at (On position) = Some (view_of position.state).pc
stands_at (Off count ended last) = None

abbrev pub path_of : Course → Path
path_of run count = stands_at (run count)

-- Where a search for the address stands at a count, behind the visits so far, of which the newest comes first: it learns of
-- each visit, and goes on from its landing.
unfoldable pub seek_at : Seeking → Course → List Visit → (count : ℕ) → Seek
seek_at s run [] count = seek_along (path_of run) 0 count (new_seek s)
seek_at s run (v ∷ before) count = seek_along (path_of run) (landing v) (count - landing v)
    (seek_visit v.at v.reply (seek_at s run before v.at))

-- at which counts of a run its helper is visited, behind the visits so far, of which the newest comes first
abbrev pub VisitRule : Type 0
VisitRule = List Visit → ℕ → Bool

-- Whether a run is visited at a count: it goes on there at the address that is recognised. One that is chosen of the first
-- counts is looked for behind these, and one that is sought may change.
abbrev pub visit_rule : Recognised → Course → VisitRule
visit_rule recognised.Nowhere run visits count = false
visit_rule (recognised.At address) run visits count = goes_on_at (Some address) (run count)
visit_rule (recognised.Chosen profile least) run visits count =
    nat_le profile count && goes_on_at (chosen_address (profile_of run profile) least) (run count)
visit_rule (recognised.Sought seeking) run visits count =
    goes_on_at (watched_in (seek_at seeking run visits count).phase) (run count)

-- a run goes on at a count, and n plain steps go on from there
abbrev pub GoesPlain : (n : ℕ) → Progress → Type 0
GoesPlain n (On position) = (after : State) × (plain n position.state ≡ Went after)
GoesPlain n (Off count ended last) = ⊥

-- a reply fits a run at a count, below a limit
abbrev pub Fits : (limit : ℕ) → Course → (count : ℕ) → Option ℕ → Type 0
Fits limit run count None = Unit {0}
Fits limit run count (Some n) = (1 ≤ n) × ((count + n ≤ limit) × GoesPlain n (run count))

-- at none of the counts from a to b, b aside, is there a visit
abbrev pub HasNoVisit : (ℕ → Bool) → (a b : ℕ) → Type 0
HasNoVisit rule a b = (count : ℕ) → a ≤ count → count < b → rule count ≡ false

-- Up to a count a run has no visit. From there on, below a limit, it has one wherever it goes on at this address, whatever
-- its visits were.
pub record IsVisitedFrom (limit from : ℕ) (address : Option ℕ) (rule : VisitRule) (run : Course) : Type 0 where
  pub none : HasNoVisit (rule []) 0 from
  pub later : (visits : List Visit) (count : ℕ) → from ≤ count → count < limit
      → rule visits count ≡ goes_on_at address (run count)

-- These are the visits of a walk up to a count, the newest first: each is due behind those before it, its reply
-- fits, and between its landing and the next visit, or the count, there is no visit. Before the first visit there is none
-- either.
abbrev pub AreVisits : (limit : ℕ) → Course → VisitRule → List Visit → (to : ℕ) → Type 0
AreVisits limit run rule [] to = HasNoVisit (rule []) 0 to
AreVisits limit run rule (v ∷ before) to = AreVisits limit run rule before v.at × ((rule before v.at ≡ true)
    × (Fits limit run v.at v.reply × ((landing v ≤ to) × HasNoVisit (rule (v ∷ before)) (landing v) to)))

-- their replies, in the order in which they were given
abbrev pub replies_of : List Visit → List (Option ℕ)
replies_of [] = []
replies_of (v ∷ before) = replies_of before ++ v.reply ∷ []

-- what they add to a finder's counts
abbrev pub jumps_of : List Visit → Jumps → Jumps
jumps_of [] t = t
jumps_of (v ∷ before) t = jumps_after (jumps_of before t) v.reply

-- a landing may be a visit
abbrev pub with_landing : (is_visit : Bool) → (count : ℕ) → Option ℕ → List Visit → List Visit
with_landing true count reply before = record { at = count; reply = reply } ∷ before
with_landing false count reply before = before
