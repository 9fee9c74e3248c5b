-- How a plain run meets the addresses of its memory.
use Rattle.std.specs.Prelude.{◌≡◌, ℕ, zero, suc, ◌+◌, ◌-◌, ◌*◌, ◌/◌, ◌<◌, ◌==◌, ◌||◌, Bool, false, nat_le, nat_lt, min, codes, decimal, List, [], ◌++◌, length, filter, slice_index, slice_index_or, Option, Some, None, if◌then◌else◌}
use Rattle.std.specs.List.{list_any, range_with_len}
use Rattle.std.specs.Option.{option_or}
use Rattle.asc_model.specs.Machine.{view_of}
use Rattle.asc_calls.specs.GuestCall.{Device}
use Rattle.asc_calls.specs.World.{World}
use Rattle.asc_guess.specs.Choice.{chosen_address}
use Rattle.asc_run.specs.declared.walk.Ended.{Ended}
use Rattle.asc_run.specs.declared.walk.Ended.TheVariants as ends
use Rattle.asc_run.specs.Execution.{Progress, On, Off, device_of}
use Rattle.asc_run.specs.Visits.{Course, goes_on_at, profile_of}
use Rattle.asc_run.specs.Walk.{Follows, StopsAt}
use Rattle.asc_words.specs.declared.line.RunLine.{RunLine}
use Rattle.asc_words.specs.Report.{word_text}
use Rattle.asc_inspect.specs.declared.answer.Answer.{Answer}
use Rattle.asc_inspect.specs.declared.answer.Answer.TheVariants as answers
use Rattle.asc_inspect.specs.declared.answer.Reached.TheVariants as reached
use Rattle.asc_inspect.specs.declared.meetings.Meetings.{Meetings}
use Rattle.asc_inspect.specs.declared.request.Addresses.{Addresses}
use Rattle.asc_inspect.specs.declared.request.Addresses.TheVariants.{Heads, All}
use Rattle.asc_inspect.specs.Visited.{IsVisit, visits_before}

-- ---- the meetings of an address

-- whether a run goes on both here and one step or guest call later, and that led to no higher address
abbrev pub leads_back : (here later : Progress) → Bool
leads_back (On here) (On later) = nat_le (view_of later.state).pc (view_of here.state).pc
leads_back (On here) (Off count ended last) = false
leads_back (Off count ended last) later = false

-- whether the step or guest call that led to a count led to no higher address
unfoldable pub comes_back : Course → (count : ℕ) → Bool
comes_back run zero = false
comes_back run (suc n) = leads_back (run n) (run (suc n))

-- the counts below this one at which a run goes on at an address
abbrev pub counts_at : (address : ℕ) → Course → (to : ℕ) → List ℕ
counts_at address run to = filter (λ count. goes_on_at (Some address) (run count)) (range_with_len 0 to)

-- how a run's counts below this one meet an address: how many, the least, the greatest (0 where there is none), and whether
-- it came back to it at one of them
unfoldable pub meetings : (address : ℕ) → Course → (to : ℕ) → Meetings
meetings address run to = let counts = counts_at address run to in record {
  times = length counts;
  first = slice_index counts 0;
  last = slice_index counts (length counts - 1);
  back = list_any (comes_back run) counts;
}

-- The meetings of an address are its visits: there are as many, and the first and the last of them are at those counts.
pub record AreItsVisits (address : ℕ) (run : Course) (to : ℕ) (m : Meetings) : Type 0 where
  pub times : m.times ≡ visits_before address run to
  pub first : 0 < m.times → IsVisit address 1 run m.first
  pub last : 0 < m.times → IsVisit address m.times run m.last

abbrev pub MeetingsAreVisits : Type 0
MeetingsAreVisits = (address : ℕ) (run : Course) (to : ℕ) → AreItsVisits address run to (meetings address run to)

-- ---- what a table notes of them

-- an address that was not met
abbrev pub no_meetings : Meetings
no_meetings = record { times = 0; first = 0; last = 0; back = false }

-- it is met at one count more, behind the others
abbrev pub met_again : (count : ℕ) → (back : Bool) → Meetings → Meetings
met_again count back m = record {
  times = m.times + 1;
  first = if m.times == 0 then count else m.first;
  last = count;
  back = m.back || back;
}

-- A table has how a run's counts below one meet each fourth address from a base on. A list has the addresses at the
-- first of these counts, at so many at most.
pub record IsNoted (base profile : ℕ) (table : List Meetings) (list : List (ℕ × ℕ)) (to : ℕ) (run : Course) : Type 0
  where
    pub met : (k : ℕ) → k < length table
        → slice_index_or table k no_meetings ≡ meetings (base + 4 * k) run to
    pub listed : list ≡ profile_of run (min profile to)

-- ---- the text

-- whether an address gets a line
abbrev pub is_listed : Addresses → Meetings → Bool
is_listed Heads m = m.back
is_listed All m = nat_lt 0 m.times

-- what stands at the end of its line, by whether a run came back to it
abbrev pub back_text : Bool → List ℕ
back_text back = if back then codes " back\n" else codes "\n"

-- how often an address is met, and when
abbrev pub counts_text : Meetings → List ℕ
counts_text m =
    codes " met " ++ decimal m.times ++ codes " first " ++ decimal m.first ++ codes " last " ++ decimal m.last

-- the line of an address
abbrev pub meetings_text : (address : ℕ) → Meetings → List ℕ
meetings_text address m = codes "  " ++ word_text address ++ counts_text m ++ back_text m.back

-- the lines of the first words of memory, where each of them is met so
unfoldable pub rows_text : Addresses → (base : ℕ) → (words : ℕ) → (met : ℕ → Meetings) → List ℕ
rows_text addresses base zero met = []
rows_text addresses base (suc k) met = rows_text addresses base k met
    ++ (if is_listed addresses (met k) then meetings_text (base + 4 * k) (met k) else [])

-- how far a run went
abbrev pub until_text : Ended → List ℕ
until_text (ends.Exit code) = codes " up to its end"
until_text (ends.Fault fault) = codes " up to a fault"
until_text ended = codes " up to the limit"

abbrev pub chosen_text : Option ℕ → List ℕ
chosen_text None = codes "none"
chosen_text (Some address) = word_text address

-- the first lines: how many steps there were, how the run ended, and the address that is chosen
abbrev pub heading_text : Ended → (count : ℕ) → (chosen : Option ℕ) → List ℕ
heading_text ended count chosen =
    codes "steps " ++ decimal count ++ until_text ended ++ codes "\nchosen " ++ chosen_text chosen ++ codes "\n"

-- the text of such a run, where each word of memory is met so
abbrev pub profile_text : Ended → (count : ℕ) → (chosen : Option ℕ) → Addresses → (base words : ℕ) → (ℕ → Meetings)
    → List ℕ
profile_text ended count chosen addresses base words met =
    heading_text ended count chosen ++ rows_text addresses base words met

-- the address that a line gives, or else the one that is chosen of a run's first counts
abbrev pub address_of : RunLine → Course → Option ℕ
address_of line run =
    option_or line.pc (chosen_address (profile_of run (min line.profile line.limit)) line.least)

-- ---- what is answered

-- This is the text of the plain run up to the limit, in which no device failed. What was taken from the input, and the
-- count of steps, are that run's.
pub record ShowsProfile (line : RunLine) (addresses : Addresses) (start : World) (left : Option (List ℕ)) (steps : ℕ)
    (text : List ℕ) : Type 0 where
  pub now : World
  pub count : ℕ
  pub ended : Ended
  pub sound : device_of ended ≡ None
  pub follows : Follows line.limit (λ run. text ≡ profile_text ended count (address_of line run) addresses
      start.state.shape.base (start.state.shape.size / 4) (λ k. meetings (start.state.shape.base + 4 * k) run line.limit))
      start now count 0 ended
  pub same_left : left ≡ now.left
  pub same_steps : steps ≡ now.steps

-- a device failed on the plain run, so many steps from its start
pub record ProfileFails (line : RunLine) (start : World) (left : Option (List ℕ)) (steps : ℕ) (ended : Ended) (count : ℕ)
    : Type 0 where
  pub now : World
  pub device : Device
  pub failed : device_of ended ≡ Some device
  pub stops : StopsAt line.limit (λ run. Unit {0}) start now count 0 device
  pub same_left : left ≡ now.left
  pub same_steps : steps ≡ now.steps

-- why there is no text
abbrev pub EndsProfile : RunLine → (start : World) → (left : Option (List ℕ)) → (steps : ℕ) → Answer → Type 0
EndsProfile line start left steps (answers.Ended ended (reached.Steps count)) = ProfileFails line start left steps ended count
EndsProfile line start left steps answers.Memory = Unit {0}
EndsProfile line start left steps answer = ⊥
