-- What a helper is told at a visit, and what it makes of it.
use Rattle.std.specs.Prelude.{◌≡◌, ℕ, ◌+◌, ◌*◌, ◌≤◌, ◌==◌, nat_lt, length, Some, if◌then◌else◌}
use Rattle.asc_model.specs.declared.limits.TheConstants.{MOST_GUESSES}
use Rattle.asc_model.specs.State.{State}
use Rattle.asc_find.specs.declared.guessing.Guessing.{Guessing}
use Rattle.asc_find.specs.Finder.{Aid, Plan, Seen}
use Rattle.asc_find.specs.Serial.{Serial, kinds_of, visited, made_at}

-- Guesses made, and those that found no room or were not offered, never fall, and together rise by at most MOST_GUESSES a visit.
-- Refusals never fall. The queue stays.
pub record Plans (visits : ℕ) (old new : Plan) : Type 0 where
  pub made : old.made ≤ new.made
  pub full : old.full ≤ new.full
  pub few : new.made + new.full ≤ old.made + old.full + MOST_GUESSES * visits
  pub refused : old.refused ≤ new.refused
  pub queue : new.queue ≡ old.queue

-- a visit in which the machine is told, and memory was not wanting, is the machine's
abbrev pub VisitsMachine : (number : ℕ) → State → (old new : Aid) → Type 0
VisitsMachine number now old new = (m : Serial) → old.machine ≡ Some m → now.shape ≡ m.shape
    → new.plan.refused ≡ old.plan.refused
    → (new.machine ≡ Some (visited number now m)) × (new.plan.made ≡ old.plan.made + made_at number m)

-- how many later visits are guessed at a visit, and were not guessed before
abbrev pub newly_guessed : (ahead number : ℕ) → ℕ
newly_guessed ahead number = if nat_lt number 2 then 0 else (if number == 2 then ahead else 1)

-- how many guesses are due at a visit: one of each kind
abbrev pub guesses_at : Guessing → (number : ℕ) → ℕ
guesses_at g number = length (kinds_of g) * newly_guessed g.ahead number

-- this visit is the last one to which all were guessed
abbrev pub seen : (number : ℕ) → Guessing → Seen
seen number guessing = record { number = number; guessing = guessing }

-- Where it is told up to which visit all were guessed, the next visit is guessed too, if memory is not wanting. Of the
-- guesses that are due each is made, finds no room, or is not offered.
abbrev pub Sees : (number : ℕ) → (old new : Plan) → Type 0
Sees number old new = (before : Seen) → old.seen ≡ Some before → number ≡ before.number + 1
    → new.refused ≡ old.refused → (new.seen ≡ Some (seen number before.guessing))
    × (new.made + new.full ≡ old.made + old.full + guesses_at before.guessing number)
