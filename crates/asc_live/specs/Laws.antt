-- The laws of how many guesses are made, and of the workers' share of them.
use Rattle.std.specs.Prelude.{◌≡◌, ℕ, ◌+◌, ◌-◌, ◌*◌, ◌/◌, ◌<◌, nat_lt, Option, Some}
use Rattle.asc_find.specs.declared.guessing.Guessing.{Guessing}
use Rattle.asc_find.specs.Finder.{Plan}
use Rattle.asc_jobs.specs.Jobs.{Queue}
use Rattle.asc_run.specs.Guessed.{SeesAll, guesses_until}
use Rattle.asc_find.specs.Helper.{seen}
use Rattle.asc_live.specs.Due.{is_for_workers}

-- what a helper tells that was not visited yet
abbrev pub new_plan : Guessing → Option Queue → Plan
new_plan guessing queue = record { made = 0; refused = 0; full = 0; seen = Some (seen 0 guessing); queue = queue }

-- Where such a helper was visited so often, and memory never was wanting, each guess that was due was made, or found no
-- room or was not offered.
abbrev pub GuessesAreCounted : Type 0
GuessesAreCounted = (guessing : Guessing) (queue : Option Queue) (visits : ℕ) (first last : Plan)
    → first ≡ new_plan guessing queue
    → SeesAll visits first last → last.refused ≡ 0 → last.made + last.full ≡ guesses_until guessing visits

-- so many workers' share of the visits up to one, in whole ones: W of W + 1
abbrev pub share : (workers visits : ℕ) → ℕ
share workers visits = visits * workers / (workers + 1)

-- The guesses of a visit are the workers' just where their share of the visits rises.
abbrev pub SharesRise : Type 0
SharesRise = (workers target : ℕ) → 0 < target
    → is_for_workers workers target ≡ nat_lt (share workers (target - 1)) (share workers target)
