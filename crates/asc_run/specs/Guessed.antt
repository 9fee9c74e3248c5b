-- How many guesses are made of a run where each visit is guessed.
use Rattle.std.specs.Prelude.{◌≡◌, ℕ, ◌+◌, ◌-◌, ◌*◌, nat_lt, length, Some, if◌then◌else◌}
use Rattle.asc_find.specs.declared.guessing.Guessing.{Guessing}
use Rattle.asc_find.specs.Finder.{Plan}
use Rattle.asc_find.specs.Helper.{seen}
use Rattle.asc_find.specs.Serial.{kinds_of}

-- how many are due at the visits up to one
abbrev pub guesses_until : Guessing → (number : ℕ) → ℕ
guesses_until g number = if nat_lt number 2 then 0 else length (kinds_of g) * (g.ahead + number - 2)

-- Where it is told that there was no visit yet, and memory was not wanting, so many visits were all guessed.
abbrev pub SeesAll : (visits : ℕ) → (old new : Plan) → Type 0
SeesAll visits old new = (g : Guessing) → old.seen ≡ Some (seen 0 g) → new.refused ≡ old.refused
    → (new.seen ≡ Some (seen visits g)) × (new.made + new.full ≡ old.made + old.full + guesses_until g visits)
