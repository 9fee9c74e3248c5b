-- At which address a run is best visited. A profile is a list of pairs, each an address and a count of steps.
use Rattle.std.specs.Prelude.{ℕ, ◌+◌, ◌-◌, ◌*◌, ◌<◌, Bool, nat_lt, nat_le, ◌==◌, ◌&&◌, ◌||◌, List, [], ◌∷◌, map, filter, fold, length, slice_index_or, Option, Some, None, if◌then◌else◌}
use Rattle.asc_guess.specs.declared.choosing.Candidate.{Candidate}

-- the counts of a profile rise
abbrev pub CountsRise : List (ℕ × ℕ) → Type 0
CountsRise profile = (k : ℕ) (d : ℕ × ℕ) → k + 1 < length profile
    → (slice_index_or profile k d).1 < (slice_index_or profile (k + 1) d).1

-- the counts at which an address stands
abbrev pub counts_with : List (ℕ × ℕ) → (address : ℕ) → List ℕ
counts_with profile address = map (λ pair. pair.1) (filter (λ pair. pair.0 == address) profile)

-- from the first number of a list to the last
abbrev pub distance_in : List ℕ → ℕ
distance_in [] = 0
distance_in (x ∷ xs) = slice_index_or (x ∷ xs) (length xs) x - x

-- how often an address stands in a profile, and how many steps lie between the first time and the last
abbrev pub candidate_of : List (ℕ × ℕ) → (address : ℕ) → Candidate
candidate_of profile address = let counts = counts_with profile address in
    record { address = address; times = length counts; distance = distance_in counts }

-- An address is better where its times lie further apart on average, by distance / (times - 1), both of at least two
-- times. Of two that lie as far apart that is better which stands there more often, and then the lower one.
abbrev pub is_better : Candidate → Candidate → Bool
is_better a b = let x = a.distance * (b.times - 1) in let y = b.distance * (a.times - 1) in
    nat_lt y x || ((x == y) && (nat_lt b.times a.times || ((a.times == b.times) && nat_lt a.address b.address)))

abbrev pub better_of : Option Candidate → Candidate → Option Candidate
better_of None c = Some c
better_of (Some best) c = if is_better c best then Some c else Some best

-- the best address of those that stand in a profile at least so many times, which are at least 2
unfoldable pub chosen_address : List (ℕ × ℕ) → (least : ℕ) → Option ℕ
chosen_address profile least = elim (fold better_of None
    (filter (λ c. nat_le least c.times) (map (λ pair. candidate_of profile pair.0) profile))) [
      | Some best ↦ Some best.address
      | None ↦ None
    ]
