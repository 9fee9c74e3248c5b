-- The places that several steps read first and write: the dependency vector (Waterland and others, "ASC: Automatically
-- Scalable Computation", ASPLOS 2014, section 4.2).
use Rattle.std.specs.Prelude.{ℕ, zero, suc, Bool, not, ◌==◌, List, [], ◌++◌, filter}
use Rattle.std.specs.List.{list_any}
use Rattle.asc_model.specs.State.{State}
use Rattle.asc_model.specs.Step.{Went, Call, Faulted, next}
use Rattle.asc_model.specs.Places.{places_read, places_written}

-- whether a place is in a list
abbrev pub is_among : ℕ → List ℕ → Bool
is_among place places = list_any (λ other. other == place) places

-- the places of a list that are not in another
abbrev pub without : List ℕ → List ℕ → List ℕ
without others places = filter (λ place. not (is_among place others)) places

-- The places that n steps of a state, where they all go on, read before any of them writes there: those that the first
-- step reads, and those that the others read so and the first one does not write.
unfoldable pub first_reads : ℕ → State → List ℕ
first_reads zero s = []
first_reads (suc n) s = elim (next s) [
  | Went after ↦ places_read s ++ without (places_written s) (first_reads n after)
  | Call ↦ []
  | Faulted fault ↦ []
]

-- the places that n steps of a state write, where they all go on
unfoldable pub written_in : ℕ → State → List ℕ
written_in zero s = []
written_in (suc n) s = elim (next s) [
  | Went after ↦ places_written s ++ written_in n after
  | Call ↦ []
  | Faulted fault ↦ []
]
