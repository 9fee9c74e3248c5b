-- Words of private contracts: what a serial helper holds, and what it does.
use Rattle.std.specs.Prelude.{◌≡◌, ◌≢◌, ◌⊎◌, ℕ, ◌≤◌, ◌-◌, true, List, [], ◌∷◌, ◌++◌, map, slice_index_or, Some, IfSome}
use Rattle.std.specs.List.{flat_map, range_with_len}
use Rattle.std.specs.Option.{is_some}
use Rattle.asc_model.specs.declared.limits.TheConstants.{MOST_ENTRIES, MOST_PLACES}
use Rattle.asc_model.specs.State.{State}
use Rattle.asc_model.specs.Entry.{Entry}
use Rattle.asc_guess.specs.declared.kind.Kind.{Kind}
use Rattle.asc_guess.specs.Guess.{guess_of, Task}
use Rattle.asc_find.specs.declared.guessing.Guessing.{Guessing}
use Rattle.asc_traj.specs.declared.made.Made.{Made}
use Rattle.asc_traj.specs.declared.made.Made.TheVariants.{Refused}
use Rattle.asc_traj.specs.Made.{IsMade}
use Rattle.asc_run.specs.declared.serial.Serial.TheInside.{Inside}
use Rattle.asc_run.specs.Walk.{jumps}
use Rattle.asc_find.specs.Serial.{kinds_of, bounds_at, add_found, newest_join}
use Rattle.asc_run.specs.SerialHelper.{SerialHelper, one_refused}

-- the guesses of these targets
abbrev pub tasks_for : Guessing → (number start n : ℕ) → List Task
tasks_for g number start n = flat_map (λ target. map (λ kind. (kind, target - number)) (kinds_of g)) (range_with_len start n)

-- what contracts see of a helper's fields
abbrev pub helper_of : Inside → SerialHelper
helper_of s = record {
  machine = record {
    shape = s.shape;
    guessing = s.visits.guessing;
    prev = s.visits.prev;
    last = s.visits.last;
    issued = s.visits.issued;
    content = s.shard.held;
  };
  jobs = s.visits.jobs;
  jumps = jumps s.asked s.given s.hits;
  made = s.made;
  refused = s.refused;
}

-- what holds of them
pub record IsHelper (s : Inside) : Type 0 where
  pub prev : IfSome s.visits.prev (λ prev. prev.shape ≡ s.shape)
  pub last : IfSome s.visits.last (λ last. last.shape ≡ s.shape)
  pub tracer_shape : s.tracer.shape ≡ s.shape
  pub state_shape : s.tracer.state.shape ≡ s.shape
  pub cap : s.tracer.cap ≡ MOST_PLACES
  pub capacity : s.shard.capacity ≡ MOST_ENTRIES
  pub laps : 1 ≤ s.visits.guessing.laps
  pub span : 1 ≤ s.visits.guessing.span
  pub hits : s.hits ≤ s.asked

-- this became of a job of a helper, unless memory was wanting
abbrev pub MakesJob : SerialHelper → (i : ℕ) → Made → Type 0
MakesJob h i made = (prev last : State) → h.machine.prev ≡ Some prev → h.machine.last ≡ Some last
    → (kind : Kind) (ahead : ℕ) → slice_index_or h.jobs i (kind, ahead) ≡ (kind, ahead)
    → made ≢ Refused → IsMade (bounds_at h.machine.guessing last) (guess_of kind ahead prev last) 0 0 made

-- the join of the entry that stands last was added, where there is one, or memory was wanting for it
abbrev pub AddsJoin : (old new : SerialHelper) → Type 0
AddsJoin old new = (others : List Entry) (e : Entry) → old.machine.content ≡ others ++ e ∷ []
    → (new ≡ record old {
      machine = record old.machine {
        content = add_found old.machine.content (newest_join others e);
      };
    })
    ⊎ ((is_some (newest_join others e) ≡ true) × (new ≡ one_refused old))
