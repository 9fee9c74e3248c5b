-- The machine of a run without workers: it guesses, traces and keeps entries at each visit, and finds jumps in them.
use Rattle.std.specs.Prelude.{ℕ, zero, suc, ◌+◌, ◌-◌, Bool, not, ◌&&◌, List, [], ◌∷◌, ◌++◌, map, length, take, fold, Option, Some, None, if◌then◌else◌}
use Rattle.std.specs.List.{flat_map, list_any}
use Rattle.std.specs.Option.{option_or}
use Rattle.asc_model.specs.declared.limits.TheConstants.{MOST_ENTRIES}
use Rattle.asc_model.specs.Shape.{Shape}
use Rattle.asc_model.specs.State.{State}
use Rattle.asc_model.specs.Machine.{view_of}
use Rattle.asc_model.specs.Entry.{Entry, entry_of}
use Rattle.asc_model.specs.Join.{join_of}
use Rattle.asc_model.specs.Reach.{Bounds, reach_of}
use Rattle.asc_guess.specs.declared.kind.Kind.{Kind}
use Rattle.asc_guess.specs.declared.kind.Kind.TheVariants.{Last, Stride}
use Rattle.asc_guess.specs.Guess.{guess_of, targets_of, Task}
use Rattle.asc_find.specs.declared.guessing.Guessing.{Guessing}
use Rattle.asc_traj.specs.Content.{longest}
use Rattle.asc_traj.specs.Trace.{guess_bounds}
use Rattle.asc_shard.specs.Content.{add, is_same_entry}

-- what the machine is at a moment: its shape and its guessing stay
pub record Serial : Type 0 where
  pub shape : Shape
  pub guessing : Guessing
  -- the states of the last visit and of the one before, once there were such
  pub prev : Option State
  pub last : Option State
  -- the last visit that was guessed
  pub issued : ℕ
  pub content : List Entry

-- what it answers when it is asked for a jump
abbrev pub serial_reply : Serial → State → (left : ℕ) → Option ℕ
serial_reply m s left = longest m.content s left

-- ---- guesses

-- the kinds that are on, in the order in which they are guessed
abbrev pub kinds_of : Guessing → List Kind
kinds_of g = (if g.last then Last ∷ [] else []) ++ (if g.stride then Stride ∷ [] else [])

-- the guesses of a visit, in the order in which they are made
abbrev pub tasks_of : Guessing → (issued number : ℕ) → List Task
tasks_of g issued number =
    flat_map (λ target. map (λ kind. (kind, target - number)) (kinds_of g)) (targets_of issued number g.ahead)

-- ---- entries that are joined

-- the join of an entry behind the newest of others that it may follow; these are listed from the oldest on
abbrev pub newest_join : (others : List Entry) → Entry → Option Entry
newest_join [] e = None
newest_join (a ∷ newer) e = option_or (newest_join newer e) (join_of a e)

-- the content with an entry, where there is one
abbrev pub add_found : List Entry → Option Entry → List Entry
add_found content None = content
add_found content (Some e) = add MOST_ENTRIES content e

-- all entries but the newest
abbrev pub older : List Entry → List Entry
older content = take (length content - 1) content

-- The join that is due of an entry, where entries are joined and it was not held. Then it was put last, and is joined behind
-- the newest of the others that it may follow.
abbrev pub due_join : (join : Bool) → List Entry → Entry → Option Entry
due_join join held e =
    if join && not (list_any (is_same_entry e) held) then newest_join (older (add MOST_ENTRIES held e)) e else None

-- the content with an entry, and with its join where one is due
abbrev pub add_joined : (join : Bool) → List Entry → Entry → List Entry
add_joined join held e = add_found (add MOST_ENTRIES held e) (due_join join held e)

-- ---- traces of guesses

-- a trace of a guess ends at the pc of the last visit
abbrev pub bounds_at : Guessing → (last : State) → Bounds
bounds_at g last = guess_bounds (view_of last).pc g.laps g.span

-- the content with an entry of so many steps, where there were such, and with its join
abbrev pub add_traced : (join : Bool) → List Entry → (steps : ℕ) → Option Entry → List Entry
add_traced join content steps None = content
add_traced join content zero (Some e) = content
add_traced join content (suc n) (Some e) = add_joined join content e

-- the content with the entry of a trace of a state, and with its join
abbrev pub add_trace : (join : Bool) → Bounds → List Entry → State → List Entry
add_trace join bounds content start = let steps = reach_of bounds start in
    add_traced join content steps (entry_of steps start)

-- the content once a guess was traced
abbrev pub add_guess : Guessing → (prev last : State) → List Entry → Task → List Entry
add_guess g prev last content task =
    add_trace g.join (bounds_at g last) content (guess_of task.0 task.1 prev last)

-- ---- visits

-- what a visit does with the states of the last visit and of this one, where there was a last one
abbrev pub after_tasks : Serial → (number : ℕ) → Option State → (now : State) → Serial
after_tasks m number None now = record m { prev = None; last = Some now }
after_tasks m number (Some last) now = record m {
  prev = Some last;
  last = Some now;
  issued = number + m.guessing.ahead;
  content = fold (add_guess m.guessing last now) m.content (tasks_of m.guessing m.issued number);
}

-- the machine after a visit, by the visit's number and state, which is of its shape
unfoldable pub visited : (number : ℕ) → State → Serial → Serial
visited number now m = after_tasks m number m.last now

-- how many guesses it makes there
abbrev pub made_at : (number : ℕ) → Serial → ℕ
made_at number m = elim m.last [ Some last ↦ length (tasks_of m.guessing m.issued number) | None ↦ 0 ]
