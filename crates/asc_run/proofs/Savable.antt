-- What a run without workers keeps may be written to a file: each entry is that of a trace of a guess, or one that two of
-- them join to, and they are few.
use Rattle.std.proofs.Common.{◌≡◌, ℕ, zero, suc, ◌+◌, ◌-◌, ◌≤◌, All, Bool, true, false, List, [], ◌∷◌, ◌++◌, length, Option, Some, None, if◌then◌else◌, refl, sym, subst, ◌∙◌, arith, length-drop}
use Rattle.std.specs.Prelude.{fold, not, ◌&&◌}
use Rattle.std.specs.List.{list_any}
use Rattle.std.specs.Option.{option_or}
use Rattle.std.proofs.lemmas.Bool.{and_parts, leb-true}
use Rattle.std.proofs.lemmas.List.Elements.{All-drop, All-push, All-take, All-head, All-tail}
use Rattle.asc_model.specs.declared.limits.TheConstants.{MOST_ENTRIES, MOST_ENTRY_STEPS, MOST_PLACES}
use Rattle.asc_model.specs.Shape.{Shape}
use Rattle.asc_model.specs.State.{State, IsState}
use Rattle.asc_model.specs.Entry.{Entry, entry_of}
use Rattle.asc_model.specs.EntryFile.{IsSavable, AreSavable}
use Rattle.asc_model.specs.Reach.{Bounds, reach_of}
use Rattle.asc_model.specs.Join.{join_of, can_join, cell_count}
use Rattle.asc_model.proofs.Entries.{entries_are_true}
use Rattle.asc_model.proofs.Joins.{joined, join_of-is}
use Rattle.asc_shape.proofs.Guesses.{AreBytes-strided}
use Rattle.asc_shape.proofs.Strides.{length-strided}
use Rattle.asc_shard.specs.Content.{is_same_entry, last_of, add}
use Rattle.asc_guess.specs.declared.kind.Kind.{Kind}
use Rattle.asc_guess.specs.declared.kind.Kind.TheVariants.{Last, Stride}
use Rattle.asc_guess.specs.Guess.{guess_of, Task}
use Rattle.asc_find.specs.declared.guessing.Guessing.{Guessing}
use Rattle.asc_find.specs.Serial.{Serial, tasks_of, bounds_at, newest_join, add_found, older, add_joined, add_traced, add_guess, after_tasks, visited}
use Rattle.asc_run.specs.Execution.{Position, Progress, On, Off, progress, first_position}
use Rattle.asc_run.specs.Visits.{Course, Visit}
use Rattle.asc_run.specs.Helped.{SerialAt, IsSerial}
use Rattle.asc_run.specs.SerialRun.{serial_of}
use Rattle.asc_run.specs.Laws.{SerialRunsAreSavable}
use Rattle.asc_run.proofs.JoinedFew.{reads-few, writes-few, joined-IsEntry}
use Rattle.asc_run.proofs.Few.{within_span, entry_of-shape, trace-few}
use Rattle.asc_run.proofs.Kept.{course-states}

-- ---- entries that are kept

-- what a file may hold, with one more entry
add-AreSavable : (shape : Shape) (held : List Entry) (e : Entry) → AreSavable shape held → IsSavable shape e → AreSavable shape (add MOST_ENTRIES held e)
add-AreSavable shape held e all one = by_test (list_any (is_same_entry e) held)
  where
    by_test : (b : Bool) → AreSavable shape (if b then held else last_of MOST_ENTRIES (held ++ e ∷ []))
    by_test true = all
    by_test false = let longer = held ++ e ∷ [] in record {
      good = all.good;
      count = omega (arith, length-drop (length longer - MOST_ENTRIES) longer);
      each = All-drop (IsSavable shape) (length longer - MOST_ENTRIES) longer (All-push (IsSavable shape) held e all.each one);
    }

-- what may be written of what is found, of nothing too
abbrev FindsSavable : Shape → Option Entry → Type 0
FindsSavable shape None = Unit {0}
FindsSavable shape (Some e) = IsSavable shape e

-- entries that may be joined have few steps and cells together
can_join-bounds : (a b : Entry) → can_join a b ≡ true → (a.steps + b.steps ≤ MOST_ENTRY_STEPS) × (cell_count a + cell_count b ≤ MOST_PLACES)
can_join-bounds a b can =
    let both = and_parts _ _ can in
    (leb-true (a.steps + b.steps) MOST_ENTRY_STEPS (and_parts _ _ both.0).1, leb-true (cell_count a + cell_count b) MOST_PLACES both.1)

-- the join of two that may be written
joined-IsSavable : (shape : Shape) (a b : Entry) → IsSavable shape a → IsSavable shape b → can_join a b ≡ true → IsSavable shape (joined a b)
joined-IsSavable shape a b first second can =
    let bounds = can_join-bounds a b can in record {
      same = first.same;
      entry = joined-IsEntry a b first.entry second.entry (second.same ∙ sym first.same);
      steps = bounds.0;
      reads = omega (arith, reads-few a b, bounds.1);
      writes = omega (arith, writes-few a b, bounds.1);
    }

join-FindsSavable : (shape : Shape) (a b : Entry) → IsSavable shape a → IsSavable shape b → FindsSavable shape (join_of a b)
join-FindsSavable shape a b first second = subst (FindsSavable shape) (sym (join_of-is a b)) (by_test (can_join a b) refl)
  where
    by_test : (can : Bool) → can_join a b ≡ can → FindsSavable shape (if can then Some (joined a b) else None)
    by_test true can = joined-IsSavable shape a b first second can
    by_test false can = tt

either-FindsSavable : (shape : Shape) (found other : Option Entry) → FindsSavable shape found → FindsSavable shape other → FindsSavable shape (option_or found other)
either-FindsSavable shape None other first second = second
either-FindsSavable shape (Some e) other first second = first

newest-FindsSavable : (shape : Shape) (others : List Entry) (e : Entry) → All (IsSavable shape) others → IsSavable shape e → FindsSavable shape (newest_join others e)
newest-FindsSavable shape [] e all one = tt
newest-FindsSavable shape (a ∷ newer) e all one =
    either-FindsSavable shape (newest_join newer e) (join_of a e) (newest-FindsSavable shape newer e (All-tail (IsSavable shape) a newer all) one)
    (join-FindsSavable shape a e (All-head (IsSavable shape) a newer all) one)

found-AreSavable : (shape : Shape) (content : List Entry) (found : Option Entry) → AreSavable shape content → FindsSavable shape found → AreSavable shape (add_found content found)
found-AreSavable shape content None all one = all
found-AreSavable shape content (Some e) all one = add-AreSavable shape content e all one

-- what a file may hold, with one more entry and its join
joined-AreSavable : (shape : Shape) (join : Bool) (held : List Entry) (e : Entry) → AreSavable shape held → IsSavable shape e → AreSavable shape (add_joined join held e)
joined-AreSavable shape join held e all one = by_test (join && not (list_any (is_same_entry e) held))
  where
    content : List Entry
    content = add MOST_ENTRIES held e

    by_test : (b : Bool) → AreSavable shape (add_found content (if b then newest_join (older content) e else None))
    by_test false = add-AreSavable shape held e all one
    by_test true =
        let kept = add-AreSavable shape held e all one in
        found-AreSavable shape content (newest_join (older content) e) kept (newest-FindsSavable shape (older content) e (All-take (IsSavable shape) (length content - 1) content kept.each) one)

-- the entry of a trace
trace-IsSavable : (bounds : Bounds) (shape : Shape) (start : State) (e : Entry) → IsState start → start.shape ≡ shape → bounds.span ≤ MOST_ENTRY_STEPS → bounds.cap ≡ MOST_PLACES
    → 1 ≤ reach_of bounds start → entry_of (reach_of bounds start) start ≡ Some e → IsSavable shape e
trace-IsSavable bounds shape start e good same span cap some is =
    let few = trace-few bounds start e good some is in
    let whole = entry_of-shape (reach_of bounds start) start e is in
    record {
      same = whole.0 ∙ same;
      entry = (entries_are_true (reach_of bounds start) start e good some is).entry;
      steps = omega (arith, whole.1, within_span bounds start, span);
      reads = omega (arith, few.reads, cap);
      writes = omega (arith, few.writes, cap);
    }

traced-AreSavable : (shape : Shape) (join : Bool) (content : List Entry) (steps : ℕ) (found : Option Entry) → AreSavable shape content → ((e : Entry) → 1 ≤ steps → found ≡ Some e → IsSavable shape e)
    → AreSavable shape (add_traced join content steps found)
traced-AreSavable shape join content steps None all one = all
traced-AreSavable shape join content zero (Some e) all one = all
traced-AreSavable shape join content (suc n) (Some e) all one = joined-AreSavable shape join content e all (one e (omega arith) refl)

-- what is guessed is a state of the last visit's shape
guess-IsState : (kind : Kind) (ahead : ℕ) (prev last : State) → IsState last → IsState (guess_of kind ahead prev last)
guess-IsState Last ahead prev last good = good
guess-IsState Stride ahead prev last good = record {
  shape = good.shape;
  length = length-strided ahead last.bytes prev.bytes ∙ good.length;
  bytes = AreBytes-strided ahead last.bytes prev.bytes;
}

guess-shape : (kind : Kind) (ahead : ℕ) (prev last : State) → (guess_of kind ahead prev last).shape ≡ last.shape
guess-shape Last ahead prev last = refl
guess-shape Stride ahead prev last = refl

-- ---- visits

module _ (shape : Shape) (g : Guessing) (span : g.span ≤ MOST_ENTRY_STEPS) where
  guess-AreSavable : (prev last : State) (content : List Entry) (task : Task) → IsState last → last.shape ≡ shape → AreSavable shape content → AreSavable shape (add_guess g prev last content task)
  guess-AreSavable prev last content task good same all =
      let start = guess_of task.0 task.1 prev last in
      let bounds = bounds_at g last in
      traced-AreSavable shape g.join content (reach_of bounds start) (entry_of (reach_of bounds start) start) all
      (λ e some is. trace-IsSavable bounds shape start e (guess-IsState task.0 task.1 prev last good) (guess-shape task.0 task.1 prev last ∙ same) span refl some is)

  tasks-AreSavable : (prev last : State) (tasks : List Task) (content : List Entry) → IsState last → last.shape ≡ shape → AreSavable shape content → AreSavable shape (fold (add_guess g prev last) content tasks)
  tasks-AreSavable prev last [] content good same all = all
  tasks-AreSavable prev last (task ∷ tasks) content good same all =
      tasks-AreSavable prev last tasks (add_guess g prev last content task) good same (guess-AreSavable prev last content task good same all)

  -- a machine that guesses so, and keeps what a file may hold
  record Keeps (m : Serial) : Type 0 where
    guessing : m.guessing ≡ g
    content : AreSavable shape m.content

  tasks-Keeps : (m : Serial) (number : ℕ) (last : Option State) (now : State) → Keeps m → IsState now → now.shape ≡ shape → Keeps (after_tasks m number last now)
  tasks-Keeps m number None now keeps good same = record { guessing = keeps.guessing; content = keeps.content }
  tasks-Keeps m number (Some last) now keeps good same = record {
    guessing = keeps.guessing;
    content = subst (λ h. AreSavable shape (fold (add_guess h last now) m.content (tasks_of m.guessing m.issued number))) (sym keeps.guessing)
        (tasks-AreSavable last now (tasks_of m.guessing m.issued number) m.content good same keeps.content);
  }

  visited-Keeps : (m : Serial) (number : ℕ) (now : State) → Keeps m → IsState now → now.shape ≡ shape → Keeps (visited number now m)
  unfolding visited
  visited-Keeps m number now keeps good same = tasks-Keeps m number m.last now keeps good same

  visit-Keeps : (limit number : ℕ) (v : Visit) (p : Progress) (m after : Serial) → ((position : Position) → p ≡ On position → IsState position.state × (position.state.shape ≡ shape)) → SerialAt limit number v p m after
      → Keeps m → Keeps after
  visit-Keeps limit number v (On position) m after states at keeps =
      let state = states position refl in
      subst Keeps (sym at.0) (visited-Keeps m number position.state keeps state.0 state.1)
  visit-Keeps limit number v (Off count ended last) m after states at keeps = absurd at

  visits-Keeps : (limit : ℕ) (run : Course) (first : Serial) (visits : List Visit) (now : Serial) (made : ℕ)
      → ((n : ℕ) (position : Position) → run n ≡ On position → IsState position.state × (position.state.shape ≡ shape)) → IsSerial limit run first visits now made → Keeps first → Keeps now
  visits-Keeps limit run first [] now made states serial keeps = subst Keeps (sym serial.0) keeps
  visits-Keeps limit run first (v ∷ before) now made states serial keeps =
      visit-Keeps limit (length before + 1) v (run v.at) serial.0 now (states v.at) serial.3.0
      (visits-Keeps limit run first before serial.0 serial.1 states serial.2 keeps)

pub serial_runs_are_savable : SerialRunsAreSavable
serial_runs_are_savable limit low high start left rule guessing first numbers good bytes span all x =
    let run = progress low high (first_position start low left) in
    (visits-Keeps start.shape guessing span limit run (serial_of start.shape guessing first) x.visits x.now numbers.made
    (course-states low high start left good bytes) x.serial (record { guessing = refl; content = all })).content
