-- A visit: its plan, and what its jobs add one after another.
use Rattle.std.proofs.Common.{◌≡◌, ◌≢◌, ◌⊎◌, inl, inr, ◌<◌, ◌≤◌, ◌+◌, ◌-◌, ◌^◌, ℕ, zero, suc, Bool, true, false, List, length, get_or, take, Option, Some, None, refl, sym, ap, ◌∙◌, subst, arith}
use Rattle.std.specs.Prelude.{nat_lt, fold, if◌then◌else◌}
use Rattle.std.specs.Arc.{arc_value}
use Rattle.std.proofs.lemmas.Bool.{ltb-true, lt-ltb}
use Rattle.std.proofs.lemmas.List.{take_more, take_all, get_or_default}
use Rattle.std.proofs.lemmas.List.Sums.{fold_push}
use Rattle.asc_model.specs.declared.limits.TheConstants.{MOST_ENTRIES}
use Rattle.asc_outside.specs.Outside.{one_more}
use Rattle.asc_model.specs.State.{State}
use Rattle.asc_model.specs.Entry.{Entry, entry_of}
use Rattle.asc_model.specs.Reach.{Bounds, reach_of}
use Rattle.asc_guess.specs.declared.kind.Kind.TheVariants.{Last}
use Rattle.asc_guess.specs.Guess.{guess_of, Task}
use Rattle.asc_traj.specs.declared.made.Made.{Made}
use Rattle.asc_traj.specs.declared.made.Made.TheVariants.{One, Empty, Stopped, Refused}
use Rattle.asc_traj.specs.Made.{IsMade}
use Rattle.asc_find.specs.declared.guessing.Guessing.{Guessing}
use Rattle.asc_find.specs.Serial.{Serial, tasks_of, bounds_at, add_joined, add_traced, add_trace, add_guess, after_tasks, visited, made_at}
use Rattle.asc_shard.specs.Content.{add}
use Rattle.asc_run.specs.LastVisits.{tasks_after, issued_after}
use Rattle.asc_run.specs.SerialHelper.{SerialHelper, told_machine, jobs_at, planned, IsPlanned, added_joined, one_refused, IsSettled}
use Rattle.asc_run.specs.SerialInside.{MakesJob}

-- ---- one job

-- the content after what became of a guess
abbrev content_after : (join : Bool) → List Entry → Made → List Entry
content_after join content (One entry) = add_joined join content (arc_value entry)
content_after join content Empty = content
content_after join content Stopped = content
content_after join content Refused = content

add_traced-some : (join : Bool) (content : List Entry) (n : ℕ) (traced : Option Entry) (e : Entry) → 0 < n → traced ≡ Some e → add_traced join content n traced ≡ add_joined join content e
add_traced-some join content zero traced e some is = absurd (let x : ⊥ = omega arith in x)
add_traced-some join content (suc n) traced e some is = ap (add_traced join content (suc n)) is

add_traced-zero : (join : Bool) (content : List Entry) (traced : Option Entry) → add_traced join content 0 traced ≡ content
add_traced-zero join content None = refl
add_traced-zero join content (Some e) = refl

-- what was made of a guess is added, unless memory was wanting
add-made : (join : Bool) (bounds : Bounds) (content : List Entry) (guess : State) (made : Made) → IsMade bounds guess 0 0 made → made ≢ Refused → content_after join content made ≡ add_trace join bounds content guess
add-made join bounds content guess (One entry) m r = sym (add_traced-some join content (reach_of bounds guess) (entry_of (reach_of bounds guess) guess) (arc_value entry) m.0 m.1)
add-made join bounds content guess Empty m r =
    sym (ap (λ n. add_traced join content n (entry_of (reach_of bounds guess) guess)) m.0 ∙ add_traced-zero join content (entry_of (reach_of bounds guess) guess))
add-made join bounds content guess Stopped m r = let e : 0 ≡ 1 = m.1 in absurd (omega (arith, e))
add-made join bounds content guess Refused m r = absurd (r refl)

-- ---- all jobs

-- the last value of a count
abbrev last_count : ℕ
last_count = 2 ^ 64 - 1

-- what the first i jobs of a plan leave: the entries that they made were added, unless memory was wanting
pub record Works (plan now : SerialHelper) (i : ℕ) : Type 0 where
  pub jobs : now.jobs ≡ plan.jobs
  pub jumps : now.jumps ≡ plan.jumps
  pub made : now.made ≡ plan.made
  pub refused : plan.refused ≤ now.refused
  pub machine : now.machine ≡ record plan.machine { content = now.machine.content }
  pub content : (prev last : State) → plan.machine.prev ≡ Some prev → plan.machine.last ≡ Some last → now.refused ≡ plan.refused → plan.refused < last_count
      → now.machine.content ≡ fold (add_guess plan.machine.guessing prev last) plan.machine.content (take i plan.jobs)
  pub none : i ≡ 0 → now ≡ plan

fold-more : (f : List Entry → Task → List Entry) (a : List Entry) (jobs : List Task) (i : ℕ) (d : Task) → i < length jobs → fold f a (take (i + 1) jobs) ≡ f (fold f a (take i jobs)) (get_or jobs i d)
fold-more f a jobs i d l = ap (fold f a) (take_more jobs i d l) ∙ fold_push f a (take i jobs) (get_or jobs i d)

-- the content after one job more
content-more : (plan now : SerialHelper) (i : ℕ) (made : Made) → Works plan now i → i < length plan.jobs → MakesJob now i made → made ≢ Refused → (prev last : State) → plan.machine.prev ≡ Some prev → plan.machine.last ≡ Some last
    → now.refused ≡ plan.refused → plan.refused < last_count → content_after now.machine.guessing.join now.machine.content made ≡ fold (add_guess plan.machine.guessing prev last) plan.machine.content (take (i + 1) plan.jobs)
content-more plan now i made w l m r prev last p q same below =
    let d : Task = (Last, 0) in
    let task = get_or plan.jobs i d in
    let f = add_guess plan.machine.guessing prev last in
    let prev_is : now.machine.prev ≡ Some prev = ap (λ (x : Serial). x.prev) w.machine ∙ p in
    let last_is : now.machine.last ≡ Some last = ap (λ (x : Serial). x.last) w.machine ∙ q in
    let guessing : now.machine.guessing ≡ plan.machine.guessing = ap (λ (x : Serial). x.guessing) w.machine in
    let here : get_or now.jobs i (task.0, task.1) ≡ (task.0, task.1) = ap (λ xs. get_or xs i (task.0, task.1)) w.jobs ∙ get_or_default plan.jobs i (task.0, task.1) d l in
    let is = m prev last prev_is last_is task.0 task.1 here r in
    let one = add-made now.machine.guessing.join (bounds_at now.machine.guessing last) now.machine.content (guess_of task.0 task.1 prev last) made is r in
    one
    ∙ ap (λ (g : Guessing). add_trace g.join (bounds_at g last) now.machine.content (guess_of task.0 task.1 prev last)) guessing
    ∙ ap (λ content. f content task) (w.content prev last p q same below)
    ∙ sym (fold-more f plan.machine.content plan.jobs i d l)

-- where memory was wanting, nothing is said of the content
works-refused : (plan now : SerialHelper) (content : List Entry) (i : ℕ) → Works plan now i → Works plan (one_refused (record now { machine = record now.machine { content = content } })) (i + 1)
works-refused plan now content i w = record {
  jobs = w.jobs;
  jumps = w.jumps;
  made = w.made;
  refused = let r = w.refused in omega (arith, r);
  machine = ap (λ (x : Serial). let y : Serial = record x { content = content } in y) w.machine;
  content = λ prev last p q same below. absurd (let r = w.refused in let x : ⊥ = omega (arith, r, same, below) in x);
  none = λ e. absurd (let x : ⊥ = omega arith in x);
}

-- what became of a guess is noted, and memory was not wanting for a join
abbrev settled : SerialHelper → Made → SerialHelper
settled h (One entry) = added_joined h (arc_value entry)
settled h Empty = h
settled h Stopped = h
settled h Refused = one_refused h

works-settled : (plan now : SerialHelper) (i : ℕ) (made : Made) → Works plan now i → i < length plan.jobs → MakesJob now i made → Works plan (settled now made) (i + 1)
works-settled plan now i (One entry) w l m = record {
  jobs = w.jobs;
  jumps = w.jumps;
  made = w.made;
  refused = w.refused;
  machine = ap (λ (x : Serial). let y : Serial = record x { content = add_joined now.machine.guessing.join now.machine.content (arc_value entry) } in y) w.machine;
  content = content-more plan now i (One entry) w l m (λ e. absurd (cc));
  none = λ e. absurd (let x : ⊥ = omega arith in x);
}
works-settled plan now i Empty w l m = record {
  jobs = w.jobs;
  jumps = w.jumps;
  made = w.made;
  refused = w.refused;
  machine = w.machine;
  content = content-more plan now i Empty w l m (λ e. absurd (cc));
  none = λ e. absurd (let x : ⊥ = omega arith in x);
}
works-settled plan now i Stopped w l m = record {
  jobs = w.jobs;
  jumps = w.jumps;
  made = w.made;
  refused = w.refused;
  machine = w.machine;
  content = content-more plan now i Stopped w l m (λ e. absurd (cc));
  none = λ e. absurd (let x : ⊥ = omega arith in x);
}
works-settled plan now i Refused w l m = works-refused plan now now.machine.content i w

-- what was made is noted, with its join or without
settled-by : (old : SerialHelper) (made : Made) (new : SerialHelper) → IsSettled old made new
    → (new ≡ settled old made) ⊎ ((content : List Entry) × (new ≡ one_refused (record old { machine = record old.machine { content = content } })))
settled-by old (One entry) new (inl e) = inl e
settled-by old (One entry) new (inr (join, e)) = inr (add MOST_ENTRIES old.machine.content (arc_value entry), e)
settled-by old Empty new e = inl e
settled-by old Stopped new e = inl e
settled-by old Refused new e = inl e

pub works-more : (plan now between next : SerialHelper) (i : ℕ) (made : Made) → Works plan now i → i < length plan.jobs → between ≡ now → MakesJob now i made → IsSettled between made next → Works plan next (i + 1)
works-more plan now between next i made w l e m f = elim (settled-by between made next f) [
  | inl is ↦ subst (λ h. Works plan h (i + 1)) (sym (is ∙ ap (λ h. settled h made) e)) (works-settled plan now i made w l m)
  | inr (content, is) ↦
      subst (λ h. Works plan h (i + 1)) (sym (is ∙ ap (λ (h : SerialHelper). one_refused (record h { machine = record h.machine { content = content } })) e)) (works-refused plan now content i w)
]

-- ---- the visit

-- a plan leaves the counts of a finder, and refusals do not fall; it makes as many guesses as there are jobs
pub record Counts (old plan : SerialHelper) : Type 0 where
  pub jumps : plan.jumps ≡ old.jumps
  pub made : plan.made ≡ old.made + length plan.jobs
  pub refused : old.refused ≤ plan.refused

-- the machine after a visit's plan, with this content
abbrev worked : (number : ℕ) → Option State → State → List Entry → Serial → Serial
worked number last now content m = record m {
  prev = last;
  last = Some now;
  issued = issued_after m.guessing m.issued number last;
  content = content;
}

-- the content after all of a visit's guesses
abbrev content_at : (number : ℕ) → Option State → State → Serial → List Entry
content_at number None now m = m.content
content_at number (Some last) now m = fold (add_guess m.guessing last now) m.content (tasks_of m.guessing m.issued number)

after_tasks-is : (number : ℕ) (last : Option State) (now : State) (m : Serial) → worked number last now (content_at number last now m) m ≡ after_tasks m number last now
after_tasks-is number None now m = refl
after_tasks-is number (Some last) now m = refl

visited-is : (number : ℕ) (now : State) (m : Serial) → worked number m.last now (content_at number m.last now m) m ≡ visited number now m
unfolding visited
visited-is number now m = after_tasks-is number m.last now m

jobs-made : (number : ℕ) (last : Option State) (m : Serial)
    → length (tasks_after m.guessing m.issued number last) ≡ elim last [ Some s ↦ length (tasks_of m.guessing m.issued number) | None ↦ 0 ]
jobs-made number None m = refl
jobs-made number (Some s) m = refl

-- the content once all jobs are done
content-done : (number : ℕ) (now : State) (old done : SerialHelper) (i : ℕ) (last : Option State) → old.machine.last ≡ last → Works (planned number now old) done i → i ≡ length (jobs_at number old.machine) → done.refused ≡ old.refused → old.refused < last_count
    → done.machine.content ≡ content_at number last now old.machine
content-done number now old done i None e w n same below =
    let none : length (jobs_at number old.machine) ≡ 0 = ap (λ (z : Option State). length (tasks_after old.machine.guessing old.machine.issued number z)) e in
    ap (λ (h : SerialHelper). h.machine.content) (w.none (n ∙ none))
content-done number now old done i (Some last) e w n same below =
    let f = add_guess old.machine.guessing last now in
    let all : take i (jobs_at number old.machine) ≡ jobs_at number old.machine = take_all i (jobs_at number old.machine) (omega (arith, n)) in
    let jobs : jobs_at number old.machine ≡ tasks_of old.machine.guessing old.machine.issued number = ap (tasks_after old.machine.guessing old.machine.issued number) e in
    w.content last now e refl same below ∙ ap (fold f old.machine.content) (all ∙ jobs)

visit-done : (number : ℕ) (now : State) (old done : SerialHelper) (i : ℕ) → Works (planned number now old) done i → i ≡ length (jobs_at number old.machine) → done.refused ≡ old.refused → old.refused < last_count
    → done.machine ≡ visited number now old.machine
visit-done number now old done i w n same below =
    w.machine
    ∙ ap (λ content. worked number old.machine.last now content old.machine) (content-done number now old done i old.machine.last refl w n same below)
    ∙ visited-is number now old.machine

-- what is told of a machine
told-by : (below : Bool) (m told : Serial) → (if below then Some m else None) ≡ Some told → (below ≡ true) × (m ≡ told)
told-by true m told e = (refl, cc)
told-by false m told e = cc

told-below : (h : SerialHelper) → nat_lt h.refused last_count ≡ true → h.refused < last_count
told-below h e = ltb-true h.refused last_count e

told-again : (h : SerialHelper) (m : Serial) → h.refused < last_count → h.machine ≡ m → told_machine h ≡ Some m
told-again h m below e = ap (λ b. if b then Some h.machine else None) (lt-ltb h.refused last_count below) ∙ ap (λ (x : Serial). Some x) e

-- a visit in which the machine was told, and memory was not wanting, is the machine's
pub visit-is : (number : ℕ) (now : State) (old plan done : SerialHelper) (i : ℕ) → IsPlanned number now old plan → Works plan done i → i ≡ length plan.jobs → (m : Serial) → told_machine old ≡ Some m → now.shape ≡ m.shape → done.refused ≡ old.refused
    → (told_machine done ≡ Some (visited number now m)) × (done.made ≡ old.made + made_at number m)
visit-is number now old plan done i (inl (shape, inl p)) w n m told of_shape same =
    let t = told-by (nat_lt old.refused last_count) old.machine m told in
    let below = told-below old t.0 in
    let v = subst (λ h. Works h done i) p w in
    let k : i ≡ length (jobs_at number old.machine) = n ∙ ap (λ (h : SerialHelper). length h.jobs) p in
    let is = visit-done number now old done i v k same below in (
      told-again done (visited number now m) (omega (arith, same, below)) (is ∙ ap (visited number now) t.1),
      v.made ∙ ap (λ k. old.made + k) (jobs-made number old.machine.last old.machine ∙ ap (made_at number) t.1),
    )
visit-is number now old plan done i (inl (shape, inr p)) w n m told of_shape same =
    let below = told-below old (told-by (nat_lt old.refused last_count) old.machine m told).0 in
    let r = w.refused in
    let q : plan.refused ≡ one_more old.refused = ap (λ (h : SerialHelper). h.refused) p in
    absurd (let x : ⊥ = omega (arith, below, r, q, same) in x)
visit-is number now old plan done i (inr (other, p)) w n m told of_shape same =
    let t = told-by (nat_lt old.refused last_count) old.machine m told in
    absurd (other (of_shape ∙ ap (λ (x : Serial). x.shape) (sym t.1)))
