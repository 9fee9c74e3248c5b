-- Up to which visit all were guessed.
use Rattle.std.proofs.Common.{◌≡◌, inl, inr, not, ◌||◌, ◌∷◌, ◌++◌, ◌≤◌, ◌<◌, ◌+◌, ◌-◌, ◌*◌, ◌^◌, ◌==◌, ◌&&◌, ℕ, zero, suc, Bool, true, false, List, [], length, Option, Some, None, refl, sym, ap, ◌∙◌, subst, arith, nat_lt, if◌then◌else◌}
use Rattle.std.specs.Prelude.{max}
use Rattle.std.specs.Option.{is_some}
use Rattle.std.proofs.lemmas.Bool.{le-ltb, lt-ltb}
use Rattle.std.proofs.lemmas.Bool.Decides.{eqb_tells}
use Rattle.asc_model.specs.State.{State}
use Rattle.asc_guess.specs.declared.kind.Kind.TheVariants.{Last, Stride}
use Rattle.asc_outside.specs.Outside.{one_more}
use Rattle.asc_jobs.specs.Jobs.{Giver, queue_of}
use Rattle.asc_find.specs.declared.guessing.Guessing.{Guessing}
use Rattle.asc_find.specs.Finder.{Seen}
use Rattle.asc_find.specs.Helper.{Plans, Sees, seen, newly_guessed, guesses_at}
use Rattle.asc_find.specs.Serial.{kinds_of, tasks_of}
use Rattle.asc_run.proofs.Seeings.{newly-later, guesses_until-more}
use Rattle.asc_run.specs.LastVisits.{LastVisits, forgotten, issued_after, skipped}
use Rattle.asc_live.specs.Budget.{Budget, after_visit, pays}
use Rattle.asc_live.specs.Due.{Due, Pusher, Pushes, full_of, is_filled, jobs_of, raised}
use Rattle.asc_live.specs.Live.{Live, IsLive, HasSeen, LearnsOf, live, plan_of, charged, due_by, given_up, is_guessing, is_needless, is_passed_over, offers_at, seen_after}
use Rattle.asc_live.proofs.Pushing.{nothing, Pushes-few, Pushes-none-offered, both-true, filled-is, full-is, pushed-length, room-more}
use Rattle.asc_live.proofs.Tasks.{kinds-few, twice, visit-length}

-- whatever finder it asks, and whatever is left for visits of this cost
pub IsLive-asked : {F : Type 0} (l : Live F) (finder : F) (budget : Budget) → budget.cost ≡ l.budget.cost → IsLive l → IsLive (record l { finder = finder; budget = budget })
IsLive-asked l finder budget same q = record {
  price = same ∙ q.price;
  least = q.least;
  most = q.most;
  issued = q.issued;
  room = q.room;
  seen = λ number e. let h = q.seen number e in record {
    most = h.most;
    refused = h.refused;
    guesses = h.guesses;
    first = h.first;
    later = h.later;
    none_issued = h.none_issued;
    issued = h.issued;
  };
}

-- ---- how many jobs are due

if-few : (b : Bool) (xs : List Due) → length (if b then xs else []) ≤ length xs
if-few true xs = omega arith
if-few false xs = omega arith

count-few : (b : Bool) (number ahead issued : ℕ) → (if b then 0 else number + ahead - max issued number) ≤ ahead
count-few true number ahead issued = omega arith
count-few false number ahead issued = let a : number ≤ max issued number = omega arith in omega (arith, a)

pub due-few : {F : Type 0} (number : ℕ) (last : Option State) (now : State) (l : Live F) → l.guessing.ahead ≤ 64 → length (due_by number last (Some now) l) ≤ 128
due-few number None now l most = omega arith
due-few number (Some last) now l most =
    let jobs = jobs_of last now (tasks_of l.guessing l.issued number) in
    let count = if nat_lt number 2 then 0 else number + l.guessing.ahead - max l.issued number in
    let some = if-few (nat_lt (length l.pusher.giver.pushed) (2 ^ 60)) jobs in
    let all = visit-length last now l.guessing l.issued number in
    let pairs = twice (length (kinds_of l.guessing)) count (kinds-few l.guessing) in
    let few = count-few (nat_lt number 2) number l.guessing.ahead l.issued in
    omega (arith, some, all, pairs, few, most)

until-few : (b : Bool) (k a n : ℕ) → k ≤ 2 → (if b then 0 else k * (a + n - 2)) ≤ 2 * (a + n)
until-few true k a n h = omega arith
until-few false k a n h = let t = twice k (a + n - 2) h in omega (arith, t)

pushed-few : {F : Type 0} (n : ℕ) (l : Live F) → IsLive l → HasSeen n l → length l.pusher.giver.pushed < 2 ^ 60
pushed-few n l q h =
    let few = until-few (nat_lt n 2) (length (kinds_of l.guessing)) l.guessing.ahead n (kinds-few l.guessing) in
    let g = h.guesses in let m = h.most in let a = q.most in
    omega (arith, few, g, m, a)

-- where the visits up to n were guessed, and the state of the last one is kept
due-some : {F : Type 0} (n count : ℕ) (last now : State) (l : Live F) → length l.pusher.giver.pushed < 2 ^ 60
    → (if nat_lt (n + 1) 2 then 0 else n + 1 + l.guessing.ahead - max l.issued (n + 1)) ≡ newly_guessed l.guessing.ahead (n + 1)
    → length (due_by (n + 1) (Some last) (Some now) l) ≡ guesses_at l.guessing (n + 1)
due-some n count last now l room e =
    rw (lt-ltb (length l.pusher.giver.pushed) (2 ^ 60) room)
    (visit-length last now l.guessing l.issued (n + 1) ∙ ap (λ m. length (kinds_of l.guessing) * m) e)

-- the state of the last visit is there, where the next one is kept
last-kept : {F : Type 0} (n : ℕ) (l : Live F) → HasSeen n l → is_guessing l.guessing ≡ true → (is_filled l.pusher.giver ≡ true → (last : State) × (l.last ≡ Some last)) → 0 < n → (last : State) × (l.last ≡ Some last)
last-kept n l h on pair some = elim (h.later on some) [ inl is ↦ is | inr filled ↦ pair filled ]

pub due-seen : {F : Type 0} (n : ℕ) (now : State) (l : Live F) → IsLive l → HasSeen n l → is_guessing l.guessing ≡ true → (is_filled l.pusher.giver ≡ true → (last : State) × (l.last ≡ Some last))
    → length (due_by (n + 1) l.last (Some now) l) ≡ guesses_at l.guessing (n + 1)
due-seen zero now l q h on pair = subst (λ last. length (due_by 1 last (Some now) l) ≡ guesses_at l.guessing 1) (sym (h.first refl)) (omega arith)
due-seen (suc zero) now l q h on pair =
    let is = last-kept 1 l h on pair (omega arith) in
    let none = h.none_issued on (omega arith) in
    subst (λ last. length (due_by 2 last (Some now) l) ≡ guesses_at l.guessing 2) (sym is.1)
    (due-some 1 0 is.0 now l (pushed-few 1 l q h) (omega (arith, none)))
due-seen (suc (suc m)) now l q h on pair =
    let n : ℕ = suc (suc m) in
    let is = last-kept (suc (suc m)) l h on pair (omega arith) in
    let issued = h.issued on (omega arith) in
    let least = q.least in
    let one : n + 1 + l.guessing.ahead - max l.issued (n + 1) ≡ 1 = omega (arith, issued, least) in
    subst (λ last. length (due_by (n + 1) last (Some now) l) ≡ guesses_at l.guessing (n + 1)) (sym is.1)
    (due-some n 0 is.0 now l (pushed-few n l q h)
    (subst (λ b. (if b then 0 else n + 1 + l.guessing.ahead - max l.issued (n + 1)) ≡ newly_guessed l.guessing.ahead (n + 1)) (sym (le-ltb (n + 1) 2 (omega arith)))
    (one ∙ sym (newly-later l.guessing.ahead n (omega arith)))))

-- ---- counts that rise

raised-grows : (count n : ℕ) → count ≤ raised count n
raised-grows count zero = omega arith
raised-grows count (suc n) = let x = raised-grows count n in omega (arith, x)

raised-none : (n : ℕ) → raised 0 n ≡ 0 → n ≡ 0
raised-none zero e = refl
raised-none (suc n) e = absurd (let x : ⊥ = omega (arith, e) in x)

-- where memory was not wanting, each job that is due was pushed, found no room or was not offered
all-made : (offers : Due → Bool) (due : List Due) (p q : Pusher) → Pushes offers due p q → p.refused ≡ 0 → q.refused ≡ 0 → length q.giver.pushed + full_of q ≡ length p.giver.pushed + full_of p + length due
all-made offers due p q s e f =
    let none = raised-none s.wanting (ap (λ c. raised c s.wanting) (sym e) ∙ sym s.refused ∙ f) in
    let more = pushed-length offers due p q s in
    omega (arith, none, more, s.all, s.rest, full-is offers due p q s)

-- ---- one visit more

-- what a visit leaves that keeps its state, by what it leaves of the pusher
abbrev after : {F : Type 0} → (number pages : ℕ) → State → (old : Live F) → Pusher → Live F
after number pages now old p = record (charged pages old) {
  prev = old.last;
  last = Some now;
  issued = issued_after old.guessing old.issued number old.last;
  pusher = p;
  seen = seen_after number p.refused old.seen;
}

-- of what it is told that all visits up to it were guessed
told-is : (o : Option ℕ) (g : Guessing) (before : Seen) → (elim o [ Some number ↦ Some (seen number g) | None ↦ None ]) ≡ Some before → (o ≡ Some before.number) × (g ≡ before.guessing)
told-is None g before e = absurd (cc)
told-is (Some number) g before e =
    let same : seen number g ≡ before = cc in
    (ap (λ (s : Seen). Some s.number) same, ap (λ (s : Seen). s.guessing) same)

told-number : (number n : ℕ) (a b : Bool) → a ≡ true → b ≡ true → (if a && b then Some number else None) ≡ Some n → n ≡ number
told-number number n true true p q e = cc
told-number number n true false p q e = absurd (cc)
told-number number n false b p q e = absurd (cc)

untold : (number n : ℕ) (a b : Bool) → b ≡ false → (if a && b then Some number else None) ≡ Some n → ⊥
untold number n true true p e = cc
untold number n true false p e = cc
untold number n false b p e = cc

untold' : (number n : ℕ) (a b : Bool) → a ≡ false → (if a && b then Some number else None) ≡ Some n → ⊥
untold' number n true b p e = cc
untold' number n false b p e = cc

-- the next one was guessed too
seen-next : (n : ℕ) → seen_after (n + 1) 0 (Some n) ≡ Some (n + 1)
seen-next n = elim (eqb_tells (n + 1) (n + 1)) [ inl p ↦ rw p.0 refl | inr p ↦ absurd (p.1 refl) ]

-- where it is told of the next one, it was told of this one, and memory was not wanting
seen-was : (number refused n : ℕ) (before : Option ℕ) → seen_after number refused before ≡ Some n
    → (b : ℕ) × (before ≡ Some b) × ((number ≡ b + 1) × ((refused ≡ 0) × (n ≡ number)))
seen-was number refused n None e = absurd (cc)
seen-was number refused n (Some b) e = elim (eqb_tells number (b + 1)) [
  | inl p ↦ elim (eqb_tells refused 0) [
    | inl q ↦ (b, refl, (p.1, (q.1, told-number number n (number == b + 1) (refused == 0) p.0 q.0 e)))
    | inr q ↦ absurd (untold number n (number == b + 1) (refused == 0) q.0 e)
  ]
  | inr p ↦ absurd (untold' number n (number == b + 1) (refused == 0) p.0 e)
]

pushes-sees : {F : Type 0} (offers : Due → Bool) (n : ℕ) (now : State) (old : Live F) (p : Pusher) → IsLive old → HasSeen n old → is_guessing old.guessing ≡ true → (is_filled old.pusher.giver ≡ true → (last : State) × (old.last ≡ Some last))
    → Pushes offers (due_by (n + 1) old.last (Some now) old) old.pusher p → p.refused ≡ 0
    → length p.giver.pushed + full_of p ≡ length old.pusher.giver.pushed + full_of old.pusher + guesses_at old.guessing (n + 1)
pushes-sees offers n now old p q h on pair pushes none =
    all-made offers (due_by (n + 1) old.last (Some now) old) old.pusher p pushes h.refused none
    ∙ ap (λ m. length old.pusher.giver.pushed + full_of old.pusher + m) (due-seen n now old q h on pair)

issued-none : {F : Type 0} (n : ℕ) (now : State) (old : Live F) → HasSeen n old → is_guessing old.guessing ≡ true → n + 1 < 2 → issued_after old.guessing old.issued (n + 1) old.last ≡ 0
issued-none n now old h on few =
    let z : n ≡ 0 = omega (arith, few) in
    ap (λ last. issued_after old.guessing old.issued (n + 1) last) (h.first z) ∙ h.none_issued on (omega (arith, few))

issued-some : {F : Type 0} (n : ℕ) (now : State) (old : Live F) → HasSeen n old → is_guessing old.guessing ≡ true → (is_filled old.pusher.giver ≡ true → (last : State) × (old.last ≡ Some last)) → 2 ≤ n + 1 → issued_after old.guessing old.issued (n + 1) old.last ≡ n + 1 + old.guessing.ahead
issued-some n now old h on pair more =
    let last = last-kept n old h on pair (omega (arith, more)) in
    ap (λ last. issued_after old.guessing old.issued (n + 1) last) last.1

after-seen : {F : Type 0} (n pages : ℕ) (now : State) (old : Live F) (p : Pusher) → n + 1 ≤ 2 ^ 40 → IsLive old → HasSeen n old → is_guessing old.guessing ≡ true → (is_filled old.pusher.giver ≡ true → (last : State) × (old.last ≡ Some last)) → Pushes (offers_at (n + 1) old) (due_by (n + 1) old.last (Some now) old) old.pusher p → p.refused ≡ 0
    → HasSeen (n + 1) (after (n + 1) pages now old p)
after-seen n pages now old p most q h on pair pushes none = record {
  most = most;
  refused = none;
  guesses = pushes-sees (offers_at (n + 1) old) n now old p q h on pair pushes none ∙ ap (λ m. m + guesses_at old.guessing (n + 1)) h.guesses ∙ sym (guesses_until-more old.guessing n);
  first = λ z. absurd (let x : ⊥ = omega (arith, z) in x);
  later = λ _ some. inl (now, refl);
  none_issued = issued-none n now old h;
  issued = λ on. issued-some n now old h on pair;
}

issued-small : {F : Type 0} (number : ℕ) (last : Option State) (now : State) (old : Live F) → number ≤ 2 ^ 40 → old.guessing.ahead ≤ 64 → old.issued ≤ 2 ^ 41 → issued_after old.guessing old.issued number last ≤ 2 ^ 41
issued-small number None now old most ahead issued = issued
issued-small number (Some last) now old most ahead issued = omega (arith, most, ahead)

-- guesses find no room, or are not offered, only once the queue had been filled up
room-after : (offers : Due → Bool) (due : List Due) (p q : Pusher) → Pushes offers due p q → (0 < full_of p → p.giver.capacity ≤ length p.giver.pushed) → 0 < full_of q → q.giver.capacity ≤ length q.giver.pushed
room-after offers due p q s was some =
    let more = pushed-length offers due p q s in
    subst (λ c. c ≤ length q.giver.pushed) (sym (ap (λ (g : Giver). g.capacity) s.giver))
    (room-more (full_of p) (s.lacked + s.left) p.giver.capacity (length p.giver.pushed) (length q.giver.pushed) was s.room (omega (arith, more)) (omega (arith, some, full-is offers due p q s)))

after-live : {F : Type 0} (number pages : ℕ) (now : State) (old : Live F) (p : Pusher) → number ≤ 2 ^ 40 → IsLive old → is_guessing old.guessing ≡ true → (is_filled old.pusher.giver ≡ true → (last : State) × (old.last ≡ Some last)) → Pushes (offers_at number old) (due_by number old.last (Some now) old) old.pusher p → IsLive (after number pages now old p)
after-live number pages now old p most q on pair pushes = record {
  least = q.least;
  most = q.most;
  issued = issued-small number old.last now old most q.most q.issued;
  price = q.price;
  room = room-after (offers_at number old) (due_by number old.last (Some now) old) old.pusher p pushes q.room;
  seen = λ n e.
      let was = seen-was number p.refused n old.seen e in
      let h = q.seen was.0 was.1 in
      subst (λ m. HasSeen m (after number pages now old p)) (sym was.2.1.1)
      (subst (λ m. HasSeen m (after m pages now old p)) (sym was.2.0)
      (after-seen was.0 pages now old p (omega (arith, most, was.2.0)) q h on pair (subst (λ m. Pushes (offers_at m old) (due_by m old.last (Some now) old) old.pusher p) was.2.0 pushes) was.2.1.0));
}

-- ---- a visit of which no job is pushed

-- where no kind of guess is on, no guess is due
no-kinds-by : (a b : Bool) → a || b ≡ false → length ((if a then Last ∷ [] else []) ++ (if b then Stride ∷ [] else [])) ≡ 0
no-kinds-by true b e = absurd (cc)
no-kinds-by false true e = absurd (cc)
no-kinds-by false false e = refl

no-kinds : (g : Guessing) → is_guessing g ≡ false → length (kinds_of g) ≡ 0
no-kinds g off = no-kinds-by g.last g.stride off

-- where one is on, the queue had been filled up before a visit is passed over
passes-filled : (guesses filled paid knows : Bool) → guesses ≡ true → (if guesses then filled && not paid else not (knows && paid)) ≡ true → filled ≡ true
passes-filled true true paid knows on e = refl
passes-filled true false paid knows on e = absurd (cc)
passes-filled false filled paid knows on e = absurd (cc)

-- one is not on and off
on-and-off : (guesses : Bool) → guesses ≡ false → guesses ≡ true → ⊥
on-and-off true off on = cc
on-and-off false off on = cc

passed-filled : {F : Type 0} (l : Live F) → is_passed_over l ≡ true → is_guessing l.guessing ≡ true → is_filled l.pusher.giver ≡ true
passed-filled l passed on = passes-filled (is_guessing l.guessing) (is_filled l.pusher.giver) (pays l.budget) l.budget.knows on passed

-- two visits were seen before, since jobs were pushed
given_up-later : {F : Type 0} (n : ℕ) (old : Live F) → HasSeen n old → is_filled old.pusher.giver ≡ true → 2 ≤ n
given_up-later zero old h filled = let some = filled-is old.pusher.giver filled in let g = h.guesses in absurd (let x : ⊥ = omega (arith, some.0, g) in x)
given_up-later (suc zero) old h filled = let some = filled-is old.pusher.giver filled in let g = h.guesses in absurd (let x : ⊥ = omega (arith, some.0, g) in x)
given_up-later (suc (suc n)) old h filled = omega arith

-- one guess of each kind is due
kinds-later : (g : Guessing) (n : ℕ) → 2 ≤ n → length (kinds_of g) ≡ guesses_at g (n + 1)
kinds-later g n later =
    (let one : length (kinds_of g) ≡ length (kinds_of g) * 1 = omega arith in one) ∙ ap (λ m. length (kinds_of g) * m) (sym (newly-later g.ahead n later))

kinds-none : (g : Guessing) (n : ℕ) → is_guessing g ≡ false → length (kinds_of g) ≡ guesses_at g (n + 1)
kinds-none g n off = let none = no-kinds g off in
    none ∙ (let z : 0 ≡ 0 * newly_guessed g.ahead (n + 1) = omega arith in z) ∙ ap (λ k. k * newly_guessed g.ahead (n + 1)) (sym none)

given_up-kinds : {F : Type 0} (n : ℕ) (old : Live F) → HasSeen n old → (on : Bool) → is_guessing old.guessing ≡ on → (is_guessing old.guessing ≡ true → is_filled old.pusher.giver ≡ true)
    → length (kinds_of old.guessing) ≡ guesses_at old.guessing (n + 1)
given_up-kinds n old h true on room = kinds-later old.guessing n (given_up-later n old h (room on))
given_up-kinds n old h false off room = kinds-none old.guessing n off

given_up-sees : {F : Type 0} (n : ℕ) (last : Option State) (old : Live F) → HasSeen n old → (is_guessing old.guessing ≡ true → is_filled old.pusher.giver ≡ true)
    → length old.pusher.giver.pushed + full_of (given_up (n + 1) last old).pusher ≡ length old.pusher.giver.pushed + full_of old.pusher + guesses_at old.guessing (n + 1)
given_up-sees n last old h room = let kinds = given_up-kinds n old h (is_guessing old.guessing) refl room in omega (arith, kinds)

given_up-seen : {F : Type 0} (n : ℕ) (last : Option State) (old : Live F) → n + 1 ≤ 2 ^ 40 → HasSeen n old → (is_guessing old.guessing ≡ true → is_filled old.pusher.giver ≡ true)
    → HasSeen (n + 1) (given_up (n + 1) last old)
given_up-seen n last old most h room = record {
  most = most;
  refused = h.refused;
  guesses = given_up-sees n last old h room ∙ ap (λ m. m + guesses_at old.guessing (n + 1)) h.guesses ∙ sym (guesses_until-more old.guessing n);
  first = λ z. absurd (let x : ⊥ = omega (arith, z) in x);
  later = λ on some. inr (room on);
  none_issued = λ on few. let later = given_up-later n old h (room on) in absurd (let x : ⊥ = omega (arith, few, later) in x);
  issued = λ on more. refl;
}

-- a guess is not offered only once the queue had been filled up
given_up-room : {F : Type 0} (number : ℕ) (last : Option State) (old : Live F) → (0 < full_of old.pusher → old.pusher.giver.capacity ≤ length old.pusher.giver.pushed)
    → (on : Bool) → is_guessing old.guessing ≡ on → (is_guessing old.guessing ≡ true → is_filled old.pusher.giver ≡ true)
    → 0 < full_of (given_up number last old).pusher → old.pusher.giver.capacity ≤ length old.pusher.giver.pushed
given_up-room number last old was true on room some = (filled-is old.pusher.giver (room on)).1
given_up-room number last old was false off room some = was (let none = no-kinds old.guessing off in omega (arith, some, none))

pub given_up-live : {F : Type 0} (number : ℕ) (last : Option State) (old : Live F) → number ≤ 2 ^ 40 → IsLive old → (is_guessing old.guessing ≡ true → is_filled old.pusher.giver ≡ true)
    → IsLive (given_up number last old)
given_up-live number last old most q room = record {
  least = q.least;
  most = q.most;
  issued = let ahead = q.most in omega (arith, most, ahead);
  price = q.price;
  room = given_up-room number last old q.room (is_guessing old.guessing) refl room;
  seen = λ n e.
      let was = seen-was number old.pusher.refused n old.seen e in
      subst (λ m. HasSeen m (given_up number last old)) (sym was.2.1.1)
      (subst (λ m. HasSeen m (given_up m last old)) (sym was.2.0)
      (given_up-seen was.0 last old (omega (arith, most, was.2.0)) (q.seen was.0 was.1) room));
}

-- whatever is left for visits
charged-live : {F : Type 0} (pages : ℕ) (old : Live F) → IsLive old → IsLive (charged pages old)
charged-live pages old q = IsLive-asked old old.finder (charged pages old).budget refl q

given_up-plans : {F : Type 0} (number pages : ℕ) (last : Option State) (old : Live F) → Plans 1 (plan_of old) (plan_of (given_up number last (charged pages old)))
given_up-plans number pages last old =
    let few = kinds-few old.guessing in
    record { made = omega arith; full = omega arith; few = omega (arith, few); refused = omega arith; queue = refl }

given_up-told : {F : Type 0} (number pages : ℕ) (last : Option State) (old : Live F) → IsLive old → (is_guessing old.guessing ≡ true → is_filled old.pusher.giver ≡ true)
    → Sees number (plan_of old) (plan_of (given_up number last (charged pages old)))
given_up-told number pages last old q room before told next same =
    let is = told-is old.seen old.guessing before told in
    let h = q.seen before.number is.0 in
    let seen_is : seen_after number old.pusher.refused old.seen ≡ Some number = (λ i. seen_after (next i) (h.refused i) (is.0 i)) ∙ seen-next before.number ∙ ap Some (sym next) in (
      ap (λ (o : Option ℕ). elim o [ Some m ↦ Some (seen m old.guessing) | None ↦ None ]) seen_is ∙ ap (λ g. Some (seen number g)) is.1,
      given_up-sees before.number last old h room
          ∙ (λ i. length old.pusher.giver.pushed + full_of old.pusher + guesses_at (is.1 i) (sym next i)),
    )

-- where all visits before were seen, memory never was wanting
seen-without : (number refused : ℕ) (before : Option ℕ) → ((n : ℕ) → before ≡ Some n → refused ≡ 0) → seen_after number refused before ≡ seen_after number 0 before
seen-without number refused None none = refl
seen-without number refused (Some n) none = ap (λ r. seen_after number r (Some n)) (none n refl)

-- what is left of the fields where one is passed over
pub passed-is : {F : Type 0} (number : ℕ) (finder : F) (visits : LastVisits) (pusher : Pusher) (before : Option ℕ) (workers : ℕ) (budget : Budget)
    (visits' : LastVisits) (pusher' : Pusher) (after : Option ℕ) (budget' : Budget) → IsLive (live finder visits pusher before workers budget)
    → visits' ≡ skipped number (forgotten visits) → pusher' ≡ record pusher { passed = pusher.passed + length (kinds_of visits.guessing) }
    → after ≡ seen_after number 0 before → budget' ≡ after_visit (is_guessing visits.guessing) (is_filled pusher.giver) 0 budget
    → live finder visits' pusher' after workers budget' ≡ given_up number None (charged 0 (live finder visits pusher before workers budget))
passed-is number finder visits pusher before workers budget visits' pusher' after budget' q v p s b =
    let seen = s ∙ sym (seen-without number pusher.refused before (λ n e. (q.seen n e).refused)) in
    λ j. live finder (v j) (p j) (seen j) workers (b j)

-- one that is passed over
pub passed-live : {F : Type 0} (number pages : ℕ) (old : Live F) → number ≤ 2 ^ 40 → IsLive old → is_passed_over old ≡ true → IsLive (given_up number None (charged pages old))
passed-live number pages old most q passed = given_up-live number None (charged pages old) most (charged-live pages old q) (passed-filled old passed)

-- ---- a visit that nobody needs

-- what it leaves
abbrev pub left-alone : {F : Type 0} → (number : ℕ) → State → (old : Live F) → Live F
left-alone number now old = record (charged 0 old) {
  issued = issued_after old.guessing old.issued number old.last;
  pusher = record old.pusher { left = old.pusher.left + length (due_by number old.last (Some now) old) };
  seen = seen_after number old.pusher.refused old.seen;
}

some-kept : (o : Option State) → is_some o ≡ true → (last : State) × (o ≡ Some last)
some-kept None e = absurd (cc)
some-kept (Some last) e = (last, refl)

-- the queue had been filled up, and a state is kept
pub needless-is : {F : Type 0} (number : ℕ) (l : Live F) → is_needless number l ≡ true → (is_filled l.pusher.giver ≡ true) × ((last : State) × (l.last ≡ Some last))
needless-is number l e =
    let kept = both-true _ _ e in
    let lone = both-true _ _ kept.0 in
    ((both-true _ _ lone.0).0, some-kept l.last lone.1)

left-pushes : {F : Type 0} (number : ℕ) (now : State) (old : Live F) → is_needless number old ≡ true → Pushes nothing (due_by number old.last (Some now) old) old.pusher (left-alone number now old).pusher
left-pushes number now old e = Pushes-none-offered _ old.pusher (filled-is old.pusher.giver (needless-is number old e).0).1

left-seen : {F : Type 0} (n : ℕ) (now : State) (old : Live F) → n + 1 ≤ 2 ^ 40 → IsLive old → HasSeen n old → is_guessing old.guessing ≡ true → is_needless (n + 1) old ≡ true → HasSeen (n + 1) (left-alone (n + 1) now old)
left-seen n now old most q h on e =
    let is = needless-is (n + 1) old e in
    record {
      most = most;
      refused = h.refused;
      guesses = pushes-sees nothing n now old (left-alone (n + 1) now old).pusher q h on (λ _. is.1) (left-pushes (n + 1) now old e) h.refused
          ∙ ap (λ m. m + guesses_at old.guessing (n + 1)) h.guesses ∙ sym (guesses_until-more old.guessing n);
      first = λ z. absurd (let x : ⊥ = omega (arith, z) in x);
      later = λ _ some. inr is.0;
      none_issued = issued-none n now old h;
      issued = λ on. issued-some n now old h on (λ _. is.1);
    }

pub left-live : {F : Type 0} (number : ℕ) (now : State) (old : Live F) → number ≤ 2 ^ 40 → IsLive old → is_guessing old.guessing ≡ true → is_needless number old ≡ true → IsLive (left-alone number now old)
left-live number now old most q on e = record {
  least = q.least;
  most = q.most;
  issued = issued-small number old.last now old most q.most q.issued;
  price = q.price;
  room = room-after nothing (due_by number old.last (Some now) old) old.pusher (left-alone number now old).pusher (left-pushes number now old e) q.room;
  seen = λ n f.
      let was = seen-was number old.pusher.refused n old.seen f in
      subst (λ m. HasSeen m (left-alone number now old)) (sym was.2.1.1)
      (subst (λ m. HasSeen m (left-alone m now old)) (sym was.2.0)
      (left-seen was.0 now old (omega (arith, most, was.2.0)) q (q.seen was.0 was.1) on (subst (λ m. is_needless m old ≡ true) was.2.0 e)));
}

left-plans : {F : Type 0} (number : ℕ) (now : State) (old : Live F) → IsLive old → is_needless number old ≡ true → Plans 1 (plan_of old) (plan_of (left-alone number now old))
left-plans number now old q e =
    let grown = Pushes-few nothing _ _ _ (left-pushes number now old e) in
    let few = due-few number old.last now old q.most in
    record { made = grown.0; full = grown.1.0; few = (let x = grown.1.1 in omega (arith, x, few)); refused = omega arith; queue = refl }

left-told : {F : Type 0} (number : ℕ) (now : State) (old : Live F) → IsLive old → is_guessing old.guessing ≡ true → is_needless number old ≡ true → Sees number (plan_of old) (plan_of (left-alone number now old))
left-told number now old q on e before told next same =
    let is = told-is old.seen old.guessing before told in
    let h = q.seen before.number is.0 in
    let p = (left-alone number now old).pusher in
    let pushes = subst (λ m. Pushes nothing (due_by m old.last (Some now) old) old.pusher p) next (left-pushes number now old e) in
    let seen_is : seen_after number old.pusher.refused old.seen ≡ Some number = (λ i. seen_after (next i) (h.refused i) (is.0 i)) ∙ seen-next before.number ∙ ap Some (sym next) in (
      ap (λ (o : Option ℕ). elim o [ Some m ↦ Some (seen m old.guessing) | None ↦ None ]) seen_is ∙ ap (λ g. Some (seen number g)) is.1,
      pushes-sees nothing before.number now old p q h on (λ _. (needless-is number old e).1) pushes h.refused
          ∙ (λ i. length old.pusher.giver.pushed + full_of old.pusher + guesses_at (is.1 i) (sym next i)),
    )

-- ---- any visit

-- what a visit leaves is such a helper
pub visit-live : {F : Type 0} (number pages : ℕ) (now : State) (old new : Live F) → number ≤ 2 ^ 40 → IsLive old → LearnsOf number pages now old new → IsLive new
visit-live number pages now old new most q (inl v) = subst IsLive (sym v.rest) (passed-live number pages old most q v.passed)
visit-live number pages now old new most q (inr (inl v)) = subst IsLive (sym v.rest) (given_up-live number None (charged 0 old) most (charged-live 0 old q) (λ on. absurd (on-and-off (is_guessing old.guessing) v.off on)))
visit-live number pages now old new most q (inr (inr (inl v))) = subst IsLive (sym v.rest) (left-live number now old most q v.on v.needless)
visit-live number pages now old new most q (inr (inr (inr (inl v)))) = subst IsLive (sym v.rest) (given_up-live number (Some now) (charged pages old) most (charged-live pages old q) (λ on. v.filled))
visit-live number pages now old new most q (inr (inr (inr (inr (inl v))))) = subst IsLive (sym v.rest) (after-live number pages now old new.pusher most q v.on v.pair v.pushes)
visit-live number pages now old new most q (inr (inr (inr (inr (inr v))))) = subst IsLive (sym v.rest) (record { least = q.least; most = q.most; issued = q.issued; price = q.price; room = q.room; seen = λ n e. absurd (cc) })

-- it makes at most 128 guesses
pub visit-plans : {F : Type 0} (number pages : ℕ) (now : State) (old new : Live F) → IsLive old → LearnsOf number pages now old new → Plans 1 (plan_of old) (plan_of new)
visit-plans number pages now old new q (inl v) = subst (λ l. Plans 1 (plan_of old) (plan_of l)) (sym v.rest) (given_up-plans number pages None old)
visit-plans number pages now old new q (inr (inl v)) = subst (λ l. Plans 1 (plan_of old) (plan_of l)) (sym v.rest) (given_up-plans number 0 None old)
visit-plans number pages now old new q (inr (inr (inl v))) = subst (λ l. Plans 1 (plan_of old) (plan_of l)) (sym v.rest) (left-plans number now old q v.needless)
visit-plans number pages now old new q (inr (inr (inr (inl v)))) = subst (λ l. Plans 1 (plan_of old) (plan_of l)) (sym v.rest) (given_up-plans number pages (Some now) old)
visit-plans number pages now old new q (inr (inr (inr (inr (inl v))))) =
    let grown = Pushes-few (offers_at number old) _ _ _ v.pushes in
    let few = due-few number old.last now old q.most in
    record {
      made = grown.0;
      full = grown.1.0;
      few = (let x = grown.1.1 in omega (arith, x, few));
      refused = subst (λ n. old.pusher.refused ≤ n) (sym v.pushes.refused) (raised-grows old.pusher.refused v.pushes.wanting);
      queue = ap (λ (giver : Giver). Some (queue_of giver)) v.pushes.giver;
    }
visit-plans number pages now old new q (inr (inr (inr (inr (inr v))))) = subst (λ l. Plans 1 (plan_of old) (plan_of l)) (sym v.rest) (record { made = omega arith; full = omega arith; few = omega arith; refused = omega arith; queue = refl })

-- it is told of, where the one before was
pub visit-sees : {F : Type 0} (number pages : ℕ) (now : State) (old new : Live F) → IsLive old → LearnsOf number pages now old new → Sees number (plan_of old) (plan_of new)
visit-sees {F} number pages now old new q (inl v) before told next same = subst (λ l. Sees number (plan_of old) (plan_of l)) (sym v.rest) (given_up-told number pages None old q (passed-filled old v.passed)) before told next same
visit-sees {F} number pages now old new q (inr (inl v)) before told next same = subst (λ l. Sees number (plan_of old) (plan_of l)) (sym v.rest) (given_up-told number 0 None old q (λ on. absurd (on-and-off (is_guessing old.guessing) v.off on))) before told next same
visit-sees {F} number pages now old new q (inr (inr (inl v))) before told next same = subst (λ l. Sees number (plan_of old) (plan_of l)) (sym v.rest) (left-told number now old q v.on v.needless) before told next same
visit-sees {F} number pages now old new q (inr (inr (inr (inl v)))) before told next same = subst (λ l. Sees number (plan_of old) (plan_of l)) (sym v.rest) (given_up-told number pages (Some now) old q (λ on. v.filled)) before told next same
visit-sees {F} number pages now old new q (inr (inr (inr (inr (inl v))))) before told next same =
    let is = told-is old.seen old.guessing before told in
    let h = q.seen before.number is.0 in
    let none = same ∙ h.refused in
    let pushes = subst (λ m. Pushes (offers_at m old) (due_by m old.last (Some now) old) old.pusher new.pusher) next v.pushes in
    let seen_is : new.seen ≡ Some number = ap (λ (l : Live F). l.seen) v.rest ∙ (λ i. seen_after (next i) (none i) (is.0 i)) ∙ seen-next before.number ∙ ap Some (sym next) in
    let guessing_is : new.guessing ≡ before.guessing = ap (λ (l : Live F). l.guessing) v.rest ∙ is.1 in (
      ap (λ (o : Option ℕ). elim o [ Some m ↦ Some (seen m new.guessing) | None ↦ None ]) seen_is ∙ ap (λ g. Some (seen number g)) guessing_is,
      pushes-sees (offers_at (before.number + 1) old) before.number now old new.pusher q h v.on v.pair pushes none
          ∙ (λ i. length old.pusher.giver.pushed + full_of old.pusher + guesses_at (is.1 i) (sym next i)),
    )
visit-sees {F} number pages now old new q (inr (inr (inr (inr (inr v))))) before told next same =
    let is = told-is old.seen old.guessing before told in
    let h = q.seen before.number is.0 in
    let rose : new.pusher.refused ≡ one_more old.pusher.refused = ap (λ (l : Live F). l.pusher.refused) v.rest in
    let zero_is = h.refused in
    absurd (let x : ⊥ = omega (arith, rose, same, zero_is) in x)
