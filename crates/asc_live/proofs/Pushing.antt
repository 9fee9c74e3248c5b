-- What is pushed one after another.
use Rattle.std.proofs.Common.{◌≡◌, ◌≤◌, ◌<◌, ℕ, zero, suc, ◌+◌, Bool, true, false, ◌&&◌, nat_lt, nat_le, List, [], ◌∷◌, ◌++◌, length, get_or, take, map, filter, refl, sym, ap, ◌∙◌, inl, inr, subst, arith, append_assoc}
use Rattle.std.proofs.lemmas.Bool.{ltb-true, leb-true}
use Rattle.std.proofs.lemmas.List.{append-nil, map-append, length-append, take_more}
use Rattle.std.proofs.lemmas.List.Elements.{filter-append}
use Rattle.std.specs.Arc.{arc_value}
use Rattle.std.specs.Global.{Global}
use Rattle.std.specs.declared.sync.Arc.{Arc}
use Rattle.asc_model.specs.State.{State}
use Rattle.asc_guess.specs.declared.kind.Kind.{Kind}
use Rattle.asc_guess.specs.Guess.{Task}
use Rattle.asc_jobs.specs.declared.job.Job.{Job}
use Rattle.asc_jobs.specs.Jobs.{Giver, after_push}
use Rattle.asc_jobs.specs.JobRule.{CountUp}
use Rattle.asc_outside.specs.Outside.{one_more}
use Rattle.asc_live.specs.Due.{Due, Pusher, Pushes, IsSublist, due_of, full_of, is_filled, jobs_of, raised}
use Rattle.asc_live.proofs.Lists.{IsSublist-append, CountUp-append}

raised-more : (count a b : ℕ) → raised (raised count a) b ≡ raised count (a + b)
raised-more count a zero = ap (raised count) (let e : a ≡ a + 0 = omega arith in e)
raised-more count a (suc b) = ap one_more (raised-more count a b) ∙ ap (raised count) (let e : suc (a + b) ≡ a + suc b = omega arith in e)

-- nothing
pub Pushes-none : (offers : Due → Bool) (p : Pusher) → Pushes offers [] p p
Pushes-none offers p = record {
  jobs = [];
  lacked = 0;
  wanting = 0;
  left = 0;
  some = refl;
  all = omega arith;
  rest = omega arith;
  giver = ap (λ xs. record p.giver { pushed = xs }) (sym (append-nil p.giver.pushed));
  tickets = tt;
  lacked_is = omega arith;
  left_is = omega arith;
  passed_is = refl;
  room = λ h. absurd (let x : ⊥ = omega (arith, h) in x);
  refused = refl;
}

pushed-is : (offers : Due → Bool) (due : List Due) (p q : Pusher) (s : Pushes offers due p q) → q.giver.pushed ≡ p.giver.pushed ++ s.jobs
pushed-is offers due p q s = ap (λ (g : Giver). g.pushed) s.giver

pub pushed-length : (offers : Due → Bool) (due : List Due) (p q : Pusher) (s : Pushes offers due p q) → length q.giver.pushed ≡ length p.giver.pushed + length s.jobs
pushed-length offers due p q s = ap length (pushed-is offers due p q s) ∙ length-append p.giver.pushed s.jobs

pub room-more : (a b capacity m n : ℕ) → (0 < a → capacity ≤ m) → (0 < b → capacity ≤ n) → m ≤ n → 0 < a + b → capacity ≤ n
room-more zero b capacity m n p q more h = q (omega (arith, h))
room-more (suc a) b capacity m n p q more h = let x = p (omega arith) in omega (arith, x, more)

-- one after another
pub Pushes-more : (offers : Due → Bool) (xs ys : List Due) (p q r : Pusher) → Pushes offers xs p q → Pushes offers ys q r → Pushes offers (xs ++ ys) p r
Pushes-more offers xs ys p q r s t =
    let more = pushed-length offers xs p q s in
    let most = pushed-length offers ys q r t in
    let both : filter offers (xs ++ ys) ≡ filter offers xs ++ filter offers ys = filter-append offers xs ys in
    let many = ap length both ∙ length-append (filter offers xs) (filter offers ys) in
    record {
      jobs = s.jobs ++ t.jobs;
      lacked = s.lacked + t.lacked;
      wanting = s.wanting + t.wanting;
      left = s.left + t.left;
      some = subst (λ l. IsSublist l (filter offers (xs ++ ys))) (sym (map-append due_of s.jobs t.jobs))
          (subst (λ l. IsSublist (map due_of s.jobs ++ map due_of t.jobs) l) (sym both) (IsSublist-append (map due_of s.jobs) (filter offers xs) (map due_of t.jobs) (filter offers ys) s.some t.some));
      all = omega (arith, many, length-append s.jobs t.jobs, s.all, t.all);
      rest = omega (arith, many, length-append xs ys, s.rest, t.rest);
      giver = t.giver ∙ ap (λ (g : Giver). record g { pushed = g.pushed ++ t.jobs }) s.giver ∙ ap (λ l. record p.giver { pushed = l }) (append_assoc p.giver.pushed s.jobs t.jobs);
      tickets = CountUp-append (length p.giver.pushed) s.jobs t.jobs s.tickets (subst (λ n. CountUp n t.jobs) more t.tickets);
      lacked_is = omega (arith, s.lacked_is, t.lacked_is);
      left_is = omega (arith, s.left_is, t.left_is);
      passed_is = t.passed_is ∙ s.passed_is;
      room = λ h. room-more (s.lacked + s.left) (t.lacked + t.left) p.giver.capacity (length q.giver.pushed) (length r.giver.pushed) s.room
          (λ k. subst (λ c. c ≤ length r.giver.pushed) (ap (λ (g : Giver). g.capacity) s.giver) (t.room k)) (omega (arith, most)) (omega (arith, h));
      refused = t.refused ∙ ap (λ n. raised n t.wanting) s.refused ∙ raised-more p.refused s.wanting t.wanting;
    }

-- how many are not pushed
pub full-is : (offers : Due → Bool) (due : List Due) (p q : Pusher) (s : Pushes offers due p q) → full_of q ≡ full_of p + s.lacked + s.left
full-is offers due p q s = omega (arith, s.lacked_is, s.left_is, s.passed_is)

-- at most as many as are due
pub Pushes-few : (offers : Due → Bool) (due : List Due) (p q : Pusher) → Pushes offers due p q
    → (length p.giver.pushed ≤ length q.giver.pushed) × ((full_of p ≤ full_of q) × (length q.giver.pushed + full_of q ≤ length p.giver.pushed + full_of p + length due))
Pushes-few offers due p q s =
    let more = pushed-length offers due p q s in
    let full = full-is offers due p q s in
    (omega (arith, more), (omega (arith, full), omega (arith, more, full, s.all, s.rest)))

-- of all that are offered
abbrev pub each : Due → Bool
each d = true

-- a job for which memory was wanting
pub Pushes-refused : (d : Due) (p q : Pusher) → q ≡ record p { refused = one_more p.refused } → Pushes each (d ∷ []) p q
Pushes-refused d p q e = record {
  jobs = [];
  lacked = 0;
  wanting = 1;
  left = 0;
  some = inl refl;
  all = omega arith;
  rest = omega arith;
  giver = ap (λ (x : Pusher). x.giver) e ∙ ap (λ xs. record p.giver { pushed = xs }) (sym (append-nil p.giver.pushed));
  tickets = tt;
  lacked_is = ap (λ (x : Pusher). x.lacked) e ∙ (let n : p.lacked ≡ p.lacked + 0 = omega arith in n);
  left_is = ap (λ (x : Pusher). x.left) e ∙ (let n : p.left ≡ p.left + 0 = omega arith in n);
  passed_is = ap (λ (x : Pusher). x.passed) e;
  room = λ h. absurd (let x : ⊥ = omega (arith, h) in x);
  refused = ap (λ (x : Pusher). x.refused) e;
}

-- a job that found no room
pub Pushes-full : (d : Due) (p : Pusher) (giver : Giver) → giver ≡ p.giver → p.giver.capacity ≤ length p.giver.pushed → Pushes each (d ∷ []) p (record p { giver = giver; lacked = p.lacked + 1 })
Pushes-full d p giver same room = record {
  jobs = [];
  lacked = 1;
  wanting = 0;
  left = 0;
  some = inl refl;
  all = omega arith;
  rest = omega arith;
  giver = same ∙ ap (λ xs. record p.giver { pushed = xs }) (sym (append-nil p.giver.pushed));
  tickets = tt;
  lacked_is = refl;
  left_is = omega arith;
  passed_is = refl;
  room = λ h. subst (λ (g : Giver). p.giver.capacity ≤ length g.pushed) (sym same) room;
  refused = refl;
}

-- a job that was pushed
pub Pushes-one : (d : Due) (p : Pusher) (giver : Giver) (job : Job) → due_of job ≡ d → job.ticket ≡ length p.giver.pushed → giver ≡ after_push p.giver job → Pushes each (d ∷ []) p (record p { giver = giver })
Pushes-one d p giver job asks ticket pushed = record {
  jobs = job ∷ [];
  lacked = 0;
  wanting = 0;
  left = 0;
  some = inr ([], ap (λ x. x ∷ []) asks, refl);
  all = omega arith;
  rest = omega arith;
  giver = pushed;
  tickets = (ticket, tt);
  lacked_is = omega arith;
  left_is = omega arith;
  passed_is = refl;
  room = λ h. absurd (let x : ⊥ = omega (arith, h) in x);
  refused = refl;
}

filter-each : (due : List Due) → filter each due ≡ due
filter-each [] = refl
filter-each (d ∷ due) = ap (λ ds. d ∷ ds) (filter-each due)

-- jobs that are all offered
pub Pushes-offered : (offers : Due → Bool) (due : List Due) (p q : Pusher) → filter offers due ≡ due → Pushes each due p q → Pushes offers due p q
Pushes-offered offers due p q all s =
    let same : filter each due ≡ filter offers due = filter-each due ∙ sym all in
    record {
      jobs = s.jobs;
      lacked = s.lacked;
      wanting = s.wanting;
      left = s.left;
      some = subst (λ ds. IsSublist (map due_of s.jobs) ds) same s.some;
      all = ap length (sym same) ∙ s.all;
      rest = s.rest ∙ ap (λ ds. length ds + s.left) same;
      giver = s.giver;
      tickets = s.tickets;
      lacked_is = s.lacked_is;
      left_is = s.left_is;
      passed_is = s.passed_is;
      room = s.room;
      refused = s.refused;
    }

-- jobs none of which is offered
pub Pushes-left : (offers : Due → Bool) (due : List Due) (p q : Pusher) → filter offers due ≡ [] → q ≡ record p { left = p.left + length due } → p.giver.capacity ≤ length p.giver.pushed → Pushes offers due p q
Pushes-left offers due p q none e room = record {
  jobs = [];
  lacked = 0;
  wanting = 0;
  left = length due;
  some = subst (λ ds. IsSublist [] ds) (sym none) refl;
  all = ap length none;
  rest = let few = ap length none in omega (arith, few);
  giver = ap (λ (x : Pusher). x.giver) e ∙ ap (λ xs. record p.giver { pushed = xs }) (sym (append-nil p.giver.pushed));
  tickets = tt;
  lacked_is = ap (λ (x : Pusher). x.lacked) e ∙ (let n : p.lacked ≡ p.lacked + 0 = omega arith in n);
  left_is = ap (λ (x : Pusher). x.left) e;
  passed_is = ap (λ (x : Pusher). x.passed) e;
  room = λ h. subst (λ (x : Pusher). p.giver.capacity ≤ length x.giver.pushed) (sym e) room;
  refused = ap (λ (x : Pusher). x.refused) e;
}

-- one job, which is offered
pub Pushes-one-offered : (offers : Due → Bool) (d : Due) (p q : Pusher) → offers d ≡ true → Pushes each (d ∷ []) p q → Pushes offers (d ∷ []) p q
Pushes-one-offered offers d p q on s = Pushes-offered offers (d ∷ []) p q (rw on refl) s

-- one that is left to the walk
pub Pushes-one-left : (offers : Due → Bool) (d : Due) (p q : Pusher) → offers d ≡ false → q ≡ record p { left = p.left + 1 } → p.giver.capacity ≤ length p.giver.pushed → Pushes offers (d ∷ []) p q
Pushes-one-left offers d p q off e room = Pushes-left offers (d ∷ []) p q (rw off refl) e room

-- the jobs of one guess more
pub jobs-more : (prev last : State) (tasks : List Task) (i : ℕ) (none : Task) → i < length tasks
    → jobs_of prev last (take (i + 1) tasks) ≡ jobs_of prev last (take i tasks) ++ jobs_of prev last (get_or tasks i none ∷ [])
jobs-more prev last tasks i none within =
    ap (jobs_of prev last) (take_more tasks i none within)
    ∙ map-append (λ (task : Task). let due : Due = record { prev = prev; last = last; ahead = task.1; kind = task.0 } in due) (take i tasks) (get_or tasks i none ∷ [])

-- no job is offered
abbrev pub nothing : Due → Bool
nothing d = false

filter-none : (due : List Due) → filter nothing due ≡ []
filter-none [] = refl
filter-none (d ∷ due) = filter-none due

pub Pushes-none-offered : (due : List Due) (p : Pusher) → p.giver.capacity ≤ length p.giver.pushed → Pushes nothing due p (record p { left = p.left + length due })
Pushes-none-offered due p room = Pushes-left nothing due p _ (filter-none due) refl room

-- a job of two copies asks for what their states say
pub asks-same : (prev last : State) (ahead : ℕ) (kind : Kind) (ticket : ℕ) (a b : Arc State Global) → arc_value a ≡ prev → arc_value b ≡ last
    → due_of (record { ticket = ticket; prev = a; last = b; ahead = ahead; kind = kind }) ≡ record { prev = prev; last = last; ahead = ahead; kind = kind }
asks-same prev last ahead kind ticket a b e f = λ i. record { prev = e i; last = f i; ahead = ahead; kind = kind }

pub both-true : (a b : Bool) → a && b ≡ true → (a ≡ true) × (b ≡ true)
both-true true true e = (refl, refl)
both-true true false e = absurd (cc)
both-true false b e = absurd (cc)

-- jobs were pushed, and as many as the queue holds
pub filled-is : (giver : Giver) → is_filled giver ≡ true → (0 < length giver.pushed) × (giver.capacity ≤ length giver.pushed)
filled-is giver e =
    let both = both-true (nat_lt 0 (length giver.pushed)) (nat_le giver.capacity (length giver.pushed)) e in
    (ltb-true 0 (length giver.pushed) both.0, leb-true giver.capacity (length giver.pushed) both.1)
