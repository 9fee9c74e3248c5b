-- Each step at the queue keeps its rule.
use Rattle.std.proofs.Common.{◌≡◌, ◌≢◌, ℕ, Bool, zero, suc, ◌+◌, ◌^◌, ◌<◌, ◌≤◌, true, false, true≢false, [], ◌∷◌, ◌++◌, List, length, filter, cond, set, eqb, ◌||◌, sym, refl, ap, ◌∙◌, subst, ⊎_elim, arith, eq-eqb, ne_eqb, append_assoc, append-nil, length-append}
use mathlib.Core.Option.{some, some-ne-none, some-injective}
use lib.ListN.{get_elem?}
use Rattle.std.proofs.lemmas.Bool.{eqb-true, cases_eq}
use Rattle.std.proofs.lemmas.List.Elements.{filter-append}
use Rattle.std.proofs.Math.ListN.{length-set}
use Rattle.crossbeam_queue.specs.Fifo.{Pushes, Pops, Forks, Merges, Learns}
use Rattle.crossbeam_queue.proofs.Lists.{at_longer, at_set, at_snoc, set_here, set_else}
use Rattle.asc_jobs.specs.declared.job.Job.{Job}
use Rattle.asc_jobs.specs.declared.hand.Hand.{Hand}
use Rattle.asc_jobs.specs.Hands.{first_hand, new_hand, spent_hand, one_part_more, pushed_by, popped_by, merge_jobs, join_hands}
use Rattle.asc_jobs.specs.JobRule.{all_parts, CountUp, taken_by, AreOwned, KnowsPushed, Knows, IsThere, JobRule}
use Rattle.asc_jobs.specs.Jobs.{HasAllParts}
use Rattle.asc_jobs.proofs.Lists.{Each, each, agree, numbered_range, numbered_front, numbered_next, numbered_more, merged, parts_set, parts_more, alone, within, view_at, owned_by, owned_more, whole}

abbrev At : (ℕ → Hand → Type 0) → List Hand → Type 0
At F views = (pass : ℕ) (v : Hand) → get_elem? views pass ≡ some v → F pass v

at_changed : (F : ℕ → Hand → Type 0) (views : List Hand) (pass : ℕ) (w : Hand) → F pass w → ((j : ℕ) (u : Hand) → j ≢ pass → get_elem? views j ≡ some u → F j u) → At F (set views pass w)
at_changed F views pass w mine others j u e = ⊎_elim (λ (x : (j ≡ pass) × (w ≡ u)). subst (λ (y : ℕ × Hand). F y.0 y.1) (λ i. (sym x.0 i, x.1 i)) mine)
    (λ (x : (j ≢ pass) × (get_elem? views j ≡ some u)). others j u x.0 x.1) (at_set views pass j w u e)

only : At (Knows 0 [] 1 (λ k. 0) []) (first_hand ∷ [])
only zero v at = subst (Knows 0 [] 1 (λ k. 0) [] 0) (some-injective _ v at) (record {
  pushed = record { own = λ _. (refl, refl, refl); none = λ e. absurd (true≢false e) };
  popped = refl;
  idle = λ _. refl;
})
only (suc n) v at = absurd (some-ne-none v (sym at))

-- the giver's pass gives still, where a pass gives as before
stays : (views : List Hand) (giver pass : ℕ) (old new : Hand) → get_elem? views pass ≡ some old → new.gives ≡ old.gives → IsThere views giver → IsThere (set views pass new) giver
stays [] giver pass old new at same there = absurd (some-ne-none there.0 (sym there.1))
stays (x ∷ xs) zero zero old new at same there = (new, refl, same ∙ ap (λ (v : Hand). v.gives) (sym (some-injective x old at) ∙ some-injective x there.0 there.1) ∙ there.2)
stays (x ∷ xs) zero (suc pass) old new at same there = there
stays (x ∷ xs) (suc giver) zero old new at same there = there
stays (x ∷ xs) (suc giver) (suc pass) old new at same there = stays xs giver pass old new at same there

-- the queue is opened
pub begins : JobRule [] (first_hand ∷ [])
begins = record {
  jobs = [];
  taken = [];
  giver = 0;
  opened = 1;
  owner = λ k. 0;
  order = refl;
  most = omega arith;
  numbered = tt;
  owned = tt;
  parts = omega arith;
  known = only;
  there = (first_hand, refl, refl);
}

-- a push lands
pub pushes : (n pass : ℕ) (v : Hand) (x : Job) → v.gives ≡ true → x.ticket ≡ length v.pushed → length v.pushed < 2 ^ 61 → Pushes JobRule n pass v x (λ w. w ≡ pushed_by v x)
pushes n pass v x gives ticket few items views room h at =
    let w = pushed_by v x in
    let fit = h.known pass v at in
    let mine = fit.pushed.own gives in
    let jobs = h.jobs ++ x ∷ [] in
    let count = ap (length {A = Job}) mine.1 in (
      w,
      record {
        jobs = jobs;
        taken = h.taken;
        giver = h.giver;
        opened = h.opened;
        owner = h.owner;
        order = ap (λ l. l ++ x ∷ []) h.order ∙ append_assoc h.taken items (x ∷ []);
        most = omega (arith, count, few, length-append h.jobs (x ∷ []));
        numbered = numbered_more 0 h.jobs x h.numbered (omega (arith, count, ticket));
        owned = rw (length-set {A = Hand}) h.owned;
        parts = omega (arith, parts_set views pass v w at, h.parts);
        known = at_changed (Knows h.giver jobs h.opened h.owner h.taken) views pass w
            (record {
              pushed = record { own = λ _. (mine.0, ap (λ l. l ++ x ∷ []) mine.1, mine.2); none = λ isnt. absurd (true≢false (sym gives ∙ isnt)) };
              popped = fit.popped;
              idle = fit.idle;
            })
            (λ j u other there. let o = h.known j u there in record {
              pushed = record { own = λ does. absurd (other ((o.pushed.own does).0 ∙ sym mine.0)); none = o.pushed.none };
              popped = o.popped;
              idle = o.idle;
            });
        there = stays views h.giver pass v w at refl h.there;
      },
      refl,
    )

-- a push finds the queue full: it holds at most what was pushed
pub holds_no_more : (pass : ℕ) (v : Hand) → v.gives ≡ true → Learns JobRule pass v (λ items. length items ≤ length v.pushed)
holds_no_more pass v gives items views h at =
    let e = ap (length {A = Job}) (((h.known pass v at).pushed.own gives).1 ∙ h.order) in omega (arith, e, length-append h.taken items)

-- who owns what, once the pass has taken the next job
abbrev took : (ℕ → ℕ) → ℕ → ℕ → ℕ → ℕ
took owner ticket pass k = cond (eqb k ticket) pass (owner k)

took_other : (owner : ℕ → ℕ) (ticket pass k : ℕ) → (k ≡ ticket → ⊥) → took owner ticket pass k ≡ owner k
took_other owner ticket pass k isnt = rw (ne_eqb k ticket isnt) refl

took_this : (owner : ℕ → ℕ) (ticket pass : ℕ) → took owner ticket pass ticket ≡ pass
took_this owner ticket pass = rw (eq-eqb ticket ticket refl) refl

taken_other : (owner : ℕ → ℕ) (pass j : ℕ) (front : List Job) (x : Job) → Each (λ y. y.ticket ≡ x.ticket → ⊥) front → j ≢ pass → taken_by (took owner x.ticket pass) j (front ++ x ∷ []) ≡ taken_by owner j front
taken_other owner pass j front x old other =
    let f : ℕ → ℕ = took owner x.ticket pass in
    let isnt : eqb (f x.ticket) j ≡ false = ne_eqb (f x.ticket) j (λ e. other (sym e ∙ took_this owner x.ticket pass)) in
    filter-append (λ (y : Job). eqb (f y.ticket) j) front (x ∷ [])
    ∙ ap (λ (b : Bool). taken_by f j front ++ cond b (x ∷ []) []) isnt
    ∙ append-nil (taken_by f j front)
    ∙ agree (λ (y : Job). eqb (f y.ticket) j) (λ (y : Job). eqb (owner y.ticket) j) front
    (each (λ y. y.ticket ≡ x.ticket → ⊥) (λ y. eqb (f y.ticket) j ≡ eqb (owner y.ticket) j) (λ y k. ap (λ n. eqb n j) (took_other owner x.ticket pass y.ticket k)) front old)

taken_mine : (owner : ℕ → ℕ) (pass : ℕ) (front : List Job) (x : Job) → Each (λ y. y.ticket ≡ x.ticket → ⊥) front → taken_by (took owner x.ticket pass) pass (front ++ x ∷ []) ≡ taken_by owner pass front ++ x ∷ []
taken_mine owner pass front x old =
    let f : ℕ → ℕ = took owner x.ticket pass in
    let does : eqb (f x.ticket) pass ≡ true = eq-eqb (f x.ticket) pass (took_this owner x.ticket pass) in
    filter-append (λ (y : Job). eqb (f y.ticket) pass) front (x ∷ [])
    ∙ ap (λ (b : Bool). taken_by f pass front ++ cond b (x ∷ []) []) does
    ∙ ap (λ (l : List Job). l ++ x ∷ [])
    (agree (λ (y : Job). eqb (f y.ticket) pass) (λ (y : Job). eqb (owner y.ticket) pass) front
    (each (λ y. y.ticket ≡ x.ticket → ⊥) (λ y. eqb (f y.ticket) pass ≡ eqb (owner y.ticket) pass) (λ y k. ap (λ n. eqb n pass) (took_other owner x.ticket pass y.ticket k)) front old))

-- a pop takes the job at the front
pub pops : (pass : ℕ) (v : Hand) → 0 < v.parts → Pops JobRule pass v (λ x w. (w ≡ popped_by v x) × (x.ticket < 2 ^ 61))
pops pass v part x items views h at =
    let w = popped_by v x in
    let fit = h.known pass v at in
    let taken = h.taken ++ x ∷ [] in
    let owner : ℕ → ℕ = took h.owner x.ticket pass in
    let numbered : CountUp 0 (h.taken ++ x ∷ items) = subst (CountUp 0) h.order h.numbered in
    let next = numbered_next 0 h.taken x items numbered in
    let old : Each (λ y. y.ticket ≡ x.ticket → ⊥) h.taken =
    each (λ y. (0 ≤ y.ticket) × (y.ticket < 0 + length h.taken)) (λ y. y.ticket ≡ x.ticket → ⊥) (λ y k e. omega (arith, k.1, e, next)) h.taken (numbered_range 0 h.taken (numbered_front 0 h.taken (x ∷ items) numbered)) in
    let small_ticket : x.ticket < 2 ^ 61 = omega (arith, next, h.most, ap (length {A = Job}) h.order, length-append h.taken (x ∷ items)) in
    let small = within views pass v at in (
      w,
      record {
        jobs = h.jobs;
        taken = taken;
        giver = h.giver;
        opened = h.opened;
        owner = owner;
        order = h.order ∙ sym (append_assoc h.taken (x ∷ []) items);
        most = h.most;
        numbered = h.numbered;
        owned = rw (length-set {A = Hand})
            (owned_more (length views) owner h.taken x
            (owned_by (length views) (length views) h.owner owner h.taken h.owned (each (λ y. y.ticket ≡ x.ticket → ⊥) (λ y. h.owner y.ticket < length views → owner y.ticket < length views) (λ y k l. subst (λ n. n < length views) (sym (took_other h.owner x.ticket pass y.ticket k)) l) h.taken old))
            (subst (λ n. n < length views) (sym (took_this h.owner x.ticket pass)) small));
        parts = omega (arith, parts_set views pass v w at, h.parts);
        known = at_changed (Knows h.giver h.jobs h.opened owner taken) views pass w
            (record { pushed = fit.pushed; popped = ap (λ l. l ++ x ∷ []) fit.popped ∙ sym (taken_mine h.owner pass h.taken x old); idle = λ none. absurd (omega (arith, none, part)) })
            (λ j u other there. let o = h.known j u there in record { pushed = o.pushed; popped = o.popped ∙ sym (taken_other h.owner pass j h.taken x old other); idle = o.idle });
        there = stays views h.giver pass v w at refl h.there;
      },
      (refl, small_ticket),
    )

-- a pop finds the queue empty: where a pass has all parts, what it popped and what is left is what was pushed
pub has_all : (pass : ℕ) (v : Hand) → Learns JobRule pass v (λ items. HasAllParts v → v.popped ++ items ≡ v.pushed)
has_all pass v items views h at all =
    let fit = h.known pass v at in
    let mine = fit.pushed.own all.gives in
    let every : all_parts views ≡ v.parts = h.parts ∙ sym mine.2 ∙ sym all.parts in
    let none : (j : ℕ) → j < length views → j ≢ pass → taken_by h.owner j h.taken ≡ [] = λ j small other.
    let u = view_at views j small in let o = h.known j u.0 u.1 in sym o.popped ∙ o.idle (alone views pass v at every j u.0 other u.1) in
    ap (λ l. l ++ items) (fit.popped ∙ whole (length views) h.owner pass h.taken h.owned none) ∙ sym h.order ∙ sym mine.1

nothing_left : (xs ys : List Job) → xs ++ ys ≡ [] → xs ≡ []
nothing_left [] ys e = refl
nothing_left (x ∷ xs) ys e = cc

-- a taker's pass is split off
pub forks : (pass : ℕ) (v : Hand) → v.gives ≡ true → v.pushed ≡ [] → Forks JobRule pass v (one_part_more v) new_hand
forks pass v gives new items views h at =
    let l = one_part_more v in
    let fit = h.known pass v at in
    let mine = fit.pushed.own gives in
    let empty : h.taken ≡ [] = nothing_left h.taken items (sym h.order ∙ sym mine.1 ∙ new) in
    let more = h.opened + 1 in
    let vs = set views pass l in
    let F : ℕ → Hand → Type 0 = Knows h.giver h.jobs more h.owner h.taken in
    let old : At F vs =
    at_changed F views pass l
    (record { pushed = record { own = λ _. (mine.0, mine.1, ap (λ n. n + 1) mine.2); none = λ isnt. absurd (true≢false (sym gives ∙ isnt)) }; popped = fit.popped; idle = fit.idle })
    (λ j u other there. let o = h.known j u there in record { pushed = record { own = λ does. absurd (other ((o.pushed.own does).0 ∙ sym mine.0)); none = o.pushed.none }; popped = o.popped; idle = o.idle }) in
    let fresh : (j : ℕ) → F j new_hand = λ j. record {
      pushed = record { own = λ does. absurd (true≢false (sym does)); none = λ _. (refl, refl) };
      popped = ap (taken_by h.owner j) (sym empty);
      idle = λ _. refl;
    } in record {
      jobs = h.jobs;
      taken = h.taken;
      giver = h.giver;
      opened = more;
      owner = h.owner;
      order = h.order;
      most = h.most;
      numbered = h.numbered;
      owned = subst (AreOwned (length (vs ++ new_hand ∷ [])) h.owner) (sym empty) tt;
      parts = omega (arith, parts_more vs new_hand, parts_set views pass v l at, h.parts);
      known = λ j u there. ⊎_elim (λ x. old j u x) (λ (is : new_hand ≡ u). subst (F j) is (fresh j)) (at_snoc vs new_hand u j there);
      there = let g = stays views h.giver pass v l at refl h.there in (g.0, at_longer vs (new_hand ∷ []) h.giver g.0 g.1, g.2);
    }

-- who owns what, once a pass has taken another in
abbrev joined : (ℕ → ℕ) → ℕ → ℕ → ℕ → ℕ
joined owner pass other k = cond (eqb (owner k) other) pass (owner k)

pick : (m other pass : ℕ) (F : ℕ → Type 0) → (m ≡ other → F pass) → ((m ≡ other → ⊥) → F m) → F (cond (eqb m other) pass m)
pick m other pass F f g = ⊎_elim (λ (is : m ≡ other). subst (λ (b : Bool). F (cond b pass m)) (sym (eq-eqb m other is)) (f is)) (λ (isnt : m ≡ other → ⊥). subst (λ (b : Bool). F (cond b pass m)) (sym (ne_eqb m other isnt)) (g isnt)) (cases_eq m other)

or-true : (a b : Bool) → b ≡ true → true ≡ (a || b)
or-true true b e = refl
or-true false b e = sym e

or-false : (a b : Bool) → b ≡ false → a ≡ (a || b)
or-false true b e = refl
or-false false b e = sym e

always : (P : Job → Type 0) → ((x : Job) → P x) → (xs : List Job) → Each P xs
always P f [] = tt
always P f (x ∷ xs) = (f x, always P f xs)

keeps_none : (xs : List Job) → filter (λ (y : Job). false) xs ≡ []
keeps_none [] = refl
keeps_none (x ∷ xs) = keeps_none xs

joined_giver : (giver pass other : ℕ) (jobs : List Job) (opened : ℕ) (a : Bool) (pv : List Job) (ov : ℕ) (b : Bool) (pw : List Job) (ow : ℕ) → ¬ (other ≡ pass)
    → KnowsPushed giver jobs opened pass a pv ov → KnowsPushed giver jobs opened other b pw ow → KnowsPushed (cond b pass giver) jobs opened pass (a || b) (pv ++ pw) (ov + ow)
joined_giver giver pass other jobs opened true pv ov true pw ow apart f g = absurd (apart ((g.own refl).0 ∙ sym (f.own refl).0))
joined_giver giver pass other jobs opened true pv ov false pw ow apart f g =
    let x = f.own refl in let y = g.none refl in record { own = λ _. (x.0, ap (λ l. pv ++ l) y.0 ∙ append-nil pv ∙ x.1, omega (arith, x.2, y.1)); none = λ e. absurd (true≢false e) }
joined_giver giver pass other jobs opened false pv ov true pw ow apart f g =
    let x = f.none refl in let y = g.own refl in record { own = λ _. (refl, ap (λ l. l ++ pw) x.0 ∙ y.1, omega (arith, x.1, y.2)); none = λ e. absurd (true≢false e) }
joined_giver giver pass other jobs opened false pv ov false pw ow apart f g =
    let x = f.none refl in let y = g.none refl in record { own = λ e. absurd (true≢false (sym e)); none = λ _. (ap (λ l. l ++ pw) x.0 ∙ y.0, omega (arith, x.1, y.1)) }

other_giver : (giver pass other j : ℕ) (jobs : List Job) (opened : ℕ) (b : Bool) (pw : List Job) (ow : ℕ) (c : Bool) (pu : List Job) (ou : ℕ) → ¬ (j ≡ other)
    → KnowsPushed giver jobs opened other b pw ow → KnowsPushed giver jobs opened j c pu ou → KnowsPushed (cond b pass giver) jobs opened j c pu ou
other_giver giver pass other j jobs opened true pw ow c pu ou apart g f = record { own = λ e. absurd (apart ((f.own e).0 ∙ sym (g.own refl).0)); none = f.none }
other_giver giver pass other j jobs opened false pw ow c pu ou apart g f = f

-- the giver's pass gives still, or the one that took it in
joined_there : (views : List Hand) (giver pass other : ℕ) (v w : Hand) → get_elem? views pass ≡ some v → get_elem? views other ≡ some w → ¬ (other ≡ pass) → IsThere views giver → (b : Bool) → w.gives ≡ b
    → IsThere (set (set views pass (join_hands v w)) other spent_hand) (cond b pass giver)
joined_there views giver pass other v w at was apart there true does = (
  join_hands v w,
  set_else (set views pass (join_hands v w)) other pass spent_hand (λ e. apart (sym e)) ∙ set_here views pass (join_hands v w) (within views pass v at),
  sym (or-true v.gives w.gives does),
)
joined_there views giver pass other v w at was apart there false isnt =
    let g = stays views giver pass v (join_hands v w) at (sym (or-false v.gives w.gives isnt)) there in
    let is_other : giver ≡ other → ⊥ = λ e. true≢false (sym there.2 ∙ ap (λ (u : Hand). u.gives) (some-injective there.0 w (sym there.1 ∙ ap (get_elem? views) e ∙ was)) ∙ isnt) in
    (g.0, set_else (set views pass (join_hands v w)) other giver spent_hand is_other ∙ g.1, g.2)

-- a pass takes in another
pub merges : (pass : ℕ) (v : Hand) (other : ℕ) (w : Hand) → 0 < v.parts → Merges JobRule pass v other w (join_hands v w) spent_hand
merges pass v other w part items views h at apart at' =
    let both = join_hands v w in
    let was : get_elem? views other ≡ some w = ⊎_elim (λ x. absurd (apart x.0)) (λ x. x.1) (at_set views pass other both w at') in
    let mine = h.known pass v at in
    let theirs = h.known other w was in
    let vs = set views pass both in
    let giver = cond w.gives pass h.giver in
    let owner : ℕ → ℕ = joined h.owner pass other in
    let numbered : CountUp 0 h.taken = numbered_front 0 h.taken items (subst (CountUp 0) h.order h.numbered) in
    let F : ℕ → Hand → Type 0 = Knows giver h.jobs h.opened owner h.taken in
    let all_mine : merge_jobs v.popped w.popped ≡ taken_by owner pass h.taken =
    ap (λ l. merge_jobs l w.popped) mine.popped ∙ ap (merge_jobs (taken_by h.owner pass h.taken)) theirs.popped
    ∙ merged 0 (λ (y : Job). eqb (h.owner y.ticket) pass) (λ (y : Job). eqb (h.owner y.ticket) other) (λ (y : Job). eqb (owner y.ticket) pass) h.taken numbered
    (always (λ (y : Job). (eqb (h.owner y.ticket) pass ≡ true → eqb (h.owner y.ticket) other ≡ false) × (eqb (owner y.ticket) pass ≡ (eqb (h.owner y.ticket) pass || eqb (h.owner y.ticket) other)))
    (λ y. (
      (λ e. ne_eqb (h.owner y.ticket) other (λ o. apart (sym o ∙ eqb-true (h.owner y.ticket) pass e))),
      pick (h.owner y.ticket) other pass (λ n. eqb n pass ≡ (eqb (h.owner y.ticket) pass || eqb (h.owner y.ticket) other))
          (λ is. eq-eqb pass pass refl ∙ or-true (eqb (h.owner y.ticket) pass) (eqb (h.owner y.ticket) other) (eq-eqb (h.owner y.ticket) other is))
          (λ isnt. or-false (eqb (h.owner y.ticket) pass) (eqb (h.owner y.ticket) other) (ne_eqb (h.owner y.ticket) other isnt)),
    ))
    h.taken) in
    let none_theirs : [] ≡ taken_by owner other h.taken =
    sym (agree (λ (y : Job). eqb (owner y.ticket) other) (λ (y : Job). false) h.taken
    (always (λ (y : Job). eqb (owner y.ticket) other ≡ false) (λ y. pick (h.owner y.ticket) other pass (λ n. eqb n other ≡ false) (λ is. ne_eqb pass other (λ e. apart (sym e))) (λ isnt. ne_eqb (h.owner y.ticket) other isnt)) h.taken)
    ∙ keeps_none h.taken) in
    let same : (j : ℕ) → j ≢ pass → j ≢ other → taken_by h.owner j h.taken ≡ taken_by owner j h.taken = λ j one two.
    agree (λ (y : Job). eqb (h.owner y.ticket) j) (λ (y : Job). eqb (owner y.ticket) j) h.taken
    (always (λ (y : Job). eqb (h.owner y.ticket) j ≡ eqb (owner y.ticket) j)
    (λ y. pick (h.owner y.ticket) other pass (λ n. eqb (h.owner y.ticket) j ≡ eqb n j) (λ is. ne_eqb (h.owner y.ticket) j (λ e. two (sym e ∙ is)) ∙ sym (ne_eqb pass j (λ e. one (sym e)))) (λ isnt. refl)) h.taken) in record {
      jobs = h.jobs;
      taken = h.taken;
      giver = giver;
      opened = h.opened;
      owner = owner;
      order = h.order;
      most = h.most;
      numbered = h.numbered;
      owned = rw (length-set {A = Hand}, length-set {A = Hand})
          (owned_by (length views) (length views) h.owner owner h.taken h.owned (always (λ (y : Job). h.owner y.ticket < length views → owner y.ticket < length views) (λ y k. pick (h.owner y.ticket) other pass (λ n. n < length views) (λ is. within views pass v at) (λ isnt. k)) h.taken));
      parts = omega (arith, parts_set views pass v both at, parts_set vs other w spent_hand at', h.parts);
      known = at_changed F vs other spent_hand (record { pushed = record { own = λ e. absurd (true≢false (sym e)); none = λ _. (refl, refl) }; popped = none_theirs; idle = λ _. refl })
          (λ j u two there. at_changed (λ i y. i ≢ other → F i y) views pass both
          (λ _. record {
            pushed = joined_giver h.giver pass other h.jobs h.opened v.gives v.pushed v.opened w.gives w.pushed w.opened apart mine.pushed theirs.pushed;
            popped = all_mine;
            idle = λ e. absurd (omega (arith, e, part));
          })
          (λ i y one here three. let o = h.known i y here in record {
            pushed = other_giver h.giver pass other i h.jobs h.opened w.gives w.pushed w.opened y.gives y.pushed y.opened three theirs.pushed o.pushed;
            popped = o.popped ∙ same i one three;
            idle = o.idle;
          })
          j u there two);
      there = joined_there views h.giver pass other v w at was apart h.there w.gives refl;
    }
