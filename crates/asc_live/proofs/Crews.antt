-- What a walk beside workers comes to.
use Rattle.std.proofs.Common.{◌≡◌, ℕ, Bool, ◌+◌, [], Option, Some, None, refl, sym, ap, ◌∙◌, arith, length}
use Rattle.asc_find.specs.declared.guessing.Guessing.{Guessing}
use Rattle.asc_find.specs.Finder.{Aid, Plan, bare_aid}
use Rattle.asc_jobs.specs.Jobs.{Queue, Giver, queue_of}
use Rattle.asc_calls.specs.World.{Outside}
use Rattle.asc_run.specs.declared.walk.Ended.{Ended}
use Rattle.asc_run.specs.Walk.{Walk, jumps}
use Rattle.asc_run.proofs.Seeings.{visits-asked}
use Rattle.asc_cache.specs.Cache.{ShardReaders}
use Rattle.asc_live.specs.Due.{full_of}
use Rattle.asc_live.specs.Laws.{new_plan}
use Rattle.asc_live.specs.Live.{Live, IsLive, new_live, plan_of, told_over}
use Rattle.asc_live.specs.Crew.{Walks, WentBeside}
use Rattle.asc_live.specs.declared.crew.Crew.{Crew}
use Rattle.asc_live.specs.declared.crew.Worked.{Worked}
use Rattle.asc_live.proofs.LawsHold.{guesses_are_counted}

-- what a helper over the readers of a cache tells
abbrev pub aid_of : Live ShardReaders → Aid
aid_of l = told_over (bare_aid l.finder.jumps) l

-- ---- the queue of a giver

same_queue : (a b : Queue) → Some a ≡ Some b → a ≡ b
same_queue a b e = ap (λ (q : Option Queue). elim q [ Some q ↦ q | None ↦ a ]) e

-- a walk leaves its helper the queue of which the giver was handed to it
pub kept_giver : {many : ℕ} {knows : Bool} → (readers : ShardReaders) (giver : Giver) (guessing : Guessing) (was now : Walk) (old new : Outside) (l k : Live ShardReaders) (ended : Ended) (left : Giver)
    → l ≡ new_live readers giver guessing many knows → Walks was now old new (aid_of l) (aid_of k) ended → left ≡ k.pusher.giver → (left.queue ≡ giver.queue) × ((left.opened ≡ giver.opened) × (left.capacity ≡ giver.capacity))
kept_giver readers giver guessing was now old new l k ended left is walks end =
    let same : queue_of left ≡ queue_of giver =
    ap queue_of end ∙ same_queue (queue_of k.pusher.giver) (queue_of l.pusher.giver) walks.goes.goes.helped.plans.queue
    ∙ ap (λ (l : Live ShardReaders). queue_of l.pusher.giver) is in
    (ap (λ (q : Queue). q.table) same, (ap (λ (q : Queue). q.parts) same, ap (λ (q : Queue). q.capacity) same))

-- ---- a walk

-- what is known of the walk is known of the crew's work
pub went : {many : ℕ} {knows : Bool} → (guessing : Guessing) (was now : Walk) (old new : Outside) (readers : ShardReaders) (giver : Giver) (l k : Live ShardReaders) (worked : Worked)
    → l ≡ new_live readers giver guessing many knows → giver.pushed ≡ [] → readers.jumps ≡ jumps 0 0 0 → IsLive k
    → Walks was now old new (aid_of l) (aid_of k) worked.ended
    → worked.made ≡ length k.pusher.giver.pushed → worked.refused ≡ k.pusher.refused → worked.full ≡ full_of k.pusher
    → length k.pusher.giver.pushed ≡ worked.taken.tally.ran + worked.taken.left
    → (crew : Crew) → giver.capacity ≡ crew.queue → worked.workers ≡ crew.workers → WentBeside guessing crew was now old new worked
went {many} {knows} guessing was now old new readers giver l k worked is none told good walks made refused full jobs crew capacity workers =
    let made_none : length l.pusher.giver.pushed ≡ 0 = ap (λ (l : Live ShardReaders). length l.pusher.giver.pushed) is ∙ ap length none in
    let plan : plan_of l ≡ new_plan guessing (Some (queue_of giver)) = ap plan_of is ∙ ap (λ n. record { made = n; refused = 0; full = 0; seen = (plan_of (new_live readers giver guessing many knows)).seen; queue = Some (queue_of giver) }) (ap length none) in
    record {
      first = aid_of l;
      last = aid_of k;
      goes = walks.goes;
      fresh = record {
        jumps_are = ap (λ (l : Live ShardReaders). l.finder.jumps) is ∙ told;
        made = made_none;
        refused = ap (λ (p : Plan). p.refused) plan;
        full = ap (λ (p : Plan). p.full) plan;
        seen_is = ap (λ (p : Plan). p.seen) plan;
      };
      raised = walks.raised;
      limit = walks.limit;
      faults = walks.faults;
      shape = walks.shape;
      made = made;
      refused = refused;
      full = full;
      jobs = made ∙ jobs;
      workers = workers;
      few =
          let helped = walks.goes.goes.helped in
          let few = helped.plans.few in
          let asked = visits-asked walks.goes.goes.visits now.jumps (aid_of l).jumps (aid_of k).jumps helped.jumps walks.raised in
          let full_none = ap (λ (p : Plan). p.full) plan in
          omega (arith, few, made, full, made_none, full_none, asked);
      room = λ some.
          let kept = (kept_giver readers giver guessing was now old new l k worked.ended k.pusher.giver is walks refl).1.1 in
          let filled = good.room (omega (arith, some, full)) in
          omega (arith, kept, filled, made, capacity);
      guesses = λ h. let sum = guesses_are_counted guessing (Some (queue_of giver)) now.jumps.asked (plan_of l) (plan_of k) plan walks.goes.seen (sym refused ∙ h) in omega (arith, made, full, sum);
    }
