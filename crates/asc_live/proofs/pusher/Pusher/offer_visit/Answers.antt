-- Job by job it is pushed, or left to the walk.
use Rattle.std.proofs.Common.{◌≡◌, ◌+◌, ◌≤◌, ◌^◌, [], ◌∷◌, Bool, true, false, length, take, get_or, nat_lt, not, ◌||◌, refl, sym, ap, ◌∙◌, subst, arith}
use Rattle.std.proofs.lemmas.Bool.{le-ltb, lt-ltb}
use Rattle.std.proofs.lemmas.List.{take_all}
use Rattle.std.specs.Arc.{arc_value}
use Rattle.asc_guess.specs.declared.kind.Kind.TheVariants.{Last}
use Rattle.asc_guess.specs.Guess.{Task}
use Rattle.asc_jobs.specs.Jobs.{Giver}
use Rattle.asc_live.specs.Due.{Due, Pusher, Pushes, is_offered, is_for_workers, jobs_of}
use Rattle.asc_live.proofs.Pushing.{Pushes-none, Pushes-more, Pushes-few, Pushes-one-offered, Pushes-one-left, filled-is, jobs-more}
use Rattle.asc_live.proofs.pusher.Pusher.offer_visit.Goals as goal
use Rattle.asc_live.proofs.pusher.Pusher.offer_visit.Goals.{then-offers, else-offers}

pub returns-then-pushed-ge-MOST_PUSHED : goal.returns-then-pushed-ge-MOST_PUSHED
returns-then-pushed-ge-MOST_PUSHED g c =
    let none : nat_lt (length c.args.self.now.giver.pushed) (2 ^ 60) ≡ false = le-ltb _ _ (omega (arith, c.if-pushed-ge-MOST_PUSHED.true, c.pushed.ensures)) in
    rw none (Pushes-none _ _)

-- only once the queue had been filled up is a guess left to the walk
left-filled : (filled shared : Bool) → (not filled || shared) ≡ false → filled ≡ true
left-filled true shared e = refl
left-filled false shared e = absurd (cc)

pub loop-job-init : goal.loop-job-init
loop-job-init g c = record { pushes = Pushes-none _ _; few = omega arith }

pub loop-job-preserved : goal.loop-job-preserved
loop-job-preserved g c =
    let v = c.loop-job.invariant in
    let prev = arc_value c.args.prev.now in let last = arc_value c.args.last.now in
    let filled = c.args.share.filled in let workers = c.args.share.workers in
    let number = c.args.number in
    let offers = is_offered filled workers number in
    let jobs = c.args.jobs.now in
    let i = c.loop-job.job-index in
    let none : Task = (Last, 0) in
    let task = get_or jobs i none in
    let d : Due = record { prev = prev; last = last; ahead = task.1; kind = task.0 } in
    let tells : offers d ≡ c.offers.result = ap (λ ahead. not filled || is_for_workers workers (number + ahead)) (sym c.from.ensures) ∙ sym c.offers.ensures in
    let so_far = Pushes-few offers _ _ _ v.pushes in
    let here : Pushes offers (d ∷ []) c.loop-job.self c.if-offers.self = elim c.if-offers.branch [
      | then-offers w ↦ subst (λ q. Pushes offers (d ∷ []) c.loop-job.self q) (sym w.self-is)
          (Pushes-one-offered offers d _ _ (tells ∙ w.if-offers.true) w.push.ensures)
      | else-offers w ↦
          let told = tells ∙ w.if-offers.false in
          let room = filled-is c.args.self.now.giver (c.requires.filled (left-filled filled _ told)) in
          subst (λ q. Pushes offers (d ∷ []) c.loop-job.self q) (sym w.self-is)
          (Pushes-one-left offers d _ _ told (ap (λ (p : Pusher). record p { left = p.left + 1 }) w.self-else-offers.view_is)
          (subst (λ capacity. capacity ≤ length c.loop-job.self.giver.pushed) (sym (ap (λ (giver : Giver). giver.capacity) v.pushes.giver)) (omega (arith, room.1, so_far.0))))
    ] in
    let grown = Pushes-few offers _ _ _ here in
    record {
      pushes = subst (λ due. Pushes offers due c.args.self.now c.if-offers.self) (sym (jobs-more prev last jobs i none c.loop-job-test.true)) (Pushes-more offers _ _ _ _ _ v.pushes here);
      few = (let x = v.few in let y = grown.1.1 in omega (arith, x, y));
    }

pub returns : goal.returns
returns g c =
    let prev = arc_value c.args.prev.now in let last = arc_value c.args.last.now in
    let jobs = c.args.jobs.now in
    let offers = is_offered c.args.share.filled c.args.share.workers c.args.number in
    let room : nat_lt (length c.args.self.now.giver.pushed) (2 ^ 60) ≡ true = lt-ltb _ _ (omega (arith, c.if-pushed-ge-MOST_PUSHED.false, c.pushed.ensures)) in
    let all : take c.loop-job.job-index jobs ≡ jobs = take_all c.loop-job.job-index jobs (omega (arith, c.loop-job-test.false)) in
    rw room (subst (λ jobs. Pushes offers (jobs_of prev last jobs) c.args.self.now c.loop-job.self) all c.loop-job.invariant.pushes)
