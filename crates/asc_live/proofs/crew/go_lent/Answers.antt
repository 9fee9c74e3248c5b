-- The giver is that of the workers' queue still, and the workers are the same.
use Rattle.std.proofs.Common.{length, sym, ap, ◌∙◌}
use Rattle.asc_jobs.specs.Jobs.{Giver}
use Rattle.asc_cache.specs.Cache.{ShardReaders}
use Rattle.asc_live.specs.Live.{new_live}
use Rattle.asc_live.proofs.Crews.{went}
use Rattle.asc_live.proofs.Runs.{run_workers}
use Rattle.asc_live.proofs.crew.go_lent.Goals as goal

pub returns-clause-went : goal.returns-clause-went
returns-clause-went g c =
    went c.args.parts.visits.guessing _ _ _ _ c.args.readers c.args.parts.giver c.new-live.result c.go_served-ended.new.helper _
    (c.new-live.ensures.live ∙ ap (λ (r : ShardReaders). new_live r c.args.parts.giver c.args.parts.visits.guessing (length c.args.wakers.now.items) c.args.knows) c.new-lent.ensures)
    c.requires.parts.queue.empty c.requires.none_asked c.into_parts-lent.ensures.live c.go_served-ended.ensures.walks
    c.go_served-ended.ensures.made c.go_served-ended.ensures.refused c.go_served-ended.ensures.full
    (sym (ap (λ (giver : Giver). length giver.pushed) c.into_parts-lent.ensures.giver) ∙ c.take_in-taken.ensures.jobs)
    c.args.crew c.requires.parts.queue.bound (c.len-workers.ensures ∙ c.requires.workers)

pub returns-clause-team : goal.returns-clause-team
returns-clause-team g c =
    run_workers c.args.team.now.posts c.begin.new.self.posts c.go_served-ended.new.team.posts c.take_in-taken.new.self.posts
    c.begin.ensures.count c.take_in-taken.ensures.count c.begin.ensures.workers c.go_served-ended.ensures.team c.take_in-taken.ensures.workers
