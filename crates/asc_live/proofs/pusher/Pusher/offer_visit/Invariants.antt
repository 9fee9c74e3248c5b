-- The jobs so far were pushed, or left.
use Rattle.std.proofs.Common.{◌≤◌, ◌+◌, length, take}
use Rattle.std.specs.Arc.{arc_value}
use Rattle.asc_live.specs.Due.{Pushes, full_of, is_offered, jobs_of}
use Rattle.asc_live.proofs.pusher.Pusher.offer_visit.Given as goal

abbrev pub invariant-loop-job : goal.invariant-loop-job
invariant-loop-job g l = record {
  pushes : Pushes (is_offered l.share.filled l.share.workers l.number) (jobs_of (arc_value l.prev) (arc_value l.last) (take l.job-index l.jobs)) l.fn.self l.self;
  few : length l.self.giver.pushed + full_of l.self ≤ length l.fn.self.giver.pushed + full_of l.fn.self + l.job-index;
}
