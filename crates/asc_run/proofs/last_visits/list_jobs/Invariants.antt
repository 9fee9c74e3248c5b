use Rattle.std.proofs.Common.{◌≡◌, ◌≤◌, ◌-◌, ◌*◌, vec_len, vec_capacity}
use Rattle.asc_run.specs.SerialInside.{tasks_for}
use Rattle.asc_run.proofs.last_visits.list_jobs.Given as goal

abbrev pub invariant-loop-target : goal.invariant-loop-target
invariant-loop-target l = record {
  items : l.jobs.items ≡ tasks_for l.guessing l.number l.start (l.target - l.start);
  few : vec_len l.jobs ≤ 2 * (l.target - l.start);
  room : vec_capacity l.jobs ≡ vec_capacity l.initial.jobs;
}
