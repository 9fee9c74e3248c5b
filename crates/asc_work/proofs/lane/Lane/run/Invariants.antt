use Rattle.std.proofs.Common.{◌≡◌, ◌+◌, ◌*◌, ◌-◌, length}
use Rattle.asc_work.specs.Lanes.{AreJobs, HasRunFirst, IsLane}
use Rattle.asc_work.proofs.lane.Lane.run.Given as goal

abbrev pub invariant-loop-i : goal.invariant-loop-i
invariant-loop-i g l =
    IsLane l.round.last.now.value.shape l.round.lanes l.self
    × (l.i ≡ l.at + length l.self.results.items * l.round.lanes)
    × HasRunFirst l.round l.at (length l.self.results.items) l.self
    × AreJobs l.round l.at (length l.self.results.items)

abbrev pub decreases-loop-i : goal.decreases-loop-i
decreases-loop-i g l = length l.round.jobs.now - l.i
