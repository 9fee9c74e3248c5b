-- The program has come as plain execution does, with the visits so far, and its search stands where it is to.
use Rattle.std.proofs.Common.{◌≡◌, ◌+◌, ◌-◌, ◌≤◌}
use Rattle.asc_calls.specs.World.{faults, outside_of, world_in}
use Rattle.asc_seek.specs.Seek.{IsBehind}
use Rattle.asc_find.specs.Helper.{Plans}
use Rattle.asc_run.specs.Guessed.{SeesAll}
use Rattle.asc_run.proofs.Seeking.{IsEarly}
use Rattle.asc_run.proofs.SeekingWalk.{SeeksOn}
use Rattle.asc_run.proofs.visited.Visited.seek.Given as goal

abbrev pub invariant-loop-limit : goal.invariant-loop-limit
invariant-loop-limit g l = record {
  walk : SeeksOn l.limit l.fn.seeker.seeking
      (world_in l.fn.self.process.state l.fn.self.process.calls (outside_of l.fn.devices l.fn.steps))
      (world_in l.self.process.state l.self.process.calls (outside_of l.devices l.steps))
      l.self.process.count l.self.skipped l.self.asked l.seeker
      (g.H.Finder.aid l.fn.helper)
      (g.H.Finder.aid l.helper);
  behind : IsBehind l.self.process.count l.seeker;
  early : IsEarly (l.self.process.count + 1) l.seeker;
  seeking : l.seeker.seeking ≡ l.fn.seeker.seeking;
  shape : l.self.process.state.shape ≡ l.fn.self.process.state.shape;
  within : l.self.process.count ≤ l.limit;
  given : (g.H.Finder.aid l.helper).jumps.given ≡ (g.H.Finder.aid l.fn.helper).jumps.given + l.self.skipped;
  asked : (g.H.Finder.aid l.helper).jumps.asked ≡ (g.H.Finder.aid l.fn.helper).jumps.asked + l.self.asked;
  hits : (g.H.Finder.aid l.helper).jumps.hits ≡ (g.H.Finder.aid l.fn.helper).jumps.hits + l.self.hits;
  plans : Plans l.self.asked (g.H.Finder.aid l.fn.helper).plan (g.H.Finder.aid l.helper).plan;
  seen : SeesAll l.self.asked (g.H.Finder.aid l.fn.helper).plan (g.H.Finder.aid l.helper).plan;
  visits : l.self.asked ≤ l.self.process.count;
  skips : l.self.skipped ≤ l.self.process.count;
  hit : l.self.hits ≤ l.self.process.count;
  faults : l.devices.told.faults
      ≡ l.fn.devices.told.faults;
}

abbrev pub decreases-loop-limit : goal.decreases-loop-limit
decreases-loop-limit g l = l.limit - l.self.process.count
