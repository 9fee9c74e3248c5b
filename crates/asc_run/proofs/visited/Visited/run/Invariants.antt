-- Where the program has come from a start as plain execution does, it has come on so, with the visits so far.
use Rattle.std.proofs.Common.{◌≡◌, ◌+◌, ◌-◌, ◌≤◌, IsNone}
use Rattle.asc_calls.specs.World.{World, faults, outside_of, world_in}
use Rattle.asc_run.specs.Visits.{Course, VisitRule}
use Rattle.asc_find.specs.Helper.{Plans}
use Rattle.asc_run.specs.Guessed.{SeesAll}
use Rattle.asc_run.specs.Way.{ComesUnvisited}
use Rattle.asc_run.proofs.Walking.{WalksOn}
use Rattle.asc_run.proofs.visited.Visited.run.Given as goal

abbrev pub invariant-loop-self : goal.invariant-loop-self
invariant-loop-self g l = record {
  walk : (rule : Course → VisitRule) (start : World)
      → ComesUnvisited l.limit rule l.pc start (world_in l.fn.self.process.state l.fn.self.process.calls (outside_of l.fn.devices l.fn.steps)) l.fn.self.process.count
      → WalksOn l.limit rule l.pc l.fn.self.process.count start
      (world_in l.self.process.state l.self.process.calls (outside_of l.devices l.steps))
      l.self.process.count l.self.process.count l.self.skipped l.self.asked
      (g.H.Finder.aid l.fn.helper)
      (g.H.Finder.aid l.helper);
  shape : l.self.process.state.shape ≡ l.fn.self.process.state.shape;
  grows : l.fn.self.process.count ≤ l.self.process.count;
  within : l.self.process.count ≤ l.limit;
  given : (g.H.Finder.aid l.helper).jumps.given ≡ (g.H.Finder.aid l.fn.helper).jumps.given + l.self.skipped;
  asked : (g.H.Finder.aid l.helper).jumps.asked ≡ (g.H.Finder.aid l.fn.helper).jumps.asked + l.self.asked;
  hits : (g.H.Finder.aid l.helper).jumps.hits ≡ (g.H.Finder.aid l.fn.helper).jumps.hits + l.self.hits;
  plans : Plans l.self.asked (g.H.Finder.aid l.fn.helper).plan (g.H.Finder.aid l.helper).plan;
  seen : SeesAll l.self.asked (g.H.Finder.aid l.fn.helper).plan (g.H.Finder.aid l.helper).plan;
  visits : l.self.asked ≤ l.self.process.count;
  skips : l.self.skipped ≤ l.self.process.count;
  hit : l.self.hits ≤ l.self.process.count;
  unset : IsNone l.pc → l.helper ≡ l.fn.helper;
  faults : l.devices.told.faults
      ≡ l.fn.devices.told.faults;
}

abbrev pub decreases-loop-self : goal.decreases-loop-self
decreases-loop-self g l = l.limit - l.self.process.count
