use Rattle.std.proofs.Common.{ap, length}
use Rattle.asc_work.specs.declared.lane.Round.{Round}
use Rattle.asc_work.specs.Lanes.{Lanes}
use Rattle.asc_work.proofs.Rounds.{length-dealt, round_run, round_shared}
use Rattle.asc_work.proofs.lanes.Lanes.run.Goals as goal

pub returns-clause-count : goal.returns-clause-count
returns-clause-count g c = length-dealt _ (length c.args.jobs.now)

pub returns-clause-done : goal.returns-clause-done
returns-clause-done g c =
    let inside = c.self.inside in
    let round : Round = record {
      prev = c.args.prev;
      last = c.args.last;
      jobs = c.args.jobs;
      first = c.args.first;
      laps = inside.laps;
      span = inside.span;
      lanes = c.len.result;
    } in
    round_run round inside.lanes.len c.args.self.now.laps c.args.self.now.span c.as_mut_slice.result.now inside.lanes.items c.run_all.new.lanes
    (ap (λ (t : Lanes). t.laps) c.self.view_is) (ap (λ (t : Lanes). t.span) c.self.view_is)
    c.as_mut_slice.ensures.value c.as_mut_slice.ensures.len c.run_all.ensures.count c.self.invariant.0.some c.len.ensures c.run_all.ensures.done

pub returns-clause-shares : goal.returns-clause-shares
returns-clause-shares g c =
    let inside = c.self.inside in
    let round : Round = record {
      prev = c.args.prev;
      last = c.args.last;
      jobs = c.args.jobs;
      first = c.args.first;
      laps = inside.laps;
      span = inside.span;
      lanes = c.len.result;
    } in
    round_shared round inside.lanes.len c.args.self.now.lanes c.as_mut_slice.result.now inside.lanes.items c.run_all.new.lanes
    (ap (λ (t : Lanes). t.lanes) c.self.view_is) c.as_mut_slice.ensures.value c.as_mut_slice.ensures.len c.run_all.ensures.count c.self.invariant.0.some c.len.ensures c.run_all.ensures.only
