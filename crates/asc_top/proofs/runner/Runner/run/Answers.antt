-- How a run of a batch is served.
use Rattle.std.proofs.Common.{◌+◌, sym, subst}
use Rattle.asc_calls.specs.World.{outside_of}
use Rattle.asc_find.specs.declared.guessing.Guessing.{Guessing}
use Rattle.asc_live.specs.Crew.{WentBeside}
use Rattle.asc_live.specs.declared.crew.Crew.{Crew}
use Rattle.asc_words.specs.declared.answer.Conclusion.{Conclusion}
use Rattle.asc_top.specs.Numbers.{guessing_of}
use Rattle.asc_top.specs.Workers.{crew_of}
use Rattle.asc_top.specs.Ran.{WalkedBeside}
use Rattle.asc_top.specs.Runner.{IsHelpOf, IsRunnerFor}
use Rattle.asc_top.specs.declared.runner.Runner.{Runner}
use Rattle.asc_top.specs.declared.runner.Runner.TheVariants.{Beside}
use Rattle.asc_top.proofs.Beside.{walked_beside}
use Rattle.asc_top.proofs.runner.Runner.run.Goals as goal

pub returns-in-Beside-clause-runs : goal.returns-in-Beside-clause-runs
returns-in-Beside-clause-runs g c =
    let line = c.args.line.now in
    let worked = c.go-worked.result in
    let told = c.counts.ensures in
    let serves = subst (λ (r : Runner g.row.T.Denot). IsRunnerFor line (c.requires.serves.0 + 1) r) c.in-Beside.is c.requires.serves.1 in
    let old = outside_of c.args.devices.now c.args.steps.now in
    let new = outside_of c.go-worked.new.devices c.go-worked.new.steps in
    let went : WentBeside (guessing_of line) (crew_of line) c.args.walk.now c.go-worked.new.walk old new worked =
    subst (λ (crew : Crew). WentBeside (guessing_of line) crew c.args.walk.now c.go-worked.new.walk old new worked) serves.2
    (subst (λ (guessing : Guessing). WentBeside guessing c.in-Beside.crew.crew c.args.walk.now c.go-worked.new.walk old new worked) serves.1 c.go-worked.ensures.went) in
    let beside : WalkedBeside line c.args.walk.now c.go-worked.new.walk old new c.worked_conclusion.result =
    subst (λ (o : Conclusion). WalkedBeside line c.args.walk.now c.go-worked.new.walk old new o) (sym c.worked_conclusion.ensures)
    (walked_beside line c.args.walk.now c.go-worked.new.walk old new worked c.counts.result went c.count.ensures told.executed told.skipped told.asked told.hits serves.0) in
    record {
      first = beside.first;
      last = beside.last;
      fresh = record { jumps = beside.fresh.jumps_are; made = beside.fresh.made; refused = beside.fresh.refused; full = beside.fresh.full };
      walked = beside.walked;
      workers = beside.workers;
      help = subst (λ (r : Runner g.row.T.Denot). IsHelpOf r (Beside c.go-worked.new.self) beside.first beside.last) (sym c.in-Beside.is) tt;
    }
