-- What a walk beside workers comes to.
use Rattle.std.proofs.Common.{sym, subst, inl}
use Rattle.asc_calls.specs.World.{outside_of}
use Rattle.asc_find.specs.declared.guessing.Guessing.{Guessing}
use Rattle.asc_live.specs.Crew.{WentBeside}
use Rattle.asc_live.specs.declared.crew.Crew.{Crew}
use Rattle.asc_words.specs.declared.answer.Conclusion.{Conclusion}
use Rattle.asc_top.specs.Numbers.{guessing_of}
use Rattle.asc_top.specs.Workers.{crew_of}
use Rattle.asc_top.specs.Ran.{WalkedBeside}
use Rattle.asc_top.proofs.Beside.{walked_beside}
use Rattle.asc_top.proofs.run.walk_beside.Goals as goal

pub returns : goal.returns
returns g c =
    let line = c.args.line.now in
    let worked = c.in-Ok.worked in
    let counts = c.counts.result in
    let told = c.counts.ensures in
    let old = outside_of c.args.devices.now c.args.steps.now in
    let new = outside_of c.go_beside.new.devices c.go_beside.new.steps in
    let went : WentBeside (guessing_of line) (crew_of line) c.args.walk.now c.go_beside.new.walk old new worked =
    subst (λ (crew : Crew). WentBeside (guessing_of line) crew c.args.walk.now c.go_beside.new.walk old new worked) c.crew_of.ensures
    (subst (λ (guessing : Guessing). WentBeside guessing c.crew_of.result c.args.walk.now c.go_beside.new.walk old new worked) c.guessing_of.ensures c.in-Ok.ensures.went) in
    inl (subst (λ (o : Conclusion). WalkedBeside line c.args.walk.now c.go_beside.new.walk old new o) (sym c.worked_conclusion.ensures)
    (walked_beside line c.args.walk.now c.go_beside.new.walk old new worked counts went c.count.ensures told.executed told.skipped told.asked told.hits c.requires.some))
