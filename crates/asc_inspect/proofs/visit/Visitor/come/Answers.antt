-- A program that has not begun is on its way, and has seen nothing.
use Rattle.std.proofs.Common.{[]}
use Rattle.std.proofs.lemmas.Option.{IfSome_then}
use Rattle.asc_calls.specs.World.{outside_of, world_in}
use Rattle.asc_inspect.proofs.Visits.{comes-alone, on-way-first}
use Rattle.asc_inspect.proofs.visit.Visitor.come.Goals as goal

pub returns-clause-there : goal.returns-clause-there
returns-clause-there g c = λ none.
    let r = c.requires in
    let old = world_in c.args.self.now.process.state c.args.self.now.process.calls (outside_of c.args.devices.now c.args.steps.now) in
    comes-alone c.args.pc c.args.visit [] old _ _ (c.come_on.ensures.there none old [] (on-way-first c.args.pc old _ _ r.going r.brk r.count r.visits))

pub returns-clause-ended : goal.returns-clause-ended
returns-clause-ended g c =
    let r = c.requires in
    let old = world_in c.args.self.now.process.state c.args.self.now.process.calls (outside_of c.args.devices.now c.args.steps.now) in
    IfSome_then c.come_on.result c.come_on.ensures.ended (λ ended ends. ends old [] (on-way-first c.args.pc old _ _ r.going r.brk r.count r.visits))
