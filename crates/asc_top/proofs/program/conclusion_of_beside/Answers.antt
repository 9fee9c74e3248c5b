-- What a line comes to that asks for workers.
use Rattle.std.proofs.Common.{Ok, subst, sym}
use Rattle.asc_calls.specs.World.{Outside, faults, outside, outside_of, with_out}
use Rattle.asc_words.specs.declared.line.Line.{Line}
use Rattle.asc_top.specs.Answered.{IsAnswerFor, around}
use Rattle.asc_top.proofs.Lent.{over_devices}
use Rattle.asc_top.proofs.program.conclusion_of_beside.Goals as goal

pub returns-in-Trial : goal.returns-in-Trial
returns-in-Trial g c =
    let d = c.args.devices.now in
    let out = c.out_mut.result.now in
    let new = around (g.F.Store.files c.args.store.now) (g.F.Store.asked c.args.store.now) (g.F.Store.faults c.args.store.now)
    (outside_of (with_out d c.trial_beside.new.out (g.O.Sink.given c.trial_beside.new.out) (g.O.Sink.faults c.trial_beside.new.out)) c.trial_beside.new.steps) in
    over_devices d (g.O.Sink.given out) (g.O.Sink.faults out) c.args.steps.now (λ (o : Outside). IsAnswerFor (Ok c.args.line)
    (around (g.F.Store.files c.args.store.now) (g.F.Store.asked c.args.store.now) (g.F.Store.faults c.args.store.now) o) new c.trial_beside.result)
    c.out_mut.ensures.told c.out_mut.ensures.faults
    (subst (λ (line : Line). IsAnswerFor (Ok line) (around (g.F.Store.files c.args.store.now) (g.F.Store.asked c.args.store.now) (g.F.Store.faults c.args.store.now)
    (outside d.told.left (g.O.Sink.given out) d.told.err c.args.steps.now (faults d.told.faults.input (g.O.Sink.faults out) d.told.faults.err))) new c.trial_beside.result)
    (sym c.in-Trial.is) (c.trial_beside.ensures _ _ _ _ _ _ _))
