-- What a save comes to, whose image was read or not.
use Rattle.std.proofs.Common.{Ok, subst, sym}
use Rattle.asc_calls.specs.World.{faults, outside}
use Rattle.asc_run.specs.declared.walk.Settings.{Settings}
use Rattle.asc_words.specs.declared.line.Line.TheVariants as lines
use Rattle.asc_words.specs.declared.answer.Conclusion.{Conclusion}
use Rattle.asc_top.specs.Numbers.{visited_settings}
use Rattle.asc_top.specs.Ran.{IsWalkOf}
use Rattle.asc_top.specs.Answered.{IsAnswerFor, around}
use Rattle.asc_top.proofs.Saving.{answer_of_no_save, answer_of_save}
use Rattle.asc_top.proofs.save.save.Goals as goal

pub returns-in-Ok : goal.returns-in-Ok
returns-in-Ok g c = λ left err input_faults err_faults.
    let line = c.args.line.now in
    let read = c.in-Ok.ensures.walk in
    let own : IsWalkOf line (visited_settings line) read.0 c.in-Ok.walk =
    subst (λ (s : Settings). IsWalkOf line s read.0 c.in-Ok.walk) c.visited_settings.ensures.settings read.1 in
    subst (λ (o : Conclusion). IsAnswerFor (Ok (lines.Save line))
    (around (g.F.Store.files c.args.store.now) (g.F.Store.asked c.args.store.now) (g.F.Store.faults c.args.store.now)
    (outside left (g.O.Sink.given c.args.out.now) err c.args.steps.now (faults input_faults (g.O.Sink.faults c.args.out.now) err_faults)))
    (around (g.F.Store.files c.walk_in.new.store) (g.F.Store.asked c.walk_in.new.store) (g.F.Store.faults c.walk_in.new.store)
    (outside left (g.O.Sink.given c.save_walk.new.out) err c.save_walk.new.steps (faults input_faults (g.O.Sink.faults c.save_walk.new.out) err_faults))) o) (sym c.of.ensures)
    (answer_of_save line read.0 own.image _ _ _ _ _ _ read.2.held read.2.within own.loads read.2.stay read.2.names read.2.no_fault left _ _ err _ _ input_faults _ _ err_faults c.save_walk.result
    (c.save_walk.ensures read.0 own))

pub returns-in-Err : goal.returns-in-Err
returns-in-Err g c = λ left err input_faults err_faults.
    let line = c.args.line.now in
    let guest = outside left (g.O.Sink.given c.args.out.now) err c.args.steps.now (faults input_faults (g.O.Sink.faults c.args.out.now) err_faults) in
    let old = around (g.F.Store.files c.args.store.now) (g.F.Store.asked c.args.store.now) (g.F.Store.faults c.args.store.now) guest in
    subst (λ (o : Conclusion). IsAnswerFor (Ok (lines.Save line)) old
    (around (g.F.Store.files c.walk_in.new.store) (g.F.Store.asked c.walk_in.new.store) (g.F.Store.faults c.walk_in.new.store) guest) o) (sym c.of-in-Err.ensures)
    (answer_of_no_save line old _ _ _ c.in-Err.answer c.in-Err.ensures.none)
