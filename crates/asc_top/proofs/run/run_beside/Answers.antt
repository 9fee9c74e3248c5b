-- What a line with threads comes to, whose files were read or not.
use Rattle.std.proofs.Common.{List, Ok, map, ap, subst, sym}
use Rattle.std.specs.Arc.{arc_value}
use Rattle.asc_model.specs.Entry.{Entry}
use Rattle.asc_calls.specs.World.{outside_of}
use Rattle.asc_words.specs.declared.line.Line.TheVariants as lines
use Rattle.asc_words.specs.declared.answer.Conclusion.{Conclusion}
use Rattle.asc_top.specs.Ran.{AreOpened}
use Rattle.asc_top.specs.Answered.{IsAnswerFor, around}
use Rattle.asc_top.proofs.ReadFiles.{answer_of_opened}
use Rattle.asc_top.proofs.run.run_beside.Goals as goal

pub returns-in-Ok : goal.returns-in-Ok
returns-in-Ok g c =
    let o = c.in-Ok.ensures.opened in
    let same : _ = ap (λ items. map arc_value items) (sym c.deref.ensures.value) in
    let are = subst (λ (entries : List Entry). AreOpened c.args.line.now o.read c.in-Ok.opened.walk entries) same o.are in
    answer_of_opened c.args.line.now _ _ _ _ c.walk_in_threads.result o (c.walk_in_threads.ensures o.read are)

pub returns-in-Err : goal.returns-in-Err
returns-in-Err g c =
    let guest = outside_of c.args.devices.now c.args.steps.now in
    subst (λ (conclusion : Conclusion). IsAnswerFor (Ok (lines.Run c.args.line.now))
    (around (g.F.Store.files c.args.store.now) (g.F.Store.asked c.args.store.now) (g.F.Store.faults c.args.store.now) guest)
    (around (g.F.Store.files c.open.new.store) (g.F.Store.asked c.open.new.store) (g.F.Store.faults c.open.new.store) guest) conclusion) (sym c.of.ensures)
    (c.in-Err.ensures.unopened guest)
