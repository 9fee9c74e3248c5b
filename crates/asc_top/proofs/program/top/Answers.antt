-- What is shown is a conclusion's answer, and by the headline.
use Rattle.std.proofs.Common.{Ok, sym, subst}
use Rattle.asc_calls.specs.World.{outside_of}
use Rattle.asc_top.specs.Answered.{Asked, Surroundings, Headline, around}
use Rattle.asc_top.specs.Reported.{report_with}
use Rattle.asc_top.proofs.Shown.{headline_of_shown, shown_of}
use Rattle.asc_top.proofs.program.top.Goals as goal

pub returns-in-Ok-clause-answer : goal.returns-in-Ok-clause-answer
returns-in-Ok-clause-answer g c = shown_of _ _ _ _ _ _ _ c.in-Ok.ensures.alone c.reported.ensures

pub returns-in-Err-clause-headline : goal.returns-in-Err-clause-headline
returns-in-Err-clause-headline g c =
    let none = c.in-Err.ensures.nothing in
    let middle = around (g.F.Store.files c.conclusion_alone.new.store) (g.F.Store.asked c.conclusion_alone.new.store) (g.F.Store.faults c.conclusion_alone.new.store)
    (outside_of c.conclusion_alone.new.devices c.conclusion_alone.new.steps) in
    let new = around (g.F.Store.files c.answer_of_line.new.store) (g.F.Store.asked c.answer_of_line.new.store) (g.F.Store.faults c.answer_of_line.new.store)
    (outside_of c.answer_of_line.result.1 c.answer_of_line.new.steps) in
    subst (λ (asked : Asked). Headline asked
    (around (g.F.Store.files c.args.store.now) (g.F.Store.asked c.args.store.now) (g.F.Store.faults c.args.store.now) (outside_of c.args.devices c.args.steps.now))
    new c.answer_of_line.result.0) (sym c.in-Err.ensures.beside.0)
    (subst (λ (before : Surroundings). Headline (Ok c.in-Err.line) before new c.answer_of_line.result.0)
    (λ i. around (g.F.Store.files (none.0 i)) (g.F.Store.asked (none.0 i)) (g.F.Store.faults (none.0 i)) (outside_of (none.1 i) (none.2 i)))
    (headline_of_shown (Ok c.in-Err.line) middle new (report_with (g.R.Sink.given c.args.report.now) (g.R.Sink.faults c.args.report.now))
    (report_with (g.R.Sink.given c.answer_of_line.new.report) (g.R.Sink.faults c.answer_of_line.new.report)) c.answer_of_line.result.0 c.answer_of_line.ensures))
