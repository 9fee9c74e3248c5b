-- What a batch comes to.
use Rattle.std.proofs.Common.{rules, ◌≡◌, ◌∙◌, refl, ap, subst, arith, inl, inr}
use Rattle.asc_calls.specs.World.{faults}
use Rattle.asc_words.specs.Batch.{BatchLine}
use Rattle.asc_words.specs.declared.line.RunLine.{RunLine}
use Rattle.asc_words.specs.declared.answer.Answer.{Answer}
use Rattle.asc_words.specs.declared.answer.Answer.TheVariants as answers
use Rattle.asc_words.specs.declared.answer.Conclusion.{Conclusion}
use Rattle.asc_top.specs.Program.{load_of}
use Rattle.asc_top.specs.Answered.{around}
use Rattle.asc_top.specs.BatchAnswer.{IsBatchAnswer}
use Rattle.asc_top.specs.Reported.{IsReported, report_with}
use Rattle.asc_top.specs.Runner.{BreaksRuns, EndsRuns, guest_of, outputs}
use Rattle.asc_top.proofs.BatchReads.{all_counted}
use Rattle.asc_top.proofs.BatchAnswers.{Breaks, answer_of_break, answer_of_end, answer_of_failed_report, answer_of_refused_batch}
use Rattle.asc_top.proofs.batch.run_all.Goals as goal

pub run_batch-requires-clause-inputs : goal.run_batch-requires-clause-inputs
run_batch-requires-clause-inputs g c =
    let all = all_counted c.args.line.now c.in-Ok.files _ _ _ _ _ _ c.in-Ok.ensures.read in
    let some = c.requires.some in
    let few = c.requires.few in
    λ _ _. (omega (arith, all, some), omega (arith, all, few))

pub returns-in-Err : goal.returns-in-Err
returns-in-Err g c = λ left input_faults.
    answer_of_refused_batch c.args.line.now c.in-Err.answer _ _ _ _ _ _ c.in-Err.ensures.refused _ _ _ c.reported.result
    (subst (λ (o : Conclusion). IsReported (report_with (g.R.Sink.given c.args.report.now) (g.R.Sink.faults c.args.report.now))
    (report_with (g.R.Sink.given c.reported.new.report) (g.R.Sink.faults c.reported.new.report)) o c.reported.result) c.of.ensures c.reported.ensures)

pub returns-in-Ok-run_batch : goal.returns-in-Ok-run_batch
returns-in-Ok-run_batch g c = λ left input_faults.
    let line = c.args.line.now in
    let r = c.in-Ok.ensures.read in
    let same = ap (λ (l : BatchLine). l.run) c.line.view_is in
    let loads = ap (λ (l : RunLine). load_of l c.in-Ok.files.image) same ∙ r.loads in
    answer_of_end line c.in-Ok.files _ _ _ _ _ _ r left input_faults _ _ refl refl _ _
    (subst (λ (l : RunLine). EndsRuns l r.image c.in-Ok.files.inputs
    (outputs c.args.devices.now c.args.steps.now)
    (outputs c.run_batch.new.devices c.run_batch.new.steps)
    (report_with (g.R.Sink.given c.args.report.now) (g.R.Sink.faults c.args.report.now)) (report_with (g.R.Sink.given c.run_batch.new.report) (g.R.Sink.faults c.run_batch.new.report)))
    same (c.in-Ok-run_batch.ensures.ended r.image loads))

pub returns-in-Err-ReportFault : goal.returns-in-Err-ReportFault
returns-in-Err-ReportFault g c = λ left input_faults.
    let line = c.args.line.now in
    let r = c.in-Ok.ensures.read in
    let answered = c.in-Err-ReportFault.field-0 in
    let same = ap (λ (l : BatchLine). l.run) c.line.view_is in
    let loads = ap (λ (l : RunLine). load_of l c.in-Ok.files.image) same ∙ r.loads in
    let old = outputs c.args.devices.now c.args.steps.now in
    let new = outputs c.run_batch.new.devices c.run_batch.new.steps in
    let before = report_with (g.R.Sink.given c.args.report.now) (g.R.Sink.faults c.args.report.now) in
    let after = report_with (g.R.Sink.given c.run_batch.new.report) (g.R.Sink.faults c.run_batch.new.report) in
    let breaks : Breaks line.run r.image c.in-Ok.files.inputs old new before after answered =
    elim (c.in-Err-ReportFault.ensures.broken r.image loads) [
      | inl still ↦ inl (
        still.0,
        (λ i. outputs (still.1 i) (still.2 i)),
        (λ i. report_with (g.R.Sink.given (still.3 i)) (g.R.Sink.faults (still.3 i))),
      )
      | inr b ↦ inr (subst (λ (l : RunLine). BreaksRuns l r.image c.in-Ok.files.inputs old new before after answered) same b)
    ] in
    let failed : answered ≡ answers.ReportFault = c.in-Err-ReportFault.field-0-is in
    subst (λ (a : Answer). IsBatchAnswer line
    (around (g.F.Store.files c.args.store.now) (g.F.Store.asked c.args.store.now) (g.F.Store.faults c.args.store.now)
    (guest_of left input_faults c.args.devices.now c.args.steps.now))
    (around (g.F.Store.files c.read_batch.new.store) (g.F.Store.asked c.read_batch.new.store) (g.F.Store.faults c.read_batch.new.store)
    (guest_of left input_faults c.run_batch.new.devices c.run_batch.new.steps))
    before after a) failed
    (answer_of_failed_report line c.in-Ok.files _ _ _ _ _ _ r left input_faults old new refl refl before after answered breaks failed)

pub returns-in-Err-run_batch : goal.returns-in-Err-run_batch
returns-in-Err-run_batch g c = λ left input_faults.
    let line = c.args.line.now in
    let r = c.in-Ok.ensures.read in
    let answered = c.in-Err-run_batch.answer in
    let other : answered ≡ answers.ReportFault → ⊥ = search rules in
    let same = ap (λ (l : BatchLine). l.run) c.line.view_is in
    let loads = ap (λ (l : RunLine). load_of l c.in-Ok.files.image) same ∙ r.loads in
    let old = outputs c.args.devices.now c.args.steps.now in
    let new = outputs c.run_batch.new.devices c.run_batch.new.steps in
    let before = report_with (g.R.Sink.given c.args.report.now) (g.R.Sink.faults c.args.report.now) in
    let after = report_with (g.R.Sink.given c.run_batch.new.report) (g.R.Sink.faults c.run_batch.new.report) in
    let last = report_with (g.R.Sink.given c.reported-in-Err-run_batch.new.report) (g.R.Sink.faults c.reported-in-Err-run_batch.new.report) in
    let breaks : Breaks line.run r.image c.in-Ok.files.inputs old new before after answered =
    elim (c.in-Err-run_batch.ensures.broken r.image loads) [
      | inl still ↦ inl (
        still.0,
        (λ i. outputs (still.1 i) (still.2 i)),
        (λ i. report_with (g.R.Sink.given (still.3 i)) (g.R.Sink.faults (still.3 i))),
      )
      | inr b ↦ inr (subst (λ (l : RunLine). BreaksRuns l r.image c.in-Ok.files.inputs old new before after answered) same b)
    ] in
    answer_of_break line c.in-Ok.files _ _ _ _ _ _ r left input_faults old new refl refl before after answered breaks other last c.reported-in-Err-run_batch.result
    (subst (λ (o : Conclusion). IsReported after last o c.reported-in-Err-run_batch.result) c.of-in-Err-run_batch.ensures c.reported-in-Err-run_batch.ensures)
