-- A batch leaves the input as it is.
use Rattle.std.proofs.Common.{◌≡◌, ◌∙◌, ℕ, ap, subst, sym}
use Rattle.asc_calls.specs.World.{Devices, Outside, Told, faults, outside, outside_of}
use Rattle.asc_top.specs.Answered.{around}
use Rattle.asc_top.specs.BatchAnswer.{IsBatchAnswer}
use Rattle.asc_top.specs.Reported.{report_with}
use Rattle.asc_top.specs.Runner.{guest_of}
use Rattle.asc_top.proofs.batch.batch.Goals as goal

abbrev over : Told → ℕ → Outside
over t steps = outside t.left t.out t.err steps t.faults

pub returns : goal.returns
returns g c =
    let d = c.args.devices in
    let parts = c.into_parts-input.result in
    let left = g.I.Source.left parts.0 in
    let input_faults = g.I.Source.faults parts.0 in
    let before = c.args.steps.now in
    let after = c.run_all-answer.new.steps in
    let guest = c.run_all-answer.new.devices in
    let old_is : guest_of left input_faults c.new-guest.result before ≡ outside_of d before =
    ap (λ x. guest_of left input_faults x before) c.new-guest.ensures
    ∙ (λ i. let p = c.into_parts-input.ensures.parts i in outside (g.I.Source.left p.0) (g.O.Sink.given p.1) (g.E.Sink.given p.2) before (faults (g.I.Source.faults p.0) (g.O.Sink.faults p.1) (g.E.Sink.faults p.2)))
    ∙ sym (ap (λ (t : Told). over t before) c.into_parts-input.ensures.told) in
    let new_is : guest_of left input_faults guest after ≡ outside_of c.new-3.result after =
    ap (λ (t : Told). outside left t.out t.err after (faults input_faults t.faults.out t.faults.err)) c.into_parts-out.ensures.told
    ∙ sym (λ i. let p = c.into_parts-out.ensures.parts i in outside left (g.O.Sink.given p.1) (g.E.Sink.given p.2) after (faults input_faults (g.O.Sink.faults p.1) (g.E.Sink.faults p.2)))
    ∙ sym (ap (λ x. outside_of x after) c.new-3.ensures) in
    subst (λ (o : Outside). IsBatchAnswer c.args.line.now
    (around (g.F.Store.files c.args.store.now) (g.F.Store.asked c.args.store.now) (g.F.Store.faults c.args.store.now) o)
    (around (g.F.Store.files c.run_all-answer.new.store) (g.F.Store.asked c.run_all-answer.new.store) (g.F.Store.faults c.run_all-answer.new.store) (outside_of c.new-3.result after))
    (report_with (g.R.Sink.given c.args.report.now) (g.R.Sink.faults c.args.report.now))
    (report_with (g.R.Sink.given c.run_all-answer.new.report) (g.R.Sink.faults c.run_all-answer.new.report)) c.run_all-answer.result) old_is
    (subst (λ (o : Outside). IsBatchAnswer c.args.line.now
    (around (g.F.Store.files c.args.store.now) (g.F.Store.asked c.args.store.now) (g.F.Store.faults c.args.store.now) (guest_of left input_faults c.new-guest.result before))
    (around (g.F.Store.files c.run_all-answer.new.store) (g.F.Store.asked c.run_all-answer.new.store) (g.F.Store.faults c.run_all-answer.new.store) o)
    (report_with (g.R.Sink.given c.args.report.now) (g.R.Sink.faults c.args.report.now))
    (report_with (g.R.Sink.given c.run_all-answer.new.report) (g.R.Sink.faults c.run_all-answer.new.report)) c.run_all-answer.result) new_is
    (c.run_all-answer.ensures left input_faults))
