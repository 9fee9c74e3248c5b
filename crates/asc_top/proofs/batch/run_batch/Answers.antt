-- The runs of the image that was read are those of the image that the file means.
use Rattle.std.proofs.Common.{◌≡◌, ◌*◌, inl, inr, Ok, ap, ◌∙◌, subst}
use Rattle.std.proofs.lemmas.Result.{IfErr-weaker, IfOk-weaker}
use Rattle.std.specs.declared.result.Result.{Result}
use Rattle.asc_elf.specs.Image as loader
use Rattle.asc_elf.specs.declared.fault.ElfFault.{ElfFault}
use Rattle.asc_top.specs.Reported.{report_with}
use Rattle.asc_top.specs.Runner.{BreaksRuns, EndsRuns, outputs}
use Rattle.asc_top.proofs.batch.run_batch.Goals as goal

same_image : (read : Result loader.Image ElfFault) (a b : loader.Image) → read ≡ Ok a → read ≡ Ok b → a ≡ b
same_image read a b x y = cc

pub returns-clause-ended : goal.returns-clause-ended
returns-clause-ended g c =
    let line = c.args.line.now in
    let old = outputs c.args.devices.now c.args.steps.now in
    let new = outputs c.run_image.new.devices c.run_image.new.steps in
    let before = report_with (g.R.Sink.given c.args.report.now) (g.R.Sink.faults c.args.report.now) in
    let after = report_with (g.R.Sink.given c.run_image.new.report) (g.R.Sink.faults c.run_image.new.report) in
    let content = c.deref.ensures.value ∙ ap (λ f. f.image) c.files.view_is in
    let inputs = c.deref_mut.ensures.value ∙ ap (λ f. f.inputs) c.files.view_is in
    IfOk-weaker c.run_image.result _ _ (λ done ends image loads.
    let read = c.read.ensures ∙ ap (λ bytes. loader.image_of bytes (1024 * line.memory) line.version) content ∙ loads in
    let same = same_image c.read.result c.in-Ok.image image c.in-Ok.is read in
    subst (λ i. EndsRuns line i c.args.files.inputs old new before after) same
    (subst (λ list. EndsRuns line c.in-Ok.image list old new before after) inputs ends)) c.run_image.ensures.ended

pub returns-clause-broken : goal.returns-clause-broken
returns-clause-broken g c =
    let line = c.args.line.now in
    let old = outputs c.args.devices.now c.args.steps.now in
    let new = outputs c.run_image.new.devices c.run_image.new.steps in
    let before = report_with (g.R.Sink.given c.args.report.now) (g.R.Sink.faults c.args.report.now) in
    let after = report_with (g.R.Sink.given c.run_image.new.report) (g.R.Sink.faults c.run_image.new.report) in
    let content = c.deref.ensures.value ∙ ap (λ f. f.image) c.files.view_is in
    let inputs = c.deref_mut.ensures.value ∙ ap (λ f. f.inputs) c.files.view_is in
    IfErr-weaker c.run_image.result _ _ (λ answer breaks image loads.
    let read = c.read.ensures ∙ ap (λ bytes. loader.image_of bytes (1024 * line.memory) line.version) content ∙ loads in
    let same = same_image c.read.result c.in-Ok.image image c.in-Ok.is read in
    elim breaks [
      | inl still ↦ inl still
      | inr b ↦ inr (subst (λ i. BreaksRuns line i c.args.files.inputs old new before after answer) same
          (subst (λ list. BreaksRuns line c.in-Ok.image list old new before after answer) inputs b))
    ]) c.run_image.ensures.broken
