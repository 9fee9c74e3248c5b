-- The files of a batch were read, or one was not.
use Rattle.std.proofs.Common.{◌≡◌, ◌∙◌, List, ℕ, Ok, Err, sym, ap, subst}
use Rattle.asc_words.specs.Batch.{BatchLine}
use Rattle.asc_words.specs.declared.answer.Answer.TheVariants as answers
use Rattle.asc_top.specs.Program.{load_of}
use Rattle.asc_top.specs.BatchRead.{FailsAtInput, RefusesBatch}
use Rattle.asc_top.proofs.ReadFiles.{answered_as}
use Rattle.asc_top.proofs.BatchReads.{refuses_image, refuses_inputs, refuses_unread}
use Rattle.asc_top.proofs.batch_files.read_batch.Goals as goal

pub returns-in_err-image-clause-refused : goal.returns-in_err-image-clause-refused
returns-in_err-image-clause-refused g c =
    let line : BatchLine = record { run = c.line.inside.run; inputs = c.line.inside.inputs.items } in
    let answered = c.in_err-image.field-0.0 in
    let store = c.args.store.now in
    let last = c.file_of.new.store in
    let refused = refuses_unread line (g.F.Store.files store) (g.F.Store.files last) (g.F.Store.asked store) (g.F.Store.asked last) (g.F.Store.faults store) (g.F.Store.faults last)
    answered c.in_err-image.ensures.unread in
    answered_as c.from_residual.result answered
    (λ answer. RefusesBatch c.args.line.now answer (g.F.Store.files store) (g.F.Store.asked store) (g.F.Store.faults store) (g.F.Store.files last) (g.F.Store.asked last) (g.F.Store.faults last))
    c.from_residual.ensures.1
    (subst (λ (l : BatchLine). RefusesBatch l answered (g.F.Store.files store) (g.F.Store.asked store) (g.F.Store.faults store) (g.F.Store.files last) (g.F.Store.asked last) (g.F.Store.faults last))
    c.line.view_is refused)

pub returns-in-Err-clause-refused : goal.returns-in-Err-clause-refused
returns-in-Err-clause-refused g c =
    let line : BatchLine = record { run = c.line.inside.run; inputs = c.line.inside.inputs.items } in
    let store = c.args.store.now in
    let last = c.file_of.new.store in
    let content = c.in_ok-image.image.items in
    let loads : load_of line.run content ≡ Err c.in-Err.fault = ap (λ (bytes : List ℕ). load_of line.run bytes) (sym c.deref.ensures.value) ∙ sym c.read.ensures ∙ c.in-Err.is in
    let refused = refuses_image line (g.F.Store.files store) (g.F.Store.files last) (g.F.Store.asked store) (g.F.Store.asked last) (g.F.Store.faults store) (g.F.Store.faults last)
    content c.in-Err.fault c.in_ok-image.ensures.read loads in
    subst (λ (l : BatchLine). RefusesBatch l (answers.Image c.in-Err.fault) (g.F.Store.files store) (g.F.Store.asked store) (g.F.Store.faults store) (g.F.Store.files last) (g.F.Store.asked last) (g.F.Store.faults last))
    c.line.view_is refused

pub returns-in_err-inputs-clause-refused : goal.returns-in_err-inputs-clause-refused
returns-in_err-inputs-clause-refused g c =
    let line : BatchLine = record { run = c.line.inside.run; inputs = c.line.inside.inputs.items } in
    let store = c.args.store.now in
    let between = c.file_of.new.store in
    let last = c.read_inputs.new.store in
    let content = c.in_ok-image.image.items in
    let answered = c.in_err-inputs.field-0.0 in
    let loads : load_of line.run content ≡ Ok c.in-Ok.loaded = ap (λ (bytes : List ℕ). load_of line.run bytes) (sym c.deref.ensures.value) ∙ sym c.read.ensures ∙ c.in-Ok.is in
    let fails = subst (λ (names : List (List ℕ)). FailsAtInput names answered (g.F.Store.files between) (g.F.Store.asked between) (g.F.Store.faults between) (g.F.Store.files last) (g.F.Store.asked last) (g.F.Store.faults last))
    c.deref-2.ensures.value c.in_err-inputs.ensures.failed in
    let refused = refuses_inputs line (g.F.Store.files store) (g.F.Store.files last) (g.F.Store.asked store) (g.F.Store.asked last) (g.F.Store.faults store) (g.F.Store.faults last)
    content c.in-Ok.loaded (g.F.Store.files between) (g.F.Store.asked between) (g.F.Store.faults between) c.in_ok-image.ensures.read loads answered fails in
    answered_as c.from_residual-in_err-inputs.result answered
    (λ answer. RefusesBatch c.args.line.now answer (g.F.Store.files store) (g.F.Store.asked store) (g.F.Store.faults store) (g.F.Store.files last) (g.F.Store.asked last) (g.F.Store.faults last))
    c.from_residual-in_err-inputs.ensures.1
    (subst (λ (l : BatchLine). RefusesBatch l answered (g.F.Store.files store) (g.F.Store.asked store) (g.F.Store.faults store) (g.F.Store.files last) (g.F.Store.asked last) (g.F.Store.faults last))
    c.line.view_is refused)
