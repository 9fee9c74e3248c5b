use Rattle.std.proofs.Common.{Ok, Err, map, sym, ◌∙◌, subst}
use Rattle.std.specs.Arc.{arc_value}
use Rattle.asc_save.specs.Traced.{AreRetraced}
use Rattle.asc_save.proofs.Parsing.{cases_handed, entries_handed, loaded_Err, loaded_Ok, loaded_as, saved-header, saved-listed}
use Rattle.asc_save.proofs.loading.load.Goals as goal

pub returns-in-Some : goal.returns-in-Some
returns-in-Some c = saved-header c.args.bytes.now c.in-Some.fault (sym c.header_fault.ensures ∙ c.in-Some.is)

pub returns-in-Some-entries_fault : goal.returns-in-Some-entries_fault
returns-in-Some-entries_fault c =
    saved-listed c.args.bytes.now c.in-Some-entries_fault.fault (sym c.header_fault.ensures ∙ c.in_default.is)
    (sym (cases_handed c.args.bytes.now c.shape-shape.result c.count-count.result c.shape-shape.ensures c.count-count.ensures) ∙ sym c.entries_fault.ensures ∙ c.in-Some-entries_fault.is)

pub returns-in_err-entries : goal.returns-in_err-entries
returns-in_err-entries c =
    let file = c.args.bytes.now in
    let handed = entries_handed file c.shape-shape.result c.count-count.result c.shape-shape.ensures c.count-count.ensures in
    let whole = sym (cases_handed file c.shape-shape.result c.count-count.result c.shape-shape.ensures c.count-count.ensures) ∙ sym c.entries_fault.ensures ∙ c.in_default-entries_fault.is in
    loaded_as file c.from_residual.result c.in_err-entries.field-0.0 c.from_residual.ensures.1
    (loaded_Err file c.in_err-entries.field-0.0 (sym c.header_fault.ensures ∙ c.in_default.is) whole
    (subst (λ list. AreRetraced list (Err c.in_err-entries.field-0.0)) handed c.in_err-entries.ensures))

pub returns : goal.returns
returns c =
    let file = c.args.bytes.now in
    let handed = entries_handed file c.shape-shape.result c.count-count.result c.shape-shape.ensures c.count-count.ensures in
    let whole = sym (cases_handed file c.shape-shape.result c.count-count.result c.shape-shape.ensures c.count-count.ensures) ∙ sym c.entries_fault.ensures ∙ c.in_default-entries_fault.is in
    let made = subst (λ list. AreRetraced list (Ok c.in_ok-entries.entries)) handed c.in_ok-entries.ensures in
    loaded_Ok file c.shape-shape.result (map arc_value c.in_ok-entries.entries.items) (sym c.header_fault.ensures ∙ c.in_default.is) whole c.shape-shape.ensures made.0 made.1
