-- What a line opens, whose files were read or not.
use Rattle.std.proofs.Common.{◌≡◌, ◌∙◌, List, Ok, map, ap, subst, sym}
use Rattle.std.specs.Arc.{arc_value}
use Rattle.asc_model.specs.Shape.{Shape}
use Rattle.asc_model.specs.Entry.{Entry}
use Rattle.asc_run.specs.declared.walk.Settings.{Settings}
use Rattle.asc_run.specs.Walk.{Walk}
use Rattle.asc_top.specs.Program.{entries_for}
use Rattle.asc_top.specs.Numbers.{settings_of}
use Rattle.asc_top.specs.Ran.{IsNoEntries, IsRefused, IsWalkOf, Opens}
use Rattle.asc_top.specs.Answered.{around}
use Rattle.asc_top.proofs.ReadFiles.{answered_as, answer_of_no_entries, answer_of_no_run, opens_both, opens_one}
use Rattle.asc_top.proofs.opened.open.Goals as goal

pub returns-in_err-walk-clause-unopened : goal.returns-in_err-walk-clause-unopened
returns-in_err-walk-clause-unopened g c =
    let store = c.args.store.now in
    let refused = c.in_err-walk.ensures.none in
    answered_as c.from_residual.result c.in_err-walk.field-0.0 _ c.from_residual.ensures.1
    (λ guest. answer_of_no_run c.args.line.now (around (g.F.Store.files store) (g.F.Store.asked store) (g.F.Store.faults store) guest) _ _ _ refused.stay c.in_err-walk.field-0.0 refused)

pub returns-in_err-first-in-Some-clause-unopened :
    goal.returns-in_err-first-in-Some-clause-unopened
returns-in_err-first-in-Some-clause-unopened g c =
    let line = c.args.line.now in
    let store = c.args.store.now in
    let between = c.walk_in.new.store in
    let last = c.entries_in.new.store in
    let answered = c.in_err-first-in-Some.field-0.0 in
    let read = c.in_ok-walk.ensures.walk in
    let own : IsWalkOf line (settings_of line) read.0 c.in_ok-walk.walk = subst (λ (s : Settings). IsWalkOf line s read.0 c.in_ok-walk.walk) c.settings_of.ensures.settings read.1 in
    let shape_is : c.shape.result ≡ own.image.start.shape = c.shape.ensures.shape ∙ ap (λ (w : Walk). w.state.shape) own.walk_is in
    let refused = subst (λ (s : Shape). IsRefused c.in-Some.name (IsNoEntries s) answered
    (g.F.Store.files between) (g.F.Store.asked between) (g.F.Store.faults between) (g.F.Store.files last) (g.F.Store.asked last) (g.F.Store.faults last)) shape_is c.in_err-first-in-Some.ensures.none in
    answered_as c.from_residual-in_err-first-in-Some.result answered _ c.from_residual-in_err-first-in-Some.ensures.1
    (λ guest. answer_of_no_entries line read.0 c.in-Some.name c.in_ok-walk.walk own (g.F.Store.files store) (g.F.Store.files between) (g.F.Store.files last)
    (g.F.Store.asked store) (g.F.Store.asked between) (g.F.Store.asked last) (g.F.Store.faults store) (g.F.Store.faults between) (g.F.Store.faults last) read.2 c.in-Some.is guest answered refused)

pub returns-in_ok-first-in-Some-clause-opened :
    goal.returns-in_ok-first-in-Some-clause-opened
returns-in_ok-first-in-Some-clause-opened g c =
    let line = c.args.line.now in
    let store = c.args.store.now in
    let between = c.walk_in.new.store in
    let last = c.entries_in.new.store in
    let read = c.in_ok-walk.ensures.walk in
    let second = c.in_ok-first-in-Some.ensures.entries in
    let entries = map arc_value c.in_ok-first-in-Some.first.items in
    let own : IsWalkOf line (settings_of line) read.0 c.in_ok-walk.walk = subst (λ (s : Settings). IsWalkOf line s read.0 c.in_ok-walk.walk) c.settings_of.ensures.settings read.1 in
    let shape_is : c.shape.result ≡ own.image.start.shape = c.shape.ensures.shape ∙ ap (λ (w : Walk). w.state.shape) own.walk_is in
    let taken = subst (λ (s : Shape). entries_for s second.0 ≡ Ok entries) shape_is second.1 in
    opens_both line read.0 c.in-Some.name c.in_ok-walk.walk own (g.F.Store.files store) (g.F.Store.files between) (g.F.Store.files last)
    (g.F.Store.asked store) (g.F.Store.asked between) (g.F.Store.asked last) (g.F.Store.faults store) (g.F.Store.faults between) (g.F.Store.faults last) read.2 c.in-Some.is
    second.0 entries taken second.2

pub returns-in-None-clause-opened : goal.returns-in-None-clause-opened
returns-in-None-clause-opened g c =
    let line = c.args.line.now in
    let store = c.args.store.now in
    let last = c.walk_in.new.store in
    let read = c.in_ok-walk.ensures.walk in
    let own : IsWalkOf line (settings_of line) read.0 c.in_ok-walk.walk = subst (λ (s : Settings). IsWalkOf line s read.0 c.in_ok-walk.walk) c.settings_of.ensures.settings read.1 in
    let none : _ = ap (λ items. map arc_value items) (sym c.new-first.ensures.items) in
    subst (λ (entries : List Entry). Opens line c.in_ok-walk.walk entries (g.F.Store.files store) (g.F.Store.asked store) (g.F.Store.faults store) (g.F.Store.files last) (g.F.Store.asked last) (g.F.Store.faults last))
    none
    (opens_one line read.0 c.in_ok-walk.walk own (g.F.Store.files store) (g.F.Store.files last) (g.F.Store.asked store) (g.F.Store.asked last) (g.F.Store.faults store) (g.F.Store.faults last) read.2 c.in-None.is)
