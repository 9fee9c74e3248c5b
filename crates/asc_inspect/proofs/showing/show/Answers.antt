-- The file that was read may be one of that name.
use Rattle.std.proofs.Common.{Ok, Err, map, sym, ap, ◌∙◌, subst}
use Rattle.std.specs.String.{string_bytes}
use Rattle.asc_words.specs.declared.line.LineFault.{LineFault}
use Rattle.asc_outside.specs.Outside.{MayHold}
use Rattle.asc_inspect.specs.Shown.{outer}
use Rattle.asc_inspect.proofs.Answered.{of-file, refused}
use Rattle.asc_inspect.proofs.showing.show.Goals as goal

pub returns-in-Err-clause-answers : goal.returns-in-Err-clause-answers
returns-in-Err-clause-answers g c = refused (map string_bytes c.args.words.now) (g.F.Store.files c.args.store.now)
    (outer (g.I.Source.left c.args.input) (g.O.Sink.given c.args.out.now) c.args.steps.now (g.I.Source.faults c.args.input)) c.in-Err.fault _ c.from.ensures
    (λ bad is. c.request_of.ensures.usage bad (c.in-Err.is ∙ ap (λ (fault : LineFault). Err fault) is))

pub returns-clause-answers : goal.returns-clause-answers
returns-clause-answers g c =
    let files = g.F.Store.files c.args.store.now in
    let held = c.read.ensures.whole (c.in-Ok-Whole.is ∙ ap Ok c.in-Ok-Whole.field-0-is) in
    of-file (map string_bytes c.args.words.now) _ (outer (g.I.Source.left c.args.input) (g.O.Sink.given c.args.out.now) c.args.steps.now (g.I.Source.faults c.args.input))
    (outer (g.I.Source.left c.show_file.result.1) (g.O.Sink.given c.show_file.new.out) c.show_file.new.steps (g.I.Source.faults c.show_file.result.1))
    c.in-Ok.request _ c.show_file.result.0 c.in-Ok.ensures.asks
    (subst (λ name. MayHold files name c.deref.result.now) c.as_str.ensures
    (subst (λ content. MayHold files c.as_str.result.now content) (sym c.deref.ensures.value) held))
    c.show_file.ensures.says
