use Rattle.std.proofs.Common.{sym, ap, ◌∙◌}
use Rattle.asc_model.specs.State.{State}
use Rattle.asc_model.specs.Entry.{own_start}
use Rattle.asc_model.specs.EntryFile.{entry_in}
use Rattle.asc_save.proofs.Tracing.{is_same, listed-IsBounded, not_stopped, stop_bounds, traced_none, traced_other, traced_same}
use Rattle.asc_save.proofs.trace.retrace.Goals as goal

pub returns-then-is_entry-clause-entry : goal.returns-then-is_entry-clause-entry
returns-then-is_entry-clause-entry c =
    let shape = ap (λ (s : State). s.shape) c.requires.zeros in
    let e = entry_in c.args.tracer.now.shape c.args.bytes.now in
    traced_same e c.in-One.entry.value c.in_ok-guess.guess c.steps.result c.args.tracer.now.cap
    (c.in_ok-guess.ensures.start ∙ ap (λ s. own_start (entry_in s c.args.bytes.now)) shape) c.steps.ensures c.requires.cap c.in-One.ensures.made.1
    (sym (c.is_entry.ensures ∙ ap (λ m. is_same m e) c.deref.ensures) ∙ c.if-is_entry.true)

pub returns-else-is_entry-clause-entry : goal.returns-else-is_entry-clause-entry
returns-else-is_entry-clause-entry c =
    let shape = ap (λ (s : State). s.shape) c.requires.zeros in
    let e = entry_in c.args.tracer.now.shape c.args.bytes.now in
    traced_other e c.in-One.entry.value c.in_ok-guess.guess c.steps.result c.args.tracer.now.cap
    (c.in_ok-guess.ensures.start ∙ ap (λ s. own_start (entry_in s c.args.bytes.now)) shape) c.steps.ensures c.requires.cap
    c.shape.ensures.state (listed-IsBounded c.args.tracer.now.shape c.args.bytes.now c.requires.listed) c.in-One.ensures.made.1
    (sym (c.is_entry.ensures ∙ ap (λ m. is_same m e) c.deref.ensures) ∙ c.if-is_entry.false)

pub returns-in-Empty-clause-entry : goal.returns-in-Empty-clause-entry
returns-in-Empty-clause-entry c =
    let shape = ap (λ (s : State). s.shape) c.requires.zeros in
    let e = entry_in c.args.tracer.now.shape c.args.bytes.now in
    traced_none e c.in_ok-guess.guess c.steps.result c.args.tracer.now.cap
    (c.in_ok-guess.ensures.start ∙ ap (λ s. own_start (entry_in s c.args.bytes.now)) shape) c.steps.ensures c.requires.cap
    c.shape.ensures.state (listed-IsBounded c.args.tracer.now.shape c.args.bytes.now c.requires.listed)
    (not_stopped (stop_bounds c.steps.result c.args.tracer.now.cap) c.in_ok-guess.guess c.traced.result c.traced.ensures.made c.in-Empty.is)
