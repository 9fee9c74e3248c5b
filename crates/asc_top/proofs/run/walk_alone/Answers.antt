-- What a walk comes to without workers: nothing is guessed, or a serial helper guesses.
use Rattle.std.proofs.Common.{◌≡◌, ◌∙◌, ℕ, map, refl, sym, ap, subst}
use Rattle.std.specs.Arc.{arc_value}
use Rattle.asc_calls.specs.World.{outside_of}
use Rattle.asc_run.specs.SerialHelper.{SerialHelper, aid_of, told_machine}
use Rattle.asc_find.specs.Finder.{bare_aid}
use Rattle.asc_run.specs.Walk.{Walk, jumps}
use Rattle.asc_words.specs.declared.answer.Conclusion.{Conclusion}
use Rattle.asc_top.specs.Numbers.{guessing_of}
use Rattle.asc_top.specs.Ran.{HasCountedNothing, Ran, loaded_helper}
use Rattle.asc_top.proofs.Alone.{ran_idle, ran_serial}
use Rattle.asc_top.proofs.Refused.{ran_memory}
use Rattle.asc_top.proofs.run.walk_alone.Goals as goal

pub returns-then-not-keeps_entries : goal.returns-then-not-keeps_entries
returns-then-not-keeps_entries g c = λ files opened.
    let fresh : HasCountedNothing (bare_aid (jumps c.new-helper.result 0 0)) =
    record { jumps = ap (λ (asked : ℕ). jumps asked 0 0) (c.new-helper.ensures ∙ c.new.ensures); made = refl; refused = refl; full = refl } in
    ran_idle c.args.line.now files _ _ opened _ _ _ _ _ c.run_with.result c.run_with.ensures fresh c.requires.none (sym c.keeps_entries.ensures ∙ c.if-not-keeps_entries.true) refl refl refl

pub returns-in-Ok : goal.returns-in-Ok
returns-in-Ok g c = λ files opened.
    let line = c.args.line.now in
    let shape_is = c.shape.ensures.shape ∙ ap (λ (walk : Walk). walk.state.shape) opened.own.walk_is in
    let helper_is : c.in-Ok.helper ≡ loaded_helper opened.own.image.start.shape (guessing_of line) (map arc_value c.args.first.now) =
    c.in-Ok.ensures ∙ (λ i. loaded_helper (shape_is i) (c.guessing_of.ensures i) (map arc_value c.args.first.now)) in
    let fresh : HasCountedNothing (aid_of c.in-Ok.helper) = record {
      jumps = ap (λ (h : SerialHelper). h.jumps) helper_is;
      made = ap (λ (h : SerialHelper). h.made) helper_is;
      refused = ap (λ (h : SerialHelper). h.refused) helper_is;
      full = refl;
    } in
    ran_serial line files _ _ opened _ _ _ _ _ c.run_with-in-Ok.result c.run_with-in-Ok.ensures fresh c.requires.none (sym c.keeps_entries.ensures ∙ c.if-not-keeps_entries.false) (ap told_machine helper_is)

pub returns-in-Err : goal.returns-in-Err
returns-in-Err g c = λ files opened.
    let guest = outside_of c.args.devices.now c.args.steps.now in
    subst (λ (o : Conclusion). Ran guest guest c.args.line.now files o) (sym c.of.ensures)
    (ran_memory c.args.line.now files opened.own.image guest opened.own.loads opened.own.good)
