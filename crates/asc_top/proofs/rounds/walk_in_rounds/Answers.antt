-- What a walk comes to in rounds: nothing is guessed, or a helper with lanes guesses as a serial one does.
use Rattle.std.proofs.Common.{◌≡◌, ◌∙◌, map, refl, sym, ap, subst}
use Rattle.std.specs.Arc.{arc_value}
use Rattle.asc_calls.specs.World.{outside_of}
use Rattle.asc_run.specs.SerialHelper.{SerialHelper, aid_of, told_machine}
use Rattle.asc_run.specs.Walk.{Walk}
use Rattle.asc_words.specs.declared.answer.Conclusion.{Conclusion}
use Rattle.asc_top.specs.Numbers.{guessing_of}
use Rattle.asc_top.specs.Ran.{HasCountedNothing, Ran, loaded_helper}
use Rattle.asc_top.proofs.Alone.{ran_serial}
use Rattle.asc_top.proofs.Refused.{ran_memory}
use Rattle.asc_top.proofs.rounds.walk_in_rounds.Goals as goal

pub returns-in-Ok : goal.returns-in-Ok
returns-in-Ok g c = λ files opened.
    let line = c.args.line.now in
    let shape_is = c.shape.ensures.shape ∙ ap (λ (walk : Walk). walk.state.shape) opened.own.walk_is in
    let helper_is : c.in-Ok.rounds.helper ≡ loaded_helper opened.own.image.start.shape (guessing_of line) (map arc_value c.args.first.now) =
    c.in-Ok.ensures.helper ∙ (λ i. loaded_helper (shape_is i) (c.guessing_of.ensures i) (map arc_value c.args.first.now)) in
    let fresh : HasCountedNothing (aid_of c.in-Ok.rounds.helper) = record {
      jumps = ap (λ (h : SerialHelper). h.jumps) helper_is;
      made = ap (λ (h : SerialHelper). h.made) helper_is;
      refused = ap (λ (h : SerialHelper). h.refused) helper_is;
      full = refl;
    } in
    ran_serial line files _ _ opened _ _ _ _ _ c.go_in_rounds.result c.go_in_rounds.ensures fresh c.requires.none (sym c.keeps_entries.ensures ∙ c.if-not-keeps_entries.false) (ap told_machine helper_is)

pub returns-in-Err : goal.returns-in-Err
returns-in-Err g c = λ files opened.
    let guest = outside_of c.args.devices.now c.args.steps.now in
    subst (λ (o : Conclusion). Ran guest guest c.args.line.now files o) (sym c.of.ensures)
    (ran_memory c.args.line.now files opened.own.image guest opened.own.loads opened.own.good)
