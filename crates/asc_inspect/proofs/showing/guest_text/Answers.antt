-- The text of the question that is asked, of the program of the image.
use Rattle.std.proofs.Common.{IfErr, IfOk, subst}
use Rattle.asc_inspect.specs.Shown.{HasNoText, ShowsText}
use Rattle.asc_inspect.proofs.Answered.{same-start}
use Rattle.asc_inspect.proofs.showing.guest_text.Goals as goal

pub returns-in_ok-process-in-Entry-clause-ended : goal.returns-in_ok-process-in-Entry-clause-ended
returns-in_ok-process-in-Entry-clause-ended g c = subst (λ start. IfErr c.entry_of_visit.result (λ answer. HasNoText c.args.request.now.line c.args.request.now.question start c.entry_of_visit.new.guest.told.left c.entry_of_visit.new.steps answer))
    (same-start _ _ _ _ _ c.in_ok-process-in-Entry.ensures.state c.in_ok-process-in-Entry.ensures.calls) (rw c.in-Entry.is c.entry_of_visit.ensures.ended)

pub returns-in_ok-process-in-Miss-clause-shown : goal.returns-in_ok-process-in-Miss-clause-shown
returns-in_ok-process-in-Miss-clause-shown g c = subst (λ start. IfOk c.misses_at.result (λ text. ShowsText c.args.request.now.line c.args.request.now.question start c.misses_at.new.guest.told.left c.misses_at.new.steps text.items))
    (same-start _ _ _ _ _ c.in_ok-process-in-Miss.ensures.state c.in_ok-process-in-Miss.ensures.calls) (rw c.in-Miss.is c.misses_at.ensures.shown)

pub returns-in_ok-process-in-At-clause-shown : goal.returns-in_ok-process-in-At-clause-shown
returns-in_ok-process-in-At-clause-shown g c = subst (λ start. IfOk c.registers_after.result (λ text. ShowsText c.args.request.now.line c.args.request.now.question start c.registers_after.new.guest.told.left c.registers_after.new.steps text.items))
    (same-start _ _ _ _ _ c.in_ok-process-in-At.ensures.state c.in_ok-process-in-At.ensures.calls) (rw c.in-At.is c.registers_after.ensures.shown)

pub returns-in_ok-process-in-Profile-clause-shown : goal.returns-in_ok-process-in-Profile-clause-shown
returns-in_ok-process-in-Profile-clause-shown g c = subst (λ start. IfOk c.profile.result (λ text. ShowsText c.args.request.now.line c.args.request.now.question start c.profile.new.guest.told.left c.profile.new.steps text.items))
    (same-start _ _ _ _ _ c.in_ok-process-in-Profile.ensures.state c.in_ok-process-in-Profile.ensures.calls) (rw c.in-Profile.is c.profile.ensures.shown)

pub returns-in-Seek-clause-shown : goal.returns-in-Seek-clause-shown
returns-in-Seek-clause-shown g c = rw c.in-Seek.is c.sought.ensures.shown
