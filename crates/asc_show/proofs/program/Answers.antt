-- The status of the words that the system gave, or of their refusal.
use Rattle.std.proofs.Common.{ap, inr, subst}
use Rattle.std.specs.Process.{exit_status}
use Rattle.asc_words.proofs.Handed.{of-given}
use Rattle.asc_inspect.specs.Shown.{refusal_of}
use Rattle.asc_show.specs.Status.{IsStatusOver, IsToldOver}
use Rattle.asc_show.proofs.Handed.{told-over-system}
use Rattle.asc_show.proofs.program.Goals as goal

pub returns-in-Ok : goal.returns-in-Ok
returns-in-Ok c =
    let status = exit_status c.run.result in
    of-given c.args.given (λ words. IsStatusOver words status) (λ fault. IsToldOver (refusal_of fault) status) _ _
    c.deref.ensures.value c.in-Ok.ensures.given c.run.ensures

pub returns-in-Err : goal.returns-in-Err
returns-in-Err c = inr (
  c.in-Err.fault,
  c.in-Err.ensures.refused,
  subst (λ answer. IsToldOver answer (exit_status c.tell.result)) c.from.ensures
      (told-over-system _ _ _ _ _ (ap (λ sink. sink.faults) c.new-in-Err.ensures) c.tell.ensures),
)
