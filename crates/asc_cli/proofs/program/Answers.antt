-- The status of the words that the system gave, or of their refusal.
use Rattle.std.proofs.Common.{ap, inr}
use Rattle.std.specs.Process.{exit_status}
use Rattle.asc_words.specs.Answer.{conclusion_of, refusal_of}
use Rattle.asc_words.proofs.Handed.{of-given}
use Rattle.asc_top.specs.Reported.{Report}
use Rattle.asc_cli.specs.Status.{IsStatusOf, IsStatusOver, report_of_system}
use Rattle.asc_cli.proofs.Handed.{refused-over-system}
use Rattle.asc_cli.proofs.program.Goals as goal

pub returns-in-Ok : goal.returns-in-Ok
returns-in-Ok g c =
    let status = exit_status c.run.result in
    of-given c.args.given (λ words. IsStatusOver words status)
    (λ fault. (after : Report) × IsStatusOf report_of_system after (conclusion_of (refusal_of fault)) status) _ _
    c.deref.ensures.value c.in-Ok.ensures.given c.run.ensures

pub returns-in-Err : goal.returns-in-Err
returns-in-Err g c = inr (c.in-Err.fault, c.in-Err.ensures.refused, (_, refused-over-system _ _ _ _ (ap (λ sink. sink.faults) c.new-in-Err.ensures) c.refuse.ensures))
