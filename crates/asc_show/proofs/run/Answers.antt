-- The answer that is told.
use Rattle.std.proofs.Common.{ap}
use Rattle.asc_show.proofs.Handed.{over-system, told-over-system}
use Rattle.asc_show.proofs.run.Goals as goal

pub returns : goal.returns
returns g c = over-system _ _ _ _ _ _ c.new-4.ensures (ap (λ source. source.faults) c.new-2.ensures) c.show-answer.ensures.answers
    (told-over-system _ _ _ _ _ (ap (λ sink. sink.faults) c.new-5.ensures) c.tell.ensures)
