-- The status of the words over the system.
use Rattle.std.proofs.Common.{ap}
use Rattle.asc_cli.proofs.Handed.{over-system}
use Rattle.asc_cli.proofs.run.Goals as goal

pub returns : goal.returns
returns g c = over-system _ _ _ _ _ _ _ _ _ _ _ c.new-4.ensures c.new-6.ensures
    (ap (λ source. source.faults) c.new.ensures) (ap (λ sink. sink.faults) c.new-2.ensures)
    (ap (λ sink. sink.faults) c.new-3.ensures) (ap (λ sink. sink.faults) c.new-5.ensures)
    (ap (λ devices. devices.told) c.new-devices.ensures) c.status.ensures
