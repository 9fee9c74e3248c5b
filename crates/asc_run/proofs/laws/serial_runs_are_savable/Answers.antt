use Rattle.asc_run.proofs.Savable.{serial_runs_are_savable}
use Rattle.asc_run.proofs.laws.serial_runs_are_savable.Goals as goal

pub returns : goal.returns
returns c = serial_runs_are_savable
