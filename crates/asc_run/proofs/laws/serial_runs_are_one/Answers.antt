use Rattle.asc_run.proofs.SerialRuns.{serial_visits_are_one, serial_runs_are_one}
use Rattle.asc_run.proofs.laws.serial_runs_are_one.Goals as goal

pub returns-clause-visits : goal.returns-clause-visits
returns-clause-visits c = serial_visits_are_one

pub returns-clause-numbers : goal.returns-clause-numbers
returns-clause-numbers c = serial_runs_are_one
