use Rattle.asc_run.proofs.RowsHold.{laps, targets, strides, both, joins, visits}
use Rattle.asc_run.proofs.laws.rows_are_computed.Goals as goal

pub returns-clause-laps : goal.returns-clause-laps
returns-clause-laps c = laps

pub returns-clause-targets : goal.returns-clause-targets
returns-clause-targets c = targets

pub returns-clause-strides : goal.returns-clause-strides
returns-clause-strides c = strides

pub returns-clause-both : goal.returns-clause-both
returns-clause-both c = both

pub returns-clause-visits : goal.returns-clause-visits
returns-clause-visits c = visits

pub returns-clause-joins : goal.returns-clause-joins
returns-clause-joins c = joins
