use Rattle.asc_inspect.proofs.Noted as noted
use Rattle.asc_inspect.proofs.laws.meetings_are_visits.Goals as goal

pub returns : goal.returns
returns c = noted.meetings_are_visits
