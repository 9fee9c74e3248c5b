-- It ended before.
use Rattle.asc_inspect.proofs.miss.come_to.Goals as goal

pub returns-in-Some-clause-ended : goal.returns-in-Some-clause-ended
returns-in-Some-clause-ended g c = λ start seen was. (c.come_on.ensures.before, c.in-Some.ensures.ended start seen was)
