-- What a function does that is called for a visit is a visit.
use Rattle.asc_run.proofs.visited.visit_by.Goals as goal

pub returns-clause-jumps : goal.returns-clause-jumps
returns-clause-jumps g c = (c.requires.visit.visits _ _ _ _ _ (record { few = c.requires.number; made = c.requires.made; full = c.requires.full }) c.visit.ensures).jumps

pub returns-clause-replies : goal.returns-clause-replies
returns-clause-replies g c = (c.requires.visit.visits _ _ _ _ _ (record { few = c.requires.number; made = c.requires.made; full = c.requires.full }) c.visit.ensures).replies

pub returns-clause-plan : goal.returns-clause-plan
returns-clause-plan g c = (c.requires.visit.visits _ _ _ _ _ (record { few = c.requires.number; made = c.requires.made; full = c.requires.full }) c.visit.ensures).plan

pub returns-clause-seen : goal.returns-clause-seen
returns-clause-seen g c = (c.requires.visit.visits _ _ _ _ _ (record { few = c.requires.number; made = c.requires.made; full = c.requires.full }) c.visit.ensures).seen

pub returns-clause-stays : goal.returns-clause-stays
returns-clause-stays g c = (c.requires.visit.visits _ _ _ _ _ (record { few = c.requires.number; made = c.requires.made; full = c.requires.full }) c.visit.ensures).stays

pub returns-clause-machine : goal.returns-clause-machine
returns-clause-machine g c = (c.requires.visit.visits _ _ _ _ _ (record { few = c.requires.number; made = c.requires.made; full = c.requires.full }) c.visit.ensures).machine
