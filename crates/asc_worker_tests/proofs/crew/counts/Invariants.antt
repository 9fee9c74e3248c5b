-- The ledger of the steps is the one that is passed.
use Rattle.asc_worker_tests.proofs.crew.counts.Given as goal

abbrev pub ghosts-count_beside : goal.ghosts-count_beside
ghosts-count_beside g a = record { name = a.blank.name; parts = a.blank.parts }
