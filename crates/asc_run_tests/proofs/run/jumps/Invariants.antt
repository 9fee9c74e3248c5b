-- The ledger of the steps is the one that is passed.
use Rattle.asc_run_tests.proofs.run.jumps.Given as goal

abbrev pub ghosts-run : goal.ghosts-run
ghosts-run g a = record { name = a.blank.name; parts = a.blank.parts }
