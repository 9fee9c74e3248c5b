-- The ledger of the steps is the one that is opened here.
use Rattle.asc_run_tests.proofs.serial.runs_again.Given as goal

abbrev pub ghosts-check_again : goal.ghosts-check_again
ghosts-check_again g a = record { name = a.blank.name; parts = a.blank.parts }
