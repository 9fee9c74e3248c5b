-- The ledger of the steps is the one that is passed.
use Rattle.asc_tests.proofs.outside.run_gated.Given as goal

abbrev pub ghosts-run_over : goal.ghosts-run_over
ghosts-run_over g a = record { name = a.blank.name; parts = a.blank.parts }
