-- The ledger of the steps is the one that is opened here.
use Rattle.asc_tests.proofs.shows.shows.Given as goal

abbrev pub ghosts-check : goal.ghosts-check
ghosts-check g a = record { name = a.blank.name; parts = a.blank.parts }
