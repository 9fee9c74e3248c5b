-- The ledger of the steps is the one that is passed.
use Rattle.asc_device_tests.proofs.calls.moves_the_break.Given as goal

abbrev pub ghosts-breaks : goal.ghosts-breaks
ghosts-breaks g a = record { name = a.blank.name; parts = a.blank.parts }
