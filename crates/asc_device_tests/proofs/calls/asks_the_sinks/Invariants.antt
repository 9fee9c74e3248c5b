-- The ledger of the steps is the one that is passed.
use Rattle.asc_device_tests.proofs.calls.asks_the_sinks.Given as goal

abbrev pub ghosts-says_hi : goal.ghosts-says_hi
ghosts-says_hi g a = record { name = a.blank.name; parts = a.blank.parts }
