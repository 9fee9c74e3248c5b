-- The ledger of the steps is the one that is passed.
use Rattle.asc_device_tests.proofs.calls.asks_the_source.Given as goal

abbrev pub ghosts-read_one : goal.ghosts-read_one
ghosts-read_one g a = record { name = a.blank.name; parts = a.blank.parts }
