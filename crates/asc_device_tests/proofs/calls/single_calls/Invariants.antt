-- The ledger of the steps is the one that is passed.
use Rattle.asc_device_tests.proofs.calls.single_calls.Given as goal

abbrev pub ghosts-serve_one : goal.ghosts-serve_one
ghosts-serve_one g a = record { name = a.blank.name; parts = a.blank.parts }
