-- The ledger of the steps is the one that is passed.
use Rattle.asc_device_tests.proofs.calls.read_call.Given as goal

abbrev pub ghosts-reads : goal.ghosts-reads
ghosts-reads g a = record { name = a.blank.name; parts = a.blank.parts }
