-- The ledger of the probes is the one that is passed.
use Rattle.asc_shard.proofs.tests.finds.Given as goal

abbrev pub ghosts-find : goal.ghosts-find
ghosts-find g a = record { name = a.blank.name; parts = a.blank.parts }
