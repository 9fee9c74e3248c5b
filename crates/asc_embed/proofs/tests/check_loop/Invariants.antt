-- The ledger of the steps is the one that is passed.
use Rattle.asc_embed.proofs.tests.check_loop.Given as goal

abbrev pub ghosts-walk_by : goal.ghosts-walk_by
ghosts-walk_by g a = record { name = a.blank.name; parts = a.blank.parts }
