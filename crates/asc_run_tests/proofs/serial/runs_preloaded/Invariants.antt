-- The ledger of the steps is the one that is passed, and a helper to which entries are added has counted nothing.
use Rattle.std.proofs.Common.{◌≡◌}
use Rattle.asc_run.specs.Walk.{jumps}
use Rattle.asc_run_tests.proofs.serial.runs_preloaded.Given as goal

abbrev pub ghosts-run : goal.ghosts-run
ghosts-run g a = record { name = a.blank.name; parts = a.blank.parts }

abbrev pub invariant-loop-i : goal.invariant-loop-i
invariant-loop-i g l = (l.second.jumps ≡ jumps 0 0 0) × (l.second.made ≡ 0)
