use Rattle.asc_step_tests.proofs.steps.three_steps.Given as goal

abbrev pub ghosts-run_three : goal.ghosts-run_three
ghosts-run_three g a = record { name = a.blank.name; parts = a.blank.parts }
