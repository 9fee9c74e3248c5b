use Rattle.asc_step_tests.proofs.steps.steps_back.Given as goal

abbrev pub ghosts-run_back : goal.ghosts-run_back
ghosts-run_back g a = record { name = a.blank.name; parts = a.blank.parts }

abbrev pub ghosts-run_on : goal.ghosts-run_on
ghosts-run_on g a = record { name = a.blank.name; parts = a.blank.parts }
