use Rattle.asc_cli.proofs.program.Given as goal

-- the ledger is the one that is opened here
abbrev pub ghosts-run : goal.ghosts-run
ghosts-run g a = record { name = a.blank.name; parts = a.blank.parts }
