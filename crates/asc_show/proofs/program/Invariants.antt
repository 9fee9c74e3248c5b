use Rattle.asc_show.proofs.program.Given as goal

-- the ledger is the one that is opened here
abbrev pub ghosts-run : goal.ghosts-run
ghosts-run a = record { name = a.blank.name; parts = a.blank.parts }
