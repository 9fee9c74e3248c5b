use Rattle.asc_embed.proofs.main.Given as goal

-- the ledger is the one that is opened here
abbrev pub ghosts-run : goal.ghosts-run
ghosts-run a = record { name = a.blank.name; parts = a.blank.parts }
