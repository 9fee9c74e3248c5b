-- The readers that are lent are the crew's.
use Rattle.asc_live.proofs.open_crew.OpenCrew.go.Given as goal

abbrev pub ghosts-go_lent : goal.ghosts-go_lent
ghosts-go_lent g a = record { lent = a.readers.readers }
