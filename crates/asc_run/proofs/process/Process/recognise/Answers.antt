-- Where no address is to be chosen, the program has come nowhere.
use Rattle.asc_run.proofs.Profiled.{comes-nowhere, comes-at}
use Rattle.asc_run.proofs.process.Process.recognise.Goals as goal

pub returns-in-Nowhere-clause-going : goal.returns-in-Nowhere-clause-going
returns-in-Nowhere-clause-going g c = let start = c.requires.start in comes-nowhere _ _ _ _ c.in-Nowhere.is start.going start.brk start.none

pub returns-in-At-clause-going : goal.returns-in-At-clause-going
returns-in-At-clause-going g c = let start = c.requires.start in comes-at _ c.in-At.address _ _ _ c.in-At.is start.going start.brk start.none
