use Rattle.asc_live.proofs.LawsHold.{guesses_are_counted}
use Rattle.asc_live.proofs.laws.guesses_are_counted.Goals as goal

pub returns : goal.returns
returns c = guesses_are_counted
