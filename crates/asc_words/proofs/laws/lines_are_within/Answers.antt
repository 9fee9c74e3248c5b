use Rattle.asc_words.proofs.Lines.{lines_within}
use Rattle.asc_words.proofs.laws.lines_are_within.Goals as goal

pub returns : goal.returns
returns c = lines_within
