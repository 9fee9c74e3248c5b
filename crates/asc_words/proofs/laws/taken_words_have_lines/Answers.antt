use Rattle.asc_words.proofs.Lines.{have_line}
use Rattle.asc_words.proofs.laws.taken_words_have_lines.Goals as goal

pub returns : goal.returns
returns c = have_line
