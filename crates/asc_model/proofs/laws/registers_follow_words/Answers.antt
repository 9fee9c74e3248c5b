use Rattle.asc_model.proofs.Registers.{registers_follow_words}
use Rattle.asc_model.proofs.laws.registers_follow_words.Goals as goal

pub returns : goal.returns
returns c = registers_follow_words
