use Rattle.asc_save.proofs.Files.{files_mean_their_entries}
use Rattle.asc_save.proofs.laws.files_mean_their_entries.Goals as goal

pub returns : goal.returns
returns c = files_mean_their_entries
