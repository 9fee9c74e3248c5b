use Rattle.asc_elf.proofs.Cuts.{prefixes_are_cut}
use Rattle.asc_elf.proofs.laws.a_prefix_of_an_image.Goals as goal

pub returns : goal.returns
returns c = prefixes_are_cut
