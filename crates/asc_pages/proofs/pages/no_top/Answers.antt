use Rattle.std.proofs.Common.{refl}
use Rattle.asc_pages.proofs.Copies.{bytes_of_none}
use Rattle.asc_pages.proofs.pages.no_top.Goals as goal

pub returns : goal.returns
returns c = bytes_of_none _ refl c.new.ensures
