use Rattle.asc_shard.proofs.Keying.{none-hidden}
use Rattle.asc_shard.proofs.laws.prints_hide_no_match.Goals as goal

pub returns : goal.returns
returns c = none-hidden
