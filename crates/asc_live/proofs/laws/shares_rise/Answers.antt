use Rattle.asc_live.proofs.Shares.{shares_rise}
use Rattle.asc_live.proofs.laws.shares_rise.Goals as goal

pub returns : goal.returns
returns c = shares_rise
