use Rattle.std.proofs.Common.{rules}
use Rattle.asc_work.proofs.HaltSteps.{stores}
use Rattle.asc_work.proofs.halter.Halter.halt.Goals as goal

pub store-requires : goal.store-requires
store-requires c = (search rules, search rules, stores _ _ _ (search rules))
