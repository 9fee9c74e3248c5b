use Rattle.std.proofs.Common.{refl}
use Rattle.asc_step.proofs.Effects.{finishes_set}
use Rattle.asc_step.proofs.finish.set.Goals as goal

pub returns : goal.returns
returns g c = finishes_set _ _ c.args.pc _ _ _ c.requires.at c.go_on.ensures refl
