use Rattle.std.proofs.Common.{rules}
use Rattle.asc_work.proofs.HaltSteps.{splits}
use Rattle.asc_work.proofs.halter.Halter.flag.Goals as goal

pub split_seat-seat-requires : goal.split_seat-seat-requires
split_seat-seat-requires c = (search rules, search rules, splits _ _)
