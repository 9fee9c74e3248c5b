use Rattle.asc_depvec.proofs.Settling.{statuses-forget}
use Rattle.asc_depvec.proofs.tracer.forget_place.Goals as goal

pub returns-then-marks-place-clause-statuses : goal.returns-then-marks-place-clause-statuses
returns-then-marks-place-clause-statuses c = statuses-forget c.args.marks.now c.args.place c.requires c.if-marks-place.true
