use Rattle.asc_depvec.proofs.Rows.{statuses-set_4}
use Rattle.asc_depvec.proofs.tracer.mark_word.Goals as goal

pub returns-clause-statuses : goal.returns-clause-statuses
returns-clause-statuses c = statuses-set_4 c.args.marks.now c.args.place c.args.mark
