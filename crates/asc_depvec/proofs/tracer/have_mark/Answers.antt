use Rattle.std.proofs.Common.{sym, ◌∙◌, arith}
use Rattle.std.proofs.lemmas.Bool.{eqb-true}
use Rattle.asc_depvec.proofs.Words.{mark_of_word, status_of_word}
use Rattle.asc_depvec.proofs.tracer.have_mark.Goals as goal

pub returns-clause-mark : goal.returns-clause-mark
returns-clause-mark c h =
    mark_of_word c.args.marks.now c.args.place c.args.mark c.are_bytes.ensures (omega (arith, c.ranges.mark)) c.requires (sym c.word_of.ensures ∙ eqb-true _ _ h ∙ c.from_le_bytes.ensures)

pub returns-clause-status : goal.returns-clause-status
returns-clause-status c h = status_of_word c.args.marks.now c.args.place c.args.mark c.requires (returns-clause-mark c h)
