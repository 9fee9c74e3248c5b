use Rattle.std.proofs.Common.{append_assoc}
use Rattle.asc_words.specs.Report.{counts_text}
use Rattle.asc_words.proofs.report.put_counts.Goals as goal

pub returns-clause-line : goal.returns-clause-line
unfolding counts_text
returns-clause-line c =
    rw (c.put.ensures, c.put_labelled-6.ensures.text, c.put_labelled-5.ensures.text, c.put_labelled-4.ensures.text, c.put_labelled-3.ensures.text, c.put_labelled-2.ensures.text, c.put_labelled.ensures.text) (simp append_assoc)
