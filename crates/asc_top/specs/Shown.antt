-- The answer that is shown for what was asked.
use Rattle.std.specs.Prelude.{Ok}
use Rattle.asc_words.specs.declared.line.Line.TheVariants as lines
use Rattle.asc_words.specs.declared.answer.Answer.{Answer}
use Rattle.asc_words.specs.declared.answer.Conclusion.{Conclusion}
use Rattle.asc_top.specs.Answered.{Asked, Surroundings, IsAnswerFor}
use Rattle.asc_top.specs.BatchAnswer.{IsBatchAnswer}
use Rattle.asc_top.specs.Reported.{IsReported, Report}

-- What was asked came to a conclusion of which all holds that its answer promises, and its text was put to the report: its
-- answer is shown, or ReportFault where the report failed. A batch puts the lines of its runs before.
abbrev pub IsShownFor : Asked → (old new : Surroundings) → (before after : Report) → (shown : Answer) → Type 0
IsShownFor (Ok (lines.Batch line)) old new before after shown = IsBatchAnswer line old new before after shown
IsShownFor asked old new before after shown =
    (conclusion : Conclusion) × IsAnswerFor asked old new conclusion × IsReported before after conclusion shown
