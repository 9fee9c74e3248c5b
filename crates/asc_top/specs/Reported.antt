-- What becomes of a conclusion when its text is put to the report, and of the text of a trial.
use Rattle.std.specs.Prelude.{◌≡◌, ◌⊎◌, ◌+◌, ℕ, Option, Some, None}
use Rattle.asc_outside.specs.Outside.{Given, PutsPart, given_after, one_more}
use Rattle.asc_words.specs.declared.answer.Answer.{Answer}
use Rattle.asc_words.specs.declared.answer.Counts.{Counts}
use Rattle.asc_words.specs.declared.answer.TrialRun.{TrialRun}
use Rattle.asc_words.specs.declared.answer.Conclusion.{Conclusion}
use Rattle.asc_words.specs.declared.answer.Answer.TheVariants.{Done, ReportFault, WriteFault}
use Rattle.asc_words.specs.Answer.{conclusion_of}
use Rattle.asc_words.specs.Report.{report_text, trial_text}
use Rattle.asc_top.specs.Numbers.{told_by_trial}

-- what a report was given, and how often it has failed
pub record Report : Type 0 where
  pub given : Given
  pub faults : ℕ

abbrev pub report_with : Given → ℕ → Report
report_with given faults = record { given = given; faults = faults }

-- the report took the conclusion's text, and its answer is shown
pub record IsShown (before after : Report) (conclusion : Conclusion) (shown : Answer) : Type 0 where
  pub shown_is : shown ≡ conclusion.answer
  pub given : after.given ≡ given_after before.given (report_text conclusion)
  pub faults : after.faults ≡ before.faults

-- the report failed, and once: it took a beginning of the conclusion's text, and not all, and ReportFault is shown
pub record IsCutOff (before after : Report) (conclusion : Conclusion) (shown : Answer) : Type 0 where
  pub shown_is : shown ≡ ReportFault
  pub given : PutsPart before.given after.given (report_text conclusion)
  pub faults : after.faults ≡ one_more before.faults

-- the text of a conclusion was put to the report, and this is shown
abbrev pub IsReported : (before after : Report) → Conclusion → (shown : Answer) → Type 0
IsReported before after conclusion shown = IsShown before after conclusion shown ⊎ IsCutOff before after conclusion shown

-- the text of a trial was put to a sink, or it failed, and once
abbrev pub IsPut : TrialRun → (refused : ℕ) → (before after : Given) → (faults now : ℕ) → Answer → Type 0
IsPut trial refused before after faults now answered =
    ((answered ≡ Done refused) × (after ≡ given_after before (trial_text trial)) × (now ≡ faults))
    ⊎ ((answered ≡ WriteFault) × PutsPart before after (trial_text trial) × (now ≡ one_more faults))

-- what is told of a trial whose guest ended with a status, put so many bytes, and whose run has these numbers
abbrev pub told_of_trial : (n workers put status : ℕ) → Counts → TrialRun
told_of_trial n workers put status counts = record {
  n = n;
  status = status;
  steps = counts.run.executed + counts.run.skipped;
  output = put;
  counts = told_by_trial workers counts;
}

-- A trial came to this conclusion, whose run was answered so: where its guest ended, the trial's text was put to a sink.
abbrev pub EndsTrial : (n workers put : ℕ) → Option (ℕ × Counts) → (ran : Answer) → (before after : Given)
    → (faults now : ℕ) → Conclusion → Type 0
EndsTrial n workers put None ran before after faults now conclusion =
    (conclusion ≡ conclusion_of ran) × (after ≡ before) × (now ≡ faults)
EndsTrial n workers put (Some (status, counts)) ran before after faults now conclusion =
    (answered : Answer) × (conclusion ≡ conclusion_of answered)
    × IsPut (told_of_trial n workers put status counts) counts.refused before after faults now answered
