-- What the exit status of the program says.
use Rattle.std.specs.Prelude.{◌≡◌, ℕ, List, None, Result}
use Rattle.std.specs.declared.io.Error.{Error}
use Rattle.std.specs.declared.string.String.{String}
use Rattle.std.specs.declared.vec.IntoIter.{IntoIter}
use Rattle.asc_calls.specs.World.{outside, faults}
use Rattle.asc_streams.specs.Told.{untold}
use Rattle.asc_words.specs.Answer.{code_of, conclusion_of}
use Rattle.asc_top.specs.Answered.{Surroundings, around}
use Rattle.asc_top.specs.Reported.{Report, IsReported, report_with}
use Rattle.asc_top.specs.Shown.{IsShownFor}
use Rattle.asc_words.specs.Answer.{refusal_of}
use Rattle.asc_words.specs.Given.{HoldsOf}
use Rattle.asc_words.specs.Line.{line_of}
use Rattle.asc_words.specs.declared.answer.Answer.{Answer}
use Rattle.asc_words.specs.declared.answer.Conclusion.{Conclusion}

-- A conclusion was put to the report, and the status is the code of the answer that is then shown.
pub record IsStatusOf (before after : Report) (conclusion : Conclusion) (status : ℕ) : Type 0 where
  pub shown : Answer
  pub reported : IsReported before after conclusion shown
  pub code : status ≡ code_of shown

-- The status is the code of the answer that is shown to these words, of which all holds that the program promises.
pub record IsStatus (words : List (List ℕ)) (old new : Surroundings) (before after : Report) (status : ℕ) : Type 0 where
  pub shown : Answer
  pub is : IsShownFor (line_of words) old new before after shown
  pub code : status ≡ code_of shown

-- ---- over the system

-- the files and the streams of the system: nothing is told of them, none has failed, and no step was counted
abbrev pub of_system : Surroundings
of_system = around None None 0 (outside None untold untold 0 (faults 0 0 0))

-- its standard error, where the report goes
abbrev pub report_of_system : Report
report_of_system = report_with untold 0

-- the status is that of these words over the system
pub record IsStatusOver (words : List (List ℕ)) (status : ℕ) : Type 0 where
  pub new : Surroundings
  pub after : Report
  pub is : IsStatus words of_system new report_of_system after status

-- The status is that of the words that the system gave, or of their refusal.
abbrev pub IsStatusFor : {A : Type 0} → Result (IntoIter (String A) A) Error → ℕ → Type 0
IsStatusFor given status = HoldsOf given (λ words. IsStatusOver words status)
    (λ fault. (after : Report) × IsStatusOf report_of_system after (conclusion_of (refusal_of fault)) status)
