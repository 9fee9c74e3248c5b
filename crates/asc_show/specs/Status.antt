-- What the exit status of the program says.
use Rattle.std.specs.Prelude.{◌≡◌, ◌⊎◌, ℕ, List, None, Result}
use Rattle.std.specs.declared.io.Error.{Error}
use Rattle.std.specs.declared.string.String.{String}
use Rattle.std.specs.declared.vec.IntoIter.{IntoIter}
use Rattle.asc_outside.specs.Outside.{Given, PutsPart, given_after, one_more}
use Rattle.asc_streams.specs.Told.{untold}
use Rattle.asc_words.specs.Given.{HoldsOf}
use Rattle.asc_inspect.specs.Shown.{Answers, Outer, answer_text, code_of, outer, refusal_of}
use Rattle.asc_inspect.specs.declared.answer.Answer.{Answer}

-- The line of an answer was put to a report, or the report failed, once, while it took a beginning of it.
abbrev pub IsReported : (before after : Given) → (faults now : ℕ) → Answer → Type 0
IsReported before after faults now answer =
    ((after ≡ given_after before (answer_text answer)) × (now ≡ faults))
    ⊎ (PutsPart before after (answer_text answer) × (now ≡ one_more faults))

-- So an answer was reported, and the status is its code.
pub record IsStatusOf (before after : Given) (faults now : ℕ) (answer : Answer) (status : ℕ) : Type 0 where
  pub reported : IsReported before after faults now answer
  pub code : status ≡ code_of answer

-- ---- over the system

-- the streams of the system: nothing is told of them, none has failed, and no step was counted
abbrev pub of_system : Outer
of_system = outer None untold 0 0

-- an answer was put to its standard error, and the status is the answer's code
pub record IsToldOver (answer : Answer) (status : ℕ) : Type 0 where
  pub after : Given
  pub faults : ℕ
  pub told : IsStatusOf untold after 0 faults answer status

-- the status is that of an answer to these words over the system, whose files are not told
pub record IsStatusOver (words : List (List ℕ)) (status : ℕ) : Type 0 where
  pub answer : Answer
  pub new : Outer
  pub says : Answers words None of_system new answer
  pub told : IsToldOver answer status

-- The status is that of an answer to the words that the system gave, or of their refusal.
abbrev pub IsStatusFor : {A : Type 0} → Result (IntoIter (String A) A) Error → ℕ → Type 0
IsStatusFor given status = HoldsOf given (λ words. IsStatusOver words status) (λ fault. IsToldOver (refusal_of fault) status)
