-- All that holds of the answer to a batch.
use Rattle.std.specs.Prelude.{◌≡◌, ◌≢◌, ◌⊎◌, ℕ, ◌+◌, ◌≤◌, List, [], ◌∷◌, ◌++◌, length, Option, Some, None, Ok}
use Rattle.asc_outside.specs.Outside.{AsksFor, Blames, MayHold, PutsPart, given_after, one_more}
use Rattle.asc_elf.specs.Image as loader
use Rattle.asc_calls.specs.GuestCall.{Device}
use Rattle.asc_calls.specs.World.{Outside, BlamesOnly}
use Rattle.asc_words.specs.Answer.{conclusion_of}
use Rattle.asc_words.specs.Line.{file_limit}
use Rattle.asc_words.specs.Report.{batch_text}
use Rattle.asc_words.specs.Batch.{BatchLine}
use Rattle.asc_words.specs.declared.line.Line.TheVariants as lines
use Rattle.asc_words.specs.declared.line.RunLine.{RunLine}
use Rattle.asc_words.specs.declared.answer.Answer.{Answer}
use Rattle.asc_words.specs.declared.answer.Answer.TheVariants as answers
use Rattle.asc_words.specs.declared.answer.BatchRun.{BatchRun}
use Rattle.asc_top.specs.Program.{IsStopped, image_alone, load_of, refusal}
use Rattle.asc_top.specs.Endings.{BadFile, BadWords, IsRefusal, device_of_answer, ending_of}
use Rattle.asc_top.specs.Batch.{AreBatchFiles, BatchFiles, MakesRuns, batch_meaning, first_long}
use Rattle.asc_top.specs.Answered.{Surroundings, Headline}
use Rattle.asc_top.specs.Reported.{IsReported, Report, report_with}

-- ---- the runs

-- All inputs were run.
pub record RunsAll (line : RunLine) (image : loader.Image) (inputs : List (List ℕ)) (told : List BatchRun)
    (old new : Outside) (answered : Answer) : Type 0 where
  pub answer : answered ≡ answers.Done 0
  pub made : MakesRuns line image inputs told old new

-- The first inputs were run, and then a device failed under the guest of the next one, whose input was not read further.
pub record StopsIn (line : RunLine) (content : List ℕ) (image : loader.Image) (inputs : List (List ℕ))
    (told : List BatchRun) (old new : Outside) (answered : Answer) : Type 0 where
  pub device : Device
  pub answer : device_of_answer answered ≡ Some device
  pub ran : List (List ℕ)
  pub input : List ℕ
  pub rest : List (List ℕ)
  pub split : inputs ≡ ran ++ input ∷ rest
  pub between : Outside
  pub made : MakesRuns line image ran told old between
  pub left : Option (List ℕ)
  pub stopped : IsStopped (record between { left = Some input }) (record new { left = left }) device line (image_alone content)

-- The first inputs were run, and then the report failed.
pub record StopsBehind (line : RunLine) (image : loader.Image) (inputs : List (List ℕ)) (told : List BatchRun)
    (old new : Outside) (answered : Answer) : Type 0 where
  pub answer : answered ≡ answers.ReportFault
  pub ran : List (List ℕ)
  pub rest : List (List ℕ)
  pub split : inputs ≡ ran ++ rest
  pub made : MakesRuns line image ran told old new

-- An image was run over inputs, so many of which are told, and that was answered. No file was refused.
pub record RunsBatch (line : BatchLine) (files : BatchFiles) (told : List BatchRun) (old new : Outside) (answered : Answer)
    : Type 0 where
  pub within : length files.image ≤ file_limit
  pub image : loader.Image
  pub loads : load_of line.run files.image ≡ Ok image
  pub short : first_long 0 files.inputs ≡ None
  pub ends : RunsAll line.run image files.inputs told old new answered
      ⊎ (StopsIn line.run files.image image files.inputs told old new answered
      ⊎ StopsBehind line.run image files.inputs told old new answered)

-- ---- the store

-- it was asked for these names, in their order
abbrev pub AsksForEach : (names : List (List ℕ)) → (before after : Option (List (List ℕ))) → Type 0
AsksForEach [] before after = after ≡ before
AsksForEach (name ∷ names) before after =
    (between : Option (List (List ℕ))) × AsksFor name before between × AsksForEach names between after

-- How many files it was asked for: none is read behind one that is refused. Where it failed or memory was wanting, that may
-- have been at any of them.
abbrev pub AsksSoOften : BatchLine → Answer → (number : ℕ) → Type 0
AsksSoOften line answers.TooLong number = number ≡ 1
AsksSoOften line (answers.Image fault) number = number ≡ 1
AsksSoOften line (answers.InputTooLong input) number = number ≡ input + 2
AsksSoOften line answers.StoreFault number = 1 ≤ number
AsksSoOften line answers.Memory number = Unit {0}
AsksSoOften line _ number = number ≡ 1 + length line.inputs

-- it was asked for the image, and then for the inputs in their order
pub record AsksForBatch (line : BatchLine) (answered : Answer) (before after : Option (List (List ℕ))) : Type 0 where
  pub names : List (List ℕ)
  pub rest : List (List ℕ)
  pub first : line.run.image ∷ line.inputs ≡ names ++ rest
  pub asked : AsksForEach names before after
  pub number : AsksSoOften line answered (length names)

-- ---- the answer

-- All that holds of an answer to a batch of which these runs are told, whatever then becomes of the answer's line. It is
-- ReportFault where the report failed at a run's lines.
pub record IsBatchFor (line : BatchLine) (old new : Surroundings) (told : List BatchRun) (answered : Answer) : Type 0 where
  pub headline : Headline (Ok (lines.Batch line)) old new answered
  -- A file is refused where that is what some files mean that the store may hold.
  pub bad : ending_of answered ≡ BadFile
      → (files : BatchFiles) × AreBatchFiles (MayHold old.files) line files × (batch_meaning line files ≡ refusal answered)
  -- Where nothing was refused or wanting, the image was run over inputs that the store may hold.
  pub ran : (IsRefusal answered → ⊥)
      → (files : BatchFiles) × AreBatchFiles (MayHold old.files) line files × RunsBatch line files told old.guest new.guest answered
  -- Else nothing was run, taken, put or counted.
  pub refused : IsRefusal answered → (told ≡ []) × (new.guest ≡ old.guest)
  -- The words are good.
  pub usage : ending_of answered ≢ BadWords
  -- The input of the program is no input of a batch.
  pub left : new.guest.left ≡ old.guest.left
  pub input : new.guest.faults.input ≡ old.guest.faults.input
  -- StoreFault: the store failed, and once. Else it did not.
  pub store_fault : Blames (answered ≡ answers.StoreFault) old.store_faults new.store_faults
  -- WriteFault and ErrFault: that device failed, and once. Every other did not.
  pub faults : BlamesOnly (device_of_answer answered) old.guest.faults new.guest.faults
  pub files : new.files ≡ old.files
  pub names : AsksForBatch line answered old.asked new.asked

-- ---- the report

-- the lines of runs
abbrev pub batch_texts : List BatchRun → List ℕ
batch_texts [] = []
batch_texts (run ∷ runs) = batch_text run ++ batch_texts runs

-- The report failed at the lines of the last of these runs: it took a beginning of them, and not all.
pub record CutsRun (told : List BatchRun) (before after : Report) : Type 0 where
  pub front : List BatchRun
  pub run : BatchRun
  pub told_are : told ≡ front ++ run ∷ []
  pub given : PutsPart (given_after before.given (batch_texts front)) after.given (batch_text run)
  pub faults : after.faults ≡ one_more before.faults

-- The lines of each run were put to the report once it had ended, and at last the answer's line. Where the report fails,
-- ReportFault is shown.
abbrev pub IsBatchReported : (told : List BatchRun) → (answered : Answer) → (before after : Report) → (shown : Answer) → Type 0
IsBatchReported told answers.ReportFault before after shown =
    (shown ≡ answers.ReportFault) × CutsRun told before after
IsBatchReported told answered before after shown =
    IsReported (report_with (given_after before.given (batch_texts told)) before.faults) after (conclusion_of answered) shown

-- a batch was answered so
pub record IsBatchAnswer (line : BatchLine) (old new : Surroundings) (before after : Report) (shown : Answer) : Type 0 where
  pub told : List BatchRun
  pub answered : Answer
  pub is : IsBatchFor line old new told answered
  pub reported : IsBatchReported told answered before after shown
