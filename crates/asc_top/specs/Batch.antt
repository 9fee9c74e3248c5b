-- What a batch means: the runs of one image over several inputs, one after the other, over one cache.
use Rattle.std.specs.Prelude.{◌≡◌, ◌↔◌, ℕ, ◌+◌, ◌≤◌, List, [], ◌∷◌, length, Option, Some, None, Result, Ok, Err, IsSome, IfSome, IsTrue, MatchBool, nat_lt, if◌then◌else◌}
use Rattle.asc_model.specs.Entry.{Entry}
use Rattle.asc_elf.specs.declared.fault.ElfFault.{ElfFault}
use Rattle.asc_elf.specs.Image as loader
use Rattle.asc_calls.specs.GuestCall.{Io, nothing, then_io}
use Rattle.asc_calls.specs.World.{Outside, DoesIo}
use Rattle.asc_run.specs.Execution.{Run}
use Rattle.asc_run.specs.SerialRun.{IsSerialRun}
use Rattle.asc_run.specs.Visits.{visit_rule}
use Rattle.asc_words.specs.Line.{file_limit}
use Rattle.asc_words.specs.Batch.{BatchLine}
use Rattle.asc_words.specs.declared.line.RunLine.{RunLine}
use Rattle.asc_words.specs.declared.answer.Answer.{Answer}
use Rattle.asc_words.specs.declared.answer.Answer.TheVariants as answers
use Rattle.asc_words.specs.declared.answer.BatchRun.{BatchRun}
use Rattle.asc_words.specs.declared.answer.Counts.{Counts}
use Rattle.asc_words.specs.declared.answer.RunEnd.{RunEnd}
use Rattle.asc_words.specs.declared.answer.RunEnd.TheVariants as run_ends
use Rattle.asc_top.specs.Program.{ProgramResult, answer_at, load_of, refusal, run_of_image}
use Rattle.asc_top.specs.Numbers.{AreCountsOf, WorkersAreTold, course_of_image, guessing_of, numbers_of, recognised_by}

-- ---- what a batch reads

-- the bytes of its image, and of the inputs that are read
pub record BatchFiles : Type 0 where
  pub image : List ℕ
  pub inputs : List (List ℕ)

-- the contents of the inputs of these names, which are read up to the first that is too long
abbrev pub AreInputs : (Holds : (name content : List ℕ) → Type 0) → (names contents : List (List ℕ)) → Type 0
AreInputs Holds [] [] = Unit {0}
AreInputs Holds (name ∷ names) (content ∷ contents) =
    Holds name content × MatchBool (nat_lt file_limit (length content)) (contents ≡ []) (AreInputs Holds names contents)
AreInputs Holds [] (content ∷ contents) = ⊥
AreInputs Holds (name ∷ names) [] = ⊥

-- the inputs that a line reads behind its image: all, where that is one that is run, and else none
abbrev pub input_names : BatchLine → (image : List ℕ) → List (List ℕ)
input_names line image = if nat_lt file_limit (length image) then []
    else elim (load_of line.run image) [ Ok loaded ↦ line.inputs | Err fault ↦ [] ]

-- these are the contents of the files that a batch reads
abbrev pub AreBatchFiles : (Holds : (name content : List ℕ) → Type 0) → BatchLine → BatchFiles → Type 0
AreBatchFiles Holds line files =
    Holds line.run.image files.image × AreInputs Holds (input_names line files.image) files.inputs

-- ---- what it comes to

-- the number of the first of these inputs that is too long, where they are counted from a number
abbrev pub first_long : (number : ℕ) → (inputs : List (List ℕ)) → Option ℕ
first_long number [] = None
first_long number (input ∷ inputs) =
    if nat_lt file_limit (length input) then Some number else first_long (number + 1) inputs

-- what a run of a batch puts to out and to err
abbrev pub put_by : Run → Io
put_by run = record run.io { taken = [] }

-- what the plain runs of an image over inputs put, one behind the other
abbrev pub outputs_of : RunLine → loader.Image → (inputs : List (List ℕ)) → Io
outputs_of line image [] = nothing
outputs_of line image (input ∷ inputs) =
    then_io (put_by (run_of_image line image input)) (outputs_of line image inputs)

-- how many steps they have in all
abbrev pub batch_steps : RunLine → loader.Image → (inputs : List (List ℕ)) → ℕ
batch_steps line image [] = 0
batch_steps line image (input ∷ inputs) = (run_of_image line image input).count + batch_steps line image inputs

-- what runs over inputs come to, of which this one is the first that is too long
abbrev pub result_of_inputs : RunLine → loader.Image → (inputs : List (List ℕ)) → (long : Option ℕ) → ProgramResult
result_of_inputs line image inputs (Some number) = refusal (answers.InputTooLong number)
result_of_inputs line image inputs None = record {
  answer = answers.Done 0;
  io = outputs_of line image inputs;
  count = batch_steps line image inputs;
}

-- what a batch of a loaded file comes to
abbrev pub result_of_batch : RunLine → Result loader.Image ElfFault → (inputs : List (List ℕ)) → ProgramResult
result_of_batch line (Err fault) inputs = refusal (answers.Image fault)
result_of_batch line (Ok image) inputs = result_of_inputs line image inputs (first_long 0 inputs)

-- What files mean as a batch. An image that is too long and one that is none are refused, and then an input that is too
-- long. Else the image is run plainly over each input in turn, from its first state on.
unfoldable pub batch_meaning : BatchLine → BatchFiles → ProgramResult
batch_meaning line files =
    if nat_lt file_limit (length files.image) then refusal answers.TooLong
    else result_of_batch line.run (load_of line.run files.image) files.inputs

-- ---- what is told of its runs

-- what a run alone answers that ended so
abbrev pub answer_of : RunEnd → (steps : ℕ) → Answer
answer_of (run_ends.Exit code) steps = answers.Exit code
answer_of run_ends.Limit steps = answers.Limit steps
answer_of (run_ends.Fault fault) steps = answers.Fault fault steps

-- These are the numbers of a run that executed so many steps. Where none are told and there are no workers, it was run
-- plainly.
abbrev pub AreBatchCounts : RunLine → loader.Image → (input : List ℕ) → (executed : ℕ) → Option Counts → Type 0
AreBatchCounts line image input executed None = line.workers ≡ 0 → executed ≡ (run_of_image line image input).count
AreBatchCounts line image input executed (Some counts) =
    (counts.run.executed ≡ executed) × AreCountsOf line image input counts

-- This is told of the run of an image over an input, which has this number in its batch and executed so many steps.
pub record IsRunTold (line : RunLine) (image : loader.Image) (number : ℕ) (input : List ℕ) (run : BatchRun) (executed : ℕ)
    : Type 0 where
  pub number_is : run.number ≡ number
  -- its end and its count are those of the plain run
  pub steps : run.steps ≡ (run_of_image line image input).count
  pub end_is : answer_of run.end run.steps
      ≡ answer_at (run_of_image line image input).ended (run_of_image line image input).count
  pub most : executed ≤ (run_of_image line image input).count
  -- its own numbers are told where they are asked for, and those of its workers beside them
  pub asked : IsSome run.counts ↔ IsTrue line.report
  pub counts : AreBatchCounts line image input executed run.counts
  pub workers : WorkersAreTold line run.counts run.workers

-- this is told of the runs over inputs, one after the other, from a number on; in all they executed so many steps
abbrev pub AreRunsTold : RunLine → loader.Image → (number : ℕ) → (inputs : List (List ℕ)) → List BatchRun → (executed : ℕ)
    → Type 0
AreRunsTold line image number [] [] executed = executed ≡ 0
AreRunsTold line image number (input ∷ inputs) (run ∷ runs) executed =
    (here rest : ℕ) × (executed ≡ here + rest) × IsRunTold line image number input run here
    × AreRunsTold line image (number + 1) inputs runs rest
AreRunsTold line image number [] (run ∷ runs) executed = ⊥
AreRunsTold line image number (input ∷ inputs) [] executed = ⊥

-- As long as memory is never wanting, the numbers of each run without workers are those of a serial run, by its definition.
-- It goes from the content on that the run before left. What the last one leaves has P.
abbrev pub AreSerialRuns : RunLine → loader.Image → (content : List Entry) → (inputs : List (List ℕ)) → List BatchRun
    → (P : List Entry → Type 0) → Type 0
AreSerialRuns line image content (input ∷ inputs) (run ∷ runs) P =
    IfSome run.counts (λ counts. counts.refused ≡ 0
    → (serial : IsSerialRun line.limit (visit_rule (recognised_by line) (course_of_image image input))
    (course_of_image image input) image.start.shape (guessing_of line) content (numbers_of counts))
    × AreSerialRuns line image serial.now.content inputs runs P)
AreSerialRuns line image content _ _ P = P content

-- The runs of an image over inputs were made, one after the other, each from the image's first state on, and are told so.
pub record MakesRuns (line : RunLine) (image : loader.Image) (inputs : List (List ℕ)) (told : List BatchRun)
    (old new : Outside) : Type 0 where
  pub executed : ℕ
  pub told_are : AreRunsTold line image 0 inputs told executed
  pub serial : line.workers ≡ 0 → AreSerialRuns line image [] inputs told (λ content. Unit {0})
  pub does : DoesIo old new (outputs_of line image inputs)
  pub steps : new.steps ≡ old.steps + executed
  pub faults : new.faults ≡ old.faults
