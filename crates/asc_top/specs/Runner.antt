-- What runs of a batch have in common. These are words of private contracts.
use Rattle.std.specs.Prelude.{◌≡◌, ◌⊎◌, ℕ, ◌+◌, ◌<◌, ◌≤◌, List, [], ◌∷◌, ◌++◌, length, Option, Some, None, Ok, IfSome, true, false}
use Rattle.asc_model.specs.Shape.{Shape}
use Rattle.asc_model.specs.Entry.{Entry}
use Rattle.asc_outside.specs.Outside.{PutsPart, given_after, one_more}
use Rattle.asc_elf.specs.Image as loader
use Rattle.asc_calls.specs.GuestCall.{Device}
use Rattle.asc_calls.specs.World.{BlamesOnly, Devices, DoesIo, Outside, faults, outside}
use Rattle.asc_find.specs.Finder.{Aid}
use Rattle.asc_run.specs.SerialHelper.{told_machine}
use Rattle.asc_run.specs.SerialRun.{IsSerialRun, serial_of}
use Rattle.asc_run.specs.Visits.{visit_rule}
use Rattle.asc_run.specs.Walk.{Walk}
use Rattle.asc_words.specs.Report.{batch_text}
use Rattle.asc_words.specs.declared.line.RunLine.{RunLine}
use Rattle.asc_words.specs.declared.answer.Answer.{Answer}
use Rattle.asc_words.specs.declared.answer.Answer.TheVariants as answers
use Rattle.asc_words.specs.declared.answer.BatchRun.{BatchRun}
use Rattle.asc_words.specs.declared.answer.Conclusion.{Conclusion}
use Rattle.asc_words.specs.Line.{file_limit}
use Rattle.asc_top.specs.Program.{IsStopped, image_alone, load_of, run_of_image}
use Rattle.asc_top.specs.Numbers.{WorkersAreTold, course_of_image, guessing_of, keeps_entries, numbers_of, recognised_by}
use Rattle.asc_top.specs.Endings.{device_of_answer}
use Rattle.asc_top.specs.Ran.{HasCountedNothing, Walked}
use Rattle.asc_top.specs.Reported.{Report}
use Rattle.asc_top.specs.Batch.{IsRunTold, MakesRuns, put_by}
use Rattle.asc_top.specs.BatchAnswer.{CutsRun, StopsBehind, batch_texts}
use Rattle.asc_top.specs.Workers.{crew_of}
use Rattle.asc_top.specs.declared.runner.Runner.{Runner}
use Rattle.asc_top.specs.declared.runner.Runner.TheVariants.{Plain, Alone, Beside}

-- it serves a line's runs, so many of which are still to come
abbrev pub IsRunnerFor : {R : Type 0} → RunLine → (runs : ℕ) → Runner R → Type 0
IsRunnerFor line runs Plain = (line.load ≡ None) × (line.workers ≡ 0) × (keeps_entries line ≡ false)
IsRunnerFor line runs (Alone helper) = (line.load ≡ None) × (line.workers ≡ 0) × (keeps_entries line ≡ true)
IsRunnerFor line runs (Beside crew) = (0 < line.workers) × (crew.guessing ≡ guessing_of line) × (crew.crew ≡ crew_of line)
    × (runs ≤ crew.runs)

-- the serial runs before, of images of this shape, have left this content
abbrev pub Keeps : {R : Type 0} → RunLine → Shape → (content : List Entry) → Runner R → Type 0
Keeps line shape content Plain = content ≡ []
Keeps line shape content (Alone helper) = (helper.machine.shape ≡ shape) × (helper.machine.guessing ≡ guessing_of line)
    × (helper.machine.content ≡ content)
Keeps line shape content (Beside crew) = Unit {0}

-- how the helper of a run, which came from first to last, is that of a runner, which was old and is new: it gives nothing,
-- or it tells the machine of a serial run from the content on that the runs before have left
abbrev pub IsHelpOf : {R : Type 0} → (old new : Runner R) → (first last : Aid) → Type 0
IsHelpOf Plain new first last =
    (last.jumps.hits ≡ 0) × (last.jumps.given ≡ 0) × (last.plan.made ≡ 0) × (new ≡ Plain)
IsHelpOf (Alone helper) (Alone after) first last =
    (first.machine ≡ Some (serial_of helper.machine.shape helper.machine.guessing helper.machine.content))
    × (last.machine ≡ told_machine after)
IsHelpOf (Alone helper) _ first last = ⊥
IsHelpOf (Beside crew) new first last = Unit {0}

-- A walk that had not begun went to its end as a line asks, served by a runner, and the conclusion tells how.
pub record RunsOnce {R : Type 0} (line : RunLine) (was now : Walk) (before after : Runner R) (old new : Outside)
    (conclusion : Conclusion) : Type 0 where
  pub first : Aid
  pub last : Aid
  pub fresh : HasCountedNothing first
  pub walked : Walked line.report was now old new first last conclusion.workers conclusion
  pub workers : WorkersAreTold line conclusion.counts conclusion.workers
  pub help : IsHelpOf before after first last

-- ---- one run

-- what is told of the devices of a batch, which has no input of its own
abbrev pub outputs : {I O E : Type 0} → Devices I O E → (steps : ℕ) → Outside
outputs d steps = outside None d.told.out d.told.err steps (faults 0 d.told.faults.out d.told.faults.err)

-- what is told with an input that is put aside
abbrev pub guest_of : {I O E : Type 0} → (left : Option (List ℕ)) → (input_faults : ℕ) → Devices I O E → (steps : ℕ)
    → Outside
guest_of left input_faults d steps =
    outside left d.told.out d.told.err steps (faults input_faults d.told.faults.out d.told.faults.err)

-- the run of an image over an input was made, and is told so
pub record MakesRun (line : RunLine) (image : loader.Image) (number : ℕ) (input : List ℕ) (run : BatchRun)
    (old new : Outside) : Type 0 where
  pub executed : ℕ
  pub told : IsRunTold line image number input run executed
  pub does : DoesIo old new (put_by (run_of_image line image input))
  pub steps : new.steps ≡ old.steps + executed
  pub faults : new.faults ≡ old.faults

-- Its numbers, where they are told and memory was not wanting, are those of a serial run. That goes from the content on that
-- the runs before have left, and leaves another.
abbrev pub IsSerialFrom : {R : Type 0} → RunLine → loader.Image → (input : List ℕ) → BatchRun → (before after : Runner R)
    → Type 0
IsSerialFrom line image input run before after = (content : List Entry) → Keeps line image.start.shape content before
    → line.workers ≡ 0 → IfSome run.counts (λ counts. counts.refused ≡ 0
    → (serial : IsSerialRun line.limit (visit_rule (recognised_by line) (course_of_image image input))
    (course_of_image image input) image.start.shape (guessing_of line) content (numbers_of counts))
    × Keeps line image.start.shape serial.now.content after)

-- a device failed under the guest of a run over an input
pub record StopsRun (line : RunLine) (image : loader.Image) (input : List ℕ) (old new : Outside) (answered : Answer)
    : Type 0 where
  pub device : Device
  pub answer : device_of_answer answered ≡ Some device
  pub left : Option (List ℕ)
  pub stopped : (content : List ℕ) → length content ≤ file_limit → load_of line content ≡ Ok image
      → IsStopped (record old { left = Some input }) (record new { left = left }) device line (image_alone content)
  pub faults : BlamesOnly (Some device) old.faults new.faults

-- a run was made, and its lines were put to the report
pub record ReportsRun {R : Type 0} (line : RunLine) (image : loader.Image) (number : ℕ) (input : List ℕ)
    (before after : Runner R) (old new : Outside) (report reported : Report) : Type 0 where
  pub run : BatchRun
  pub makes : MakesRun line image number input run old new
  pub serial : IsSerialFrom line image input run before after
  pub lines : reported ≡ record report { given = given_after report.given (batch_text run) }

-- a run was made, and then the report failed
pub record CutsReport {R : Type 0} (line : RunLine) (image : loader.Image) (number : ℕ) (input : List ℕ)
    (before after : Runner R) (old new : Outside) (report reported : Report) (answered : Answer) : Type 0 where
  pub run : BatchRun
  pub makes : MakesRun line image number input run old new
  pub serial : IsSerialFrom line image input run before after
  pub given : PutsPart report.given reported.given (batch_text run)
  pub faults : reported.faults ≡ one_more report.faults
  pub answer : answered ≡ answers.ReportFault

-- a run was not made to its end, or its lines were not put
abbrev pub BreaksOff : {R : Type 0} → RunLine → loader.Image → (number : ℕ) → (input : List ℕ)
    → (before after : Runner R) → (old new : Outside) → (report reported : Report) → Answer → Type 0
BreaksOff line image number input before after old new report reported answered =
    ((reported ≡ report) × StopsRun line image input old new answered)
    ⊎ CutsReport line image number input before after old new report reported answered

-- ---- the runs

-- the first inputs were run, and then a device failed under the guest of the next one
pub record StopsWithin (line : RunLine) (image : loader.Image) (inputs : List (List ℕ)) (told : List BatchRun)
    (old new : Outside) (answered : Answer) : Type 0 where
  pub ran : List (List ℕ)
  pub input : List ℕ
  pub rest : List (List ℕ)
  pub split : inputs ≡ ran ++ input ∷ rest
  pub between : Outside
  pub made : MakesRuns line image ran told old between
  pub stops : StopsRun line image input between new answered

-- all lines of these runs were put to the report
abbrev pub ReportsAll : List BatchRun → (report reported : Report) → Type 0
ReportsAll told report reported = reported ≡ record report { given = given_after report.given (batch_texts told) }

-- the runs over inputs were made to the end, and reported
pub record EndsRuns (line : RunLine) (image : loader.Image) (inputs : List (List ℕ)) (old new : Outside)
    (report reported : Report) : Type 0 where
  pub told : List BatchRun
  pub made : MakesRuns line image inputs told old new
  pub reports : ReportsAll told report reported

-- they were broken off
pub record BreaksRuns (line : RunLine) (image : loader.Image) (inputs : List (List ℕ)) (old new : Outside)
    (report reported : Report) (answered : Answer) : Type 0 where
  pub told : List BatchRun
  pub how : (StopsWithin line image inputs told old new answered × ReportsAll told report reported)
      ⊎ (StopsBehind line image inputs told old new answered × CutsRun told report reported)
