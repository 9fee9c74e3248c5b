-- The numbers of a run, and what a trial tells of its own.
use Rattle.std.specs.Prelude.{◌≡◌, ℕ, zero, suc, Bool, MatchBool, true, false, ◌+◌, ◌*◌, ◌<◌, ◌≤◌, ◌&&◌, ◌||◌, nat_lt, List, [], length, Option, Some, None, Result, Ok, Err, if◌then◌else◌}
use Rattle.std.specs.Option.{is_some}
use Rattle.asc_model.specs.declared.limits.TheConstants.{MOST_ENTRIES, MOST_GUESSES}
use Rattle.asc_model.specs.Entry.{Entry}
use Rattle.asc_model.specs.EntryFile.{entry_file}
use Rattle.asc_elf.specs.declared.fault.ElfFault.{ElfFault}
use Rattle.asc_elf.specs.Image as loader
use Rattle.asc_calls.specs.GuestCall.{nothing, io_of, Out}
use Rattle.asc_calls.specs.World.{Outside, Agrees}
use Rattle.asc_make.specs.File.{image_of}
use Rattle.asc_find.specs.declared.guessing.Guessing.{Guessing}
use Rattle.asc_shard.specs.Content.{content_of}
use Rattle.asc_model.specs.declared.run_counts.RunCounts.{RunCounts}
use Rattle.asc_run.specs.declared.walk.Ended.{Ended}
use Rattle.asc_run.specs.declared.walk.Ended.TheVariants as ends
use Rattle.asc_run.specs.declared.walk.Settings.{Settings}
use Rattle.asc_run.specs.declared.recognised.Recognised.{Recognised}
use Rattle.asc_run.specs.declared.recognised.Recognised.TheVariants.{At, Chosen, Nowhere, Sought}
use Rattle.asc_run.specs.Execution.{progress, first_position}
use Rattle.asc_run.specs.Visits.{AreVisits, Course, VisitRule, Visit, visit_rule, jumps_of}
use Rattle.asc_run.specs.SerialRun.{Numbers, IsSerialRun}
use Rattle.asc_run.specs.Guessed.{guesses_until}
use Rattle.asc_run.specs.Walk.{jumps}
use Rattle.asc_words.specs.declared.line.RunLine.{RunLine}
use Rattle.asc_words.specs.declared.line.Line.{Line}
use Rattle.asc_words.specs.declared.line.Line.TheVariants as lines
use Rattle.asc_words.specs.declared.answer.Answer.{Answer}
use Rattle.asc_words.specs.declared.answer.Answer.TheVariants as answers
use Rattle.asc_words.specs.declared.answer.Counts.{Counts}
use Rattle.asc_words.specs.declared.answer.WorkerCounts.{WorkerCounts}
use Rattle.asc_words.specs.declared.answer.Conclusion.{Conclusion}
use Rattle.asc_words.specs.declared.answer.TrialRun.{TrialRun}
use Rattle.asc_words.specs.declared.answer.SavedFault.{SavedFault}
use Rattle.asc_words.specs.Line.{file_limit, seeking_of}
use Rattle.asc_words.specs.Report.{trial_text}
use Rattle.asc_top.specs.Program.{Files, ProgramResult, Gives, GivesPart, refusal, first_entries, image_alone, load_of, run_of_image, meaning, trial_run}

-- ---- how a line is run

-- what a line asks to be guessed
abbrev pub guessing_of : RunLine → Guessing
guessing_of line = record {
  last = line.last;
  stride = line.stride;
  laps = line.laps;
  span = line.span;
  ahead = line.ahead;
  join = line.join;
}

-- workers go beside its run
abbrev pub has_workers : RunLine → Bool
has_workers line = nat_lt 0 line.workers

-- a line asks for threads: for workers beside its run, or for lanes that run the guesses of each visit in rounds
abbrev pub asks_for_threads : Line → Bool
asks_for_threads (lines.Run line) = nat_lt 0 line.workers || nat_lt 0 line.lanes
asks_for_threads (lines.Save line) = false
asks_for_threads (lines.Make n) = false
asks_for_threads (lines.Trial n workers lanes) = nat_lt 0 workers || nat_lt 0 lanes
asks_for_threads (lines.Batch line) = nat_lt 0 line.run.workers

-- a line is a batch's
abbrev pub is_batch : Line → Bool
is_batch (lines.Batch line) = true
is_batch _ = false

-- What nobody sees is not run: a run's visits matter where its numbers are reported, and where it has workers or saved
-- entries.
abbrev pub has_visits : RunLine → Bool
has_visits line = line.report || has_workers line || is_some line.load

-- Without workers, entries are kept where there are saved ones. Else they are where the numbers are reported, and a kind
-- of guess is on.
abbrev pub keeps_entries : RunLine → Bool
keeps_entries line = is_some line.load || (line.report && (line.last || line.stride))

-- The recognised address: the line's own, or, where a kind of guess is on, one that is sought while the run goes on, or
-- chosen of the first steps.
abbrev pub recognised_by : RunLine → Recognised
recognised_by line =
    elim line.pc [
      | Some address ↦ At address
      | None ↦ if line.last || line.stride
          then (if line.seek then Sought (seeking_of line) else Chosen line.profile line.least)
          else Nowhere
    ]

-- how far a line's image is run, and where it is visited
abbrev pub visited_settings : RunLine → Settings
visited_settings line = record { limit = line.limit; recognised = recognised_by line }

-- the same for a run
abbrev pub settings_of : RunLine → Settings
settings_of line = record {
  limit = line.limit;
  recognised = if has_visits line then recognised_by line else Nowhere;
}

-- the numbers of a walk, beside how many guesses were made and how often memory was wanting
abbrev pub counts_of : RunCounts → (made refused : ℕ) → Counts
counts_of walk made refused = record { run = walk; made = made; refused = refused }

-- what a run reports which ended so: nothing where it is not asked for, or a device stopped it
abbrev pub reported_at : {A : Type 0} → (is_asked : Bool) → Ended → A → Option A
reported_at is_asked (ends.Exit code) told = if is_asked then Some told else None
reported_at is_asked (ends.Fault fault) told = if is_asked then Some told else None
reported_at is_asked ends.Limit told = if is_asked then Some told else None
reported_at is_asked ends.ReadFault told = None
reported_at is_asked ends.WriteFault told = None
reported_at is_asked ends.ErrFault told = None

-- ---- what the numbers are

-- how far the plain run of an image over an input comes in n steps
abbrev pub course_of_image : loader.Image → (left : List ℕ) → Course
course_of_image image left = progress image.low (loader.high_of image) (first_position image.start image.low left)

-- the numbers without that of refusals
abbrev pub numbers_of : Counts → Numbers
numbers_of counts = record { run = counts.run; made = counts.made }

-- These are how many visits a run has up to its limit, how many steps their jumps gave, and how many jumps there were. The
-- visits are those that the replies leave.
pub record AreOfVisits (limit : ℕ) (rule : VisitRule) (run : Course) (counts : Counts) : Type 0 where
  pub visits : List Visit
  pub are : AreVisits limit run rule visits limit
  pub jumps : jumps_of visits (jumps 0 0 0) ≡ jumps counts.run.asked counts.run.skipped counts.run.hits

-- the entries that were taken
abbrev pub taken_of : Result (List Entry) SavedFault → List Entry
taken_of (Ok entries) = entries
taken_of (Err fault) = []

-- these numbers are those of the run of an image over an input, by its steps and its visits
pub record AreCountsOf (line : RunLine) (image : loader.Image) (left : List ℕ) (counts : Counts) : Type 0 where
  -- the steps executed and the steps jumped over are all its steps
  pub total : counts.run.executed + counts.run.skipped ≡ (run_of_image line image left).count
  -- they are those of its visits
  pub visits : AreOfVisits line.limit (visit_rule (recognised_by line) (course_of_image image left))
      (course_of_image image left) counts
  -- with memory or without, at most MOST_GUESSES guesses were made at each visit
  pub few : counts.made ≤ MOST_GUESSES * counts.run.asked

-- these are the numbers of a run of an image over an input, which has these entries at first, the oldest before the others
pub record AreNumbersOf (line : RunLine) (image : loader.Image) (entries : List Entry) (left : List ℕ) (counts : Counts)
    : Type 0 where
  pub of : AreCountsOf line image left counts
  -- where there are no workers beside it, as in rounds, and memory was never wanting, they are those of a serial run, by
  -- its definition
  pub serial : line.workers ≡ 0 → counts.refused ≡ 0
      → IsSerialRun line.limit (visit_rule (recognised_by line) (course_of_image image left)) (course_of_image image left)
      image.start.shape (guessing_of line) (content_of MOST_ENTRIES entries) (numbers_of counts)

-- these are the numbers of a loaded file, where it is an image
abbrev pub AreNumbers : RunLine → (saved : Option (List ℕ)) → Result loader.Image ElfFault → (left : List ℕ) → Counts
    → Type 0
AreNumbers line saved (Ok image) left counts =
    AreNumbersOf line image (taken_of (first_entries image saved)) left counts
AreNumbers line saved (Err fault) left counts = Unit {0}

-- What is told of the numbers of a run that executed so many steps of its count: they are its numbers. Where none are
-- told and there are neither workers nor saved entries, it was run plainly.
abbrev pub AreTold : RunLine → (saved : Option (List ℕ)) → Result loader.Image ElfFault → (left : List ℕ)
    → (executed count : ℕ) → Option Counts → Type 0
AreTold line saved load left executed count None = line.workers ≡ 0 → line.load ≡ None → executed ≡ count
AreTold line saved load left executed count (Some counts) =
    (counts.run.executed ≡ executed) × AreNumbers line saved load left counts

-- These are the numbers of a run's workers beside its own. Each guess that was made was run as a job, or was left. Each
-- job that was run ended in one of five ways. Where memory was never wanting, each guess that was due was made, or found
-- no room, or was not offered once the queue had been filled up.
-- A guess counts as full only once as many were made as the queue holds. With memory or without, those made and those
-- full are at most MOST_GUESSES at each visit.
pub record AreWorkerNumbers (guessing : Guessing) (queue : ℕ) (counts : Counts) (workers : WorkerCounts) : Type 0 where
  pub made : counts.made ≡ workers.tally.ran + workers.left
  pub ran : workers.tally.ran ≡ workers.tally.stored + workers.tally.known + workers.tally.empty + workers.tally.dropped + workers.tally.stopped
  pub guesses : counts.refused ≡ 0 → counts.made + workers.full ≡ guesses_until guessing counts.run.asked
  pub room : 0 < workers.full → queue ≤ counts.made
  pub few : counts.made + workers.full ≤ MOST_GUESSES * counts.run.asked

-- they are told beside the numbers of a run that has workers
abbrev pub WorkersAreTold : RunLine → Option Counts → Option WorkerCounts → Type 0
WorkersAreTold line (Some counts) (Some workers) =
    (0 < line.workers) × AreWorkerNumbers (guessing_of line) line.queue counts workers
WorkersAreTold line (Some counts) None = line.workers ≡ 0
WorkersAreTold line None (Some workers) = ⊥
WorkersAreTold line None None = Unit {0}

-- Over some input that agrees with what is told, the files mean what was answered, taken, put and counted. The numbers
-- that are told are their run's.
pub record Means (old new : Outside) (conclusion : Conclusion) (line : RunLine) (files : Files) : Type 0 where
  pub left : List ℕ
  pub agrees : Agrees old.left left
  pub executed : ℕ
  pub gives : Gives old new executed conclusion.answer (meaning line files left)
  pub told : AreTold line files.saved (load_of line files.image) left executed (meaning line files left).count
      conclusion.counts

-- ---- saved entries

-- A save's run of an image, with its numbers: over no input, without workers, and from no entry on.
pub record SaveRun (line : RunLine) (image : loader.Image) : Type 0 where
  pub numbers : Numbers
  pub serial : IsSerialRun line.limit (visit_rule (recognised_by line) (course_of_image image [])) (course_of_image image [])
      image.start.shape (guessing_of line) [] numbers

-- the entries that it leaves
abbrev pub entries_of_save : {line : RunLine} → {image : loader.Image} → SaveRun line image → List Entry
entries_of_save run = run.serial.now.content

-- what a save puts to out: the file of the entries that its run leaves
abbrev pub save_result : (line : RunLine) → (image : loader.Image) → SaveRun line image → ProgramResult
save_result line image run = record {
  answer = answers.Done 0;
  io = io_of Out (entry_file image.start.shape (entries_of_save run));
  count = (run_of_image line image []).count;
}

-- an image's run was made, and the file of its entries was put to out, however the guest ended
pub record SavesImage (line : RunLine) (image : loader.Image) (old new : Outside) (answered : Answer) : Type 0 where
  pub run : SaveRun line image
  pub gives : Gives old new run.numbers.run.executed answered (save_result line image run)

-- what a save of a loaded file did
abbrev pub SavesLoaded : RunLine → Result loader.Image ElfFault → (old new : Outside) → Answer → Type 0
SavesLoaded line (Err fault) old new answered = Gives old new 0 answered (refusal (answers.Image fault))
SavesLoaded line (Ok image) old new answered = SavesImage line image old new answered

-- What a save of a file did: one that is too long and one that is no image are refused.
abbrev pub Saves : RunLine → (content : List ℕ) → (old new : Outside) → Answer → Type 0
Saves line content old new answered =
    MatchBool (nat_lt file_limit (length content)) (Gives old new 0 answered (refusal answers.TooLong))
    (SavesLoaded line (load_of line content) old new answered)

-- out failed while it took the file of entries
pub record SavesPart (line : RunLine) (content : List ℕ) (old new : Outside) : Type 0 where
  pub within : length content ≤ file_limit
  pub image : loader.Image
  pub loads : load_of line content ≡ Ok image
  pub run : SaveRun line image
  pub gives : GivesPart old new run.numbers.run.executed (save_result line image run)

-- ---- trials

-- the code with which the guest of a run ended, and the run's numbers, where it ended
abbrev pub exit_at : Answer → Option Counts → Option (ℕ × Counts)
exit_at (answers.Exit status) (Some counts) = Some (status, counts)
exit_at answered counts = None

abbrev pub exit_of : Conclusion → Option (ℕ × Counts)
exit_of conclusion = exit_at conclusion.answer conclusion.counts

-- the numbers that a trial tells: none where workers went beside its run
abbrev pub told_by_trial : (workers : ℕ) → Counts → Option Counts
told_by_trial zero counts = Some counts
told_by_trial (suc n) counts = None

-- what a trial tells, whose guest ended with a status, of what its run came to
abbrev pub trial_of : (n workers status : ℕ) → ProgramResult → Counts → TrialRun
trial_of n workers status run counts = record {
  n = n;
  status = status;
  steps = run.count;
  output = length run.io.out;
  counts = told_by_trial workers counts;
}

-- what a trial comes to, by the answer of its run: where its guest ended, the trial's text is put to out
abbrev pub result_of_trial : (n workers : ℕ) → Counts → ProgramResult → Answer → ProgramResult
result_of_trial n workers counts run (answers.Exit status) = record {
  answer = answers.Done counts.refused;
  io = io_of Out (trial_text (trial_of n workers status run counts));
  count = run.count;
}
result_of_trial n workers counts run answered = record { answer = answered; io = nothing; count = run.count }

-- what the run of a trial means, which has no input
abbrev pub trial_meaning : (n workers : ℕ) → ProgramResult
trial_meaning n workers = meaning (trial_run workers) (image_alone (image_of n)) []

abbrev pub trial_result : (n workers : ℕ) → Counts → ProgramResult
trial_result n workers counts =
    let run = trial_meaning n workers in result_of_trial n workers counts run run.answer

-- these are the numbers of a trial's run
abbrev pub AreTrialNumbers : (n workers : ℕ) → Counts → Type 0
AreTrialNumbers n workers counts =
    AreNumbers (trial_run workers) None (load_of (trial_run workers) (image_of n)) [] counts

-- a trial came to its result, with its run's numbers
pub record Tries (n workers : ℕ) (old new : Outside) (answered : Answer) : Type 0 where
  pub counts : Counts
  pub numbers : AreTrialNumbers n workers counts
  pub gives : Gives old new counts.run.executed answered (trial_result n workers counts)

-- out failed while it took the text of a trial with its run's numbers
pub record TriesPart (n workers : ℕ) (old new : Outside) : Type 0 where
  pub counts : Counts
  pub numbers : AreTrialNumbers n workers counts
  pub gives : GivesPart old new counts.run.executed (trial_result n workers counts)
