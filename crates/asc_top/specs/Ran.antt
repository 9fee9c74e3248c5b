-- What the functions of this crate promise that run a program.
use Rattle.std.specs.Prelude.{◌≡◌, ◌≢◌, ◌⊎◌, ◌↔◌, ℕ, Bool, IsTrue, ◌+◌, ◌<◌, ◌≤◌, List, [], length, Option, Some, None, Ok, Err, IsSome, IfSome}
use Rattle.asc_model.specs.declared.limits.TheConstants.{MOST_ENTRIES, MOST_WORKERS}
use Rattle.asc_model.specs.Shape.{Shape, IsShape}
use Rattle.asc_model.specs.Entry.{Entry}
use Rattle.asc_outside.specs.Outside.{File, AsksFor, Blames, MayHold}
use Rattle.asc_elf.specs.declared.fault.ElfFault.{ElfFault}
use Rattle.asc_elf.specs.Image as loader
use Rattle.asc_calls.specs.GuestCall.{Device}
use Rattle.asc_calls.specs.World.{Outside, BlamesOnly}
use Rattle.asc_find.specs.declared.guessing.Guessing.{Guessing}
use Rattle.asc_shard.specs.Content.{content_of}
use Rattle.asc_run.specs.declared.walk.Ended.{Ended}
use Rattle.asc_model.specs.declared.run_counts.RunCounts.{RunCounts}
use Rattle.asc_run.specs.declared.walk.Settings.{Settings}
use Rattle.asc_run.specs.Execution.{device_of}
use Rattle.asc_find.specs.Finder.{Aid}
use Rattle.asc_run.specs.SerialHelper.{SerialHelper, first_helper}
use Rattle.asc_run.specs.SerialRun.{serial_of}
use Rattle.asc_run.specs.Walk.{Walk, GoesHelped, IsRaisedBy, new_walk, jumps, world_of}
use Rattle.asc_run.specs.Visits.{visit_rule}
use Rattle.asc_live.specs.Crew.{IsNewAid}
use Rattle.asc_words.specs.declared.line.RunLine.{RunLine}
use Rattle.asc_words.specs.declared.answer.Answer.{Answer}
use Rattle.asc_words.specs.declared.answer.Answer.TheVariants as answers
use Rattle.asc_words.specs.declared.answer.SavedFault.{SavedFault}
use Rattle.asc_words.specs.declared.answer.WorkerCounts.{WorkerCounts}
use Rattle.asc_words.specs.declared.answer.Conclusion.{Conclusion}
use Rattle.asc_words.specs.Answer.{conclusion_of}
use Rattle.asc_words.specs.Line.{file_limit}
use Rattle.asc_top.specs.Program.{Files, IsStopped, answer_at, entries_for, first_entries, load_of}
use Rattle.asc_top.specs.Numbers.{Means, WorkersAreTold, counts_of, guessing_of, reported_at, settings_of}
use Rattle.asc_top.specs.Endings.{Finished, IsRefusal, device_of_answer, ending_of}
use Rattle.asc_top.specs.Answered.{AreFilesOf, AsksForSecond}

-- Files were run as a line asks, or memory was wanting. The image is not too long.
pub record Ran (old new : Outside) (line : RunLine) (files : Files) (conclusion : Conclusion) : Type 0 where
  pub means : conclusion.answer ≢ answers.Memory → device_of_answer conclusion.answer ≡ None
      → Means old new conclusion line files
  pub stopped : (device : Device) → device_of_answer conclusion.answer ≡ Some device
      → IsStopped old new device line files
  pub refused : IsRefusal conclusion.answer → new ≡ old
  pub counts : IsSome conclusion.counts ↔ (IsTrue line.report × (ending_of conclusion.answer ≡ Finished))
  pub workers : WorkersAreTold line conclusion.counts conclusion.workers
  pub shape : (image : loader.Image) → load_of line files.image ≡ Ok image → IsShape image.start.shape
  pub limit : IfSome conclusion.counts (λ counts. counts.run.executed + counts.run.skipped ≤ line.limit)
  pub faults : BlamesOnly (device_of_answer conclusion.answer) old.faults new.faults

-- A file of this name that is not too long was read. The store's files stay. It was asked for that name, and did not fail.
pub record IsRead (name content : List ℕ) (files : Option (List File)) (asked : Option (List (List ℕ))) (faults : ℕ)
    (files_after : Option (List File)) (asked_after : Option (List (List ℕ))) (faults_after : ℕ) : Type 0 where
  pub held : MayHold files name content
  pub within : length content ≤ file_limit
  pub stay : files_after ≡ files
  pub names : AsksFor name asked asked_after
  pub no_fault : faults_after ≡ faults

-- The store was asked for a file of this name. The answer is that it failed, that memory was wanting, or one that a content
-- of the file has.
pub record IsRefused (name : List ℕ) (HasAnswer : (content : List ℕ) → Answer → Type 0) (answered : Answer)
    (files : Option (List File)) (asked : Option (List (List ℕ))) (faults : ℕ)
    (files_after : Option (List File)) (asked_after : Option (List (List ℕ))) (faults_after : ℕ) : Type 0 where
  pub stay : files_after ≡ files
  pub names : AsksFor name asked asked_after
  pub store_fault : Blames (answered ≡ answers.StoreFault) faults faults_after
  pub cause : ((answered ≡ answers.StoreFault) ⊎ (answered ≡ answers.Memory))
      ⊎ ((content : List ℕ) × MayHold files name content × HasAnswer content answered)

-- a file that is too long has this answer
abbrev pub IsTooLong : Answer → (content : List ℕ) → Answer → Type 0
IsTooLong too_long content answered = (answered ≡ too_long) × (file_limit < length content)

-- a walk is the new one of a file's image, as a line asks, with these settings
pub record IsWalkOf (line : RunLine) (settings : Settings) (content : List ℕ) (walk : Walk) : Type 0 where
  pub image : loader.Image
  pub loads : load_of line content ≡ Ok image
  pub good : IsShape image.start.shape
  pub walk_is : walk ≡ new_walk image settings

-- there is no walk of a file that is not too long: it is no image, or memory was wanting
abbrev pub HasNoWalk : RunLine → (content : List ℕ) → Answer → Type 0
HasNoWalk line content answered =
    ((fault : ElfFault) × (answered ≡ answers.Image fault) × (load_of line content ≡ Err fault))
    ⊎ ((image : loader.Image) × (answered ≡ answers.Memory) × (load_of line content ≡ Ok image) × IsShape image.start.shape)

-- a file that is none that is run has this answer
abbrev pub IsNoRun : RunLine → (content : List ℕ) → Answer → Type 0
IsNoRun line content answered = IsTooLong answers.TooLong content answered
    ⊎ ((length content ≤ file_limit) × ((fault : ElfFault) × (answered ≡ answers.Image fault)
    × (load_of line content ≡ Err fault)))

-- a file that is refused as one of saved entries of a shape has this answer
abbrev pub IsNoEntries : Shape → (content : List ℕ) → Answer → Type 0
IsNoEntries shape content answered =
    (fault : SavedFault) × (answered ≡ answers.Saved fault) × (entries_for shape content ≡ Err fault)

-- A line's image is not too long, and its walk is this one. The entries are those of the file of saved entries, where the
-- line names one, and else there are none.
pub record AreOpened (line : RunLine) (files : Files) (walk : Walk) (entries : List Entry) : Type 0 where
  pub within : length files.image ≤ file_limit
  pub own : IsWalkOf line (settings_of line) files.image walk
  pub taken : first_entries own.image files.saved ≡ Ok entries
  pub none : line.load ≡ None → entries ≡ []

-- The files that a line names were read, and a walk and entries are theirs.
pub record Opens (line : RunLine) (walk : Walk) (entries : List Entry)
    (files : Option (List File)) (asked : Option (List (List ℕ))) (faults : ℕ)
    (files_after : Option (List File)) (asked_after : Option (List (List ℕ))) (faults_after : ℕ) : Type 0 where
  pub read : Files
  pub held : AreFilesOf (MayHold files) line read
  pub are : AreOpened line read walk entries
  pub stay : files_after ≡ files
  pub between : Option (List (List ℕ))
  pub first : AsksFor line.image asked between
  pub second : AsksForSecond line.load between asked_after
  pub no_fault : faults_after ≡ faults

-- Threads run the guesses of a run: those of workers beside it, or those of lanes in rounds, and not both.
pub record IsThreaded (workers lanes : ℕ) : Type 0 where
  pub few : lanes ≤ MOST_WORKERS
  pub one : 0 < lanes → workers ≡ 0
  pub some : lanes ≡ 0 → 0 < workers

-- a helper that was not visited yet, to which these entries were added
abbrev pub loaded_helper : Shape → Guessing → (entries : List Entry) → SerialHelper
loaded_helper shape guessing entries =
    record (first_helper shape guessing) { machine = serial_of shape guessing (content_of MOST_ENTRIES entries) }

-- a helper that was not asked yet, and for which no guess was made, refused or left out
pub record HasCountedNothing (first : Aid) : Type 0 where
  pub jumps : first.jumps ≡ jumps 0 0 0
  pub made : first.plan.made ≡ 0
  pub refused : first.plan.refused ≡ 0
  pub full : first.plan.full ≡ 0

-- A walk that had not begun went to its end with a helper, which came from first to last, and the conclusion tells how, with
-- the numbers of its workers that are told.
pub record Walked (is_asked : Bool) (was now : Walk) (old new : Outside) (first last : Aid) (told : Option WorkerCounts)
    (conclusion : Conclusion) : Type 0 where
  pub ended : Ended
  pub goes : GoesHelped was.settings.limit (visit_rule was.settings.recognised) (world_of was old) (world_of now new) first last
      now.count now.jumps.given ended
  pub raised : IsRaisedBy now.jumps first.jumps last.jumps
  pub limit : now.count ≤ was.settings.limit
  pub settings : now.settings ≡ was.settings
  -- where no device failed, its state has the shape that it had
  pub shape : device_of ended ≡ None → now.state.shape ≡ was.state.shape
  pub faults : BlamesOnly (device_of ended) old.faults new.faults
  pub counts : RunCounts
  pub executed : counts.executed + counts.skipped ≡ now.count
  pub skipped : counts.skipped ≡ now.jumps.given
  pub asked : counts.asked ≡ now.jumps.asked
  pub hits : counts.hits ≡ now.jumps.hits
  pub conclusion_is : conclusion ≡ record {
    answer = answer_at ended now.count;
    counts = reported_at is_asked ended (counts_of counts last.plan.made last.plan.refused);
    workers = told;
  }

-- a walk went so beside workers, as a line asks
pub record WalkedBeside (line : RunLine) (was now : Walk) (old new : Outside) (conclusion : Conclusion) : Type 0 where
  pub first : Aid
  pub last : Aid
  pub fresh : IsNewAid (guessing_of line) first
  pub walked : Walked line.report was now old new first last conclusion.workers conclusion
  pub workers : WorkersAreTold line conclusion.counts conclusion.workers

-- it did, or memory was wanting for its workers, and nothing was done
abbrev pub RanBeside : RunLine → (was now : Walk) → (old new : Outside) → Conclusion → Type 0
RanBeside line was now old new conclusion =
    WalkedBeside line was now old new conclusion ⊎ ((conclusion ≡ conclusion_of answers.Memory) × (new ≡ old))
