-- All that holds of an answer, whatever then becomes of its report.
use Rattle.std.specs.Prelude.{◌≡◌, ◌≢◌, ◌⊎◌, ◌↔◌, ℕ, ◌+◌, ◌<◌, ◌≤◌, List, [], length, Option, Some, None, Result, Ok, Err, IsSome, IsTrue, nat_lt, if◌then◌else◌}
use Rattle.asc_model.specs.declared.fault.Fault.{Fault}
use Rattle.asc_model.specs.Shape.{Shape}
use Rattle.asc_model.specs.Entry.{Entry}
use Rattle.asc_model.specs.EntryFile.{entry_file}
use Rattle.asc_outside.specs.Outside.{File, Blames, AsksFor, Given, MayHold, content_of, given_after}
use Rattle.asc_elf.specs.declared.fault.ElfFault.{ElfFault}
use Rattle.asc_calls.specs.GuestCall.{Device, Out}
use Rattle.asc_calls.specs.World.{Outside, BlamesOnly}
use Rattle.asc_make.specs.File.{image_of}
use Rattle.asc_run.specs.declared.walk.Ended.TheVariants as ends
use Rattle.asc_words.specs.Line.{line_of}
use Rattle.asc_words.specs.Report.{trial_text}
use Rattle.asc_words.specs.declared.line.RunLine.{RunLine}
use Rattle.asc_words.specs.declared.line.Line.{Line}
use Rattle.asc_words.specs.declared.line.Line.TheVariants as lines
use Rattle.asc_words.specs.declared.answer.Answer.{Answer}
use Rattle.asc_words.specs.declared.answer.Answer.TheVariants as answers
use Rattle.asc_words.specs.declared.answer.Conclusion.{Conclusion}
use Rattle.asc_words.specs.declared.answer.SavedFault.{SavedFault}
use Rattle.asc_words.specs.declared.answer.TrialRun.{TrialRun}
use Rattle.asc_words.specs.declared.answer.Bad.{Bad}
use Rattle.asc_words.specs.Line.{file_limit}
use Rattle.asc_top.specs.Program.{Files, meaning, Gives, GivesPart, Runs, IsNoImage, IsNoSaved, IsStopped, image_alone, load_of, make_result, trial_run}
use Rattle.asc_top.specs.Numbers.{Means, Saves, SavesPart, Tries, TriesPart, WorkersAreTold}
use Rattle.asc_top.specs.Batch.{AreBatchFiles, BatchFiles, batch_meaning}
use Rattle.asc_top.specs.Endings.{Finished, ending_of, Completes, IsRefusal, device_of_answer}

-- ---- what is told

-- What is told of all that the program meets but its report: the store's files, the names that it was asked for and how
-- often it has failed, and the guest's devices with the counter of steps.
pub record Surroundings : Type 0 where
  pub files : Option (List File)
  pub asked : Option (List (List ℕ))
  pub store_faults : ℕ
  pub guest : Outside

abbrev pub around : Option (List File) → Option (List (List ℕ)) → (store_faults : ℕ) → Outside → Surroundings
around files asked store_faults guest = record {
  files = files;
  asked = asked;
  store_faults = store_faults;
  guest = guest;
}

-- the store tells that it holds a file of that name with this content
abbrev pub IsHeld : Option (List File) → (name content : List ℕ) → Type 0
IsHeld (Some files) name content = content_of files name ≡ Some content
IsHeld None name content = ⊥

-- the file that a run reads behind its image, where that is one that is run: the one of saved entries that its line names
abbrev pub second_name : RunLine → (image : List ℕ) → Option (List ℕ)
second_name line image = if nat_lt file_limit (length image) then None
    else elim (load_of line image) [ Ok loaded ↦ line.load | Err fault ↦ None ]

-- the file of a name, where there is one, has this content, and else there is none
abbrev pub HasSecond : (Holds : (name content : List ℕ) → Type 0) → (name content : Option (List ℕ)) → Type 0
HasSecond Holds (Some name) (Some content) = Holds name content
HasSecond Holds (Some name) None = ⊥
HasSecond Holds None (Some content) = ⊥
HasSecond Holds None None = Unit {0}

-- these are the contents of the files that a run reads
abbrev pub AreFilesOf : (Holds : (name content : List ℕ) → Type 0) → RunLine → Files → Type 0
AreFilesOf Holds line files =
    Holds line.image files.image × HasSecond Holds (second_name line files.image) files.saved

-- what words ask for: a line, or what is wrong with them
abbrev pub Asked : Type 0
Asked = Result Line Bad

-- ---- the headline

-- What is done where no device fails and no memory is wanting. A run whose files and input are told gives what the files
-- mean. A save whose image is told gives the file of the entries that its run leaves. A make gives its image, and a trial
-- its text. A batch whose files are told gives what they mean. Wrong words are answered, and nothing is done.
abbrev pub Done : Asked → (old new : Surroundings) → Answer → Type 0
Done (Ok (lines.Run line)) old new answered =
    (files : Files) (left : List ℕ) → AreFilesOf (IsHeld old.files) line files → old.guest.left ≡ Some left
    → (executed : ℕ) × Gives old.guest new.guest executed answered (meaning line files left)
Done (Ok (lines.Save line)) old new answered =
    (content : List ℕ) → IsHeld old.files line.image content → Saves line content old.guest new.guest answered
Done (Ok (lines.Make n)) old new answered = Gives old.guest new.guest 0 answered (make_result n)
Done (Ok (lines.Trial n workers lanes)) old new answered = Tries n workers old.guest new.guest answered
Done (Ok (lines.Batch line)) old new answered =
    (files : BatchFiles) → AreBatchFiles (IsHeld old.files) line files
    → (executed : ℕ) × Gives old.guest new.guest executed answered (batch_meaning line files)
Done (Err bad) old new answered = (answered ≡ answers.Usage bad) × (new.guest ≡ old.guest)

-- The headline. Where no device failed and no memory was wanting, the answer, what was taken and put, and the rise of
-- the counter are the definition's. What is told of a run's numbers is said by `untold`, which holds of told runs too.
abbrev pub Headline : Asked → (old new : Surroundings) → Answer → Type 0
Headline asked old new answered = Completes answered → Done asked old new answered

-- ---- what holds of an answer

-- That to a batch has a record of its own, `IsBatchAnswer`. Here a batch comes to nothing but want of memory, before the
-- store was asked for a file.

-- the same where a file or input is not told: it gives what some files mean that the store may hold
abbrev pub DoneUntold : Asked → (old new : Surroundings) → Conclusion → Type 0
DoneUntold (Ok (lines.Run line)) old new conclusion =
    (files : Files) × AreFilesOf (MayHold old.files) line files × Means old.guest new.guest conclusion line files
DoneUntold (Ok (lines.Save line)) old new conclusion =
    (content : List ℕ) × MayHold old.files line.image content
    × Saves line content old.guest new.guest conclusion.answer
DoneUntold asked old new conclusion = Done asked old new conclusion.answer

-- A device failed. Under the guest of a run: all is plain execution's up to the call in which that happened. Else it is
-- out, while it took a file of entries, an image or the text of a trial.
abbrev pub Stops : Asked → (old new : Surroundings) → Device → Type 0
Stops (Ok (lines.Run line)) old new device =
    (files : Files) × AreFilesOf (MayHold old.files) line files × IsStopped old.guest new.guest device line files
Stops (Ok (lines.Save line)) old new device = (device ≡ Out)
    × ((content : List ℕ) × MayHold old.files line.image content × SavesPart line content old.guest new.guest)
Stops (Ok (lines.Make n)) old new device = (device ≡ Out) × GivesPart old.guest new.guest 0 (make_result n)
Stops (Ok (lines.Trial n workers lanes)) old new device = (device ≡ Out) × TriesPart n workers old.guest new.guest
Stops (Ok (lines.Batch line)) old new device = ⊥
Stops (Err bad) old new device = ⊥

-- The words ask for a run, and the store may hold files of its names whose contents have P. Or they ask for a save, and
-- it may hold such an image.
abbrev pub HasFile : Asked → Surroundings → (RunLine → Files → Type 0) → Type 0
HasFile (Ok (lines.Run line)) old P = (files : Files) × AreFilesOf (MayHold old.files) line files × P line files
HasFile (Ok (lines.Save line)) old P =
    (content : List ℕ) × MayHold old.files line.image content × P line (image_alone content)
HasFile (Ok (lines.Make n)) old P = ⊥
HasFile (Ok (lines.Trial n workers lanes)) old P = ⊥
HasFile (Ok (lines.Batch line)) old P = ⊥
HasFile (Err bad) old P = ⊥

-- the same, or they ask for a trial, whose image has P
abbrev pub HasImage : Asked → Surroundings → ((told : Option (List ℕ)) → RunLine → Files → Type 0) → Type 0
HasImage (Ok (lines.Run line)) old P =
    (files : Files) × AreFilesOf (MayHold old.files) line files × P old.guest.left line files
HasImage (Ok (lines.Save line)) old P =
    (content : List ℕ) × MayHold old.files line.image content × P (Some []) line (image_alone content)
HasImage (Ok (lines.Make n)) old P = ⊥
HasImage (Ok (lines.Trial n workers lanes)) old P = P (Some []) (trial_run workers) (image_alone (image_of n))
HasImage (Ok (lines.Batch line)) old P = ⊥
HasImage (Err bad) old P = ⊥

-- a file of entries was put to a sink, or an image, or the text of a trial
abbrev pub IsWritten : Asked → (before after : Given) → Type 0
IsWritten (Ok (lines.Run line)) before after = ⊥
IsWritten (Ok (lines.Save line)) before after =
    (shape : Shape) × (entries : List Entry) × (after ≡ given_after before (entry_file shape entries))
IsWritten (Ok (lines.Make n)) before after = after ≡ given_after before (image_of n)
IsWritten (Ok (lines.Trial n workers lanes)) before after =
    (trial : TrialRun) × (trial.n ≡ n) × (after ≡ given_after before (trial_text trial))
IsWritten (Ok (lines.Batch line)) before after = ⊥
IsWritten (Err bad) before after = ⊥

-- the numbers are told of the workers of a run, and of none else
abbrev pub HasWorkersOf : Asked → Conclusion → Type 0
HasWorkersOf (Ok (lines.Run line)) conclusion = WorkersAreTold line conclusion.counts conclusion.workers
HasWorkersOf (Ok (lines.Save line)) conclusion = conclusion.workers ≡ None
HasWorkersOf (Ok (lines.Make n)) conclusion = conclusion.workers ≡ None
HasWorkersOf (Ok (lines.Trial n workers lanes)) conclusion = conclusion.workers ≡ None
HasWorkersOf (Ok (lines.Batch line)) conclusion = conclusion.workers ≡ None
HasWorkersOf (Err bad) conclusion = conclusion.workers ≡ None

-- these words ask for the numbers of a run
abbrev pub AskForCounts : Asked → Type 0
AskForCounts (Ok (lines.Run line)) = IsTrue line.report
AskForCounts (Ok (lines.Save line)) = ⊥
AskForCounts (Ok (lines.Make n)) = ⊥
AskForCounts (Ok (lines.Trial n workers lanes)) = ⊥
AskForCounts (Ok (lines.Batch line)) = ⊥
AskForCounts (Err bad) = ⊥

-- behind an image the store was asked, once, for the file of saved entries, where there is a name of one
abbrev pub AsksForSecond : (name : Option (List ℕ)) → (before after : Option (List (List ℕ))) → Type 0
AsksForSecond (Some name) before after = AsksFor name before after
AsksForSecond None before after = after ≡ before

-- What the store was asked for behind the image of a run that was answered so. Where the image is refused, it was asked
-- for nothing. Where it failed or memory was wanting, that may have been for either file.
abbrev pub AsksBehind : RunLine → Answer → (before after : Option (List (List ℕ))) → Type 0
AsksBehind line answers.TooLong before after = after ≡ before
AsksBehind line (answers.Image fault) before after = after ≡ before
AsksBehind line answers.StoreFault before after = (after ≡ before) ⊎ AsksForSecond line.load before after
AsksBehind line answers.Memory before after = (after ≡ before) ⊎ AsksForSecond line.load before after
AsksBehind line _ before after = AsksForSecond line.load before after

-- memory was wanting before the store was asked for anything
abbrev pub AsksForNone : Answer → (before after : Option (List (List ℕ))) → Type 0
AsksForNone answered before after = (after ≡ before) × (answered ≡ answers.Memory)

-- What the store was asked for until these words were answered so. For a run it was asked for the image and then for the
-- saved entries, for a save for the image, and else for nothing.
abbrev pub AsksForFiles : Asked → Answer → (before after : Option (List (List ℕ))) → Type 0
AsksForFiles (Ok (lines.Run line)) answered before after =
    ((between : Option (List (List ℕ))) × AsksFor line.image before between × AsksBehind line answered between after)
    ⊎ AsksForNone answered before after
AsksForFiles (Ok (lines.Save line)) answered before after =
    AsksFor line.image before after ⊎ AsksForNone answered before after
AsksForFiles (Ok (lines.Make n)) answered before after = after ≡ before
AsksForFiles (Ok (lines.Trial n workers lanes)) answered before after = after ≡ before
AsksForFiles (Ok (lines.Batch line)) answered before after = AsksForNone answered before after
AsksForFiles (Err bad) answered before after = after ≡ before

-- a counter rose, by at most so many
abbrev pub RisesWithin : (most : ℕ) → (before after : ℕ) → Type 0
RisesWithin most before after = (n : ℕ) × (n ≤ most) × (after ≡ before + n)

-- Where an answer is that the guest was not run, nothing was taken, put or counted. But memory may be wanting to a save
-- after its guest was run: then the counter alone rose, by no more than the line's limit.
abbrev pub IsUntouched : Asked → Answer → (old new : Outside) → Type 0
IsUntouched (Ok (lines.Save line)) answers.Memory old new =
    RisesWithin line.limit old.steps new.steps × (new ≡ record old { steps = new.steps })
IsUntouched asked answered old new = new ≡ old

-- All that holds of a conclusion of what was asked by itself, whatever then becomes of its report. A cause is a field: that
-- the answer comes only there. That it comes there, unless a device fails or memory is wanting, is the headline.
pub record IsAnswerFor (asked : Asked) (old new : Surroundings) (conclusion : Conclusion) : Type 0 where
  pub headline : Headline asked old new conclusion.answer
  -- told or not, it is that of some file and some input, which agree with what is told
  pub untold : Completes conclusion.answer → DoneUntold asked old new conclusion
  -- where a device failed, all is as it should be up to there
  pub stopped : (device : Device) → device_of_answer conclusion.answer ≡ Some device → Stops asked old new device
  -- Exit: the plain run of a file that is not too long ends with that code.
  pub exit : (code : ℕ) → conclusion.answer ≡ answers.Exit code
      → HasFile asked old (Runs old.guest.left (λ run. run.ended ≡ ends.Exit code))
  -- a save does not answer how its guest ended
  pub silent : (line : RunLine) → asked ≡ Ok (lines.Save line) → ending_of conclusion.answer ≢ Finished
  -- Done: the whole of a file of entries was put to out, of an image, or of a trial's text.
  pub done : (refused : ℕ) → conclusion.answer ≡ answers.Done refused → IsWritten asked old.guest.out new.guest.out
  -- Limit: it is still going on after that many steps, which are the line's limit.
  pub limit : (count : ℕ) → conclusion.answer ≡ answers.Limit count
      → HasImage asked old (λ told. Runs told (λ run. (run.ended ≡ ends.Limit) × (run.count ≡ count)))
  -- Fault: it meets that fault after that many steps.
  pub fault : (fault : Fault) (count : ℕ) → conclusion.answer ≡ answers.Fault fault count
      → HasImage asked old (λ told. Runs told (λ run. (run.ended ≡ ends.Fault fault) × (run.count ≡ count)))
  -- Image: the file is no image, for that fault.
  pub image : (fault : ElfFault) → conclusion.answer ≡ answers.Image fault → HasImage asked old (λ told. IsNoImage fault)
  -- TooLong: the file is longer than what is read.
  pub too_long : conclusion.answer ≡ answers.TooLong → HasFile asked old (λ line files. file_limit < length files.image)
  -- Saved: the image is one that is run, and the file of saved entries is refused, for that fault.
  pub saved : (fault : SavedFault) → conclusion.answer ≡ answers.Saved fault → HasFile asked old (IsNoSaved fault)
  -- Usage: that is wrong with the words. Where something is, it is answered, unless memory was wanting.
  pub usage : (bad : Bad) → conclusion.answer ≡ answers.Usage bad → asked ≡ Err bad
  pub no_command : (bad : Bad) → asked ≡ Err bad → conclusion.answer ≢ answers.Memory
      → conclusion.answer ≡ answers.Usage bad
  -- StoreFault: the store failed, and once. Else it did not.
  pub store_fault : Blames (conclusion.answer ≡ answers.StoreFault) old.store_faults new.store_faults
  -- ReadFault, WriteFault and ErrFault: that device failed, and once. Every other did not.
  pub faults : BlamesOnly (device_of_answer conclusion.answer) old.guest.faults new.guest.faults
  -- ReportFault is answered in place of this answer, and is none.
  pub no_report_fault : conclusion.answer ≢ answers.ReportFault
  -- the numbers of a run are told where the words ask for them and the guest came to an end, and else none are
  pub counts : IsSome conclusion.counts ↔ (AskForCounts asked × (ending_of conclusion.answer ≡ Finished))
  -- the numbers of its workers beside them, where it has any
  pub workers : HasWorkersOf asked conclusion
  -- where the guest was not run, nothing was taken, put or counted
  pub refused : IsRefusal conclusion.answer → IsUntouched asked conclusion.answer old.guest new.guest
  pub files : new.files ≡ old.files
  -- the store was asked for the files that the line names, once for each, and for nothing else
  pub names : AsksForFiles asked conclusion.answer old.asked new.asked

-- all that holds of a conclusion of these words
abbrev pub IsAnswerTo : (words : List (List ℕ)) → (old new : Surroundings) → Conclusion → Type 0
IsAnswerTo words = IsAnswerFor (line_of words)
