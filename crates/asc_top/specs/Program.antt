-- What a file means as a program, and what a command line comes to.
use Rattle.std.specs.Prelude.{◌≡◌, ℕ, true, false, ◌+◌, ◌*◌, ◌<◌, ◌≤◌, List, [], length, Option, Some, None, Result, Ok, Err, nat_lt, if◌then◌else◌}
use Rattle.asc_model.specs.declared.version.Version.TheVariants.{Two}
use Rattle.asc_model.specs.Shape.{Shape, is_same_shape}
use Rattle.asc_model.specs.Entry.{Entry}
use Rattle.asc_model.specs.EntryFile.{saved_of}
use Rattle.asc_outside.specs.Outside.{PutsPart}
use Rattle.asc_elf.specs.declared.fault.ElfFault.{ElfFault}
use Rattle.asc_elf.specs.Image as loader
use Rattle.asc_calls.specs.GuestCall.{Io, nothing, io_of, then_io, IsBeginning, Device, Out}
use Rattle.asc_calls.specs.World.{Outside, DoesIo, Agrees}
use Rattle.asc_make.specs.File.{image_of}
use Rattle.asc_run.specs.declared.walk.Ended.{Ended}
use Rattle.asc_run.specs.declared.walk.Ended.TheVariants as ends
use Rattle.asc_run.specs.Execution.{Run, exec, progress, first_position, StandsAtFailure}
use Rattle.asc_words.specs.Line.{file_limit}
use Rattle.asc_words.specs.declared.line.RunLine.{RunLine}
use Rattle.asc_words.specs.declared.answer.Answer.{Answer}
use Rattle.asc_words.specs.declared.answer.Answer.TheVariants as answers
use Rattle.asc_words.specs.declared.answer.SavedFault.{SavedFault}
use Rattle.asc_words.specs.declared.answer.SavedFault.TheVariants as saved

-- ---- what a file means

-- What a line reads: the bytes of an image, and of a file of saved entries, where one is read.
pub record Files : Type 0 where
  pub image : List ℕ
  pub saved : Option (List ℕ)

-- an image alone
abbrev pub image_alone : List ℕ → Files
image_alone image = record { image = image; saved = None }

-- what a line loads a file as: for as much memory as it gives, in KiB, and its version of the machine
abbrev pub load_of : RunLine → (content : List ℕ) → Result loader.Image ElfFault
load_of line content = loader.image_of content (1024 * line.memory) line.version

-- The entries of a file's bytes for an image of this shape, or why they are refused. The file is too long, it has a fault,
-- or it is of another shape.
abbrev pub entries_for : Shape → (file : List ℕ) → Result (List Entry) SavedFault
entries_for shape file =
    if nat_lt file_limit (length file) then Err saved.TooLong
    else elim (saved_of file) [
      | Err fault ↦ Err (saved.File fault)
      | Ok kept ↦ if is_same_shape kept.shape shape then Ok kept.entries else Err saved.OtherShape
    ]

-- the entries that a run of an image begins with: none where no file of them is read
abbrev pub first_entries : loader.Image → (saved : Option (List ℕ)) → Result (List Entry) SavedFault
first_entries image None = Ok []
first_entries image (Some file) = entries_for image.start.shape file

-- the plain run of an image over an input, up to the line's limit
abbrev pub run_of_image : RunLine → loader.Image → (left : List ℕ) → Run
run_of_image line image left = exec line.limit image.low (loader.high_of image) image.start left

-- the answer of a run that ended so after count steps
abbrev pub answer_at : Ended → ℕ → Answer
answer_at (ends.Exit code) count = answers.Exit code
answer_at (ends.Fault fault) count = answers.Fault fault count
answer_at ends.Limit count = answers.Limit count
answer_at ends.ReadFault count = answers.ReadFault
answer_at ends.WriteFault count = answers.WriteFault
answer_at ends.ErrFault count = answers.ErrFault

-- what a program comes to: the answer, what it took and put, and its count of steps
pub record ProgramResult : Type 0 where
  pub answer : Answer
  pub io : Io
  pub count : ℕ

-- an answer for which no program was run
abbrev pub refusal : Answer → ProgramResult
refusal answer = record { answer = answer; io = nothing; count = 0 }

abbrev pub result_of_run : Run → ProgramResult
result_of_run run = record { answer = answer_at run.ended run.count; io = run.io; count = run.count }

-- what a loaded image comes to over an input: its plain run, whatever the saved entries are, unless they are refused
abbrev pub result_of_entries : RunLine → loader.Image → Result (List Entry) SavedFault → (left : List ℕ) → ProgramResult
result_of_entries line image (Err fault) left = refusal (answers.Saved fault)
result_of_entries line image (Ok entries) left = result_of_run (run_of_image line image left)

-- what a loaded file comes to over an input
abbrev pub result_of_load : RunLine → (saved : Option (List ℕ)) → Result loader.Image ElfFault → (left : List ℕ)
    → ProgramResult
result_of_load line saved (Err fault) left = refusal (answers.Image fault)
result_of_load line saved (Ok image) left = result_of_entries line image (first_entries image saved) left

-- What files mean as a program, for a line and over an input. An image that is too long and one that is none are refused.
-- Then a file of saved entries may be refused. Every other image is run plainly.
unfoldable pub meaning : RunLine → Files → (left : List ℕ) → ProgramResult
meaning line files left =
    if nat_lt file_limit (length files.image) then refusal answers.TooLong
    else result_of_load line files.saved (load_of line files.image) left

-- ---- what was done

-- The answer is the result's, and what was taken and put is the result's. The counter rose by the steps that were
-- executed; the others of its count were jumped over.
pub record Gives (old new : Outside) (executed : ℕ) (answered : Answer) (result : ProgramResult) : Type 0 where
  pub answer : answered ≡ result.answer
  pub does : DoesIo old new result.io
  pub most : executed ≤ result.count
  pub steps : new.steps ≡ old.steps + executed

-- Out failed while it took what a result puts there: it took a beginning of it, and not all. Nothing else was taken or
-- put.
pub record GivesPart (old new : Outside) (executed : ℕ) (result : ProgramResult) : Type 0 where
  pub left : new.left ≡ old.left
  pub out : PutsPart old.out new.out result.io.out
  pub err : new.err ≡ old.err
  pub most : executed ≤ result.count
  pub steps : new.steps ≡ old.steps + executed

-- A file that is not too long is an image, whose plain run, over some input that agrees with what is told, has P. The
-- saved entries are taken.
pub record Runs (told : Option (List ℕ)) (P : Run → Type 0) (line : RunLine) (files : Files) : Type 0 where
  pub within : length files.image ≤ file_limit
  pub image : loader.Image
  pub loads : load_of line files.image ≡ Ok image
  pub entries : List Entry
  pub taken : first_entries image files.saved ≡ Ok entries
  pub left : List ℕ
  pub agrees : Agrees told left
  pub holds : P (run_of_image line image left)

-- a file that is not too long is no image, for this fault
pub record IsNoImage (fault : ElfFault) (line : RunLine) (files : Files) : Type 0 where
  pub within : length files.image ≤ file_limit
  pub loads : load_of line files.image ≡ Err fault

-- an image is one that would be run, but the file of saved entries is refused, for this fault
pub record IsNoSaved (fault : SavedFault) (line : RunLine) (files : Files) : Type 0 where
  pub within : length files.image ≤ file_limit
  pub image : loader.Image
  pub loads : load_of line files.image ≡ Ok image
  pub refused : first_entries image files.saved ≡ Err fault

-- A file that is not too long is an image, and the saved entries are taken. Its plain run over some input that agrees with
-- what is told was stopped when a device failed. Its steps so far took and put io, and what was done of the call at which
-- it stood is done. The whole plain run begins with both.
pub record IsStopped (old new : Outside) (device : Device) (line : RunLine) (files : Files) : Type 0 where
  pub within : length files.image ≤ file_limit
  pub image : loader.Image
  pub loads : load_of line files.image ≡ Ok image
  pub entries : List Entry
  pub taken : first_entries image files.saved ≡ Ok entries
  pub left : List ℕ
  pub agrees : Agrees old.left left
  pub count : ℕ
  pub below : count < line.limit
  pub io : Io
  pub done : Io
  pub does : DoesIo old new (then_io io done)
  pub run : exec count image.low (loader.high_of image) image.start left
      ≡ record { ended = ends.Limit; count = count; io = io }
  pub call : StandsAtFailure image.low (loader.high_of image) device done
      (progress image.low (loader.high_of image) (first_position image.start image.low left) count)
  pub begins : IsBeginning (then_io io done) (run_of_image line image left).io
  pub executed : ℕ
  pub most : executed ≤ count
  pub steps : new.steps ≡ old.steps + executed

-- ---- generated images

-- what `asc make` comes to: the image is put to out
abbrev pub make_result : (n : ℕ) → ProgramResult
make_result n = record { answer = answers.Done 0; io = io_of Out (image_of n); count = 0 }

-- how the image of a trial is run with so many workers beside it: its loop begins at the address
abbrev pub trial_run : (workers : ℕ) → RunLine
trial_run workers = record {
  image = [];
  memory = 128;
  limit = 1000000;
  version = Two;
  last = false;
  stride = true;
  pc = Some 0x10018;
  profile = 4096;
  least = 4;
  laps = 1;
  span = 100000;
  ahead = 2;
  workers = workers;
  lanes = 0;
  queue = 256;
  join = false;
  seek = false;
  report = true;
  load = None;
}
