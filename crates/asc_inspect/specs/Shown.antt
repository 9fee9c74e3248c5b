-- What asc_show answers.
use Rattle.std.specs.Prelude.{◌≡◌, ◌⊎◌, ℕ, ◌*◌, false, codes, decimal, List, [], ◌++◌, Option, None, Result, Ok, Err}
use Rattle.asc_outside.specs.Outside.{AsksFor, File, Given, MayHold, MayHoldLonger, PutsPart, given_after}
use Rattle.asc_outside.specs.Lists.{given_number}
use Rattle.asc_elf.specs.Image as loader
use Rattle.asc_elf.specs.declared.fault.ElfFault.{ElfFault}
use Rattle.asc_calls.specs.GuestCall.{Device}
use Rattle.asc_calls.specs.World.{Outside, World, faults, outside, world_in}
use Rattle.asc_run.specs.declared.walk.Ended.{Ended}
use Rattle.asc_run.specs.declared.walk.Ended.TheVariants as ends
use Rattle.asc_run.specs.Execution.{device_of}
use Rattle.asc_words.specs.Line.{file_limit}
use Rattle.asc_words.specs.declared.line.LineFault.{LineFault}
use Rattle.asc_words.specs.declared.line.LineFault.TheVariants as LineFaults
use Rattle.asc_words.specs.declared.line.RunLine.{RunLine}
use Rattle.asc_inspect.specs.declared.answer.Answer.{Answer}
use Rattle.asc_inspect.specs.declared.answer.Answer.TheVariants as answers
use Rattle.asc_inspect.specs.declared.answer.Reached.{Reached}
use Rattle.asc_inspect.specs.declared.answer.Reached.TheVariants.{Visits, Steps}
use Rattle.asc_inspect.specs.declared.request.Question.{Question}
use Rattle.asc_inspect.specs.declared.request.Question.TheVariants.{Entry, Miss, At, Profile, Seek}
use Rattle.asc_inspect.specs.declared.request.Request.{Request}
use Rattle.asc_inspect.specs.Entered.{EndsEntry, ShowsEntry}
use Rattle.asc_inspect.specs.Missed.{EndsMisses, ShowsMisses}
use Rattle.asc_inspect.specs.Registers.{EndsRegisters, ShowsRegisters}
use Rattle.asc_inspect.specs.Profile.{EndsProfile, ShowsProfile}
use Rattle.asc_inspect.specs.Sought.{EndsSought, ShowsSought}
use Rattle.asc_inspect.specs.Asked.{Asks}

-- ---- the status and the line of an answer

-- the status of a program that ended before what is asked for
abbrev pub code_of_end : Ended → ℕ
code_of_end (ends.Exit code) = 69
code_of_end (ends.Fault fault) = 76
code_of_end ends.Limit = 75
code_of_end ends.ReadFault = 74
code_of_end ends.WriteFault = 74
code_of_end ends.ErrFault = 74

-- 0, or as in BSD's sysexits where it has one, as asc answers
abbrev pub code_of : Answer → ℕ
code_of answers.Shown = 0
code_of answers.Usage = 64
code_of (answers.Image fault) = 65
code_of answers.TooLong = 65
code_of answers.StoreFault = 66
code_of answers.NoStep = 69
code_of answers.Memory = 71
code_of answers.OutFault = 74
code_of (answers.Ended ended reached) = code_of_end ended

-- the answer to words that are no line
abbrev pub refusal_of : LineFault → Answer
refusal_of (LineFaults.Usage bad) = answers.Usage
refusal_of LineFaults.Memory = answers.Memory

-- how a program ended
abbrev pub end_text : Ended → List ℕ
end_text (ends.Exit code) = codes "the program ended"
end_text (ends.Fault fault) = codes "the program met a fault"
end_text ends.Limit = codes "the limit on steps was reached"
end_text ends.ReadFault = codes "standard input failed"
end_text ends.WriteFault = codes "the guest's output failed"
end_text ends.ErrFault = codes "the guest's error output failed"

-- what it did not come to
abbrev pub before_text : Reached → List ℕ
before_text (Visits visits) = codes " before that visit; visits so far: "
before_text (Steps steps) = codes " before that step; steps so far: "

abbrev pub number_of : Reached → ℕ
number_of (Visits visits) = visits
number_of (Steps steps) = steps

-- the line of an answer; what was shown has none
unfoldable pub answer_text : Answer → List ℕ
answer_text answers.Shown = []
answer_text answers.Usage =
    codes "asc_show: wants entry|miss IMAGE ADDRESS VISIT, at IMAGE STEPS, profile [--all] IMAGE, or seek IMAGE, and options of asc run\n"
answer_text (answers.Image fault) = codes "asc_show: the file is no image; asc run tells its fault\n"
answer_text answers.TooLong = codes "asc_show: the file has more than 67,108,864 bytes\n"
answer_text answers.StoreFault = codes "asc_show: the file can't be read\n"
answer_text answers.NoStep = codes "asc_show: no entry: a guest call or a fault stands at that visit\n"
answer_text answers.Memory = codes "asc_show: out of memory\n"
answer_text answers.OutFault = codes "asc_show: standard output failed\n"
answer_text (answers.Ended ended reached) =
    codes "asc_show: " ++ end_text ended ++ before_text reached ++ decimal (number_of reached) ++ codes "\n"

-- ---- what is shown of a run, and how it ends before

-- the program of an image, which has not begun
abbrev pub first_world : loader.Image → Outside → World
first_world image o =
    world_in image.start (record { low = image.low; high = loader.high_of image; brk = image.low; ended = false }) o

-- what is told where the guest's outputs are only counted, from nothing on
abbrev pub counted_outside : (left : Option (List ℕ)) → (steps input_faults : ℕ) → Outside
counted_outside left steps input_faults =
    outside left (given_number 0) (given_number 0) steps (faults input_faults 0 0)

-- the program of an image, whose outputs are only counted
abbrev pub image_world : loader.Image → (left : Option (List ℕ)) → (steps input_faults : ℕ) → World
image_world image left steps input_faults = first_world image (counted_outside left steps input_faults)

-- the text is what a question asks of the run from start
abbrev pub ShowsText : RunLine → Question → (start : World) → (left : Option (List ℕ)) → (steps : ℕ)
    → (text : List ℕ) → Type 0
ShowsText line (Entry visit) = ShowsEntry line visit
ShowsText line (Miss visit) = ShowsMisses line visit
ShowsText line (At count) = ShowsRegisters line count
ShowsText line (Profile addresses) = ShowsProfile line addresses
ShowsText line Seek = ShowsSought line

-- the answer says why there is no such text
abbrev pub HasNoText : RunLine → Question → (start : World) → (left : Option (List ℕ)) → (steps : ℕ) → Answer → Type 0
HasNoText line (Entry visit) = EndsEntry line visit
HasNoText line (Miss visit) = EndsMisses line visit
HasNoText line (At count) = EndsRegisters line count
HasNoText line (Profile addresses) = EndsProfile line
HasNoText line Seek = EndsSought line

-- ---- what was done

-- What is told of the guest's input, of the output for the text, of the counter of steps, and how often the input has
-- failed.
pub record Outer : Type 0 where
  pub left : Option (List ℕ)
  pub out : Given
  pub steps : ℕ
  pub input_faults : ℕ

abbrev pub outer : Option (List ℕ) → Given → (steps input_faults : ℕ) → Outer
outer left out steps input_faults = record { left = left; out = out; steps = steps; input_faults = input_faults }

-- what a file is, in as much memory as is asked for
abbrev pub load_of : Request → (content : List ℕ) → Result loader.Image ElfFault
load_of request content = loader.image_of content (1024 * request.line.memory) request.line.version

-- a program that has not begun
abbrev pub start_world : loader.Image → Outer → World
start_world image o = image_world image o.left o.steps o.input_faults

-- a file is an image, of whose program, before it begins, P holds
abbrev pub Starts : Request → (content : List ℕ) → Outer → (World → Type 0) → Type 0
Starts request content o P =
    (image : loader.Image) × (load_of request content ≡ Ok image) × P (start_world image o)

-- of some text that is asked for of that program P holds
abbrev pub Shows : Request → (content : List ℕ) → (old new : Outer) → (List ℕ → Type 0) → Type 0
Shows request content old new P = Starts request content old
    (λ start. (text : List ℕ) × ShowsText request.line request.question start new.left new.steps text × P text)

-- the device that failed, where that is answered
abbrev pub device_of_answer : Answer → Option Device
device_of_answer (answers.Ended ended reached) = device_of ended
device_of_answer answer = None

abbrev pub device_of_result : {T : Type 0} → Result T Answer → Option Device
device_of_result (Ok done) = None
device_of_result (Err answer) = device_of_answer answer

-- it is answered that the guest's input failed
abbrev pub HasInputFailed : Answer → Type 0
HasInputFailed answer = (reached : Reached) × (answer ≡ answers.Ended ends.ReadFault reached)

-- it is answered that the guest's output failed, or its error output
abbrev pub HasOutputFailed : Answer → Type 0
HasOutputFailed answer = (reached : Reached)
    × ((answer ≡ answers.Ended ends.WriteFault reached) ⊎ (answer ≡ answers.Ended ends.ErrFault reached))

-- What an answer says of a file that was read, and what was put to the output.
abbrev pub Says : Request → (content : List ℕ) → (old new : Outer) → Answer → Type 0
Says request content old new answers.Memory = new.out ≡ old.out
Says request content old new (answers.Image fault) = (load_of request content ≡ Err fault) × (new ≡ old)
Says request content old new answers.Shown =
    Shows request content old new (λ text. new.out ≡ given_after old.out text)
Says request content old new answers.OutFault = Shows request content old new (λ text. PutsPart old.out new.out text)
Says request content old new answers.Usage = ⊥
Says request content old new answers.TooLong = ⊥
Says request content old new answers.StoreFault = ⊥
Says request content old new answer = Starts request content old
    (λ start. HasNoText request.line request.question start new.left new.steps answer) × (new.out ≡ old.out)

-- ---- what an answer to words says

-- Some file that the store may hold under the name has P.
abbrev pub HasFile : Request → Option (List File) → (List ℕ → Type 0) → Type 0
HasFile request files P = (content : List ℕ) × MayHold files request.line.image content × P content

-- Wrong words are refused, and no others. The rest is an answer to what the words ask for.
abbrev pub Answers : (words : List (List ℕ)) → Option (List File) → (old new : Outer) → Answer → Type 0
Answers words files old new answers.Usage =
    ((request : Request) → Asks words request → ⊥) × (new ≡ old)
Answers words files old new answers.Memory = new.out ≡ old.out
Answers words files old new answers.StoreFault = ((request : Request) × Asks words request) × (new ≡ old)
Answers words files old new answers.TooLong =
    ((request : Request) × Asks words request × MayHoldLonger files request.line.image file_limit) × (new ≡ old)
Answers words files old new answer =
    (request : Request) × Asks words request × HasFile request files (λ content. Says request content old new answer)

-- What the store was asked for until words were answered so: for the image that they name, once, and for nothing else.
-- It was asked for nothing where they are wrong, or where memory was wanting before.
abbrev pub AsksForImage : (words : List (List ℕ)) → Answer → (before after : Option (List (List ℕ))) → Type 0
AsksForImage words answer before after =
    ((request : Request) × Asks words request × AsksFor request.line.image before after)
    ⊎ ((after ≡ before) × ((answer ≡ answers.Usage) ⊎ (answer ≡ answers.Memory)))
