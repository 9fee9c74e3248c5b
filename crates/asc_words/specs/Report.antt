-- The texts of an answer on the report, of a trial, and of a run of a batch.
use Rattle.std.specs.Prelude.{ℕ, codes, decimal, List, [], ◌++◌, Option, Some, None}
use Rattle.std.specs.Int.{to_be_bytes, w32}
use Rattle.hex.specs.Hex.{encode_lower}
use Rattle.asc_model.specs.declared.fault.Fault.{Fault}
use Rattle.asc_model.specs.declared.fault.FaultKind.{FaultKind}
use Rattle.asc_model.specs.declared.fault.FaultKind.TheVariants as kinds
use Rattle.asc_model.specs.declared.save_fault.SaveFault.TheVariants as save
use Rattle.asc_elf.specs.declared.fault.ElfFault.{ElfFault}
use Rattle.asc_elf.specs.declared.fault.ElfFault.TheVariants as elf
use Rattle.asc_words.specs.declared.answer.Answer.{Answer}
use Rattle.asc_words.specs.declared.answer.BatchRun.{BatchRun}
use Rattle.asc_words.specs.declared.answer.Counts.{Counts}
use Rattle.asc_words.specs.declared.answer.Conclusion.{Conclusion}
use Rattle.asc_words.specs.declared.answer.RunEnd.{RunEnd}
use Rattle.asc_words.specs.declared.answer.RunEnd.TheVariants as ends
use Rattle.asc_words.specs.declared.answer.SavedFault.{SavedFault}
use Rattle.asc_words.specs.declared.answer.SavedFault.TheVariants as saved
use Rattle.asc_words.specs.declared.answer.TrialRun.{TrialRun}
use Rattle.asc_words.specs.declared.answer.WorkerCounts.{WorkerCounts}
use Rattle.asc_words.specs.declared.answer.Answer.TheVariants.{Exit, Done, Usage, Image, TooLong, InputTooLong, Saved, StoreFault, Memory, ReadFault, WriteFault, ErrFault, ReportFault, Limit, Fault as Failed}

-- the number of a machine fault's kind
abbrev pub kind_number : FaultKind → ℕ
kind_number kinds.Misaligned = 1
kind_number kinds.FetchOutside = 2
kind_number kinds.Illegal = 3
kind_number kinds.LoadOutside = 4
kind_number kinds.StoreOutside = 5
kind_number kinds.Break = 6
kind_number kinds.AtomicMisaligned = 7

-- the number of an image's fault
abbrev pub image_number : ElfFault → ℕ
image_number elf.Short = 1
image_number elf.Magic = 2
image_number elf.Class = 3
image_number elf.Data = 4
image_number elf.Version = 5
image_number elf.FileType = 6
image_number elf.Machine = 7
image_number elf.Flags = 8
image_number elf.HeaderSize = 9
image_number elf.Table = 10
image_number elf.Interp = 11
image_number (elf.Segment index) = 12
image_number elf.NoLoad = 13
image_number elf.TooLarge = 14
image_number elf.Entry = 15

-- where an image's fault is that of a program header, which
abbrev pub header_text : ElfFault → List ℕ
header_text (elf.Segment index) = codes " header " ++ decimal index
header_text fault = []

-- the number of a fault of saved entries
abbrev pub saved_number : SavedFault → ℕ
saved_number (saved.File save.Short) = 1
saved_number (saved.File save.Magic) = 2
saved_number (saved.File save.Version) = 3
saved_number (saved.File save.Machine) = 4
saved_number (saved.File save.Shape) = 5
saved_number (saved.File save.Count) = 6
saved_number (saved.File (save.Entry index)) = 7
saved_number (saved.File save.Long) = 8
saved_number (saved.File (save.Untrue index)) = 9
saved_number saved.OtherShape = 10
saved_number saved.TooLong = 11

-- where it is that of an entry, which
abbrev pub entry_text : SavedFault → List ℕ
entry_text (saved.File (save.Entry index)) = codes " entry " ++ decimal index
entry_text (saved.File (save.Untrue index)) = codes " entry " ++ decimal index
entry_text fault = []

-- a word as eight lower-case hexadecimal digits
abbrev pub word_text : ℕ → List ℕ
word_text word = encode_lower (to_be_bytes w32 word)

-- a machine's fault: the number of its kind, where it was, and its value
abbrev pub fault_text : Fault → List ℕ
fault_text fault =
    codes "fault " ++ decimal (kind_number fault.kind)
    ++ codes " at " ++ word_text fault.pc
    ++ codes " value " ++ word_text fault.value

-- The line of an answer. A guest that ends by itself has none, nor has a text that was written. Where the report itself
-- fails, it has a prefix of the text of the conclusion that this answer replaces, and gets no more.
unfoldable pub answer_text : Answer → List ℕ
answer_text (Exit code) = []
answer_text (Done refused) = []
answer_text (Usage bad) = codes "asc: usage\n"
answer_text (Image fault) =
    codes "asc: image fault " ++ decimal (image_number fault) ++ header_text fault ++ codes "\n"
answer_text TooLong = codes "asc: image too long\n"
answer_text (InputTooLong input) = codes "asc: input " ++ decimal input ++ codes " too long\n"
answer_text (Saved fault) = codes "asc: saved fault " ++ decimal (saved_number fault) ++ entry_text fault ++ codes "\n"
answer_text StoreFault = codes "asc: store failed\n"
answer_text Memory = codes "asc: out of memory\n"
answer_text ReadFault = codes "asc: input failed\n"
answer_text WriteFault = codes "asc: output failed\n"
answer_text ErrFault = codes "asc: error output failed\n"
answer_text ReportFault = []
answer_text (Limit count) = codes "asc: limit after " ++ decimal count ++ codes "\n"
answer_text (Failed fault count) = codes "asc: " ++ fault_text fault ++ codes " after " ++ decimal count ++ codes "\n"

-- the line of the numbers of a run
unfoldable pub counts_text : Counts → List ℕ
counts_text counts =
    codes "asc: executed " ++ decimal counts.run.executed
    ++ codes " skipped " ++ decimal counts.run.skipped
    ++ codes " asked " ++ decimal counts.run.asked
    ++ codes " hits " ++ decimal counts.run.hits
    ++ codes " made " ++ decimal counts.made
    ++ codes " refused " ++ decimal counts.refused ++ codes "\n"

-- the line of these numbers, where they are reported
abbrev pub reported_counts_text : Option Counts → List ℕ
reported_counts_text (Some counts) = counts_text counts
reported_counts_text None = []

-- the line of the numbers of its workers
unfoldable pub workers_text : WorkerCounts → List ℕ
workers_text workers =
    codes "asc: ran " ++ decimal workers.tally.ran
    ++ codes " left " ++ decimal workers.left
    ++ codes " stored " ++ decimal workers.tally.stored
    ++ codes " known " ++ decimal workers.tally.known
    ++ codes " empty " ++ decimal workers.tally.empty
    ++ codes " dropped " ++ decimal workers.tally.dropped
    ++ codes " stopped " ++ decimal workers.tally.stopped
    ++ codes " full " ++ decimal workers.full ++ codes "\n"

-- the line of these numbers, where they are reported
abbrev pub reported_workers_text : Option WorkerCounts → List ℕ
reported_workers_text (Some workers) = workers_text workers
reported_workers_text None = []

-- the lines of the numbers of a run and of its workers, where they are reported
abbrev pub numbers_text : Option Counts → Option WorkerCounts → List ℕ
numbers_text counts workers = reported_counts_text counts ++ reported_workers_text workers

-- The text of a conclusion: the line of its answer, and behind it those of its numbers.
unfoldable pub report_text : Conclusion → List ℕ
report_text conclusion = answer_text conclusion.answer ++ numbers_text conclusion.counts conclusion.workers

-- ---- trials

-- the line of a trial that ended
abbrev pub trial_line : TrialRun → List ℕ
trial_line trial =
    codes "trial " ++ decimal trial.n
    ++ codes ": status " ++ decimal trial.status
    ++ codes ", steps " ++ decimal trial.steps
    ++ codes ", output " ++ decimal trial.output ++ codes "\n"

-- the line of its numbers
abbrev pub trial_counts_text : Counts → List ℕ
trial_counts_text counts =
    codes "executed " ++ decimal counts.run.executed
    ++ codes ", skipped " ++ decimal counts.run.skipped
    ++ codes ", asked " ++ decimal counts.run.asked
    ++ codes ", hits " ++ decimal counts.run.hits
    ++ codes ", made " ++ decimal counts.made ++ codes "\n"

-- the line of these numbers, where they are reported
abbrev pub reported_trial_counts_text : Option Counts → List ℕ
reported_trial_counts_text (Some counts) = trial_counts_text counts
reported_trial_counts_text None = []

-- The text of a trial: its line, and behind it that of its numbers.
unfoldable pub trial_text : TrialRun → List ℕ
trial_text trial = trial_line trial ++ reported_trial_counts_text trial.counts

-- ---- runs of a batch

-- how a run ended
abbrev pub end_text : RunEnd → List ℕ
end_text (ends.Exit code) = codes "exit " ++ decimal code
end_text ends.Limit = codes "limit"
end_text (ends.Fault fault) = fault_text fault

-- the line of a run of a batch
abbrev pub batch_line : BatchRun → List ℕ
batch_line run =
    codes "asc: run " ++ decimal run.number ++ codes ": " ++ end_text run.end
    ++ codes " after " ++ decimal run.steps ++ codes "\n"

-- The text of a run of a batch: its line, and behind it those of its numbers.
unfoldable pub batch_text : BatchRun → List ℕ
batch_text run = batch_line run ++ numbers_text run.counts run.workers
