-- The exit codes of the answers, and answers without numbers.
use Rattle.std.specs.Prelude.{ℕ, None}
use Rattle.asc_words.specs.declared.answer.Conclusion.{Conclusion}
use Rattle.asc_words.specs.declared.line.LineFault.{LineFault}
use Rattle.asc_words.specs.declared.line.LineFault.TheVariants as LineFaults
use Rattle.asc_words.specs.declared.answer.Answer.{Answer}
use Rattle.asc_words.specs.declared.answer.Answer.TheVariants.{Exit, Done, Usage, Image, TooLong, InputTooLong, Saved, StoreFault, Memory, ReadFault, WriteFault, ErrFault, ReportFault, Limit, Fault}

-- The guest's own code, and else as in BSD's sysexits where it has one: EX_USAGE, EX_DATAERR, EX_NOINPUT, EX_OSERR,
-- EX_IOERR, EX_TEMPFAIL, EX_PROTOCOL.
abbrev pub code_of : Answer → ℕ
code_of (Exit code) = code
code_of (Done refused) = 0
code_of (Usage bad) = 64
code_of (Image fault) = 65
code_of TooLong = 65
code_of (InputTooLong input) = 65
code_of (Saved fault) = 65
code_of StoreFault = 66
code_of Memory = 71
code_of ReadFault = 74
code_of WriteFault = 74
code_of ErrFault = 74
code_of ReportFault = 74
code_of (Limit count) = 75
code_of (Fault fault count) = 76

-- the answer to words that are no line
abbrev pub refusal_of : LineFault → Answer
refusal_of (LineFaults.Usage bad) = Usage bad
refusal_of LineFaults.Memory = Memory

-- an answer of which no numbers are reported
abbrev pub conclusion_of : Answer → Conclusion
conclusion_of answer = record { answer = answer; counts = None; workers = None }
