-- How what was asked for ended, as an answer tells it.
use Rattle.std.specs.Prelude.{◌≡◌, ◌⊎◌, Option, Some, None}
use Rattle.asc_calls.specs.GuestCall.{Device, Input, Out, Err}
use Rattle.asc_words.specs.declared.answer.Answer.{Answer}
use Rattle.asc_words.specs.declared.answer.Answer.TheVariants as answers

pub data Ending : Type 0 where
  -- the guest came to its end, its limit or a fault
  Finished : Ending
  -- a text was written
  Written : Ending
  -- a device failed under the guest, or out while it took a text
  Stopped : Device → Ending
  -- a file is none that is run, or no file of entries for it
  BadFile : Ending
  -- the words are wrong
  BadWords : Ending
  -- the store failed, or memory was wanting
  Unread : Ending
  -- the report failed
  Unreported : Ending

abbrev pub ending_of : Answer → Ending
ending_of (answers.Exit code) = Finished
ending_of (answers.Done refused) = Written
ending_of (answers.Limit count) = Finished
ending_of (answers.Fault fault count) = Finished
ending_of answers.ReadFault = Stopped Input
ending_of answers.WriteFault = Stopped Out
ending_of answers.ErrFault = Stopped Err
ending_of (answers.Image fault) = BadFile
ending_of answers.TooLong = BadFile
ending_of (answers.InputTooLong input) = BadFile
ending_of (answers.Saved fault) = BadFile
ending_of (answers.Usage bad) = BadWords
ending_of answers.StoreFault = Unread
ending_of answers.Memory = Unread
ending_of answers.ReportFault = Unreported

-- no device failed, and no memory was wanting
abbrev pub Completes : Answer → Type 0
Completes answer =
    ((ending_of answer ≡ Finished) ⊎ (ending_of answer ≡ BadFile)) ⊎ ((ending_of answer ≡ Written) ⊎ (ending_of answer ≡ BadWords))

-- the guest was not run
abbrev pub IsRefusal : Answer → Type 0
IsRefusal answer = (ending_of answer ≡ BadFile) ⊎ ((ending_of answer ≡ BadWords) ⊎ (ending_of answer ≡ Unread))

-- the device that failed, where one did
abbrev pub device_of_ending : Ending → Option Device
device_of_ending (Stopped device) = Some device
device_of_ending _ = None

abbrev pub device_of_answer : Answer → Option Device
device_of_answer answer = device_of_ending (ending_of answer)
