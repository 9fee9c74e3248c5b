-- What answer an end of a run gives, and when its numbers are told.
use Rattle.std.proofs.Common.{◌≡◌, ◌↔◌, ◌<◌, ℕ, Bool, true, false, Option, Some, None, IsTrue, IsSome, IfSome, refl, subst, inl, inr}
use Rattle.std.specs.Prelude.{if◌then◌else◌}
use Rattle.asc_run.specs.declared.walk.Ended.{Ended}
use Rattle.asc_run.specs.declared.walk.Ended.TheVariants as ends
use Rattle.asc_run.specs.Execution.{device_of}
use Rattle.asc_words.specs.declared.answer.Answer.{Answer}
use Rattle.asc_words.specs.declared.answer.Counts.{Counts}
use Rattle.asc_words.specs.declared.answer.WorkerCounts.{WorkerCounts}
use Rattle.asc_words.specs.declared.line.RunLine.{RunLine}
use Rattle.asc_top.specs.Program.{answer_at}
use Rattle.asc_top.specs.Numbers.{reported_at, AreWorkerNumbers, WorkersAreTold, guessing_of}
use Rattle.asc_top.specs.Endings.{Ending, Finished, Stopped, IsRefusal, ending_of, device_of_answer}

-- the device that a run's answer names
pub device_of_answer-answer_at : (how : Ended) (count : ℕ) → device_of_answer (answer_at how count) ≡ device_of how
device_of_answer-answer_at (ends.Exit c) count = refl
device_of_answer-answer_at (ends.Fault f) count = refl
device_of_answer-answer_at ends.Limit count = refl
device_of_answer-answer_at ends.ReadFault count = refl
device_of_answer-answer_at ends.WriteFault count = refl
device_of_answer-answer_at ends.ErrFault count = refl

-- the guest was run
abbrev DidRun : Ending → Type 0
DidRun Finished = Unit {0}
DidRun (Stopped device) = Unit {0}
DidRun _ = ⊥

DidRun-answer_at : (how : Ended) (count : ℕ) → DidRun (ending_of (answer_at how count))
DidRun-answer_at (ends.Exit c) count = tt
DidRun-answer_at (ends.Fault f) count = tt
DidRun-answer_at ends.Limit count = tt
DidRun-answer_at ends.ReadFault count = tt
DidRun-answer_at ends.WriteFault count = tt
DidRun-answer_at ends.ErrFault count = tt

not_refused : (answered : Answer) → DidRun (ending_of answered) → IsRefusal answered → ⊥
not_refused answered ran (inl is) = subst DidRun is ran
not_refused answered ran (inr (inl is)) = subst DidRun is ran
not_refused answered ran (inr (inr is)) = subst DidRun is ran

-- the answer of a run is no refusal
pub run-not_refused : (how : Ended) (count : ℕ) → IsRefusal (answer_at how count) → ⊥
run-not_refused how count = not_refused (answer_at how count) (DidRun-answer_at how count)

-- numbers are told of an answer at which the guest came to an end
none_told : (A : Type 0) → Option A
none_told A = None

told_numbers : {A : Type 0} (k : Ending) (told : A) → IsSome (Some told) ↔ (IsTrue true × (k ≡ k))
told_numbers k told = ((λ _. (refl, refl)), (λ _. refl))

no_numbers : (A P : Type 0) → (P → ⊥) → IsSome (none_told A) ↔ P
unfolding none_told
no_numbers A P never = ((λ told. let no : false ≡ true = told in absurd (cc)), (λ p. absurd (never p)))

pub counts-told : (A : Type 0) (is_asked : Bool) (how : Ended) (count : ℕ) (counts : A)
    → IsSome (reported_at is_asked how counts) ↔ (IsTrue is_asked × (ending_of (answer_at how count) ≡ Finished))
unfolding none_told
counts-told A true (ends.Exit c) count counts = told_numbers Finished counts
counts-told A true (ends.Fault f) count counts = told_numbers Finished counts
counts-told A true ends.Limit count counts = told_numbers Finished counts
counts-told A true ends.ReadFault count counts = no_numbers A _ (λ h. let no = h.1 in cc)
counts-told A true ends.WriteFault count counts = no_numbers A _ (λ h. let no = h.1 in cc)
counts-told A true ends.ErrFault count counts = no_numbers A _ (λ h. let no = h.1 in cc)
counts-told A false (ends.Exit c) count counts = no_numbers A _ (λ h. let no = h.0 in cc)
counts-told A false (ends.Fault f) count counts = no_numbers A _ (λ h. let no = h.0 in cc)
counts-told A false ends.Limit count counts = no_numbers A _ (λ h. let no = h.0 in cc)
counts-told A false ends.ReadFault count counts = no_numbers A _ (λ h. let no = h.0 in cc)
counts-told A false ends.WriteFault count counts = no_numbers A _ (λ h. let no = h.0 in cc)
counts-told A false ends.ErrFault count counts = no_numbers A _ (λ h. let no = h.0 in cc)

-- a property of the numbers that are told
pub told_have : {A : Type 0} (P : A → Type 0) (is_asked : Bool) (how : Ended) (counts : A) → P counts → IfSome (reported_at is_asked how counts) P
told_have P true (ends.Exit c) counts have = have
told_have P true (ends.Fault f) counts have = have
told_have P true ends.Limit counts have = have
told_have P true ends.ReadFault counts have = tt
told_have P true ends.WriteFault counts have = tt
told_have P true ends.ErrFault counts have = tt
told_have P false (ends.Exit c) counts have = tt
told_have P false (ends.Fault f) counts have = tt
told_have P false ends.Limit counts have = tt
told_have P false ends.ReadFault counts have = tt
told_have P false ends.WriteFault counts have = tt
told_have P false ends.ErrFault counts have = tt

-- where no device failed, all numbers are told that are asked for
pub all_told : {A : Type 0} (is_asked : Bool) (how : Ended) (counts : A) → device_of how ≡ None → reported_at is_asked how counts ≡ (if is_asked then Some counts else None)
all_told is_asked (ends.Exit c) counts going = refl
all_told is_asked (ends.Fault f) counts going = refl
all_told is_asked ends.Limit counts going = refl
all_told is_asked ends.ReadFault counts going = absurd (cc)
all_told is_asked ends.WriteFault counts going = absurd (cc)
all_told is_asked ends.ErrFault counts going = absurd (cc)

-- the numbers of workers are told beside those of their run
pub workers-told : (line : RunLine) (how : Ended) (counts : Counts) (workers : WorkerCounts) → 0 < line.workers → AreWorkerNumbers (guessing_of line) line.queue counts workers
    → (is_asked : Bool) → WorkersAreTold line (reported_at is_asked how counts) (reported_at is_asked how workers)
workers-told line (ends.Exit c) counts workers some are true = (some, are)
workers-told line (ends.Fault f) counts workers some are true = (some, are)
workers-told line ends.Limit counts workers some are true = (some, are)
workers-told line ends.ReadFault counts workers some are true = tt
workers-told line ends.WriteFault counts workers some are true = tt
workers-told line ends.ErrFault counts workers some are true = tt
workers-told line (ends.Exit c) counts workers some are false = tt
workers-told line (ends.Fault f) counts workers some are false = tt
workers-told line ends.Limit counts workers some are false = tt
workers-told line ends.ReadFault counts workers some are false = tt
workers-told line ends.WriteFault counts workers some are false = tt
workers-told line ends.ErrFault counts workers some are false = tt

-- of a run without workers none are told
pub no_workers-told : (line : RunLine) (counts : Option Counts) → line.workers ≡ 0 → WorkersAreTold line counts None
no_workers-told line (Some counts) alone = alone
no_workers-told line None alone = tt
