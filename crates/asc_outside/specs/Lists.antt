-- What the sources, sinks and stores in memory are to contracts.
use Rattle.std.specs.Prelude.{◌≡◌, ◌⊎◌, ℕ, ◌-◌, ◌^◌, ◌==◌, ◌++◌, min, List, length, take, drop, map, nat_lt, string_bytes, Option, Some, None, Bool, true, false, Result, Ok, Err, if◌then◌else◌}
use Rattle.asc_outside.specs.declared.outside.Loaded.{Loaded}
use Rattle.asc_outside.specs.declared.outside.Loaded.TheVariants.{Whole, Longer}
use Rattle.asc_outside.specs.declared.outside.StoreFault.{StoreFault}
use Rattle.asc_outside.specs.declared.outside.StoreFault.TheVariants.{Failed, Memory}
use Rattle.std.specs.declared.vec.Vec.{Vec}
use Rattle.std.specs.declared.string.String.{String}
use Rattle.std.specs.declared.alloc.Global.{Global}
use Rattle.asc_outside.specs.Outside.{Given, File, content_of}
use Rattle.asc_outside.specs.Failures.{Failures, fails_next, after_call, after_failure}

-- a source: the bytes that are left, at most how many it gives a call, and how its calls go
pub record Reading : Type 0 where
  pub left : List ℕ
  pub most : ℕ
  pub failures : Failures

-- how many bytes a source gives into a buffer of this length
abbrev pub given_count : Reading → ℕ → ℕ
given_count source room =
    if fails_next source.failures then 0 else min source.most (min room (length source.left))

-- a source after a call with a buffer of this length
abbrev pub after_take : Reading → ℕ → Reading
after_take source room = record {
  left = drop (given_count source room) source.left;
  most = source.most;
  failures = after_call source.failures;
}

-- what a sink that keeps only a number was given
abbrev pub given_number : ℕ → Given
given_number n = record { bytes = None; number = Some n }

-- a sink: its bytes, how many more it has room for, at most how many it takes a call, and how its calls go
pub record Writing : Type 0 where
  pub bytes : List ℕ
  pub room : ℕ
  pub most : ℕ
  pub failures : Failures

-- what a sink was given; its number stops at 2 ^ 64 - 1
abbrev pub given_to : Writing → Given
given_to sink = record { bytes = Some sink.bytes; number = Some (min (length sink.bytes) (2 ^ 64 - 1)) }

-- how many bytes of a piece of this length a sink takes; where none, the call fails
abbrev pub accepted_count : Writing → ℕ → ℕ
accepted_count sink n = if fails_next sink.failures then 0 else min sink.most (min n sink.room)

-- how its calls went after one with a piece of this length
abbrev pub failures_after_put : Writing → ℕ → Failures
failures_after_put sink n =
    if fails_next sink.failures then after_call sink.failures
    else (if accepted_count sink n == 0 then after_failure (after_call sink.failures)
    else after_call sink.failures)

-- a sink after a call with this piece
abbrev pub after_put : Writing → List ℕ → Writing
after_put sink piece = record {
  bytes = sink.bytes ++ take (accepted_count sink (length piece)) piece;
  room = sink.room - accepted_count sink (length piece);
  most = sink.most;
  failures = failures_after_put sink (length piece);
}

-- a store: its files, the names that it was asked for, where it tells them, and how its calls go
pub record Stock : Type 0 where
  pub files : List File
  pub asked : Option (List (List ℕ))
  pub failures : Failures

-- what a store answers where it has this content
abbrev pub answer_of : Option (List ℕ) → ℕ → Result Loaded StoreFault
answer_of None most = Err Failed
answer_of (Some content) most = if nat_lt most (length content) then Ok Longer else Ok Whole

-- what a store answers, but for want of memory
abbrev pub answer : Stock → List ℕ → ℕ → Result Loaded StoreFault
answer store name most = if fails_next store.failures then Err Failed else answer_of (content_of store.files name) most

-- a store answers so: as it must, or, where it must give the whole file, that it wants memory
abbrev pub Answers : Stock → List ℕ → ℕ → Result Loaded StoreFault → Type 0
Answers store name most result =
    (result ≡ answer store name most) ⊎ ((result ≡ Err Memory) × (answer store name most ≡ Ok Whole))

-- the files of a list of names and contents
abbrev pub files_of : List (String Global × Vec ℕ Global) → List File
files_of files = map (λ file. record { name = string_bytes file.0; content = file.1.items }) files

-- the names that a store noted, where it noted all
abbrev pub told_names : Bool → List (String Global) → Option (List (List ℕ))
told_names true names = Some (map string_bytes names)
told_names false names = None

-- how the calls of a store went after one that was answered so
abbrev pub failures_after_read : Failures → Option (List ℕ) → Failures
failures_after_read failures (Some content) = after_call failures
failures_after_read failures None =
    if fails_next failures then after_call failures else after_failure (after_call failures)
