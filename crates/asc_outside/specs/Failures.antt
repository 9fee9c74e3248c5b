-- How the calls of an object in memory go: which of them fail.
use Rattle.std.specs.Prelude.{ℕ, ◌==◌, Bool, List, if◌then◌else◌}
use Rattle.std.specs.List.{list_any}
use Rattle.asc_outside.specs.Outside.{one_more}

-- the numbers, from 1, of the calls that fail, how many calls were made, and how often one failed
pub record Failures : Type 0 where
  pub fails : List ℕ
  pub calls : ℕ
  pub faults : ℕ

-- no call was made
abbrev pub failures_of : List ℕ → Failures
failures_of fails = record { fails = fails; calls = 0; faults = 0 }

-- whether the next call is one that fails
abbrev pub fails_next : Failures → Bool
fails_next failures = list_any (λ n. n == one_more failures.calls) failures.fails

-- with a failure more
abbrev pub after_failure : Failures → Failures
after_failure failures = record failures { faults = one_more failures.faults }

-- with a call more, and with a failure more where that call is one that fails
abbrev pub after_call : Failures → Failures
after_call failures = record {
  fails = failures.fails;
  calls = one_more failures.calls;
  faults = if fails_next failures then one_more failures.faults else failures.faults;
}
