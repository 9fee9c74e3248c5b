-- What becomes of the words that the system gave.
use Rattle.std.specs.Prelude.{◌≡◌, ◌≢◌, ◌⊎◌, ℕ, List, map, Result, Ok, Err, IsOkAnd}
use Rattle.std.specs.String.{string_bytes}
use Rattle.std.specs.Vec.Iter.{into_iter_items}
use Rattle.std.specs.IoError.{error_kind}
use Rattle.std.specs.declared.io.Error.{Error}
use Rattle.std.specs.declared.io.ErrorKind.{ErrorKind}
use Rattle.std.specs.declared.io.ErrorKind.TheVariants.{OutOfMemory}
use Rattle.std.specs.declared.string.String.{String}
use Rattle.std.specs.declared.vec.IntoIter.{IntoIter}
use Rattle.asc_words.specs.declared.answer.Bad.TheVariants.{Words}
use Rattle.asc_words.specs.declared.line.LineFault.{LineFault}
use Rattle.asc_words.specs.declared.line.LineFault.TheVariants.{Usage, Memory}

-- Words that an error kept from being read are refused so: want of memory is told apart, and else they are not all text.
pub record IsUnreadOf (kind : ErrorKind) (fault : LineFault) : Type 0 where
  pub memory : kind ≡ OutOfMemory → fault ≡ Memory
  pub words : kind ≢ OutOfMemory → fault ≡ Usage Words

-- words are refused so: those that were read, where no memory is left to keep them
abbrev pub IsUnread : {A : Type 0} → Result (IntoIter (String A) A) Error → LineFault → Type 0
IsUnread (Ok words) fault = fault ≡ Memory
IsUnread (Err error) fault = IsUnreadOf (error_kind error) fault

-- A predicate holds of the words that the system gave, or another one of why they were refused.
abbrev pub HoldsOf : {A : Type 0} → Result (IntoIter (String A) A) Error → (words : List (List ℕ) → Type 0)
    → (refused : LineFault → Type 0) → Type 0
HoldsOf given words refused =
    IsOkAnd given (λ items. words (map string_bytes (into_iter_items items)))
    ⊎ ((fault : LineFault) × IsUnread given fault × refused fault)
