-- What a sink over a writer was given, what a reader told that remained, and what an error is to a store.
use Rattle.std.specs.Prelude.{◌≡◌, ◌≢◌, ℕ, ◌-◌, ◌^◌, ◌<◌, min, List, length, take, Option, Some, None, option_map}
use Rattle.std.specs.declared.io.ErrorKind.{ErrorKind}
use Rattle.std.specs.declared.io.ErrorKind.TheVariants.{OutOfMemory}
use Rattle.asc_outside.specs.Outside.{Given}
use Rattle.asc_outside.specs.declared.outside.StoreFault.{StoreFault}
use Rattle.asc_outside.specs.declared.outside.StoreFault.TheVariants.{Failed, Memory}

-- All bytes that the writer holds but for the last ones, which it took and did not flush, and their number, which
-- stops at 2 ^ 64 - 1.
abbrev pub given_of : (held : Option (List ℕ)) (unflushed : ℕ) → Given
given_of held unflushed = record {
  bytes = option_map (λ bytes. take (length bytes - unflushed) bytes) held;
  number = option_map (λ bytes. min (length bytes - unflushed) (2 ^ 64 - 1)) held;
}

-- what a sink over a stream of the system was given: nothing is told of it
abbrev pub untold : Given
untold = record { bytes = None; number = None }

-- these bytes are all that remains of a reader, where it tells that
abbrev pub Remains : (told : Option (List ℕ)) (bytes : List ℕ) → Type 0
Remains (Some left) bytes = bytes ≡ left
Remains None bytes = Unit {0}

-- more than so many bytes remain of a reader, where it tells that
abbrev pub MoreRemains : (told : Option (List ℕ)) (most : ℕ) → Type 0
MoreRemains (Some left) most = most < length left
MoreRemains None most = Unit {0}

-- an error of this kind is this fault of a store: only want of memory is told apart
abbrev pub IsFaultOf : ErrorKind → StoreFault → Type 0
IsFaultOf kind Memory = kind ≡ OutOfMemory
IsFaultOf kind Failed = kind ≢ OutOfMemory
