-- What taking bytes into a buffer does.
use Rattle.std.specs.Prelude.{◌≡◌, ℕ, ◌<◌, ◌≤◌, IsTrue, false, List, [], length, Option}
use Rattle.asc_model.specs.Number.{AreBytes}
use Rattle.asc_model.specs.State.{State}
use Rattle.asc_model.specs.Machine.{Memory}
use Rattle.asc_shape.specs.State.{state_after}
use Rattle.asc_outside.specs.Outside.{Takes, IsAtEnd}
use Rattle.asc_calls.specs.World.{CallState}

-- from one state to another these bytes were taken into memory, where a buffer of n bytes begins
pub record TakesInto (before after : Option (List ℕ)) (old new : State) (buffer n : ℕ) (taken : List ℕ) : Type 0 where
  pub takes : Takes before after taken
  pub bytes : AreBytes taken
  pub state : new ≡ state_after old (Memory buffer taken)
  pub within : length taken ≤ n

-- so many bytes were taken into a buffer
pub record Fills (before after : Option (List ℕ)) (old new : State) (buffer n count : ℕ) : Type 0 where
  pub taken : List ℕ
  pub into : TakesInto before after old new buffer n taken
  pub count_is : length taken ≡ count

-- a source that failed gave fewer bytes than a buffer holds
pub record FillsPart (before after : Option (List ℕ)) (old new : State) (buffer n : ℕ) : Type 0 where
  pub taken : List ℕ
  pub into : TakesInto before after old new buffer n taken
  pub fewer : length taken < n

-- a read that came to its end took so many bytes
pub record Reads (before after : Option (List ℕ)) (old new : State) (buffer n : ℕ) (was now : CallState) (count : ℕ)
    : Type 0 where
  pub taken : List ℕ
  pub into : TakesInto before after old new buffer n taken
  pub count_is : length taken ≡ count
  -- they are fewer than n only where the end of the input was found
  pub all : now.ended ≡ false → count ≡ n
  pub known : (IsTrue was.ended → IsAtEnd before) → IsTrue now.ended → IsAtEnd after
  pub ended : IsTrue was.ended → IsTrue now.ended × (taken ≡ [])
  pub calls : now ≡ record was { ended = now.ended }

-- a read whose source failed took fewer bytes
pub record ReadsPart (before after : Option (List ℕ)) (old new : State) (buffer n : ℕ) (was now : CallState)
    : Type 0 where
  pub taken : List ℕ
  pub into : TakesInto before after old new buffer n taken
  pub fewer : length taken < n
  pub going : was.ended ≡ false
  pub calls : now ≡ was
