-- Words on states.
use Rattle.std.specs.Prelude.{ℕ, ◌-◌, List, [], ◌∷◌, length, take, drop, replicate}
use Rattle.asc_model.specs.Shape.{Shape, length_of, place_of}
use Rattle.asc_model.specs.State.{State}
use Rattle.asc_model.specs.Machine.{Change, after_change, splice, view_of, state_of}

-- all bytes 0
abbrev pub zero_state : Shape → State
zero_state shape = record { shape = shape; bytes = replicate (length_of shape) 0 }

-- the state after a change of its machine
unfoldable pub state_after : State → Change → State
state_after s c = state_of s.shape (after_change s.shape (view_of s) c)

-- the state after changes, the first one first
abbrev pub state_after_all : State → List Change → State
state_after_all s [] = s
state_after_all s (first ∷ rest) = state_after_all (state_after s first) rest

-- the n bytes of memory from an address on
abbrev pub memory_at : State → ℕ → ℕ → List ℕ
memory_at s address n = take n (drop (address - s.shape.base) (view_of s).memory)

-- the state with these bytes in memory from an address on; what would pass the end of memory is cut off
abbrev pub with_memory : State → ℕ → List ℕ → State
with_memory s address bytes = record s { bytes = take (length s.bytes) (splice s.bytes (place_of s.shape address) bytes) }
