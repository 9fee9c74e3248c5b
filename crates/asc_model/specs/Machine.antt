-- The machine that a state stands for (RISC-V unprivileged manual 20191213, section 2.1).
use Rattle.std.specs.Prelude.{◌≡◌, ℕ, zero, suc, ◌+◌, ◌-◌, ◌^◌, ◌<◌, Bool, ◌==◌, ◌&&◌, List, [], ◌∷◌, ◌++◌, length, take, drop, slice_index, slice_set}
use Rattle.std.specs.List.{flat_map}
use Rattle.asc_model.specs.Shape.{Shape, IsShape, start_of}
use Rattle.asc_model.specs.Number.{AreBytes, number_of, number_at, bytes_of, word_at}
use Rattle.asc_model.specs.State.{State}

pub record Machine : Type 0 where
  -- the address of the next instruction
  pub pc : ℕ
  -- registers 1 to 31
  pub registers : List ℕ
  -- the load reservation: eight bytes in version Two, none in version One. Bytes 0 to 3 are an address, which is
  -- reserved where byte 4 is 1; the others mean nothing
  pub reservation : List ℕ
  -- the bytes from the base of memory on
  pub memory : List ℕ

-- x[k]: register 0 is 0
abbrev pub register : Machine → ℕ → ℕ
register m zero = 0
register m (suc k) = slice_index m.registers k

-- M[address], as the number in n bytes
abbrev pub load : Shape → Machine → ℕ → ℕ → ℕ
load shape m n address = number_at n m.memory (address - shape.base)

-- whether an address is reserved
abbrev pub is_reserved : Machine → ℕ → Bool
is_reserved m address = (slice_index m.reservation 4 == 1) && (word_at m.reservation 0 == address)

-- one change of the machine
pub data Change : Type 0 where
  Pc : (value : ℕ) → Change
  Register : (k value : ℕ) → Change
  Memory : (address : ℕ) (bytes : List ℕ) → Change
  Reservation : (i : ℕ) (bytes : List ℕ) → Change

-- the address is reserved
abbrev pub reserve : ℕ → Change
reserve address = Reservation 0 (bytes_of 4 address ++ 1 ∷ [])

-- nothing is reserved
abbrev pub release : Change
release = Reservation 4 (0 ∷ [])

-- the list with these bytes from place i on, where it is that long
abbrev pub splice : List ℕ → ℕ → List ℕ → List ℕ
splice list i bytes = take i list ++ bytes ++ drop (i + length bytes) list

-- the machine after a change; setting register 0 changes nothing
abbrev pub after_change : Shape → Machine → Change → Machine
after_change shape m (Pc value) = record m { pc = value }
after_change shape m (Register zero value) = m
after_change shape m (Register (suc k) value) = record m { registers = slice_set m.registers k value }
after_change shape m (Memory address bytes) =
    record m { memory = splice m.memory (address - shape.base) bytes }
after_change shape m (Reservation i bytes) = record m { reservation = splice m.reservation i bytes }

-- the machine after changes, the first one first
abbrev pub after_changes : Shape → Machine → List Change → Machine
after_changes shape m [] = m
after_changes shape m (first ∷ rest) = after_changes shape (after_change shape m first) rest

-- the first n words of a list of bytes
unfoldable pub words : ℕ → List ℕ → List ℕ
words zero bytes = []
words (suc n) bytes = number_of (take 4 bytes) ∷ words n (drop 4 bytes)

-- the machine that a state stands for
unfoldable pub view_of : State → Machine
view_of s = record {
  pc = word_at s.bytes 0;
  registers = words 31 (drop 4 s.bytes);
  reservation = take (start_of s.shape.version - 128) (drop 128 s.bytes);
  memory = drop (start_of s.shape.version) s.bytes;
}

-- the state of a machine
unfoldable pub state_of : Shape → Machine → State
state_of shape m = record {
  shape = shape;
  bytes = bytes_of 4 m.pc ++ flat_map (bytes_of 4) m.registers ++ m.reservation ++ m.memory;
}

-- a machine of a shape
pub record IsMachine (shape : Shape) (m : Machine) : Type 0 where
  pub good : IsShape shape
  pub pc : m.pc < 2 ^ 32
  pub registers : length m.registers ≡ 31
  pub each_word : (k : ℕ) → slice_index m.registers k < 2 ^ 32
  pub reservation : length m.reservation ≡ start_of shape.version - 128
  pub reservation_bytes : AreBytes m.reservation
  pub memory : length m.memory ≡ shape.size
  pub memory_bytes : AreBytes m.memory
