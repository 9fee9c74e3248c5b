-- Words of code that change no status of a register or of the pc when they are carried out, since these were touched
-- before.
use Rattle.std.specs.Prelude.{◌≡◌, ℕ, ◌+◌, ◌<◌, ◌≤◌, Bool, true, false, List, Some, count_by}
use Rattle.asc_model.specs.declared.status.Status.{Status}
use Rattle.asc_model.specs.declared.status.Status.TheVariants.{Untouched, Read, Written, ReadWritten}
use Rattle.asc_model.specs.declared.instruction.Instr.{Instr}
use Rattle.asc_model.specs.Number.{word_at}
use Rattle.asc_model.specs.Instruction.{decode, rd_of, rs1_of, rs2_of}
use Rattle.asc_model.specs.Places.{places_from, register_places}
use Rattle.asc_shape.specs.Face.{Face, Marks, Untold, Told, status_at, untouched_count}

abbrev pub is_unwritten : Status → Bool
is_unwritten Untouched = true
is_unwritten Read = true
is_unwritten Written = false
is_unwritten ReadWritten = false

abbrev pub is_only_read : Status → Bool
is_only_read Untouched = false
is_only_read Read = true
is_only_read Written = false
is_only_read ReadWritten = false

-- how many of the places are told as not written
unfoldable pub unwritten_count : Marks → List ℕ → ℕ
unwritten_count Untold places = 0
unwritten_count (Told cap statuses touched) places = count_by (λ place. is_unwritten (status_at statuses place)) places

-- whether a place is told to be only read
abbrev pub is_read_at : Marks → ℕ → Bool
is_read_at Untold place = false
is_read_at (Told cap statuses touched) place = is_only_read (status_at statuses place)

-- the four places from a place on are told to be only read
abbrev pub IsReadWord : Marks → ℕ → Type 0
IsReadWord marks place = (k : ℕ) → place ≤ k → k < place + 4 → is_read_at marks k ≡ true

-- the source registers of an instruction are touched, and its destination is written
pub record AreSettled (marks : Marks) (i : Instr) : Type 0 where
  pub first : untouched_count marks (register_places (rs1_of i)) ≡ 0
  pub second : untouched_count marks (register_places (rs2_of i)) ≡ 0
  pub destination : unwritten_count marks (register_places (rd_of i)) ≡ 0

-- The word at a place is touched, and the pc is written; and where the word is an instruction, its registers are settled.
pub record IsSettled (f : Face) (place : ℕ) : Type 0 where
  pub pc : unwritten_count f.marks (places_from 0 4) ≡ 0
  pub word : untouched_count f.marks (places_from place 4) ≡ 0
  pub registers : (i : Instr) → decode f.state.shape.version (word_at f.state.bytes place) ≡ Some i
      → AreSettled f.marks i
