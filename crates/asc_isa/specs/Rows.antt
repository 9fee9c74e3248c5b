-- The rows of the instruction table that may be for a word.
use Rattle.std.specs.Prelude.{ℕ, Bool, true, ◌==◌, ◌&&◌, List, [], ◌∷◌, if◌then◌else◌}
use Rattle.asc_model.specs.Instruction.{Pattern, Major, Minor, Full, Atomic, AtomicLoad, Whole, Row, opcode, funct3, atomic_opcode, word_width}

-- the opcode of the words that a row is for
abbrev pub opcode_of : Pattern → ℕ
opcode_of (Major major) = major
opcode_of (Minor major minor) = major
opcode_of (Full major minor funct) = major
opcode_of (Atomic funct) = atomic_opcode
opcode_of (AtomicLoad funct) = atomic_opcode
opcode_of (Whole word) = opcode word

-- a row is for words of this opcode and funct3
abbrev pub is_at : Pattern → ℕ → ℕ → Bool
is_at (Major major) o f = o == major
is_at (Minor major minor) o f = (o == major) && (f == minor)
is_at (Full major minor funct) o f = (o == major) && (f == minor)
is_at (Atomic funct) o f = (o == atomic_opcode) && (f == word_width)
is_at (AtomicLoad funct) o f = (o == atomic_opcode) && (f == word_width)
is_at (Whole word) o f = (o == opcode word) && (f == funct3 word)

-- the second key, of a row, may be for words that the first is for, which names an opcode, or an opcode and a funct3
abbrev pub meets : Pattern → Pattern → Bool
meets (Major major) key = major == opcode_of key
meets (Minor major minor) key = is_at key major minor
meets (Full major minor funct) key = true
meets (Atomic funct) key = true
meets (AtomicLoad funct) key = true
meets (Whole word) key = true

-- the rows that may be for words of a key
abbrev pub rows_for : Pattern → List Row → List Row
rows_for key [] = []
rows_for key (row ∷ rows) = if meets key row.pattern then row ∷ rows_for key rows else rows_for key rows
