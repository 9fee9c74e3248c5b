-- Parts of words: some of the four bytes of an aligned word of a state.
use Rattle.std.specs.Prelude.{◌≡◌, ℕ, zero, suc, Bool, drop, ◌+◌, ◌-◌, ◌*◌, ◌/◌, ◌%◌, ◌^◌, ◌<◌, ◌==◌, List, [], ◌∷◌, ◌++◌, flat_map, if◌then◌else◌}
use Rattle.asc_traj.specs.declared.part.Part.{Part}

-- of the n lowest bytes of a number those that a mask has, each with its place, from a place on
unfoldable pub masked : (n mask place word : ℕ) → List (ℕ × ℕ)
masked zero mask place word = []
masked (suc n) mask place word =
    (if mask % 2 == 1 then (place, word % 2 ^ 8) ∷ [] else []) ++ masked n (mask / 2) (place + 1) (word / 2 ^ 8)

-- the number with 0 for its other bytes
unfoldable pub kept : (n mask word : ℕ) → ℕ
kept zero mask word = 0
kept (suc n) mask word = (if mask % 2 == 1 then word % 2 ^ 8 else 0) + 2 ^ 8 * kept n (mask / 2) (word / 2 ^ 8)

-- the n bytes of a mask, as a number with all bits of each
unfoldable pub spread : (n mask : ℕ) → ℕ
spread zero mask = 0
spread (suc n) mask = (if mask % 2 == 1 then 255 else 0) + 2 ^ 8 * spread n (mask / 2)

-- the place of the first byte of its word
abbrev pub word_place : Part → ℕ
word_place p = p.at / 16 * 4

-- the cells of a part
unfoldable pub part_cells : Part → List (ℕ × ℕ)
part_cells p = masked 4 (p.at % 16) (word_place p) p.word

-- A part has at least one byte, and 0 for those that it has not.
pub record IsPart (p : Part) : Type 0 where
  pub some : 0 < p.at % 16
  pub kept : kept 4 (p.at % 16) p.word ≡ p.word

-- the cells of parts
abbrev pub all_cells : List Part → List (ℕ × ℕ)
all_cells parts = flat_map part_cells parts

-- ---- cells, one after another

-- whether a part has its byte k
abbrev pub has_byte : Part → (k : ℕ) → Bool
has_byte p k = p.at % 16 / 2 ^ k % 2 == 1

-- the cells of a part from byte k on
unfoldable pub part_from : (k : ℕ) → Part → List (ℕ × ℕ)
part_from k p = masked (4 - k) (p.at % 16 / 2 ^ k) (word_place p + k) (p.word / 256 ^ k)

-- the cells of parts from byte k of the first one on
abbrev pub first_from : (k : ℕ) → List Part → List (ℕ × ℕ)
first_from k [] = []
first_from k (p ∷ parts) = part_from k p ++ all_cells parts

-- the cells of parts from a byte on, four to a part
unfoldable pub cells_from : List Part → (from : ℕ) → List (ℕ × ℕ)
cells_from parts from = first_from (from % 4) (drop (from / 4) parts)
