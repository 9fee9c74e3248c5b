-- A bit for each word of a state, 64 to a block.
use Rattle.std.specs.Prelude.{◌≡◌, ℕ, ◌-◌, ◌*◌, ◌/◌, ◌%◌, ◌<◌, ◌≤◌, ◌==◌, Bool, true, not, List, All, count_by, filter, flat_map, length, slice_index}
use Rattle.std.specs.Int.{bit_at}
use Rattle.asc_model.specs.DependencyVector.{is_among}
use Rattle.asc_model.specs.Places.{places_from}
use Rattle.asc_depvec.specs.declared.bitmap.Block.{Block}

-- whether a word's bit is set in a block that begins at a word
abbrev pub has_bit : (block from word : ℕ) → Bool
has_bit block from word = bit_at block (word - from) == 1

-- whether it is set in its block
abbrev pub has_word : (blocks : List ℕ) → (word : ℕ) → Bool
has_word blocks word = bit_at (slice_index blocks (word / 64)) (word % 64) == 1

-- each block that is not 0 is listed
abbrev pub AreListed : (blocks used : List ℕ) → Type 0
AreListed blocks used = (block : ℕ) → (slice_index blocks block ≡ 0 → ⊥) → is_among block used ≡ true

-- how many blocks are not 0
abbrev pub live : List ℕ → ℕ
live blocks = count_by (λ block. not (block == 0)) blocks

-- each block that is not 0 has its bit in a second map over blocks, and each block of that map that is not 0 is listed,
-- once
pub record AreNoted (blocks groups listed : List ℕ) : Type 0 where
  pub marked : (block : ℕ) → (slice_index blocks block ≡ 0 → ⊥) → has_word groups block ≡ true
  pub all : AreListed groups listed
  pub within : All (λ group. group < length groups) listed
  pub few : length listed ≤ live groups

-- a block by its number
abbrev pub block_at : (blocks : List ℕ) → (number : ℕ) → Block
block_at blocks number = record { first = 64 * number; bits = slice_index blocks number }

-- the words of a block, rising
unfoldable pub words_in : Block → List ℕ
words_in block = filter (has_bit block.bits block.first) (places_from block.first 64)

-- the words of blocks
abbrev pub words_of_blocks : List Block → List ℕ
words_of_blocks blocks = flat_map words_in blocks
