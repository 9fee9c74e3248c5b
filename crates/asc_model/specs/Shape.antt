-- A shape: where memory begins, how many bytes it has, and which version of the machine it is.
use Rattle.std.specs.Prelude.{◌≡◌, ℕ, ◌+◌, ◌-◌, ◌≤◌, ◌%◌, ◌^◌, Bool, true, false, ◌==◌, nat_le, ◌&&◌}
use Rattle.asc_model.specs.declared.limits.TheConstants.{LEAST_SIZE, MOST_SIZE, PAGE_SIZE}
use Rattle.asc_model.specs.declared.version.Version.{Version}
use Rattle.asc_model.specs.declared.version.Version.TheVariants.{One, Two}

pub record Shape : Type 0 where
  pub base : ℕ
  pub size : ℕ
  pub version : Version

-- a size of memory, in bytes
pub record IsSize (size : ℕ) : Type 0 where
  pub aligned : size % 4 ≡ 0
  pub least : LEAST_SIZE ≤ size
  pub most : size ≤ MOST_SIZE

-- memory begins at a page and ends within the 2 ^ 32 addresses
pub record IsBase (base size : ℕ) : Type 0 where
  pub aligned : base % PAGE_SIZE ≡ 0
  pub within : base + size ≤ 2 ^ 32

-- the tests of these two
abbrev pub is_size : ℕ → Bool
is_size size = (size % 4 == 0) && nat_le LEAST_SIZE size && nat_le size MOST_SIZE

abbrev pub is_base : ℕ → ℕ → Bool
is_base base size = (base % PAGE_SIZE == 0) && nat_le (base + size) (2 ^ 32)

pub record IsShape (shape : Shape) : Type 0 where
  pub base : IsBase shape.base shape.size
  pub size : IsSize shape.size

abbrev pub is_same_version : Version → Version → Bool
is_same_version One One = true
is_same_version One Two = false
is_same_version Two One = false
is_same_version Two Two = true

abbrev pub is_same_shape : Shape → Shape → Bool
is_same_shape a b = (a.base == b.base) && (a.size == b.size) && is_same_version a.version b.version

-- the place at which memory begins
abbrev pub start_of : Version → ℕ
start_of One = 128
start_of Two = 136

-- how many bytes a state has
abbrev pub length_of : Shape → ℕ
length_of shape = start_of shape.version + shape.size

-- the place of an address in memory
abbrev pub place_of : Shape → ℕ → ℕ
place_of shape address = start_of shape.version + (address - shape.base)

-- Whether the n bytes from an address on are all in memory; the sums do not wrap. For n = 0 it holds at each address from
-- the base of memory to its end, the end included.
abbrev pub holds : Shape → ℕ → ℕ → Bool
holds shape address n = nat_le shape.base address && nat_le (address + n) (shape.base + shape.size)
