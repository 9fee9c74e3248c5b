-- Fingerprints of the bytes that entries read at the first 128 places, where the pc and the registers are.
use Rattle.std.specs.Prelude.{ℕ, ◌+◌, ◌*◌, ◌/◌, ◌%◌, ◌^◌, Bool, ◌==◌, nat_lt, List, filter, sum_by, slice_index}
use Rattle.asc_model.specs.State.{State}
use Rattle.asc_model.specs.Entry.{Entry}

-- those of an entry's read cells that are at these places, in rising order of place
abbrev pub first_reads_of : Entry → List (ℕ × ℕ)
first_reads_of e = filter (λ cell. nat_lt cell.0 128) e.reads

-- the factor of a word: a power of the odd number next to 2 ^ 64 over the golden ratio
unfoldable pub factor : ℕ → ℕ
factor word = 11400714819323198485 ^ (word + 1) % 2 ^ 64

-- what the byte at a place counts in a fingerprint: its word has a factor, in which its bytes stand as in a number
unfoldable pub weight : ℕ → ℕ
weight place = factor (place / 4) * 256 ^ (place % 4)

-- the fingerprint of bytes of some cells' places
abbrev pub fingerprint : (byte : ℕ × ℕ → ℕ) → List (ℕ × ℕ) → ℕ
fingerprint byte cells = sum_by (λ cell. byte cell * weight cell.0) cells % 2 ^ 64

-- that of the bytes that an entry has at the places that it reads there, and of those that a state has at these
abbrev pub print_of : Entry → ℕ
print_of e = fingerprint (λ cell. cell.1) (first_reads_of e)

abbrev pub print_in : State → Entry → ℕ
print_in s e = fingerprint (λ cell. slice_index s.bytes cell.0) (first_reads_of e)

-- whether a state has the fingerprint of an entry
abbrev pub may_match : State → Entry → Bool
may_match s e = print_in s e == print_of e
