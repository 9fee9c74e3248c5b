-- Numbers as bytes, the lowest byte first (little-endian), and the bits of a word.
use Rattle.std.specs.Prelude.{ℕ, zero, suc, ◌+◌, ◌-◌, ◌*◌, ◌/◌, ◌%◌, ◌^◌, ◌<◌, List, [], ◌∷◌, take, drop, slice_index, nat_lt, if◌then◌else◌}

-- every number of the list is a byte
abbrev pub AreBytes : List ℕ → Type 0
AreBytes bytes = (i : ℕ) → slice_index bytes i < 2 ^ 8

-- the number that the bytes spell
abbrev pub number_of : List ℕ → ℕ
number_of [] = 0
number_of (byte ∷ bytes) = byte + 2 ^ 8 * number_of bytes

-- the lowest n bytes of a number
abbrev pub bytes_of : ℕ → ℕ → List ℕ
bytes_of zero number = []
bytes_of (suc n) number = number % 2 ^ 8 ∷ bytes_of n (number / 2 ^ 8)

-- the number in n bytes from a place on
abbrev pub number_at : ℕ → List ℕ → ℕ → ℕ
number_at n bytes place = number_of (take n (drop place bytes))

-- the word in the four bytes from a place on
abbrev pub word_at : List ℕ → ℕ → ℕ
word_at bytes place = number_at 4 bytes place

-- n bits of a word, from bit low upward
abbrev pub bits : ℕ → ℕ → ℕ → ℕ
bits word low n = word / 2 ^ low % 2 ^ n

-- a number of n bits, read as two's complement, as a word
abbrev pub sign_extend : ℕ → ℕ → ℕ
sign_extend n number = if nat_lt number (2 ^ (n - 1)) then number else number + (2 ^ 32 - 2 ^ n)
