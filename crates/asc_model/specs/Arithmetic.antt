-- Arithmetic on words, which are the numbers below 2 ^ 32 (RISC-V unprivileged manual 20191213, sections 2.4, 7.1 and
-- 7.2). A word is read as unsigned, or as two's complement.
use Rattle.std.specs.Prelude.{ℕ, ◌+◌, ◌-◌, ◌*◌, ◌/◌, ◌%◌, ◌^◌, ◌==◌, Bool, ℤ, int_lt, int_div, int_rem, if◌then◌else◌}
use Rattle.std.specs.Int.{w32, cast_signed, cast_unsigned, int_shr}

-- a word read as two's complement
abbrev pub signed : ℕ → ℤ
signed word = cast_signed w32 word

-- an integer from -2 ^ 31 to 2 ^ 32 - 1, as a word
abbrev pub word_of : ℤ → ℕ
word_of number = cast_unsigned w32 number

-- sums and differences modulo 2 ^ 32
infixl 65 ◌+w◌
abbrev pub ◌+w◌ : ℕ → ℕ → ℕ
a +w b = (a + b) % 2 ^ 32

infixl 65 ◌-w◌
abbrev pub ◌-w◌ : ℕ → ℕ → ℕ
a -w b = (a + (2 ^ 32 - b)) % 2 ^ 32

-- 1 where the test holds, else 0
abbrev pub one_if : Bool → ℕ
one_if test = if test then 1 else 0

-- a number with its bit 0 cleared
abbrev pub even_part : ℕ → ℕ
even_part a = a - a % 2

-- ---- shifts, by 0 to 31 places

abbrev pub shift_left : ℕ → ℕ → ℕ
shift_left a n = a * 2 ^ n % 2 ^ 32

-- zeros move in
abbrev pub shift_right : ℕ → ℕ → ℕ
shift_right a n = a / 2 ^ n

-- the sign moves in
abbrev pub shift_right_signed : ℕ → ℕ → ℕ
shift_right_signed a n = word_of (int_shr (signed a) n)

-- a register or an immediate shifts by its low 5 bits
abbrev pub shift_amount : ℕ → ℕ
shift_amount b = b % 2 ^ 5

-- ---- products

abbrev pub product : ℕ → ℕ → ℕ
product a b = a * b % 2 ^ 32

-- the high word of a product, rounded down
abbrev pub high_word : ℤ → ℕ
high_word number = word_of (int_shr number 32)

-- ---- quotients and remainders

-- of signed words, rounded towards zero; -1 where b is 0. -2 ^ 31 by -1 is 2 ^ 31, which is the word of -2 ^ 31
abbrev pub quotient : ℕ → ℕ → ℕ
quotient a b = if b == 0 then 2 ^ 32 - 1 else word_of (int_div (signed a) (signed b))

abbrev pub quotient_unsigned : ℕ → ℕ → ℕ
quotient_unsigned a b = if b == 0 then 2 ^ 32 - 1 else a / b

-- of signed words, with the sign of a; a itself where b is 0
abbrev pub remainder : ℕ → ℕ → ℕ
remainder a b = if b == 0 then a else word_of (int_rem (signed a) (signed b))

abbrev pub remainder_unsigned : ℕ → ℕ → ℕ
remainder_unsigned a b = if b == 0 then a else a % b

-- ---- the lesser and the greater of signed words

abbrev pub lesser : ℕ → ℕ → ℕ
lesser a b = if int_lt (signed a) (signed b) then a else b

abbrev pub greater : ℕ → ℕ → ℕ
greater a b = if int_lt (signed a) (signed b) then b else a
