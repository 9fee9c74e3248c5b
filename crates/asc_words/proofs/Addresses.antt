-- An address, as the code reads it.
use Rattle.std.proofs.Common.{◌≡◌, ◌≢◌, ◌∙◌, ◌^◌, ℕ, ◌<◌, ◌≤◌, ◌==◌, ◌&&◌, Bool, true, false, nat_le, List, [], ◌∷◌, length, get_or, Some, Result, Ok, Err, refl, sym, ap, subst, arith}
use Rattle.std.specs.Char.{digit_value, is_ascii_hexdigit}
use Rattle.std.specs.List.{list_all}
use Rattle.std.specs.Result.{result_ok}
use Rattle.std.specs.Str.Parse.{AllDigits, IsNumeral, ParsesUnsigned, digits_value, without_leading_plus}
use Rattle.std.specs.declared.num.ParseIntError.{ParseIntError}
use Rattle.std.proofs.Math.Nat.{pow-le-pow_right}
use Rattle.std.proofs.lemmas.Bool.Decides.{nat_tests}
use Rattle.std.proofs.lemmas.Int.Digits.{digits_value-lt}
use Rattle.std.proofs.lemmas.Str.Parse.{without_leading_plus_none}
use Rattle.asc_words.specs.Line.{address_of, is_address}

-- a text of 1 to 8 bytes is an address where all of them are hexadecimal digits
pub is_address-digits : (text : List ℕ) → 1 ≤ length text → length text ≤ 8 → is_address text ≡ list_all is_ascii_hexdigit text
is_address-digits text least most =
    let some : nat_le 1 (length text) ≡ true = grind (arith, nat_tests) in
    let few : nat_le (length text) 8 ≡ true = grind (arith, nat_tests) in
    λ i. (some i && few i) && list_all is_ascii_hexdigit text

pub not_empty : (text : List ℕ) → (length text == 0) ≡ false → 1 ≤ length text
not_empty [] is = cc
not_empty (c ∷ cs) is = omega arith

both : (a b : Bool) → (a && b) ≡ true → (a ≡ true) × (b ≡ true)
both true b is = (refl, is)
both false b is = cc

hex_value : (c : ℕ) → is_ascii_hexdigit c ≡ true → digit_value c < 16
hex_value c is = grind (arith, nat_tests)

hex_no_plus : (c : ℕ) → is_ascii_hexdigit c ≡ true → c ≢ 43
hex_no_plus c is plus = let none : is_ascii_hexdigit 43 ≡ true = ap is_ascii_hexdigit (sym plus) ∙ is in cc

all_digits : (text : List ℕ) → list_all is_ascii_hexdigit text ≡ true → AllDigits 16 text
all_digits [] all = tt
all_digits (c ∷ cs) all =
    let parts = both (is_ascii_hexdigit c) (list_all is_ascii_hexdigit cs) all in
    (hex_value c parts.0, all_digits cs parts.1)

no_plus : (text : List ℕ) → list_all is_ascii_hexdigit text ≡ true → 0 < length text → get_or text 0 0 ≢ 43
no_plus [] all some = absurd (omega arith)
no_plus (c ∷ cs) all some = hex_no_plus c (both (is_ascii_hexdigit c) (list_all is_ascii_hexdigit cs) all).0

-- what an address is to a reader of numbers
record IsRead (text : List ℕ) : Type 0 where
  plain : without_leading_plus text ≡ text
  numeral : IsNumeral 16 text
  below : digits_value 16 text < 2 ^ 32

small : (text : List ℕ) → AllDigits 16 text → length text ≤ 8 → digits_value 16 text < 2 ^ 32
small text all few = omega (arith, digits_value-lt 16 text all, pow-le-pow_right {n = 16} (omega arith) few)

read : (text : List ℕ) → is_address text ≡ true → IsRead text
read text is =
    let parts = both (nat_le 1 (length text) && nat_le (length text) 8) (list_all is_ascii_hexdigit text) is in
    let lengths = both (nat_le 1 (length text)) (nat_le (length text) 8) parts.0 in
    let some : 0 < length text = grind (arith, nat_tests, lengths.0) in
    let few : length text ≤ 8 = grind (arith, nat_tests, lengths.1) in
    let all = all_digits text parts.1 in
    record { plain = without_leading_plus_none text (no_plus text parts.1 some); numeral = (some, all); below = small text all few }

-- it is read, and as the address that it is
pub address_read : (text : List ℕ) (r : Result ℕ ParseIntError) → is_address text ≡ true → ParsesUnsigned 32 16 text r → Ok (result_ok r) ≡ address_of (Some text)
address_read text (Ok n) is parsed =
    let of = read text is in
    let value : n ≡ digits_value 16 text = parsed.1 ∙ ap (digits_value 16) of.plain in
    rw is (ap (λ (v : ℕ). Ok (Some v)) value)
address_read text (Err e) is parsed =
    let of = read text is in
    absurd (parsed (subst (λ (t : List ℕ). IsNumeral 16 t × (digits_value 16 t < 2 ^ 32)) (sym of.plain) (of.numeral, of.below)))
