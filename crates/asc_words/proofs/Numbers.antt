-- A number that was found for an option, as the code reads it.
use Rattle.std.proofs.Common.{◌≡◌, ℕ, ◌≤◌, ap, sym, subst, List, Option, Some, None, Result, []}
use Rattle.std.specs.Option.{unwrap_or}
use Rattle.std.specs.Str.Parse.{ExplainsUnsignedError, HasUnsignedDigitsIfOk, ParsesUnsigned, digits_value, without_leading_plus}
use Rattle.std.specs.declared.num.ParseIntError.{ParseIntError}
use Rattle.clap.specs.Matches.{ReadsOne}
use Rattle.clap.specs.Values.{IsUnsignedIn}
use Rattle.clap.specs.Walk.{Row, Text, one_of}
use Rattle.asc_words.specs.Line.{number_in}
use Rattle.asc_words.specs.Rows.{HasNumber}

-- the value of a text
abbrev value_of : Option Text → ℕ
value_of text = digits_value 10 (without_leading_plus (unwrap_or text []))

-- what `u64::from_str` gives
abbrev pub Gives : Text → Result ℕ ParseIntError → Type 0
Gives text r = ParsesUnsigned 64 10 text r × ExplainsUnsignedError 10 text r × HasUnsignedDigitsIfOk text r

reads : (least most : ℕ) (text : Text) (r : Option ℕ) → ReadsOne Gives text r → IsUnsignedIn least most text
    → r ≡ Some (digits_value 10 (without_leading_plus text))
reads least most text (Some n) read accepted = ap Some read.0.1
reads least most text None read accepted = absurd (read.1.0 (accepted.0, accepted.1))

-- a typed getter reads the number of an option
pub reads_number : (id : Text) (least most : ℕ) (rows : List Row) (r : Option ℕ) → HasNumber id least most rows
    → ((text : Text) → one_of id rows ≡ Some text → ReadsOne Gives text r) → r ≡ Some (number_in id rows)
reads_number id least most rows r has read =
    subst (λ (text : Option Text). r ≡ Some (value_of text)) (sym has.found) (reads least most has.text r (read has.text has.found) has.accepted)

pub number_within : (id : Text) (least most : ℕ) (rows : List Row) → HasNumber id least most rows → (least ≤ number_in id rows) × (number_in id rows ≤ most)
number_within id least most rows has =
    subst (λ (text : Option Text). (least ≤ value_of text) × (value_of text ≤ most)) (sym has.found) (has.accepted.2, has.accepted.3)
