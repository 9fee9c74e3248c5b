-- What the words of asc_show's command line ask for.
use Rattle.std.specs.Prelude.{◌≡◌, ◌≢◌, ℕ, ◌^◌, ◌<◌, ◌≤◌, codes, List, [], ◌∷◌, length, drop, slice_index_or, Some, Ok}
use Rattle.std.specs.Str.Parse.{IsNumeral, digits_value, without_leading_plus}
use Rattle.asc_words.specs.Line.{line_of}
use Rattle.asc_words.specs.declared.line.Line.TheVariants.{Run}
use Rattle.asc_words.specs.declared.line.RunLine.{RunLine}
use Rattle.asc_inspect.specs.declared.request.Addresses.{Addresses}
use Rattle.asc_inspect.specs.declared.request.Addresses.TheVariants.{Heads, All}
use Rattle.asc_inspect.specs.declared.request.Question.{Question}
use Rattle.asc_inspect.specs.declared.request.Question.TheVariants.{Entry, Miss, At, Profile, Seek}
use Rattle.asc_inspect.specs.declared.request.Request.{Request}
use Rattle.asc_inspect.specs.declared.request.Visit.{Visit}

abbrev pub word_at : ℕ → List (List ℕ) → List ℕ
word_at k words = slice_index_or words k []

-- a text is this number, in decimal digits
pub record IsNumber (text : List ℕ) (number : ℕ) : Type 0 where
  pub numeral : IsNumeral 10 (without_leading_plus text)
  pub value : digits_value 10 (without_leading_plus text) ≡ number
  pub below : number < 2 ^ 64

-- a line is that of `asc run` with these words behind
abbrev pub IsRunOf : (options : List (List ℕ)) → RunLine → Type 0
IsRunOf options line = line_of (codes "asc" ∷ codes "run" ∷ options) ≡ Ok (Run line)

-- WORD IMAGE ADDRESS VISIT OPTIONS..: a visit of this number or a later one; the others stand for
-- `asc run IMAGE --pc ADDRESS OPTIONS..`
pub record AsksVisit (least : ℕ) (words : List (List ℕ)) (line : RunLine) (visit : Visit) : Type 0 where
  pub enough : 5 ≤ length words
  pub number : IsNumber (word_at 4 words) visit.number
  pub late : least ≤ visit.number
  pub run : IsRunOf (word_at 2 words ∷ codes "--pc" ∷ word_at 3 words ∷ drop 5 words) line
  pub pc : line.pc ≡ Some visit.pc

-- WORD IMAGE STEPS OPTIONS..: a count of steps; the others stand for `asc run IMAGE OPTIONS..`
pub record AsksCount (words : List (List ℕ)) (line : RunLine) (count : ℕ) : Type 0 where
  pub enough : 4 ≤ length words
  pub number : IsNumber (word_at 3 words) count
  pub run : IsRunOf (word_at 2 words ∷ drop 4 words) line

-- WORD IMAGE OPTIONS.., or WORD --all IMAGE OPTIONS..: they stand for `asc run IMAGE OPTIONS..`
abbrev pub AsksAddresses : (words : List (List ℕ)) → RunLine → Addresses → Type 0
AsksAddresses words line Heads = (word_at 2 words ≢ codes "--all") × IsRunOf (drop 2 words) line
AsksAddresses words line All = (word_at 2 words ≡ codes "--all") × IsRunOf (drop 3 words) line

-- WORD IMAGE OPTIONS..: they stand for `asc run --seek IMAGE OPTIONS..`
abbrev pub AsksSeek : (words : List (List ℕ)) → RunLine → Type 0
AsksSeek words line = IsRunOf (codes "--seek" ∷ drop 2 words) line

-- The words ask this of the run that a line says. The first is the program's name, and the second says which question
-- it is.
abbrev pub AsksQuestion : (words : List (List ℕ)) → RunLine → Question → Type 0
AsksQuestion words line (Entry visit) = (word_at 1 words ≡ codes "entry") × AsksVisit 1 words line visit
AsksQuestion words line (Miss visit) = (word_at 1 words ≡ codes "miss") × AsksVisit 3 words line visit
AsksQuestion words line (At count) = (word_at 1 words ≡ codes "at") × AsksCount words line count
AsksQuestion words line (Profile addresses) =
    (word_at 1 words ≡ codes "profile") × AsksAddresses words line addresses
AsksQuestion words line Seek = (word_at 1 words ≡ codes "seek") × AsksSeek words line

abbrev pub Asks : (words : List (List ℕ)) → Request → Type 0
Asks words request = AsksQuestion words request.line request.question

-- a visit that is asked for has a number from 1 on, and one that is to be guessed has two before it
abbrev pub HasNumber : Question → Type 0
HasNumber (Entry visit) = 1 ≤ visit.number
HasNumber (Miss visit) = 3 ≤ visit.number
HasNumber (At count) = Unit {0}
HasNumber (Profile addresses) = Unit {0}
HasNumber Seek = Unit {0}
