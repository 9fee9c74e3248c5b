-- Words that ask no question.
use Rattle.std.proofs.Common.{◌≡◌, ◌≢◌, ◌<◌, ◌-◌, ℕ, List, [], ◌∷◌, ◌++◌, codes, length, take, drop, map, slice_index, slice_index_or, sym, ap, ◌∙◌, arith}
use Rattle.std.proofs.lemmas.List.{drop-map, get_or-map, length-drop, take_all}
use Rattle.std.specs.Str.Parse.{digits_value, without_leading_plus}
use Rattle.asc_words.specs.declared.line.RunLine.{RunLine}
use Rattle.asc_inspect.specs.declared.request.Addresses.{Addresses}
use Rattle.asc_inspect.specs.declared.request.Addresses.TheVariants.{Heads, All}
use Rattle.asc_inspect.specs.declared.request.Question.{Question}
use Rattle.asc_inspect.specs.declared.request.Question.TheVariants.{Entry, Miss, At, Profile, Seek}
use Rattle.asc_inspect.specs.declared.request.Visit.{Visit}
use Rattle.asc_inspect.specs.Asked.{AsksAddresses, AsksCount, AsksQuestion, AsksVisit, IsNumber, IsRunOf, word_at}

-- words that begin with different letters differ
differ : (word first second : List ℕ) → word ≡ first → word ≡ second → slice_index first 0 ≡ slice_index second 0
differ word first second is other = ap (λ w. slice_index w 0) (sym is ∙ other)

pub entry-none : (words : List (List ℕ)) (line : RunLine) (question : Question) → word_at 1 words ≡ codes "entry" → ((line : RunLine) (visit : Visit) → AsksVisit 1 words line visit → ⊥) → AsksQuestion words line question → ⊥
entry-none words line (Entry visit) is none asks = none line visit asks.1
entry-none words line (Miss visit) is none asks = let e : 101 ≡ 109 = differ _ (codes "entry") (codes "miss") is asks.0 in omega (arith, e)
entry-none words line (At count) is none asks = let e : 101 ≡ 97 = differ _ (codes "entry") (codes "at") is asks.0 in omega (arith, e)
entry-none words line (Profile addresses) is none asks = let e : 101 ≡ 112 = differ _ (codes "entry") (codes "profile") is asks.0 in omega (arith, e)
entry-none words line Seek is none asks = let e : 101 ≡ 115 = differ _ (codes "entry") (codes "seek") is asks.0 in omega (arith, e)

pub miss-none : (words : List (List ℕ)) (line : RunLine) (question : Question) → word_at 1 words ≡ codes "miss" → ((line : RunLine) (visit : Visit) → AsksVisit 3 words line visit → ⊥) → AsksQuestion words line question → ⊥
miss-none words line (Entry visit) is none asks = let e : 109 ≡ 101 = differ _ (codes "miss") (codes "entry") is asks.0 in omega (arith, e)
miss-none words line (Miss visit) is none asks = none line visit asks.1
miss-none words line (At count) is none asks = let e : 109 ≡ 97 = differ _ (codes "miss") (codes "at") is asks.0 in omega (arith, e)
miss-none words line (Profile addresses) is none asks = let e : 109 ≡ 112 = differ _ (codes "miss") (codes "profile") is asks.0 in omega (arith, e)
miss-none words line Seek is none asks = let e : 109 ≡ 115 = differ _ (codes "miss") (codes "seek") is asks.0 in omega (arith, e)

pub at-none : (words : List (List ℕ)) (line : RunLine) (question : Question) → word_at 1 words ≡ codes "at" → ((line : RunLine) (count : ℕ) → AsksCount words line count → ⊥) → AsksQuestion words line question → ⊥
at-none words line (Entry visit) is none asks = let e : 97 ≡ 101 = differ _ (codes "at") (codes "entry") is asks.0 in omega (arith, e)
at-none words line (Miss visit) is none asks = let e : 97 ≡ 109 = differ _ (codes "at") (codes "miss") is asks.0 in omega (arith, e)
at-none words line (At count) is none asks = none line count asks.1
at-none words line (Profile addresses) is none asks = let e : 97 ≡ 112 = differ _ (codes "at") (codes "profile") is asks.0 in omega (arith, e)
at-none words line Seek is none asks = let e : 97 ≡ 115 = differ _ (codes "at") (codes "seek") is asks.0 in omega (arith, e)

-- a text is one number
pub number-same : (word text : List ℕ) (n m : ℕ) → word ≡ text → IsNumber word n → IsNumber text m → n ≡ m
number-same word text n m same is also = sym is.value ∙ ap (λ t. digits_value 10 (without_leading_plus t)) same ∙ also.value

-- a word as it was read, and the words behind the first so many
pub word-read : {X : Type 0} (f : X → List ℕ) (words : List X) (k : ℕ) (word : X) (text : List ℕ) → k < length words → word ≡ slice_index_or words k word → text ≡ f word → word_at k (map f words) ≡ text
word-read f words k word text there is read = get_or-map f words k word [] there ∙ ap f (sym is) ∙ sym read

options-read : {X : Type 0} (f : X → List ℕ) (words : List X) (n : ℕ) → map f (take (length words - n) (drop n words)) ≡ drop n (map f words)
options-read f words n = ap (map f) (take_all (length words - n) (drop n words) (omega (arith, length-drop n words))) ∙ sym (drop-map f n words)

-- the words that are put in a row
pub visit-row : {X : Type 0} (f : X → List ℕ) (words : List X) (a b c d : List (List ℕ)) (image address : List ℕ) → a ≡ codes "asc" ∷ codes "run" ∷ [] → b ≡ a ++ image ∷ [] → c ≡ b ++ codes "--pc" ∷ [] → d ≡ c ++ address ∷ []
    → word_at 2 (map f words) ≡ image → word_at 3 (map f words) ≡ address
    → d ++ map f (take (length words - 5) (drop 5 words)) ≡ codes "asc" ∷ codes "run" ∷ word_at 2 (map f words) ∷ codes "--pc" ∷ word_at 3 (map f words) ∷ drop 5 (map f words)
visit-row f words a b c d image address first second third fourth is also =
    let row : d ≡ codes "asc" ∷ codes "run" ∷ image ∷ codes "--pc" ∷ address ∷ [] =
    fourth ∙ ap (λ x. x ++ address ∷ []) (third ∙ ap (λ x. x ++ codes "--pc" ∷ []) (second ∙ ap (λ x. x ++ image ∷ []) first)) in
    ap (λ x. x ++ map f (take (length words - 5) (drop 5 words))) row
    ∙ ap (λ x. codes "asc" ∷ codes "run" ∷ image ∷ codes "--pc" ∷ address ∷ x) (options-read f words 5)
    ∙ ap (λ x. codes "asc" ∷ codes "run" ∷ x ∷ codes "--pc" ∷ address ∷ drop 5 (map f words)) (sym is)
    ∙ ap (λ x. codes "asc" ∷ codes "run" ∷ word_at 2 (map f words) ∷ codes "--pc" ∷ x ∷ drop 5 (map f words)) (sym also)

pub count-row : {X : Type 0} (f : X → List ℕ) (words : List X) (a b : List (List ℕ)) (image : List ℕ) → a ≡ codes "asc" ∷ codes "run" ∷ [] → b ≡ a ++ image ∷ [] → word_at 2 (map f words) ≡ image
    → b ++ map f (take (length words - 4) (drop 4 words)) ≡ codes "asc" ∷ codes "run" ∷ word_at 2 (map f words) ∷ drop 4 (map f words)
count-row f words a b image first second is =
    let row : b ≡ codes "asc" ∷ codes "run" ∷ image ∷ [] = second ∙ ap (λ x. x ++ image ∷ []) first in
    ap (λ x. x ++ map f (take (length words - 4) (drop 4 words))) row
    ∙ ap (λ x. codes "asc" ∷ codes "run" ∷ image ∷ x) (options-read f words 4)
    ∙ ap (λ x. codes "asc" ∷ codes "run" ∷ x ∷ drop 4 (map f words)) (sym is)

pub run-row : {X : Type 0} (f : X → List ℕ) (words : List X) (n : ℕ) (a : List (List ℕ)) → a ≡ codes "asc" ∷ codes "run" ∷ []
    → a ++ map f (take (length words - n) (drop n words)) ≡ codes "asc" ∷ codes "run" ∷ drop n (map f words)
run-row f words n a first =
    ap (λ x. x ++ map f (take (length words - n) (drop n words))) first ∙ ap (λ x. codes "asc" ∷ codes "run" ∷ x) (options-read f words n)

-- a line of the addresses, with and without `--all`
pub all-none : (words : List (List ℕ)) (line : RunLine) (addresses : Addresses) → word_at 2 words ≡ codes "--all" → (IsRunOf (drop 3 words) line → ⊥) → AsksAddresses words line addresses → ⊥
all-none words line Heads is none asks = asks.0 is
all-none words line All is none asks = none asks.1

pub heads-none : (words : List (List ℕ)) (line : RunLine) (addresses : Addresses) → word_at 2 words ≢ codes "--all" → (IsRunOf (drop 2 words) line → ⊥) → AsksAddresses words line addresses → ⊥
heads-none words line Heads is none asks = none asks.1
heads-none words line All is none asks = is asks.0
