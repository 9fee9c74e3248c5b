-- Lemmas on the states that guesses stand for.
use Rattle.std.proofs.Common.{◌≡◌, ℕ, zero, suc, ◌+◌, ◌*◌, ◌/◌, ◌%◌, ◌^◌, ◌<◌, ◌≤◌, List, [], ◌∷◌, length, Option, Some, None, refl, sym, ap, subst, ◌∙◌, inl, inr, arith, slice_index}
use Rattle.std.proofs.lemmas.Bool.{cases_lt}
use Rattle.std.proofs.lemmas.List.{get_or_past}
use Rattle.std.specs.declared.sync.Arc.{Arc}
use Rattle.std.specs.Global.{Global}
use Rattle.asc_model.specs.Number.{AreBytes, bytes_of, number_at, word_at}
use Rattle.asc_model.specs.Shape.{length_of}
use Rattle.asc_model.specs.State.{State, IsState}
use Rattle.asc_model.proofs.Numbers.{AreBytes-bytes_of, number_at-suc, number_of-bytes_of_4}
use Rattle.asc_shape.specs.Guess.{guessed}
use Rattle.asc_shape.specs.Stride.{strided, strided_word}
use Rattle.asc_shape.proofs.Strides.{byte-strided, length-strided, whole_words, word_same}

-- ---- the bytes of a word

-- the bytes of the n places from one on
abbrev pub bytes_at : List ℕ → (place n : ℕ) → List ℕ
bytes_at bytes place zero = []
bytes_at bytes place (suc n) = slice_index bytes place ∷ bytes_at bytes (place + 1) n

-- the parts of a number by its lowest byte
low_byte : (b m : ℕ) → b < 2 ^ 8 → (b + 2 ^ 8 * m) % 2 ^ 8 ≡ b
low_byte b m l = omega arith

high_part : (b m : ℕ) → b < 2 ^ 8 → (b + 2 ^ 8 * m) / 2 ^ 8 ≡ m
high_part b m l = omega arith

-- they are the bytes of the number there
pub bytes_of-number_at : (n : ℕ) (bytes : List ℕ) (place : ℕ) → AreBytes bytes → bytes_of n (number_at n bytes place) ≡ bytes_at bytes place n
bytes_of-number_at zero bytes place all = refl
bytes_of-number_at (suc n) bytes place all =
    let first = slice_index bytes place in
    let rest = number_at n bytes (place + 1) in
    ap (bytes_of (suc n)) (number_at-suc n bytes place)
    ∙ ap (λ (b : ℕ). b ∷ bytes_of n ((first + 2 ^ 8 * rest) / 2 ^ 8)) (low_byte first rest (all place))
    ∙ ap (λ (m : ℕ). first ∷ bytes_of n m) (high_part first rest (all place))
    ∙ ap (λ (list : List ℕ). first ∷ list) (bytes_of-number_at n bytes (place + 1) all)

-- one of them
bytes_at-at : (n : ℕ) (bytes : List ℕ) (place k i : ℕ) → k < n → i ≡ place + k → slice_index (bytes_at bytes place n) k ≡ slice_index bytes i
bytes_at-at zero bytes place k i within is = absurd (omega (arith, within))
bytes_at-at (suc n) bytes place zero i within is = let e : place ≡ i = omega arith in ap (λ (j : ℕ). slice_index bytes j) e
bytes_at-at (suc n) bytes place (suc k) i within is = bytes_at-at n bytes (place + 1) k i (omega arith) (omega arith)

-- a byte of the aligned word in which it lies
pub byte_of_word : (bytes list : List ℕ) (word from place : ℕ) → AreBytes bytes → word ≡ word_at bytes from → list ≡ bytes_of 4 word → place / 4 * 4 ≡ from
    → slice_index list (place % 4) ≡ slice_index bytes place
byte_of_word bytes list word from place all is spelled aligned =
    ap (λ (l : List ℕ). slice_index l (place % 4)) (spelled ∙ ap (bytes_of 4) is ∙ bytes_of-number_at 4 bytes from all)
    ∙ bytes_at-at 4 bytes from (place % 4) place (omega arith) (omega arith)

-- ---- strided words

word_below : (ahead last prev : ℕ) → strided_word ahead last prev < 2 ^ 32
word_below ahead last prev = omega arith

-- a word of strided words
pub word-strided : (ahead : ℕ) (last prev : List ℕ) (place : ℕ) → place % 4 ≡ 0 → place + 4 ≤ length last
    → strided_word ahead (word_at last place) (word_at prev place) ≡ word_at (strided ahead last prev) place
word-strided ahead last prev place aligned within =
    let word = strided_word ahead (word_at last place) (word_at prev place) in
    let row : (k i : ℕ) → k < 4 → i ≡ place + k → slice_index (strided ahead last prev) i ≡ slice_index (bytes_of 4 word) k =
    λ k i few is. byte-strided ahead last prev i (omega arith)
    ∙ ap (λ (j : ℕ). slice_index (bytes_of 4 (strided_word ahead (word_at last j) (word_at prev j))) (i % 4)) (let e : i / 4 * 4 ≡ place = omega arith in e)
    ∙ ap (λ (j : ℕ). slice_index (bytes_of 4 word) j) (let e : i % 4 ≡ k = omega arith in e) in
    sym (word_same (strided ahead last prev) (bytes_of 4 word) place 0 (row 0 place (omega arith) (omega arith)) (row 1 (place + 1) (omega arith) refl)
    (row 2 (place + 2) (omega arith) refl) (row 3 (place + 3) (omega arith) refl)
    ∙ number_of-bytes_of_4 word (word_below ahead (word_at last place) (word_at prev place)))

pub AreBytes-strided : (ahead : ℕ) (last prev : List ℕ) → AreBytes (strided ahead last prev)
AreBytes-strided ahead last prev i = elim (cases_lt i (length last)) [
  | inl within ↦ subst (λ (b : ℕ). b < 2 ^ 8) (sym (byte-strided ahead last prev i within))
      (AreBytes-bytes_of 4 (strided_word ahead (word_at last (i / 4 * 4)) (word_at prev (i / 4 * 4))) (i % 4))
  | inr past ↦ subst (λ (b : ℕ). b < 2 ^ 8) (sym (get_or_past (strided ahead last prev) i 0 (omega (arith, length-strided ahead last prev)))) (omega arith)
]

-- ---- guesses

-- what a guess stands for is a state
pub IsState-guess : (ahead : ℕ) (prev : Option (Arc State Global)) (last : State) → IsState last → IsState (guessed ahead prev last)
IsState-guess ahead None last good = good
IsState-guess ahead (Some prev) last good = record {
  shape = good.shape;
  length = length-strided ahead last.bytes prev.value.bytes ∙ good.length;
  bytes = AreBytes-strided ahead last.bytes prev.value.bytes;
}

-- of the shape of the last one
pub shape-guess : (ahead : ℕ) (prev : Option (Arc State Global)) (last : State) → (guessed ahead prev last).shape ≡ last.shape
shape-guess ahead None last = refl
shape-guess ahead (Some prev) last = refl

-- a word of it, where there is one before it
pub word-guess : (ahead : ℕ) (prev : Option (Arc State Global)) (some : Arc State Global) (last : State) (place result one other : ℕ) → prev ≡ Some some → IsState last
    → place % 4 ≡ 0 → place < length_of last.shape → result ≡ strided_word ahead one other → one ≡ word_at last.bytes place → other ≡ word_at some.value.bytes place
    → result ≡ word_at (guessed ahead prev last).bytes place
word-guess ahead prev some last place result one other is good aligned within by first second =
    by ∙ ap (λ (w : ℕ). strided_word ahead w other) first ∙ ap (strided_word ahead (word_at last.bytes place)) second
    ∙ word-strided ahead last.bytes some.value.bytes place aligned (omega (arith, aligned, within, whole_words last.shape good.shape, good.length))
    ∙ ap (λ (p : Option (Arc State Global)). word_at (guessed ahead p last).bytes place) (sym is)
