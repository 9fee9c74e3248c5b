-- Lemmas on strided words.
use Rattle.std.proofs.Common.{◌≡◌, ◌⊎◌, inl, inr, ℕ, ◌+◌, ◌*◌, ◌-◌, ◌/◌, ◌%◌, ◌≤◌, ◌<◌, List, length, take, drop, min, refl, sym, ap, ◌∙◌, arith, slice_index}
use Rattle.std.proofs.lemmas.List.{get_or-take, get_or-drop}
use Rattle.asc_model.specs.declared.version.Version.{Version}
use Rattle.asc_model.specs.declared.version.Version.TheVariants.{One, Two}
use Rattle.asc_model.specs.Shape.{Shape, IsShape, length_of, start_of}
use Rattle.std.proofs.lemmas.List.FromFn.{length-map-range_with_len, get_or-map-range_with_len}
use Rattle.std.proofs.lemmas.Bool.{cases_lt}
use borrow.Rule.Slice.PartMut.{put_mid}
use Rattle.asc_model.specs.Number.{word_at, bytes_of}
use Rattle.asc_model.proofs.Numbers.{word_at-from_le_bytes}
use Rattle.asc_shape.specs.Stride.{strided_word, strided_byte, strided}
use Rattle.asc_shape.proofs.States.{put_mid-splice}
use Rattle.asc_shape.proofs.Pages.{splice_beside, put_within, length-page}

-- words with the same bytes
pub word_same : (xs ys : List ℕ) (i j : ℕ) → slice_index xs i ≡ slice_index ys j → slice_index xs (i + 1) ≡ slice_index ys (j + 1)
    → slice_index xs (i + 2) ≡ slice_index ys (j + 2) → slice_index xs (i + 3) ≡ slice_index ys (j + 3) → word_at xs i ≡ word_at ys j
word_same xs ys i j a b c d = word_at-from_le_bytes xs i ∙ cc (word_at-from_le_bytes ys j)

pub length-strided : (ahead : ℕ) (last prev : List ℕ) → length (strided ahead last prev) ≡ length last
unfolding strided
length-strided ahead last prev = length-map-range_with_len (strided_byte ahead last prev) 0 (length last)

pub byte-strided : (ahead : ℕ) (last prev : List ℕ) (i : ℕ) → i < length last → slice_index (strided ahead last prev) i ≡ strided_byte ahead last prev i
unfolding strided
byte-strided ahead last prev i within = get_or-map-range_with_len (strided_byte ahead last prev) 0 (length last) i i 0 within (omega arith)

-- a word more of a list that is strided in place from a place on: words so far is `new`, and from place 4k on they are
-- as they were
pub stride_more : (ahead : ℕ) (last prev words new : List ℕ) (first k from to word : ℕ)
    → length words ≡ length last → first ≤ 4 * k
    → ((i : ℕ) → first ≤ i → i < 4 * k → slice_index words i ≡ strided_byte ahead last prev i)
    → ((i : ℕ) → (i < first) ⊎ (4 * k ≤ i) → slice_index words i ≡ slice_index last i)
    → from ≡ 4 * k → to ≡ 4 * k + 4 → to ≤ length words → length new ≡ to - from
    → word ≡ strided_word ahead (word_at words from) (word_at prev from) → new ≡ bytes_of 4 word
    → ((i : ℕ) → first ≤ i → i < 4 * (k + 1) → slice_index (put_mid from (to - from) words new) i ≡ strided_byte ahead last prev i)
    × ((i : ℕ) → (i < first) ⊎ (4 * (k + 1) ≤ i) → slice_index (put_mid from (to - from) words new) i ≡ slice_index last i)
stride_more ahead last prev words new first k from to word same low done left start end within size value spelled =
    let beside : (i : ℕ) → (i < from) ⊎ (to ≤ i) → slice_index (put_mid from (to - from) words new) i ≡ slice_index words i =
    λ i outside. ap (λ (l : List ℕ). slice_index l i) (put_mid-splice from (to - from) words new size)
    ∙ splice_beside words new from i (omega arith) (elim outside [ inl below ↦ inl below | inr above ↦ inr (omega arith) ]) in
    let read : word_at words from ≡ word_at last from = word_same words last from from (left from (inr (omega arith))) (left (from + 1) (inr (omega arith))) (left (from + 2) (inr (omega arith))) (left (from + 3) (inr (omega arith))) in (
      (λ i least below. elim (cases_lt i from) [
        | inl before ↦ beside i (inl before) ∙ done i least (omega arith)
        | inr here ↦
            let aligned : i / 4 * 4 ≡ from = omega arith in
            put_within words new from (to - from) i size (omega arith) here (omega arith)
            ∙ ap (λ (l : List ℕ). slice_index l (i - from)) (spelled ∙ ap (bytes_of 4) (value ∙ ap (λ w. strided_word ahead w (word_at prev from)) read))
            ∙ ap (λ j. slice_index (bytes_of 4 (strided_word ahead (word_at last from) (word_at prev from))) j) (let e : i - from ≡ i % 4 = omega arith in e)
            ∙ ap (λ w. slice_index (bytes_of 4 (strided_word ahead (word_at last w) (word_at prev w))) (i % 4)) (sym aligned)
      ]),
      (λ i outside. elim outside [
        | inl below ↦ beside i (inl (omega arith)) ∙ left i (inl below)
        | inr above ↦ beside i (inr (omega arith)) ∙ left i (inr (omega arith))
      ]),
    )

-- a byte of a page that was strided, by its words there
pub strided_there : (ahead : ℕ) (bytes target part items : List ℕ) (p from to i : ℕ) → from ≡ 1024 * p → to ≡ min (1024 * p + 1024) (length bytes) → length bytes % 4 ≡ 0
    → i / 1024 ≡ p → i < length bytes
    → ((j : ℕ) → j < to - from → slice_index part j ≡ slice_index bytes (from + j))
    → ((j : ℕ) → j < to - from → slice_index items j ≡ slice_index target (from + j))
    → strided_byte ahead part items (i - from) ≡ strided_byte ahead bytes target i
strided_there ahead bytes target part items p from to i start end whole here within first second =
    let word = (i - from) / 4 * 4 in
    let least : from ≤ i = omega arith in
    let below : word + 3 < to - from = omega arith in
    let there : from + word ≡ i / 4 * 4 = omega arith in
    let last : word_at part word ≡ word_at bytes (from + word) = word_same part bytes word (from + word) (first word (omega arith))
    (first (word + 1) (omega arith) ∙ ap (λ j. slice_index bytes j) (omega arith))
    (first (word + 2) (omega arith) ∙ ap (λ j. slice_index bytes j) (omega arith))
    (first (word + 3) (omega arith) ∙ ap (λ j. slice_index bytes j) (omega arith)) in
    let prev : word_at items word ≡ word_at target (from + word) = word_same items target word (from + word) (second word (omega arith))
    (second (word + 1) (omega arith) ∙ ap (λ j. slice_index target j) (omega arith))
    (second (word + 2) (omega arith) ∙ ap (λ j. slice_index target j) (omega arith))
    (second (word + 3) (omega arith) ∙ ap (λ j. slice_index target j) (omega arith)) in
    let column : (i - from) % 4 ≡ i % 4 = omega arith in
    ap (λ w. slice_index (bytes_of 4 (strided_word ahead w (word_at items word))) ((i - from) % 4)) (last ∙ ap (λ j. word_at bytes j) there)
    ∙ ap (λ w. slice_index (bytes_of 4 (strided_word ahead (word_at bytes (i / 4 * 4)) w)) ((i - from) % 4)) (prev ∙ ap (λ j. word_at target j) there)
    ∙ ap (λ j. slice_index (bytes_of 4 (strided_word ahead (word_at bytes (i / 4 * 4)) (word_at target (i / 4 * 4)))) j) column

-- what is read from a part
pub part_at : (bytes : List ℕ) (from n j : ℕ) → j < n → slice_index (take n (drop from bytes)) j ≡ slice_index bytes (from + j)
part_at bytes from n j within = get_or-take n (drop from bytes) j 0 within ∙ get_or-drop from bytes j 0

start_4 : (v : Version) → start_of v % 4 ≡ 0
start_4 One = refl
start_4 Two = refl

-- a state has whole words
pub whole_words : (s : Shape) → IsShape s → length_of s % 4 ≡ 0
whole_words s good = let start = start_4 s.version in let size = good.size.aligned in omega arith

-- a page that was strided, in its place
pub page_strided : (ahead : ℕ) (bytes target new items : List ℕ) (p from to : ℕ) → from ≡ 1024 * p → to ≡ min (1024 * p + 1024) (length bytes) → p < length bytes / 1024 + 1 → length bytes % 4 ≡ 0
    → length new ≡ to - from
    → ((j : ℕ) → j < length (take (to - from) (drop from bytes)) → slice_index new j ≡ strided_byte ahead (take (to - from) (drop from bytes)) items j)
    → ((i : ℕ) → i / 1024 ≡ p → slice_index target i ≡ slice_index items (i % 1024))
    → (i : ℕ) → i / 1024 ≡ p → i < length bytes → slice_index (put_mid from (to - from) bytes new) i ≡ strided_byte ahead bytes target i
page_strided ahead bytes target new items p from to start end page whole size each same i here within =
    let count = length-page p from to bytes start end page in
    put_within bytes new from (to - from) i size (omega arith) (omega arith) (omega arith)
    ∙ each (i - from) (omega arith)
    ∙ strided_there ahead bytes target (take (to - from) (drop from bytes)) items p from to i start end whole here within (λ j inside. part_at bytes from (to - from) j inside)
    (λ j inside. ap (λ k. slice_index items k) (let e : j ≡ (from + j) % 1024 = omega arith in e) ∙ sym (same (from + j) (omega arith)))
