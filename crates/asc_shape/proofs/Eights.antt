-- Lemmas on eight words in lanes.
use Rattle.std.proofs.Common.{◌≡◌, ◌⊎◌, inl, inr, ℕ, zero, suc, ◌+◌, ◌*◌, ◌-◌, ◌/◌, ◌%◌, ◌^◌, ◌≤◌, ◌<◌, List, [], ◌∷◌, length, refl, sym, ap, ◌∙◌, arith, slice_index, w8, w32, Fits}
use Rattle.std.proofs.lemmas.Bool.{cases_lt}
use lib.Lanes.{Each1, zip2, chunk, put_chunk, number_l, digits_l}
use native.Mathlib.Nat.{div-div-eq-div-mul}
use Rattle.std.proofs.lemmas.Simd.{length-zip2, get_or-zip2, get_or-chunk, chunk-fits, below_from_Fits, get_or_wider, get_or_narrower, get_or-put_chunk_at, get_or-put_chunk_below, get_or-put_chunk_above}
use Rattle.asc_model.specs.Number.{word_at, number_of, bytes_of}
use Rattle.asc_shape.specs.Stride.{strided_word, strided_byte}
use Rattle.asc_shape.proofs.Strides.{word_same}

-- what lanes of bytes spell
number_l-is : (bytes : List ℕ) → number_l 256 bytes ≡ number_of bytes
number_l-is [] = refl
number_l-is (byte ∷ bytes) = ap (λ n. byte + 256 * n) (number_l-is bytes)

-- a word of those that were read
pub word_read : (bytes : List ℕ) (at j : ℕ) → ((i : ℕ) → Fits w8 (slice_index bytes i)) → j < 8
    → slice_index (digits_l 4294967296 8 (number_l 256 (chunk at 32 bytes))) j ≡ word_at bytes (at + 4 * j)
word_read bytes at j fits within =
    let v = chunk at 32 bytes in
    get_or_wider 256 4 4294967296 8 v j refl (below_from_Fits w8 v (chunk-fits w8 at 32 bytes fits)) within
    ∙ number_l-is (chunk (4 * j) 4 v)
    ∙ word_same v bytes (4 * j) (at + 4 * j)
    (get_or-chunk at 32 bytes (4 * j) 0 (omega arith))
    (get_or-chunk at 32 bytes (4 * j + 1) 0 (omega arith) ∙ ap (λ k. slice_index bytes k) (omega arith))
    (get_or-chunk at 32 bytes (4 * j + 2) 0 (omega arith) ∙ ap (λ k. slice_index bytes k) (omega arith))
    (get_or-chunk at 32 bytes (4 * j + 3) 0 (omega arith) ∙ ap (λ k. slice_index bytes k) (omega arith))

-- a lane of three operations
pub lane_of : (plus times minus : ℕ → ℕ → ℕ) (xs ys zs : List ℕ) (j : ℕ) → length xs ≡ 8 → length ys ≡ 8 → length zs ≡ 8 → j < 8
    → slice_index (zip2 plus xs (zip2 times zs (zip2 minus xs ys))) j ≡ plus (slice_index xs j) (times (slice_index zs j) (minus (slice_index xs j) (slice_index ys j)))
lane_of plus times minus xs ys zs j first second third within =
    let inner : length (zip2 minus xs ys) ≡ 8 = length-zip2 minus xs ys (first ∙ sym second) ∙ first in
    let outer : length (zip2 times zs (zip2 minus xs ys)) ≡ 8 = length-zip2 times zs (zip2 minus xs ys) (third ∙ sym inner) ∙ third in
    get_or-zip2 plus xs (zip2 times zs (zip2 minus xs ys)) j 0 0 0 (omega arith) (omega arith)
    ∙ ap (λ n. plus (slice_index xs j) n) (get_or-zip2 times zs (zip2 minus xs ys) j 0 0 0 (omega arith) (omega arith)
    ∙ ap (λ n. times (slice_index zs j) n) (get_or-zip2 minus xs ys j 0 0 0 (omega arith) (omega arith)))

-- a byte of a word
byte_of : (v r : ℕ) → r < 4 → v / 256 ^ r % 256 ≡ slice_index (bytes_of 4 v) r
byte_of v zero within = omega arith
byte_of v (suc zero) within = refl
byte_of v (suc (suc zero)) within = ap (λ n. n % 256) (sym (div-div-eq-div-mul v 256 256))
byte_of v (suc (suc (suc zero))) within = ap (λ n. n % 256) (sym (div-div-eq-div-mul v 65536 256)) ∙ ap (λ n. n / 256 % 256) (sym (div-div-eq-div-mul v 256 256))
byte_of v (suc (suc (suc (suc r)))) within = absurd (let h : ⊥ = omega arith in h)

-- a byte of eight words that were put
pub byte_put : (bytes eight : List ℕ) (at i : ℕ) → Each1 (Fits w32) eight → at + 32 ≤ length bytes → i < 32
    → slice_index (put_chunk at bytes (digits_l 256 32 (number_l 4294967296 eight))) (at + i) ≡ slice_index (bytes_of 4 (slice_index eight (i / 4))) (i % 4)
byte_put bytes eight at i fits room within =
    let ys = digits_l 256 32 (number_l 4294967296 eight) in
    get_or-put_chunk_at at bytes ys i 0 within room
    ∙ ap (λ k. slice_index ys k) (let e : i ≡ 4 * (i / 4) + i % 4 = omega arith in e)
    ∙ get_or_narrower 4294967296 4 256 32 eight (i / 4) (i % 4) refl (below_from_Fits w32 eight fits) (omega arith) (omega arith)
    ∙ byte_of (slice_index eight (i / 4)) (i % 4) (omega arith)

-- and a byte beside them
pub byte_beside : (bytes eight : List ℕ) (at i : ℕ) → (i < at) ⊎ (at + 32 ≤ i)
    → slice_index (put_chunk at bytes (digits_l 256 32 (number_l 4294967296 eight))) i ≡ slice_index bytes i
byte_beside bytes eight at i outside = elim outside [
  | inl below ↦ get_or-put_chunk_below at bytes (digits_l 256 32 (number_l 4294967296 eight)) i 0 below
  | inr above ↦ get_or-put_chunk_above at bytes (digits_l 256 32 (number_l 4294967296 eight)) i 0 above
]

-- a byte of eight words that were strided
pub eight_strided : (ahead : ℕ) (words prev new last before next : List ℕ) (at i : ℕ) → at % 4 ≡ 0 → at ≤ i → i < at + 32
    → ((j : ℕ) → j < 8 → slice_index last j ≡ word_at words (at + 4 * j))
    → ((j : ℕ) → j < 8 → slice_index before j ≡ word_at prev (at + 4 * j))
    → ((j : ℕ) → j < 8 → slice_index next j ≡ strided_word ahead (slice_index last j) (slice_index before j))
    → ((k : ℕ) → k < 32 → slice_index new (at + k) ≡ slice_index (bytes_of 4 (slice_index next (k / 4))) (k % 4))
    → slice_index new i ≡ strided_byte ahead words prev i
eight_strided ahead words prev new last before next at i aligned least most first second each put =
    let k = i - at in
    let j = k / 4 in
    let inside : j < 8 = omega arith in
    let there : at + 4 * j ≡ i / 4 * 4 = omega arith in
    ap (λ n. slice_index new n) (let e : i ≡ at + k = omega arith in e)
    ∙ put k (omega arith)
    ∙ ap (λ n. slice_index (bytes_of 4 n) (k % 4)) (each j inside
    ∙ ap (λ n. strided_word ahead n (slice_index before j)) (first j inside ∙ ap (λ n. word_at words n) there)
    ∙ ap (λ n. strided_word ahead (word_at words (i / 4 * 4)) n) (second j inside ∙ ap (λ n. word_at prev n) there))
    ∙ ap (λ n. slice_index (bytes_of 4 (strided_word ahead (word_at words (i / 4 * 4)) (word_at prev (i / 4 * 4)))) n) (let e : k % 4 ≡ i % 4 = omega arith in e)

-- eight words more of a list that is strided in place
pub eights_more : (ahead : ℕ) (last prev words new : List ℕ) (k : ℕ)
    → ((i : ℕ) → i < 32 * k → slice_index words i ≡ strided_byte ahead last prev i)
    → ((i : ℕ) → 32 * k ≤ i → slice_index words i ≡ slice_index last i)
    → ((i : ℕ) → 32 * k ≤ i → i < 32 * k + 32 → slice_index new i ≡ strided_byte ahead words prev i)
    → ((i : ℕ) → (i < 32 * k) ⊎ (32 * k + 32 ≤ i) → slice_index new i ≡ slice_index words i)
    → ((i : ℕ) → i < 32 * (k + 1) → slice_index new i ≡ strided_byte ahead last prev i)
    × ((i : ℕ) → 32 * (k + 1) ≤ i → slice_index new i ≡ slice_index last i)
eights_more ahead last prev words new k done left eight others = (
  (λ i below. elim (cases_lt i (32 * k)) [
    | inl before ↦ others i (inl before) ∙ done i before
    | inr here ↦ eight i here (omega arith)
        ∙ ap (λ n. slice_index (bytes_of 4 (strided_word ahead n (word_at prev (i / 4 * 4)))) (i % 4))
        (let w = i / 4 * 4 in word_same words last w w (left w (omega arith)) (left (w + 1) (omega arith)) (left (w + 2) (omega arith)) (left (w + 3) (omega arith)))
  ]),
  (λ i above. others i (inr (omega arith)) ∙ left i (omega arith)),
)

-- a byte of a word that was as it was before
pub strided_after : (ahead : ℕ) (last prev words : List ℕ) (first i : ℕ) → first % 4 ≡ 0 → first ≤ i
    → ((j : ℕ) → first ≤ j → slice_index words j ≡ slice_index last j) → strided_byte ahead words prev i ≡ strided_byte ahead last prev i
strided_after ahead last prev words first i aligned least left =
    let w = i / 4 * 4 in
    let low : first ≤ w = omega arith in
    ap (λ n. slice_index (bytes_of 4 (strided_word ahead n (word_at prev w))) (i % 4))
    (word_same words last w w (left w low) (left (w + 1) (omega arith)) (left (w + 2) (omega arith)) (left (w + 3) (omega arith)))
