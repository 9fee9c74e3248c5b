-- Lemmas on what a snapshot has.
use Rattle.std.proofs.Common.{◌≡◌, ◌⊎◌, subst, ℕ, ◌+◌, ◌*◌, ◌/◌, ◌%◌, ◌<◌, ◌≤◌, true, false, cond, nat_lt, List, [], ◌++◌, ◌-◌, length, length-append, length-drop, replicate, take, drop, sym, ap, ◌∙◌, inl, inr, arith, slice_index}
use Rattle.std.proofs.lemmas.Bool.{cases_lt}
use Rattle.std.proofs.lemmas.Bool.Decides.{nat_tests}
use Rattle.std.proofs.lemmas.List.{ext_get_or, get_or_past, get_or-take, get_or-drop, get_or-replicate, length-replicate, get_or_append_left, get_or-append_right}
use Rattle.std.proofs.lemmas.List.FromFn.{length-map-range_with_len, get_or-map-range_with_len}
use Rattle.asc_model.specs.Shape.{Shape, IsShape, length_of}
use Rattle.asc_model.specs.State.{State, IsState}
use Rattle.asc_model.specs.Number.{word_at, bytes_of}
use Rattle.asc_pages.specs.Pages.{Tells}
use Rattle.asc_shape.specs.Frozen.{frozen, frozen_byte}
use Rattle.asc_shape.specs.Stride.{strided, strided_byte, strided_word}
use Rattle.asc_shape.proofs.Strides.{word_same, whole_words, byte-strided}

pub length-frozen : (n : ℕ) (front pages : List ℕ) → length (frozen n front pages) ≡ n
unfolding frozen
length-frozen n front pages = length-map-range_with_len (frozen_byte front pages) 0 n

byte-frozen : (n : ℕ) (front pages : List ℕ) (i : ℕ) → i < n → slice_index (frozen n front pages) i ≡ frozen_byte front pages i
unfolding frozen
byte-frozen n front pages i within = get_or-map-range_with_len (frozen_byte front pages) 0 n i i 0 within (omega arith)

is_front : (i : ℕ) → i < 136 → nat_lt i 136 ≡ true
is_front i below = grind (arith, nat_tests)

is_behind : (i : ℕ) → 136 ≤ i → nat_lt i 136 ≡ false
is_behind i above = grind (arith, nat_tests)

-- a byte of the front
pub front-frozen : (n : ℕ) (front pages : List ℕ) (i : ℕ) → i < n → i < 136 → slice_index (frozen n front pages) i ≡ slice_index front i
front-frozen n front pages i within below = byte-frozen n front pages i within ∙ ap (λ b. cond b (slice_index front i) (slice_index pages i)) (is_front i below)

-- and one behind it
pub pages-frozen : (n : ℕ) (front pages : List ℕ) (i : ℕ) → i < n → 136 ≤ i → slice_index (frozen n front pages) i ≡ slice_index pages i
pages-frozen n front pages i within above = byte-frozen n front pages i within ∙ ap (λ b. cond b (slice_index front i) (slice_index pages i)) (is_behind i above)

-- bytes as they were frozen
pub frozen_is : (n : ℕ) (front pages bytes : List ℕ) → length bytes ≡ n → front ≡ take 136 bytes → Tells pages bytes → frozen n front pages ≡ bytes
frozen_is n front pages bytes size first tells =
    ext_get_or 0 (frozen n front pages) bytes (length-frozen n front pages ∙ sym size)
    (λ i inside. let within : i < n = omega (arith, length-frozen n front pages) in elim (cases_lt i 136) [
      | inl below ↦ front-frozen n front pages i within below ∙ ap (λ (l : List ℕ). slice_index l i) first ∙ get_or-take 136 bytes i 0 below
      | inr above ↦ pages-frozen n front pages i within above ∙ sym (tells i above (omega arith))
    ])

-- zeros
pub frozen_zeros : (n : ℕ) (pages : List ℕ) → pages ≡ [] → frozen n (replicate 136 0) pages ≡ replicate n 0
frozen_zeros n pages none =
    ext_get_or 0 (frozen n (replicate 136 0) pages) (replicate n 0) (length-frozen n (replicate 136 0) pages ∙ sym (length-replicate n 0))
    (λ i inside. let within : i < n = omega (arith, length-frozen n (replicate 136 0) pages) in elim (cases_lt i 136) [
      | inl below ↦ front-frozen n (replicate 136 0) pages i within below ∙ get_or-replicate 136 i 0 0 below ∙ sym (get_or-replicate n i 0 0 within)
      | inr above ↦ pages-frozen n (replicate 136 0) pages i within above ∙ ap (λ (l : List ℕ). slice_index l i) none ∙ get_or_past [] i 0 (omega arith)
          ∙ sym (get_or-replicate n i 0 0 within)
    ])

-- a state of the same front whose pages are those or none
pub frozen_left : (shape : Shape) (front old new : List ℕ) → IsState (record { shape = shape; bytes = frozen (length_of shape) front old }) → (new ≡ old) ⊎ (new ≡ [])
    → IsState (record { shape = shape; bytes = frozen (length_of shape) front new })
frozen_left shape front old new so (inl same) = subst (λ (pages : List ℕ). IsState (record { shape = shape; bytes = frozen (length_of shape) front pages })) (sym same) so
frozen_left shape front old new so (inr none) =
    let n = length_of shape in
    record {
      shape = so.shape;
      length = length-frozen n front new;
      bytes = λ i. elim (cases_lt i n) [
        | inl within ↦ elim (cases_lt i 136) [
          | inl below ↦ let one = front-frozen n front new i within below in let other = front-frozen n front old i within below in let was = so.bytes i in omega (arith, one, other, was)
          | inr above ↦
              let one = pages-frozen n front new i within above ∙ ap (λ (l : List ℕ). slice_index l i) none ∙ get_or_past [] i 0 (omega arith) in
              omega (arith, one)
        ]
        | inr past ↦ let one = get_or_past (frozen n front new) i 0 (omega (arith, length-frozen n front new)) in omega (arith, one)
      ];
    }

-- the fields of a snapshot and the state that it is
pub front_tells : (s : State) (shape : Shape) (front pages : List ℕ) → record { shape = shape; bytes = frozen (length_of shape) front pages } ≡ s → (i : ℕ) → i < length_of shape → i < 136
    → slice_index s.bytes i ≡ slice_index front i
front_tells s shape front pages is i within below = ap (λ (t : State). slice_index t.bytes i) (sym is) ∙ front-frozen (length_of shape) front pages i within below

pub pages_tell : (s : State) (shape : Shape) (front pages : List ℕ) → record { shape = shape; bytes = frozen (length_of shape) front pages } ≡ s → Tells pages s.bytes
pages_tell s shape front pages is i above inside =
    ap (λ (t : State). slice_index t.bytes i) (sym is)
    ∙ pages-frozen (length_of shape) front pages i (omega (arith, ap (λ (t : State). length t.bytes) is, length-frozen (length_of shape) front pages)) above

-- a word of the front
pub word_front : (s : State) (front : List ℕ) (place : ℕ) → ((i : ℕ) → i < 136 → slice_index s.bytes i ≡ slice_index front i) → place + 4 ≤ 136 → word_at front place ≡ word_at s.bytes place
word_front s front place tells within =
    sym (word_same s.bytes front place place (tells place (omega arith)) (tells (place + 1) (omega arith)) (tells (place + 2) (omega arith)) (tells (place + 3) (omega arith)))

-- and one behind it
pub word_behind : (s : State) (pages : List ℕ) (place : ℕ) → Tells pages s.bytes → 136 ≤ place → place + 4 ≤ length s.bytes → word_at pages place ≡ word_at s.bytes place
word_behind s pages place tells least within =
    sym (word_same s.bytes pages place place (tells place (omega arith) (omega arith)) (tells (place + 1) (omega arith) (omega arith))
    (tells (place + 2) (omega arith) (omega arith)) (tells (place + 3) (omega arith) (omega arith)))

-- an aligned word lies in its state
pub word_inside : (shape : Shape) (place : ℕ) → IsShape shape → place % 4 ≡ 0 → place < length_of shape → place + 4 ≤ length_of shape
word_inside shape place good aligned within = omega (arith, whole_words shape good)

-- a front written over the first bytes of a list
pub fronted : (front rest whole : List ℕ) → length front ≡ 136 → 136 ≤ length rest → length rest ≡ length whole
    → ((i : ℕ) → i < 136 → slice_index front i ≡ slice_index whole i) → ((i : ℕ) → 136 ≤ i → i < length rest → slice_index rest i ≡ slice_index whole i)
    → front ++ drop 136 rest ≡ whole
fronted front rest whole size least same first behind =
    let all : length (front ++ drop 136 rest) ≡ length rest = omega (arith, size, length-append front (drop 136 rest), length-drop 136 rest) in
    ext_get_or 0 (front ++ drop 136 rest) whole (all ∙ same)
    (λ i inside. elim (cases_lt i 136) [
      | inl below ↦ get_or_append_left front (drop 136 rest) 0 i (omega arith) ∙ first i below
      | inr above ↦ get_or-append_right front (drop 136 rest) 136 i 0 size above ∙ get_or-drop 136 rest (i - 136) 0
          ∙ ap (λ j. slice_index rest j) (let e : 136 + (i - 136) ≡ i = omega arith in e) ∙ behind i above (omega arith)
    ])

-- zeros in front of zeros
pub zeros_filled : (bytes front : List ℕ) → 136 ≤ length bytes → front ≡ replicate 136 0 → ((i : ℕ) → 136 ≤ i → i < length bytes → slice_index bytes i ≡ 0)
    → front ++ drop 136 bytes ≡ replicate (length bytes) 0
zeros_filled bytes front least is behind =
    fronted front bytes (replicate (length bytes) 0) (ap (λ (l : List ℕ). length l) is ∙ length-replicate {A = ℕ} 136 0) least (sym (length-replicate (length bytes) 0))
    (λ i below. ap (λ (l : List ℕ). slice_index l i) is ∙ get_or-replicate 136 i 0 0 below ∙ sym (get_or-replicate (length bytes) i 0 0 (omega arith)))
    (λ i above inside. behind i above inside ∙ sym (get_or-replicate (length bytes) i 0 0 inside))

-- a byte of the front that was strided
pub front_strided : (ahead : ℕ) (last : List ℕ) (prev : State) (front : List ℕ) (i : ℕ) → i < 136 → 136 ≤ length last
    → ((j : ℕ) → j < 136 → slice_index prev.bytes j ≡ slice_index front j) → strided_byte ahead (take 136 last) front i ≡ slice_index (strided ahead last prev.bytes) i
front_strided ahead last prev front i below least tells =
    let w = i / 4 * 4 in
    ap (λ n. slice_index (bytes_of 4 (strided_word ahead n (word_at front w))) (i % 4))
    (word_same (take 136 last) last w w (get_or-take 136 last w 0 (omega arith)) (get_or-take 136 last (w + 1) 0 (omega arith)) (get_or-take 136 last (w + 2) 0 (omega arith))
    (get_or-take 136 last (w + 3) 0 (omega arith)))
    ∙ ap (λ n. slice_index (bytes_of 4 (strided_word ahead (word_at last w) n)) (i % 4)) (word_front prev front w tells (omega arith))
    ∙ sym (byte-strided ahead last prev.bytes i (omega arith))

-- and one behind it
pub behind_strided : (ahead : ℕ) (last : List ℕ) (prev : State) (pages : List ℕ) (i : ℕ) → 136 ≤ i → i < length last → length last ≡ length prev.bytes → length last % 4 ≡ 0
    → Tells pages prev.bytes → strided_byte ahead last pages i ≡ slice_index (strided ahead last prev.bytes) i
behind_strided ahead last prev pages i above inside same whole tells =
    let w = i / 4 * 4 in
    ap (λ n. slice_index (bytes_of 4 (strided_word ahead (word_at last w) n)) (i % 4)) (word_behind prev pages w tells (omega arith) (omega arith))
    ∙ sym (byte-strided ahead last prev.bytes i inside)
