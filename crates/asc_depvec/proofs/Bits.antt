-- Lemmas on the bits of words.
use Rattle.std.proofs.Common.{get_or, ◌≡◌, ℕ, zero, suc, ◌+◌, ◌-◌, ◌*◌, ◌/◌, ◌%◌, ◌^◌, ◌<◌, ◌≤◌, ◌==◌, ◌||◌, Bool, true, false, not, cond, List, [], ◌∷◌, ◌++◌, length, drop, map, length-append, refl, sym, ap, ◌∙◌, inl, inr, slice_index, slice_index_or, slice_set, bit_or, max, arith, append_assoc, append-nil}
use lib.Count.{ones, ones_step, ones-le}
use native.Mathlib.Nat.{pow-suc, zero-add}
use Rattle.std.specs.Prelude.{All, filter, nat_lt}
use Rattle.std.specs.Int.Bits.{or_zero_l}
use Rattle.std.specs.Int.{bit_at, rotate_right, trailing_zeros, w32, w64}
use Rattle.std.specs.List.{list_any}
use Rattle.std.specs.List.Sorted.{IsNonDecreasingBy, IsPermutation}
use Rattle.std.proofs.lemmas.Bool.{cases_Bool, cases_eq, false≢true, ne_eqb}
use Rattle.std.proofs.lemmas.List.Sorted.{All-permutation, list_any-IsPermutation}
use Rattle.std.proofs.lemmas.Grind.{get_or-set_at}
use Rattle.std.proofs.lemmas.List.{drop_more, get_or-map, get_or_past, get_or-set_other, length-map, map-append, set_past}
use Rattle.std.proofs.lemmas.List.Elements.{All-cons, All-nil, filter-append}
use Rattle.std.proofs.lemmas.List.Sums.{count_by-le-length, sum_by-cons}
use Rattle.std.proofs.Math.Nat.{div-div-eq-div-mul}
use Rattle.std.proofs.lemmas.Nat.{or_comm, or_shifted, pow-add}
use Rattle.std.proofs.lemmas.Nat.Bits.{bit_at_above, bit_at-lt, bit_at-pow_other, bit_at-pow_same, bit_at-trailing_zeros, bit_at-suc, bit_at-zero, bit_at_lowest, bit_at_or}
use Rattle.asc_model.specs.Places.{places_from}
use Rattle.asc_model.specs.DependencyVector.{is_among}
use Rattle.asc_model.specs.declared.status.Status.{Status}
use Rattle.asc_model.specs.declared.status.Status.TheVariants.{Untouched}
use Rattle.asc_shape.specs.Face.{status_at, is_untouched}
use Rattle.asc_depvec.specs.Bits.{AreListed, AreNoted, block_at, has_bit, has_word, live, words_in, words_of_blocks}
use Rattle.asc_depvec.specs.declared.bitmap.Block.{Block}
use Rattle.asc_depvec.specs.Inside.{is_bit_of, noted}
use Rattle.asc_depvec.specs.Tracer.{is_touched_word, places_of_item}
use Rattle.asc_depvec.proofs.Items.{item_word}
use Rattle.asc_depvec.proofs.Marking.{Fits, times, times-first}

-- ---- filters of places in a row

pub places_from-append : (m n place : ℕ) → places_from place (m + n) ≡ places_from place m ++ places_from (place + m) n
places_from-append zero n place = let same : place + 0 ≡ place = omega arith in rw (zero-add, same)
places_from-append (suc m) n place =
    let next : suc m + n ≡ suc (m + n) = omega arith in
    let same : place + suc m ≡ place + 1 + m = omega arith in
    rw (next, same, places_from-append m n (place + 1))

-- tests that are the same at each of places in a row pass the same of them
pub filter-alike : (g h : ℕ → Bool) (place n : ℕ) → ((p : ℕ) → place ≤ p → p < place + n → g p ≡ h p) → filter g (places_from place n) ≡ filter h (places_from place n)
filter-alike g h place zero same = refl
filter-alike g h place (suc n) same =
    rw (same place (omega arith) (omega arith), filter-alike g h (place + 1) n (λ p least most. same p (omega arith) (omega arith)))

-- a test that fails at each passes none
pub filter-none : (g : ℕ → Bool) (place n : ℕ) → ((p : ℕ) → place ≤ p → p < place + n → g p ≡ false) → filter g (places_from place n) ≡ []
filter-none g place zero none = refl
filter-none g place (suc n) none = rw (none place (omega arith) (omega arith)) (filter-none g (place + 1) n (λ p least most. none p (omega arith) (omega arith)))

pub filter-parts : (g : ℕ → Bool) (m n place : ℕ) → filter g (places_from place (m + n)) ≡ filter g (places_from place m) ++ filter g (places_from (place + m) n)
filter-parts g m n place = ap (filter g) (places_from-append m n place) ∙ filter-append g (places_from place m) (places_from (place + m) n)

-- so many more, of which none passes
pub filter-same : (g : ℕ → Bool) (m n place : ℕ) → ((p : ℕ) → place + m ≤ p → p < place + m + n → g p ≡ false) → filter g (places_from place (m + n)) ≡ filter g (places_from place m)
filter-same g m n place none = rw (filter-parts g m n place, filter-none g (place + m) n none, append-nil)

-- and one that does
pub filter-next : (g : ℕ → Bool) (m place : ℕ) → g (place + m) ≡ true → filter g (places_from place (m + 1)) ≡ filter g (places_from place m) ++ (place + m) ∷ []
filter-next g m place pass = rw (filter-parts g m 1 place, pass)

-- ---- bits

bit_shift : (n k i : ℕ) → bit_at (n / 2 ^ k) i ≡ bit_at n (k + i)
bit_shift n k i = rw (div-div-eq-div-mul n (2 ^ k) (2 ^ i), pow-add 2 k i)

bit_false : (b : ℕ) → b ≡ 0 → (b == 1) ≡ false
bit_false b e = rw e

-- the greater of two bits
max_either : (a b : ℕ) → a < 2 → b < 2 → (max a b == 1) ≡ ((a == 1) || (b == 1))
max_either a b x y = grind arith

or_bit : (a b i : ℕ) → (bit_at (bit_or a b) i == 1) ≡ ((bit_at a i == 1) || (bit_at b i == 1))
or_bit a b i = rw bit_at_or (max_either (bit_at a i) (bit_at b i) (bit_at-lt a i) (bit_at-lt b i))

-- bits of a block are set in it
pub has-merged : (blocks : List ℕ) (block bits other : ℕ) → block < length blocks
    → has_word (slice_set blocks block (bit_or (slice_index blocks block) bits)) other ≡ (has_word blocks other || is_bit_of block bits other)
has-merged blocks block bits other within = grind (arith, get_or-set_at, get_or-set_other, or_bit (slice_index blocks block) bits (other % 64))

-- of no bits none is to be set
pub bit_of-none : (block bits other : ℕ) → bits ≡ 0 → is_bit_of block bits other ≡ false
bit_of-none block bits other none = grind (arith, bit_at-zero)

-- and of one more the word of that bit
pub bit_of-more : (block bits k power other : ℕ) → k < 64 → power ≡ 2 ^ k → is_bit_of block (bit_or bits power) other ≡ (is_bit_of block bits other || 64 * block + k == other)
bit_of-more block bits k power other low is = grind (arith, or_bit bits power (other % 64), bit_at-pow_same, bit_at-pow_other)

pub bit_of-one : (block k power other : ℕ) → k < 64 → power ≡ 2 ^ k → is_bit_of block power other ≡ (64 * block + k == other)
bit_of-one block k power other low is = rw (← or_zero_l power, bit_of-more block 0 k power other low is, bit_of-none block 0 other refl)

-- one bit more is set in a block
pub has-added : (blocks : List ℕ) (word power other : ℕ) → word / 64 < length blocks → power ≡ 2 ^ (word % 64)
    → has_word (slice_set blocks (word / 64) (bit_or (slice_index blocks (word / 64)) power)) other ≡ (has_word blocks other || word == other)
has-added blocks word power other within is =
    let same : 64 * (word / 64) + word % 64 ≡ word = omega arith in
    rw (has-merged blocks (word / 64) power other within, bit_of-one (word / 64) (word % 64) power other (omega arith) is, same)

-- a number rotated by three bits is small where it is a small multiple of 8
pub rotated : (n k : ℕ) → n < 2 ^ 32 → k ≡ rotate_right w32 n 3 → k < 64 → (n % 8 ≡ 0) × (k ≡ n / 8)
rotated n k low is small =
    let high : n * 2 ^ 29 % 2 ^ 32 ≡ n % 8 * 2 ^ 29 = omega arith in
    let sum : rotate_right w32 n 3 ≡ n % 8 * 2 ^ 29 + n / 8 = rw (or_comm (n / 2 ^ 3) (n * 2 ^ 29 % 2 ^ 32), high) (or_shifted (n % 8) 29 (n / 2 ^ 3) (omega (arith, low))) in
    let none : n % 8 ≡ 0 = omega (arith, is, sum, small) in
    (none, omega (arith, is, sum, none))

-- the word of an item for a whole word
pub item_bit : (item word : ℕ) → item % 8 ≡ 1 → list_any (λ p. p / 4 == word) (places_of_item item) ≡ (item / 8 == word)
item_bit item word whole = rw (item_word item (omega (arith, whole))) (grind arith)

-- no bit of blocks that are 0
pub has-none : (blocks : List ℕ) (word : ℕ) → slice_index blocks (word / 64) ≡ 0 → has_word blocks word ≡ false
has-none blocks word none = rw (none, bit_at-zero)

-- a bit that is set already
pub has-already : (blocks : List ℕ) (word other : ℕ) → has_word blocks word ≡ true → has_word blocks other ≡ (has_word blocks other || word == other)
has-already blocks word other has = grind arith

-- a number with one bit more is not 0
pub or-some : (old power k : ℕ) → power ≡ 2 ^ k → bit_or old power ≡ 0 → ⊥
or-some old power k is none = grind (arith, bit_at_or old power k, bit_at-pow_same, bit_at-zero)

pub cond-most : (b : Bool) → cond {A = ℕ} b 1 0 ≤ 1
cond-most b = grind arith

-- where one of blocks is 0, fewer than all are not
pub live-less : (blocks : List ℕ) (i : ℕ) → i < length blocks → slice_index blocks i ≡ 0 → live blocks < length blocks
live-less [] i within none = absurd (omega (arith, within))
live-less (x ∷ blocks) zero within none =
    grind (arith, sum_by-cons (λ (k : ℕ). cond {A = ℕ} (not (k == 0)) 1 0) x blocks, count_by-le-length (λ (k : ℕ). not (k == 0)) blocks)
live-less (x ∷ blocks) (suc i) within none = grind (arith, sum_by-cons (λ (k : ℕ). cond {A = ℕ} (not (k == 0)) 1 0) x blocks, live-less blocks i)

-- and as many as before where one is set to what is not 0, or one more
pub live-set : (blocks : List ℕ) (i value : ℕ) → i < length blocks → (value ≡ 0 → ⊥) → live (slice_set blocks i value) + cond {A = ℕ} (not (slice_index blocks i == 0)) 1 0 ≡ live blocks + 1
live-set [] i value within some = absurd (omega (arith, within))
live-set (x ∷ blocks) zero value within some =
    let one : ℕ → ℕ = λ k. cond {A = ℕ} (not (k == 0)) 1 0 in grind (arith, sum_by-cons one x blocks, sum_by-cons one value blocks)
live-set (x ∷ blocks) (suc i) value within some =
    let one : ℕ → ℕ = λ k. cond {A = ℕ} (not (k == 0)) 1 0 in
    omega (arith, sum_by-cons one x blocks, sum_by-cons one x (slice_set blocks i value), live-set blocks i value (omega (arith, within)) some)

-- ---- touched words

-- a place is listed where it is counted
among-times : (p : ℕ) (bytes places : List ℕ) → is_among p places ≡ nat_lt 0 (times p (noted bytes places))
among-times p bytes [] = refl
among-times p bytes (place ∷ places) = grind (arith, times-first p (place, slice_index bytes place) (noted bytes places), among-times p bytes places)

touched-among : (n : ℕ) (statuses : List Status) (bytes places : List ℕ) (p : ℕ) → Fits n statuses (noted bytes places) → is_among p places ≡ not (is_untouched (status_at statuses p))
touched-among n statuses bytes places p fits = rw (among-times p bytes places, fits.1 p) (grind arith)

any_either : (f g : ℕ → Bool) (xs : List ℕ) → list_any (λ x. f x || g x) xs ≡ (list_any f xs || list_any g xs)
any_either f g [] = refl
any_either f g (x ∷ xs) = rw (any_either f g xs) (grind arith)

-- a place is one of a word's where it stands in it
word_has : (x word : ℕ) → list_any (λ p. x == p) (places_from (4 * word) 4) ≡ (x / 4 == word)
word_has x word = grind arith

any_word : (places : List ℕ) (word : ℕ) → list_any (λ p. p / 4 == word) places ≡ list_any (λ p. is_among p places) (places_from (4 * word) 4)
any_word [] word = refl
any_word (x ∷ places) word =
    rw (any_word places word, ← word_has x word) (sym (any_either (λ p. x == p) (λ p. is_among p places) (places_from (4 * word) 4)))

any_alike : (f g : ℕ → Bool) → ((p : ℕ) → f p ≡ g p) → (xs : List ℕ) → list_any f xs ≡ list_any g xs
any_alike f g same [] = refl
any_alike f g same (x ∷ xs) = rw (same x, any_alike f g same xs)

-- the words of all touched places are the touched words
pub words_touched : (n : ℕ) (statuses : List Status) (bytes places : List ℕ) (word : ℕ) → Fits n statuses (noted bytes places)
    → list_any (λ p. p / 4 == word) places ≡ is_touched_word statuses word
words_touched n statuses bytes places word fits =
    any_word places word
    ∙ any_alike (λ p. is_among p places) (λ p. not (is_untouched (status_at statuses p))) (λ p. touched-among n statuses bytes places p fits) (places_from (4 * word) 4)

-- ---- blocks

-- what is among a list from an element on, and is another, is among the rest
pub among-rest : (b d : ℕ) (xs : List ℕ) (i : ℕ) → i < length xs → (slice_index_or xs i d ≡ b → ⊥) → is_among b (drop i xs) ≡ true → is_among b (drop (i + 1) xs) ≡ true
among-rest b d xs i within other among =
    let all = rw (drop_more xs i d within) at among in rw (ne_eqb (slice_index_or xs i d) b other) at all

among-end : (b : ℕ) (xs : List ℕ) (i : ℕ) → length xs ≤ i → is_among b (drop i xs) ≡ true → ⊥
among-end b [] zero past among = absurd (cc)
among-end b [] (suc i) past among = absurd (cc)
among-end b (x ∷ xs) zero past among = omega (arith, past)
among-end b (x ∷ xs) (suc i) past among = among-end b xs i (omega (arith, past)) among

-- a number below each of a list is not among it
among-below : (b : ℕ) (xs : List ℕ) → ((i d : ℕ) → i < length xs → b < slice_index_or xs i d) → is_among b xs ≡ true → ⊥
among-below b [] below among = absurd (cc)
among-below b (x ∷ xs) below among =
    among-below b xs (λ i d lt. below (suc i) d (omega (arith, lt))) (rw (ne_eqb x b (λ e. absurd (omega (arith, e, below 0 0 (omega arith))))) at among)

-- nor is one below the first of them that rise
among-rising : (b d : ℕ) (xs : List ℕ) (i : ℕ) → IsNonDecreasingBy (λ k. k) xs → i < length xs → b < slice_index_or xs i d → is_among b (drop i xs) ≡ true → ⊥
among-rising b d [] i rising within lt among = omega (arith, within)
among-rising b d (x ∷ xs) zero rising within lt among =
    among-below b (x ∷ xs) (λ k e inside. omega (arith, lt, rising 0 k e (omega arith) inside)) among
among-rising b d (x ∷ xs) (suc i) rising within lt among =
    among-rising b d xs i (λ j k e le inside. rising (suc j) (suc k) e (omega (arith, le)) (omega (arith, inside))) (omega (arith, within)) lt among

-- blocks that are not 0 from one on are still to come
abbrev pub AreLeft : (blocks used : List ℕ) (next i : ℕ) → Type 0
AreLeft blocks used next i = (b : ℕ) → next ≤ b → (slice_index blocks b ≡ 0 → ⊥) → is_among b (drop i used) ≡ true

zero_by : (n : ℕ) → ((n ≡ 0 → ⊥) → ⊥) → n ≡ 0
zero_by n h = grind arith

-- the words of a block
pub block_words : (blocks : List ℕ) (block : ℕ) → words_in (block_at blocks block) ≡ filter (has_word blocks) (places_from (64 * block) 64)
unfolding words_in
block_words blocks block =
    filter-alike (has_bit (slice_index blocks block) (64 * block)) (has_word blocks) (64 * block) 64 (λ w least most.
    let there : w / 64 ≡ block = omega (arith, least, most) in
    let bit : w - 64 * block ≡ w % 64 = omega (arith, least, most) in
    rw (bit, there))

-- the words up to behind the next block
pub words-more : (blocks used : List ℕ) (next i d : ℕ) → AreLeft blocks used next i → IsNonDecreasingBy (λ k. k) used → i < length used → next ≤ slice_index_or used i d
    → filter (has_word blocks) (places_from 0 (64 * next)) ++ filter (has_bit (slice_index blocks (slice_index_or used i d)) (64 * slice_index_or used i d)) (places_from (64 * slice_index_or used i d) 64)
    ≡ filter (has_word blocks) (places_from 0 (64 * (slice_index_or used i d + 1)))
unfolding words_in
words-more blocks used next i d left rising within le =
    let block = slice_index_or used i d in
    let has = has_word blocks in
    let gap : 64 * next + 64 * (block - next) ≡ 64 * block = omega (arith, le) in
    let whole : 64 * (block + 1) ≡ 64 * block + 64 = omega arith in
    let before = filter-same has (64 * next) (64 * (block - next)) 0 (λ w least most. has-none blocks w (zero_by (slice_index blocks (w / 64)) (λ some.
    among-rising (w / 64) d used i rising within (omega (arith, least, most, gap)) (left (w / 64) (omega (arith, least)) some)))) in
    rw (← before, gap, whole, filter-parts has (64 * block) 64 0, zero-add) (ap (λ (list : List ℕ). filter has (places_from 0 (64 * block)) ++ list) (block_words blocks block))

pub left-more : (blocks used : List ℕ) (next i d now : ℕ) → AreLeft blocks used next i → i < length used → next ≤ now → slice_index_or used i d < now → AreLeft blocks used now (i + 1)
left-more blocks used next i d now left within le behind =
    λ b least some. among-rest b d used i within (λ e. omega (arith, e, behind, least)) (left b (omega (arith, le, least)) some)

-- one block less that is not 0
pub left-cleared : (blocks : List ℕ) (found : List Block) (i : ℕ) (d : Block) → i < length found → AreLeft blocks (map (λ (block : Block). block.first / 64) found) 0 i
    → AreLeft (slice_set blocks ((get_or found i d).first / 64) 0) (map (λ (block : Block). block.first / 64) found) 0 (i + 1)
left-cleared blocks found i d within left = λ b least some.
    let number = (get_or found i d).first / 64 in
    let first : Block → ℕ = λ block. block.first / 64 in
    elim (cases_eq b number) [
      | inl same ↦ absurd (some (rw same (cleared blocks number)))
      | inr other ↦
          among-rest b (first d) (map first found) i (rw (length-map found first) within) (λ e. other (sym e ∙ get_or-map first found i d (first d) within))
          (left b least (λ zero. some (get_or-set_other blocks number b 0 0 other ∙ zero)))
    ]
  where
    cleared : (blocks : List ℕ) (k : ℕ) → slice_index (slice_set blocks k 0) k ≡ 0
    cleared blocks k = grind (arith, get_or-set_at, get_or_past, set_past)

-- all words
pub words-all : (blocks used : List ℕ) (next i : ℕ) → AreLeft blocks used next i → length used ≤ i → next ≤ length blocks
    → filter (has_word blocks) (places_from 0 (64 * next)) ≡ filter (has_word blocks) (places_from 0 (64 * length blocks))
words-all blocks used next i left past le =
    let whole : 64 * next + 64 * (length blocks - next) ≡ 64 * length blocks = omega (arith, le) in
    let behind = filter-same (has_word blocks) (64 * next) (64 * (length blocks - next)) 0 (λ w least most.
    has-none blocks w (zero_by (slice_index blocks (w / 64)) (λ some. among-end (w / 64) used i past (left (w / 64) (omega (arith, least)) some)))) in
    rw (← behind, whole)

-- ---- the bits of a block

pub tail-words : (block from at : ℕ) → at ≤ 64 → block / 2 ^ at ≡ 0 → filter (has_bit block from) (places_from from at) ≡ filter (has_bit block from) (places_from from 64)
tail-words block from at le none =
    let whole : at + (64 - at) ≡ 64 = omega (arith, le) in
    let behind = filter-same (has_bit block from) at (64 - at) from (λ w least most.
    let bit : w - from ≡ at + (w - from - at) = omega (arith, least) in
    bit_false (bit_at block (w - from)) (rw (bit, ← bit_shift, none, bit_at-zero))) in
    rw (← behind, whole)

-- the next bit that is set
pub record IsNext (block at skip : ℕ) : Type 0 where
  pub within : at + skip < 64
  pub set : bit_at block (at + skip) ≡ 1
  pub none : (i : ℕ) → i < skip → bit_at block (at + i) ≡ 0

pub next_bit : (block rest at : ℕ) → block < 2 ^ 64 → rest ≡ block / 2 ^ at → (rest ≡ 0 → ⊥) → IsNext block at (trailing_zeros w64 rest)
next_bit block rest at low is some =
    let skip = trailing_zeros w64 rest in
    let found = bit_at-trailing_zeros w64 rest (omega (arith, some)) (omega (arith, low, is)) in
    let bit : bit_at block (at + skip) ≡ 1 = rw (← bit_shift, ← is) found.1 in
    record {
      within = grind (arith, bit_at_above block 64 (at + skip) low);
      set = bit;
      none = λ i lt. rw (← bit_shift, ← is) (found.2 i lt);
    }

pub word-more : (block from at skip : ℕ) (old words : List ℕ) → IsNext block at skip → words ≡ old ++ filter (has_bit block from) (places_from from at)
    → words ++ (from + (at + skip)) ∷ [] ≡ old ++ filter (has_bit block from) (places_from from (at + skip + 1))
word-more block from at skip old words next is =
    let has = has_bit block from in
    let here : from + (at + skip) - from ≡ at + skip = omega arith in
    let none = filter-same has at skip from (λ w least most.
    let bit : w - from ≡ at + (w - from - at) = omega (arith, least) in
    bit_false (bit_at block (w - from)) (rw bit (next.none (w - from - at) (omega (arith, least, most))))) in
    rw (is, ← none, filter-next has (at + skip) from (rw (here, next.set)), append_assoc)

pub rest-more : (block rest at skip : ℕ) → rest ≡ block / 2 ^ at → rest / 2 ^ skip / 2 ≡ block / 2 ^ (at + skip + 1)
rest-more block rest at skip is = rw (is, pow-add 2 (at + skip) 1, pow-add 2 at skip, ← div-div-eq-div-mul, ← div-div-eq-div-mul)

-- one block more of a group
pub block-more : (blocks : List ℕ) (group from at skip : ℕ) (old found : List Block) → IsNext group at skip → found ≡ old ++ map (block_at blocks) (filter (has_bit group from) (places_from from at))
    → found ++ block_at blocks (from + (at + skip)) ∷ [] ≡ old ++ map (block_at blocks) (filter (has_bit group from) (places_from from (at + skip + 1)))
block-more blocks group from at skip old found next is =
    rw (is, ← word-more group from at skip [] _ next refl, map-append, append_assoc)

-- of n words as many are listed as bits are set
pub words_count : (n bits first : ℕ) → bits < 2 ^ n → length (filter (has_bit bits first) (places_from first n)) ≡ ones bits
words_count zero bits first low = let none = ones-le 0 bits low in omega (arith, none)
words_count (suc n) bits first low =
    let half = words_count n (bits / 2) (first + 1) (omega (arith, low, pow-suc 2 n)) in
    let alike = filter-alike (has_bit bits first) (has_bit (bits / 2) (first + 1)) (first + 1) n (λ word least most.
    let at : word - first ≡ suc (word - (first + 1)) = omega (arith, least) in rw (at, bit_at-suc)) in
    let none : first - first ≡ 0 = omega arith in
    rw (alike, none, bit_at_lowest) (by_bit _ (bits % 2) (omega arith) (ones_step bits) half)
  where
    by_bit : (xs : List ℕ) (b : ℕ) → b < 2 → ones bits ≡ b + ones (bits / 2) → length xs ≡ ones (bits / 2) → length (cond (b == 1) (first ∷ xs) xs) ≡ ones bits
    by_bit xs b low step half = grind arith

-- the next block has a place among them
pub block-room : (group from at skip : ℕ) → group < 2 ^ 64 → IsNext group at skip → length (filter (has_bit group from) (places_from from at)) < ones group
block-room group from at skip low next =
    let g = has_bit group from in
    let n = at + skip + 1 in
    let whole : n + (64 - n) ≡ 64 = omega (arith, next.within) in
    let more = ap (λ (list : List ℕ). length list) (word-more group from at skip [] (filter g (places_from from at)) next refl) in
    let all = words_count 64 group from low in
    let parts = rw whole at (filter-parts g n (64 - n) from) in
    omega (
      arith,
      more,
      length-append (filter g (places_from from at)) ((from + (at + skip)) ∷ []),
      all,
      ap (λ (list : List ℕ). length list) parts,
      length-append (filter g (places_from from n)) (filter g (places_from (from + n) (64 - n))),
    )

-- ---- all of it

AreListed-moved : (blocks used moved : List ℕ) → IsPermutation used moved → AreListed blocks used → AreListed blocks moved
AreListed-moved blocks used moved by listed = λ block some. sym (list_any-IsPermutation (λ other. other == block) used moved by) ∙ listed block some

-- the list of what is noted, in another order
pub AreNoted-moved : (blocks groups listed moved : List ℕ) → IsPermutation listed moved → length moved ≡ length listed → AreNoted blocks groups listed → AreNoted blocks groups moved
AreNoted-moved blocks groups listed moved by same noted = record {
  marked = noted.marked;
  all = AreListed-moved groups listed moved by noted.all;
  within = All-permutation (λ group. group < length groups) listed moved by noted.within;
  few = omega (arith, same, noted.few);
}

-- what is among the places that pass a test
among-filter : (g : ℕ → Bool) (n place b : ℕ) → place ≤ b → b < place + n → g b ≡ true → is_among b (filter g (places_from place n)) ≡ true
among-filter g zero place b least most pass = absurd (omega (arith, least, most))
among-filter g (suc n) place b least most pass = grind (arith, among-filter g n (place + 1) b)

-- blocks by their numbers
numbers_are : (blocks numbers : List ℕ) → map (λ (block : Block). block.first / 64) (map (block_at blocks) numbers) ≡ numbers
numbers_are blocks [] = refl
numbers_are blocks (number ∷ numbers) = let same : 64 * number / 64 ≡ number = omega arith in rw (same, numbers_are blocks numbers)

-- each block that is not 0 was found
pub found-listed : (blocks groups : List ℕ) (found : List Block) → length blocks ≡ 64 * length groups → ((block : ℕ) → (slice_index blocks block ≡ 0 → ⊥) → has_word groups block ≡ true)
    → found ≡ map (block_at blocks) (filter (has_word groups) (places_from 0 (64 * length groups))) → AreListed blocks (map (λ (block : Block). block.first / 64) found)
found-listed blocks groups found size marked is = λ block some.
    let within : block < length blocks = grind (arith, get_or_past) in
    rw (is, numbers_are) (among-filter (has_word groups) (64 * length groups) 0 block (omega arith) (omega (arith, within, size)) (marked block some))

-- what holds of each block by its number holds of those that were found
pub found-all : (P : Block → Type 0) (f : ℕ → Block) (g : ℕ → Bool) (n place : ℕ) → ((p : ℕ) → p < place + n → P (f p)) → All P (map f (filter g (places_from place n)))
found-all P f g zero place each = All-nil P
found-all P f g (suc n) place each =
    let later = found-all P f g n (place + 1) (λ p lt. each p (omega (arith, lt))) in
    elim (cases_Bool (g place)) [
      | inl e ↦ rw e (All-cons P (f place) (map f (filter g (places_from (place + 1) n))) (each place (omega arith)) later)
      | inr e ↦ rw e later
    ]

-- the words of the blocks that were found are those that have a bit
pub found-words : (blocks groups : List ℕ) → ((block : ℕ) → (slice_index blocks block ≡ 0 → ⊥) → has_word groups block ≡ true) → (n from : ℕ)
    → words_of_blocks (map (block_at blocks) (filter (has_word groups) (places_from from n))) ≡ filter (has_word blocks) (places_from (64 * from) (64 * n))
found-words blocks groups marked zero from = refl
found-words blocks groups marked (suc n) from =
    let has = has_word blocks in
    let more : 64 * suc n ≡ 64 + 64 * n = omega arith in
    let next : 64 * from + 64 ≡ 64 * (from + 1) = omega arith in
    let later = found-words blocks groups marked n (from + 1) in
    elim (cases_Bool (has_word groups from)) [
      | inl e ↦ rw (more, filter-parts has 64 (64 * n) (64 * from), next, e, ← later, block_words)
      | inr e ↦
          let none : slice_index blocks from ≡ 0 = zero_by (slice_index blocks from) (λ some. false≢true (sym e ∙ marked from some)) in
          let empty = filter-none has (64 * from) 64 (λ w least most. let there : w / 64 ≡ from = omega (arith, least, most) in has-none blocks w (rw (there, none))) in
          rw (more, filter-parts has 64 (64 * n) (64 * from), next, e) (later ∙ ap (λ (list : List ℕ). list ++ filter has (places_from (64 * (from + 1)) (64 * n))) (sym empty))
    ]

-- a word behind the last one has no touched place
past_word : (statuses : List Status) (word : ℕ) → length statuses ≤ 4 * word → is_touched_word statuses word ≡ false
past_word statuses word past =
    let none : (p : ℕ) → 4 * word ≤ p → is_untouched (status_at statuses p) ≡ true = λ p le. rw (get_or_past statuses p Untouched (omega (arith, past, le))) in
    rw (none (4 * word) (omega arith), none (4 * word + 1) (omega arith), none (4 * word + 1 + 1) (omega arith), none (4 * word + 1 + 1 + 1) (omega arith))

-- the words whose bits are set are the touched ones
pub words_are : (n m : ℕ) (statuses : List Status) (bytes places blocks : List ℕ) → Fits n statuses (noted bytes places) → ((word : ℕ) → has_word blocks word ≡ list_any (λ p. p / 4 == word) places)
    → n ≤ 256 * m → n % 4 ≡ 0 → filter (has_word blocks) (places_from 0 (64 * m)) ≡ filter (is_touched_word statuses) (places_from 0 (n / 4))
words_are n m statuses bytes places blocks fits bits most whole =
    let has = has_word blocks in
    let all : 64 * m ≡ n / 4 + (64 * m - n / 4) = omega (arith, most, whole) in
    let same : (word : ℕ) → has word ≡ is_touched_word statuses word = λ word. bits word ∙ words_touched n statuses bytes places word fits in
    rw (all, filter-same has (n / 4) (64 * m - n / 4) 0 (λ word least lt. same word ∙ past_word statuses word (omega (arith, fits.0, least, whole))))
    (filter-alike has (is_touched_word statuses) 0 (n / 4) (λ word least lt. same word))
