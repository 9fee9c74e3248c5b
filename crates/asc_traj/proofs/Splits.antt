-- The parts of a word's places: those that were read first, and those that were written.
use Rattle.std.proofs.Common.{◌≡◌, ℕ, zero, suc, ◌+◌, ◌-◌, ◌*◌, ◌/◌, ◌%◌, ◌^◌, ◌<◌, ◌≤◌, ◌==◌, Bool, true, false, cond, List, [], ◌∷◌, ◌++◌, length, map, take, slice_index, get_or, append_assoc, length-append, min, refl, sym, ap, subst, ◌∙◌, inl, inr, arith}
use lib.Count.{count_trailing_zeros, ones}
use Rattle.std.specs.Prelude.{All, filter}
use Rattle.std.specs.Int.{bit_at, trailing_zeros, w64}
use Rattle.std.specs.Int.Bits.{bit_and}
use Rattle.std.proofs.lemmas.Bool.{cases_eq}
use Rattle.std.proofs.lemmas.Bool.Decides.{nat_tests}
use Rattle.std.proofs.lemmas.Nat.Bits.{bit_at-suc, bit_at-trailing_zeros, bit_at-zero, bit_at_and, bit_at_lowest}
use Rattle.std.proofs.lemmas.Grind.{flat_map-append}
use Rattle.std.proofs.lemmas.List.{append-nil, map-append, take_more}
use Rattle.std.proofs.lemmas.List.Elements.{All-head, filter-append}
use Rattle.asc_model.specs.declared.status.Status.{Status}
use Rattle.asc_model.specs.Number.{AreBytes, bytes_of, word_at}
use Rattle.asc_model.specs.Places.{cells, places_from}
use Rattle.asc_shape.proofs.Guesses.{bytes_at, bytes_of-number_at}
use Rattle.asc_shape.specs.Face.{status_at}
use Rattle.asc_depvec.specs.Bits.{has_bit, words_in, words_of_blocks}
use Rattle.asc_depvec.specs.declared.bitmap.Block.{Block}
use Rattle.asc_depvec.specs.Tracer.{HaveStatus, Tracing}
use Rattle.asc_depvec.proofs.Bits.{IsNext, filter-parts, filter-same, word-more, words_count}
use Rattle.asc_depvec.proofs.Items.{All-behind, All-first}
use Rattle.asc_traj.specs.Inside.{HasGrown, HasSplit, is_read_first, is_written, mask_at, mask_of, now_at, places_of_words, read_first, started, written}
use Rattle.asc_traj.specs.Parts.{all_cells, masked}
use Rattle.asc_traj.specs.declared.entry.Halves.{Halves}
use Rattle.asc_traj.specs.Trace.{origin_of}
use Rattle.asc_traj.proofs.Parts.{here, masked-none}

-- ---- filters of places with bytes

kept_map : (f : ℕ → ℕ × ℕ) (b : Bool) (place : ℕ) (later : List (ℕ × ℕ)) (places : List ℕ) → later ≡ map f places → cond b (f place ∷ later) later ≡ map f (cond b (place ∷ places) places)
kept_map f true place later places is = ap (λ (list : List (ℕ × ℕ)). f place ∷ list) is
kept_map f false place later places is = is

filter-paired : (f : ℕ → ℕ) (g : ℕ → Bool) (places : List ℕ) → filter (λ (cell : ℕ × ℕ). g cell.0) (map (λ p. (p, f p)) places) ≡ map (λ p. (p, f p)) (filter g places)
filter-paired f g [] = refl
filter-paired f g (place ∷ places) = kept_map (λ p. (p, f p)) (g place) place _ (filter g places) (filter-paired f g places)

now-started : (t : Tracing) (places : List ℕ) → map {B = ℕ × ℕ} (λ (cell : ℕ × ℕ). (cell.0, slice_index t.state.bytes cell.0)) (started t places) ≡ now_at t places
now-started t [] = refl
now-started t (place ∷ places) = ap (λ (list : List (ℕ × ℕ)). (place, slice_index t.state.bytes place) ∷ list) (now-started t places)

-- those that were read first, and those that were written, by their places
pub read_first-is : (t : Tracing) (places : List ℕ) → read_first t (started t places) ≡ started t (filter (λ p. is_read_first (status_at t.statuses p)) places)
read_first-is t places = filter-paired (λ p. slice_index (origin_of t).bytes p) (λ p. is_read_first (status_at t.statuses p)) places

pub written-is : (t : Tracing) (places : List ℕ) → written t (started t places) ≡ now_at t (filter (λ p. is_written (status_at t.statuses p)) places)
written-is t places =
    ap (map (λ (cell : ℕ × ℕ). (cell.0, slice_index t.state.bytes cell.0))) (filter-paired (λ p. slice_index (origin_of t).bytes p) (λ p. is_written (status_at t.statuses p)) places)
    ∙ now-started t (filter (λ p. is_written (status_at t.statuses p)) places)

-- ---- one list of places behind another

pub read_first-append : (t : Tracing) (a b : List ℕ) → read_first t (started t (a ++ b)) ≡ read_first t (started t a) ++ read_first t (started t b)
read_first-append t a b = grind (arith, nat_tests, filter-append, map-append)

pub written-append : (t : Tracing) (a b : List ℕ) → written t (started t (a ++ b)) ≡ written t (started t a) ++ written t (started t b)
written-append t a b = grind (arith, nat_tests, filter-append, map-append)

-- two lists with places behind them, and with more places
pub HasSplit-more : (t : Tracing) (a b : List ℕ) (old mid new : Halves) → HasSplit t a old mid → HasSplit t b mid new → HasSplit t (a ++ b) old new
HasSplit-more t a b old mid new first second = record {
  reads = second.reads ∙ (λ i. first.reads i ++ read_first t (started t b)) ∙ append_assoc (all_cells old.reads.items) (read_first t (started t a)) (read_first t (started t b))
      ∙ ap (λ (list : List (ℕ × ℕ)). all_cells old.reads.items ++ list) (sym (read_first-append t a b));
  writes = second.writes ∙ (λ i. first.writes i ++ written t (started t b)) ∙ append_assoc (all_cells old.writes.items) (written t (started t a)) (written t (started t b))
      ∙ ap (λ (list : List (ℕ × ℕ)). all_cells old.writes.items ++ list) (sym (written-append t a b));
}

-- the places of words behind others
pub places-append : (a b : List ℕ) → places_of_words (a ++ b) ≡ places_of_words a ++ places_of_words b
places-append a b = flat_map-append (λ (word : ℕ). places_from (4 * word) 4) a b

pub places-one : (a : List ℕ) (word : ℕ) → places_of_words (a ++ word ∷ []) ≡ places_of_words a ++ places_from (4 * word) 4
places-one a word = places-append a (word ∷ []) ∙ ap (λ (list : List ℕ). places_of_words a ++ list) (append-nil (places_from (4 * word) 4))

-- ---- the words of blocks

abbrev pub block_of : (first bits : ℕ) → Block
block_of first bits = record { first = first; bits = bits }

-- a block of no word
abbrev pub none : Block
none = record { first = 0; bits = 0 }

-- of the first words of a block those whose bits are set
abbrev pub words_until : Block → (n : ℕ) → List ℕ
words_until block n = filter (has_bit block.bits block.first) (places_from block.first n)

-- the next word of a block, and all of them by it
pub record IsWord (block : Block) (at word : ℕ) (later : ℕ) : Type 0 where
  pub more : words_until block later ≡ words_until block at ++ word ∷ []
  pub rest : List ℕ
  pub all : words_in block ≡ words_until block at ++ word ∷ rest

next_word : (block : Block) (at skip : ℕ) → IsNext block.bits at skip → IsWord block at (block.first + (at + skip)) (at + skip + 1)
unfolding words_in
next_word block at skip next =
    let first = block.first in
    let word = first + (at + skip) in
    let g = has_bit block.bits first in
    let n = at + skip + 1 in
    let whole : n + (64 - n) ≡ 64 = omega (arith, next.within) in
    let more : words_until block n ≡ words_until block at ++ word ∷ [] = sym (word-more block.bits first at skip [] (words_until block at) next refl) in
    let rest = filter g (places_from (first + n) (64 - n)) in
    record {
      more = more;
      rest = rest;
      all = ap (words_until block) (sym whole) ∙ filter-parts g n (64 - n) first ∙ ap (λ (list : List ℕ). list ++ rest) more ∙ append_assoc (words_until block at) (word ∷ []) rest;
    }

-- of the bits of a block those from one on
pub record IsRest (bits rest at : ℕ) : Type 0 where
  pub most : at ≤ 64
  pub below : (i : ℕ) → i < at → bit_at rest i ≡ 0
  pub above : (i : ℕ) → at ≤ i → bit_at rest i ≡ bit_at bits i

pub all-rest : (bits : ℕ) → IsRest bits bits 0
all-rest bits = record { most = omega arith; below = λ i lt. absurd (omega (arith, lt)); above = λ i le. refl }

-- the lowest of them is the next one
rest-first : (bits rest at k : ℕ) → IsRest bits rest at → rest < 2 ^ 64 → (rest ≡ 0 → ⊥) → k ≡ trailing_zeros w64 rest → (at ≤ k) × IsNext bits at (k - at)
rest-first bits rest at k is small some tz =
    let found = bit_at-trailing_zeros w64 rest (omega (arith, some)) small in
    let here : bit_at rest k ≡ 1 = ap (bit_at rest) tz ∙ found.1 in
    let behind : at ≤ k = grind (arith, here, is.below k) in
    let same : at + (k - at) ≡ k = omega (arith, behind) in (
      behind,
      record {
        within = omega (arith, same, tz, found.0);
        set = ap (bit_at bits) same ∙ sym (is.above k behind) ∙ here;
        none = λ i lt. sym (is.above (at + i) (omega arith)) ∙ found.2 (at + i) (omega (arith, lt, tz, behind));
      },
    )

-- and its word
pub rest-word : (block : Block) (rest at k : ℕ) → IsRest block.bits rest at → rest < 2 ^ 64 → (rest ≡ 0 → ⊥) → k ≡ trailing_zeros w64 rest → IsWord block at (block.first + k) (k + 1)
rest-word block rest at k is small some tz =
    let first = rest-first block.bits rest at k is small some tz in
    let same : at + (k - at) ≡ k = omega (arith, first.0) in
    subst (λ (n : ℕ). IsWord block at (block.first + n) (n + 1)) same (next_word block at (k - at) first.1)

-- a number less by one has not its lowest bit, and above that the same bits
bits-pred : (k n : ℕ) → bit_at n k ≡ 1 → ((i : ℕ) → i < k → bit_at n i ≡ 0) → (bit_at (n - 1) k ≡ 0) × ((i : ℕ) → k < i → bit_at (n - 1) i ≡ bit_at n i)
bits-pred zero n one none =
    let odd : n % 2 ≡ 1 = sym (bit_at_lowest n) ∙ one in
    let half : (n - 1) / 2 ≡ n / 2 = omega (arith, odd) in (
      bit_at_lowest (n - 1) ∙ omega (arith, odd),
      λ i lt.
          let next : i ≡ suc (i - 1) = omega (arith, lt) in
          ap (bit_at (n - 1)) next ∙ bit_at-suc (n - 1) (i - 1) ∙ ap (λ (m : ℕ). bit_at m (i - 1)) half ∙ sym (ap (bit_at n) next ∙ bit_at-suc n (i - 1)),
    )
bits-pred (suc k) n one none =
    let even : n % 2 ≡ 0 = sym (bit_at_lowest n) ∙ none 0 (omega arith) in
    let some : n ≡ 0 → ⊥ = λ e. let zero_bit = ap (λ (m : ℕ). bit_at m (suc k)) e ∙ bit_at-zero (suc k) in omega (arith, one, zero_bit) in
    let half : (n - 1) / 2 ≡ n / 2 - 1 = omega (arith, even, some) in
    let each : (i : ℕ) → bit_at (n - 1) (suc i) ≡ bit_at (n / 2 - 1) i = λ i. bit_at-suc (n - 1) i ∙ ap (λ (m : ℕ). bit_at m i) half in
    let rest = bits-pred k (n / 2) (sym (bit_at-suc n k) ∙ one) (λ i lt. sym (bit_at-suc n i) ∙ none (suc i) (omega (arith, lt))) in (
      each k ∙ rest.0,
      λ i lt.
          let next : i ≡ suc (i - 1) = omega (arith, lt) in
          ap (bit_at (n - 1)) next ∙ each (i - 1) ∙ rest.1 (i - 1) (omega (arith, lt)) ∙ sym (ap (bit_at n) next ∙ bit_at-suc n (i - 1)),
    )

-- and without it the others are left
pub rest-less : (bits rest at k : ℕ) → IsRest bits rest at → rest < 2 ^ 64 → (rest ≡ 0 → ⊥) → k ≡ trailing_zeros w64 rest → IsRest bits (bit_and rest (rest - 1)) (k + 1)
rest-less bits rest at k is small some tz =
    let found = bit_at-trailing_zeros w64 rest (omega (arith, some)) small in
    let here : bit_at rest k ≡ 1 = ap (bit_at rest) tz ∙ found.1 in
    let lower : (i : ℕ) → i < k → bit_at rest i ≡ 0 = λ i lt. found.2 i (omega (arith, lt, tz)) in
    let first = rest-first bits rest at k is small some tz in
    let pred = bits-pred k rest here lower in
    let both : (i : ℕ) → bit_at (bit_and rest (rest - 1)) i ≡ min (bit_at rest i) (bit_at (rest - 1) i) = bit_at_and rest (rest - 1) in
    record {
      most = omega (arith, tz, found.0);
      below = λ i lt. elim (cases_eq i k) [
        | inl e ↦ ap (bit_at (bit_and rest (rest - 1))) e ∙ omega (arith, both k, pred.0)
        | inr other ↦ omega (arith, both i, lower i (omega (arith, lt, other)))
      ];
      above = λ i le. omega (arith, both i, pred.1 i (omega (arith, le)), is.above i (omega (arith, le, first.0)));
    }

-- a number that is not 0 has a lowest bit
pub rest-low : (rest : ℕ) → rest < 2 ^ 64 → (rest ≡ 0 → ⊥) → trailing_zeros w64 rest < 64
rest-low rest small some = (bit_at-trailing_zeros w64 rest (omega (arith, some)) small).0

-- the lowest bit is a higher one then
pub rest-later : (bits rest k : ℕ) → IsRest bits rest (k + 1) → rest < 2 ^ 64 → k < trailing_zeros w64 rest
unfolding count_trailing_zeros
rest-later bits zero k is small = let none : trailing_zeros w64 0 ≡ 64 = refl in omega (arith, is.most, none)
rest-later bits (suc n) k is small =
    let found = bit_at-trailing_zeros w64 (suc n) (omega arith) small in
    grind (arith, found.1, is.below (trailing_zeros w64 (suc n)))

-- and where no bit is left they are all
pub all_words : (block : Block) (at : ℕ) → IsRest block.bits 0 at → words_until block at ≡ words_in block
unfolding words_in
all_words block at is =
    let g = has_bit block.bits block.first in
    let whole : at + (64 - at) ≡ 64 = omega (arith, is.most) in
    sym (filter-same g at (64 - at) block.first (λ w least most. ap (λ (b : ℕ). b == 1) (sym (is.above (w - block.first) (omega (arith, least))) ∙ bit_at-zero (w - block.first))))
    ∙ ap (words_until block) whole

-- what holds of all words of a block holds of the next one
pub word-holds : (P : ℕ → Type 0) (block : Block) (at word later : ℕ) → IsWord block at word later → All P (words_in block) → P word
word-holds P block at word later is all = All-head P word is.rest (All-behind P (words_until block at) (word ∷ is.rest) (subst (All P) is.all all))

-- and there is room for it
pub word-room : (block : Block) (at word later : ℕ) → IsWord block at word later → length (words_until block at) < length (words_in block)
word-room block at word later is =
    let all = ap (λ (list : List ℕ). length list) is.all ∙ length-append (words_until block at) (word ∷ is.rest) in
    omega (arith, all)

-- what holds of all words of blocks holds of those of each block
pub block-holds : (P : ℕ → Type 0) (blocks : List Block) (i : ℕ) (d : Block) → i < length blocks → All P (words_of_blocks blocks) → All P (words_in (get_or blocks i d))
block-holds P [] i d within all = absurd (omega (arith, within))
block-holds P (block ∷ blocks) zero d within all = All-first P (words_in block) (words_of_blocks blocks) all
block-holds P (block ∷ blocks) (suc i) d within all = block-holds P blocks i d (omega (arith, within)) (All-behind P (words_in block) (words_of_blocks blocks) all)

-- the words of one block more
pub blocks-take : (blocks : List Block) (i : ℕ) (d : Block) → i < length blocks → words_of_blocks (take (i + 1) blocks) ≡ words_of_blocks (take i blocks) ++ words_in (get_or blocks i d)
blocks-take blocks i d within =
    ap words_of_blocks (take_more blocks i d within) ∙ flat_map-append words_in (take i blocks) (get_or blocks i d ∷ [])
    ∙ ap (λ (list : List ℕ). words_of_blocks (take i blocks) ++ list) (append-nil (words_in (get_or blocks i d)))

-- a block has as many words as bits
pub block-count : (block : Block) → block.bits < 2 ^ 64 → length (words_in block) ≡ ones block.bits
unfolding words_in
block-count block low = words_count 64 block.bits block.first low

-- two lists that grew
pub HasGrown-more : (m n more : ℕ) (old mid new : Halves) → m + n ≡ more → HasGrown m old mid → HasGrown n mid new → HasGrown more old new
HasGrown-more m n more old mid new sum first second = record {
  few_reads = omega (arith, sum, first.few_reads, second.few_reads);
  few_writes = omega (arith, sum, first.few_writes, second.few_writes);
  room_reads = second.room_reads ∙ first.room_reads;
  room_writes = second.room_writes ∙ first.room_writes;
}

-- ---- masks

-- the n lowest bits of a mask are those of a test of places from one on
abbrev pub HasBits : (n mask place : ℕ) → (ℕ → Bool) → Type 0
HasBits zero mask place g = Unit {0}
HasBits (suc n) mask place g = ((mask % 2 == 1) ≡ g place) × HasBits n (mask / 2) (place + 1) g

one : (b : Bool) (cell : ℕ × ℕ) (rest : List (ℕ × ℕ)) → here b cell ++ rest ≡ cond b (cell ∷ rest) rest
one b cell rest = grind arith

masked-is : (n : ℕ) (g : ℕ → Bool) (mask place word : ℕ) → HasBits n mask place g → masked n mask place word ≡ filter (λ cell. g cell.0) (cells place (bytes_of n word))
unfolding masked
masked-is zero g mask place word bits = refl
masked-is (suc n) g mask place word bits =
    (λ i. here (bits.0 i) (place, word % 2 ^ 8) ++ masked-is n g (mask / 2) (place + 1) (word / 2 ^ 8) bits.1 i)
    ∙ one (g place) (place, word % 2 ^ 8) (filter (λ cell. g cell.0) (cells (place + 1) (bytes_of n (word / 2 ^ 8))))

bits-of : (g : ℕ → Bool) (p : ℕ) (a b c d : Bool) → a ≡ g p → b ≡ g (p + 1) → c ≡ g (p + 1 + 1) → d ≡ g (p + 1 + 1 + 1) → HasBits 4 (mask_of a b c d) p g
bits-of g p a b c d e f h i = grind (arith, nat_tests)

pub mask-bits : (q : Status → Bool) (statuses : List Status) (place : ℕ) → HasBits 4 (mask_at q statuses place) place (λ p. q (status_at statuses p))
mask-bits q statuses place = grind (arith, nat_tests, bits-of)

-- those of a word of one status
pub one-status : (q : Status → Bool) (statuses : List Status) (status : Status) (place : ℕ) → HaveStatus statuses status place 4
    → HasBits 4 (mask_of (q status) (q status) (q status) (q status)) place (λ p. q (status_at statuses p))
one-status q statuses status place have = grind (arith, nat_tests, bits-of)

-- ---- words

row_cells : (bytes : List ℕ) (place n : ℕ) → cells place (bytes_at bytes place n) ≡ map (λ p. (p, slice_index bytes p)) (places_from place n)
row_cells bytes place zero = refl
row_cells bytes place (suc n) = ap (λ (list : List (ℕ × ℕ)). (place, slice_index bytes place) ∷ list) (row_cells bytes (place + 1) n)

-- the cells of a word
pub word_cells : (bytes : List ℕ) (place word : ℕ) → AreBytes bytes → word ≡ word_at bytes place → cells place (bytes_of 4 word) ≡ map (λ p. (p, slice_index bytes p)) (places_from place 4)
word_cells bytes place word all is = ap (cells place) (ap (bytes_of 4) is ∙ bytes_of-number_at 4 bytes place all) ∙ row_cells bytes place 4

-- what was pushed by a mask are the places that were read first, or those that were written
pub pushed-reads : (t : Tracing) (place mask word : ℕ) (old new : List (ℕ × ℕ)) → HasBits 4 mask place (λ p. is_read_first (status_at t.statuses p)) → cells place (bytes_of 4 word) ≡ started t (places_from place 4)
    → new ≡ old ++ masked 4 mask place word → new ≡ old ++ read_first t (started t (places_from place 4))
pushed-reads t place mask word old new bits is put =
    let g = λ (p : ℕ). is_read_first (status_at t.statuses p) in
    put ∙ ap (λ (list : List (ℕ × ℕ)). old ++ list) (masked-is 4 g mask place word bits ∙ ap (filter (λ cell. g cell.0)) is)

pub pushed-writes : (t : Tracing) (place mask word : ℕ) (old new : List (ℕ × ℕ)) → HasBits 4 mask place (λ p. is_written (status_at t.statuses p)) → cells place (bytes_of 4 word) ≡ now_at t (places_from place 4)
    → new ≡ old ++ masked 4 mask place word → new ≡ old ++ written t (started t (places_from place 4))
pushed-writes t place mask word old new bits is put =
    let g = λ (p : ℕ). is_written (status_at t.statuses p) in
    put ∙ ap (λ (list : List (ℕ × ℕ)). old ++ list) (masked-is 4 g mask place word bits ∙ ap (filter (λ cell. g cell.0)) is ∙ filter-paired (λ p. slice_index t.state.bytes p) g (places_from place 4) ∙ sym (written-is t (places_from place 4)))

-- nothing was
pub no-reads : (t : Tracing) (place : ℕ) (old : List (ℕ × ℕ)) → HasBits 4 0 place (λ p. is_read_first (status_at t.statuses p)) → AreBytes (origin_of t).bytes
    → old ≡ old ++ read_first t (started t (places_from place 4))
no-reads t place old bits all = grind (arith, nat_tests, append-nil, masked-none, pushed-reads, word_cells)

pub no-writes : (t : Tracing) (place : ℕ) (old : List (ℕ × ℕ)) → HasBits 4 0 place (λ p. is_written (status_at t.statuses p)) → AreBytes t.state.bytes
    → old ≡ old ++ written t (started t (places_from place 4))
no-writes t place old bits all = grind (arith, nat_tests, all, append-nil, masked-none, pushed-writes, word_cells)
