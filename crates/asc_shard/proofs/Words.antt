-- The whole words of a head: their places, and their fingerprint.
use Rattle.std.proofs.Common.{◌≡◌, ◌+◌, ◌*◌, ◌/◌, ◌%◌, ◌^◌, ◌<◌, ℕ, List, [], ◌∷◌, ◌++◌, length, get_or, slice_index, take, set, refl, sym, ap, subst, ◌∙◌, arith}
use Rattle.std.specs.Prelude.{All, sum_by}
use Rattle.std.proofs.lemmas.List.{map-append, take_more, take_more_set}
use Rattle.std.proofs.lemmas.List.Elements.{All-head, All-push, All-tail}
use Rattle.std.proofs.lemmas.List.Sums.{sum_by-append, sum_by-cons}
use Rattle.asc_model.specs.Number.{AreBytes, word_at}
use Rattle.asc_model.specs.State.{State}
use Rattle.asc_model.specs.Entry.{Entry, IsTrueEntry}
use Rattle.asc_traj.specs.declared.part.Part.{Part}
use Rattle.asc_traj.specs.Parts.{all_cells, kept, masked, part_cells, word_place}
use Rattle.asc_traj.proofs.Parts.{cells-push, kept-suc, kept-zero, masked-suc, masked-zero, part, part_cells-is}
use Rattle.asc_shard.specs.declared.heads.Head.{Head}
use Rattle.asc_shard.specs.Fingerprints.{factor, first_reads_of, print_in, weight}
use Rattle.asc_shard.specs.Inside.{AreProducts, IsHead, key_of, places_of, word_places, words_in}
use Rattle.asc_shard.proofs.Keying.{part-sum, sum-places}

-- ---- places

word-push : (words : List ℕ) (word : ℕ) → word_places (words ++ word ∷ []) ≡ word_places words ++ word_places (word ∷ [])
word-push [] word = refl
word-push (w ∷ words) word = ap (λ list. (w * 4) ∷ (w * 4 + 1) ∷ (w * 4 + 2) ∷ (w * 4 + 3) ∷ list) (word-push words word)

whole-cells : (place word : ℕ) → masked 4 15 place word
    ≡ (place, word % 256) ∷ (place + 1, word / 256 % 256) ∷ (place + 1 + 1, word / 256 / 256 % 256) ∷ (place + 1 + 1 + 1, word / 256 / 256 / 256 % 256) ∷ []
whole-cells place word =
    rw (
      masked-suc 3 15 place word,
      masked-suc 2 7 (place + 1) (word / 256),
      masked-suc 1 3 (place + 1 + 1) (word / 256 / 256),
      masked-suc 0 1 (place + 1 + 1 + 1) (word / 256 / 256 / 256),
      masked-zero 0 (place + 1 + 1 + 1 + 1) (word / 256 / 256 / 256 / 256),
    ) refl

one-list : (a b c d e f g h : ℕ) → a ≡ e → b ≡ f → c ≡ g → d ≡ h → a ∷ b ∷ c ∷ d ∷ [] ≡ e ∷ f ∷ g ∷ h ∷ []
one-list a b c d e f g h p q r s = λ i. p i ∷ q i ∷ r i ∷ s i ∷ []

pub part-places : (p : Part) → p.at % 16 ≡ 15 → places_of (part_cells p) ≡ word_places (p.at / 16 ∷ [])
part-places p whole =
    ap places_of (part_cells-is p ∙ ap (λ mask. masked 4 mask (word_place p) p.word) whole ∙ whole-cells (word_place p) p.word)
    ∙ one-list _ _ _ _ _ _ _ _ (omega arith) (omega arith) (omega arith) (omega arith)

pub words-more : (parts : List Part) (words : List ℕ) (i word : ℕ) → i < length parts → i < length words → (get_or parts i (part 0 0)).at % 16 ≡ 15
    → word ≡ (get_or parts i (part 0 0)).at / 16 → places_of (all_cells (take i parts)) ≡ word_places (take i words)
    → places_of (all_cells (take (i + 1) parts)) ≡ word_places (take (i + 1) (set words i word))
words-more parts words i word lt room whole is so_far =
    let p = get_or parts i (part 0 0) in
    ap places_of (ap all_cells (take_more parts i (part 0 0) lt) ∙ cells-push (take i parts) p)
    ∙ map-append (λ (cell : ℕ × ℕ). cell.0) (all_cells (take i parts)) (part_cells p)
    ∙ ap (λ list. list ++ places_of (part_cells p)) so_far
    ∙ ap (λ list. word_places (take i words) ++ list) (part-places p whole ∙ ap (λ w. word_places (w ∷ [])) (sym is))
    ∙ sym (word-push (take i words) word) ∙ ap word_places (sym (take_more_set words i word room))

pub low-more : (words : List ℕ) (i word : ℕ) → i < length words → word < 32 → All (λ w. w < 32) (take i words) → All (λ w. w < 32) (take (i + 1) (set words i word))
low-more words i word room lt low = subst (All (λ w. w < 32)) (sym (take_more_set words i word room)) (All-push (λ w. w < 32) (take i words) word low lt)

-- ---- fingerprints

-- what words count in a fingerprint of a state
abbrev word_sum : State → List ℕ → ℕ
word_sum s words = sum_by (λ w. word_at s.bytes (w * 4) * factor w) words

kept-whole : (word : ℕ) → word < 2 ^ 32 → kept 4 15 word ≡ word
kept-whole word lt =
    rw (kept-suc 3 15 word, kept-suc 2 7 (word / 256), kept-suc 1 3 (word / 256 / 256), kept-suc 0 1 (word / 256 / 256 / 256), kept-zero 0 (word / 256 / 256 / 256 / 256)) (omega (arith, lt))

places-sum : (s : State) (words : List ℕ) → AreBytes s.bytes → ((w : ℕ) → word_at s.bytes (w * 4) < 2 ^ 32)
    → sum_by (λ p. slice_index s.bytes p * weight p) (word_places words) ≡ word_sum s words
places-sum s [] fine fits = refl
places-sum s (w ∷ words) fine fits =
    let f : ℕ → ℕ = λ p. slice_index s.bytes p * weight p in
    let p : Part = record { at = w * 16 + 15; word = 0 } in
    let whole : p.at % 16 ≡ 15 = omega arith in
    let index : p.at / 16 ≡ w = omega arith in
    let one = ap (λ k. sum_by f (word_places (k ∷ []))) (sym index) ∙ ap (sum_by f) (sym (part-places p whole)) ∙ sym (sum-places (slice_index s.bytes) (part_cells p))
    ∙ part-sum s.bytes p fine ∙ (λ i. kept 4 (whole i) (word_at s.bytes (index i * 4)) * factor (index i)) ∙ ap (λ n. n * factor w) (kept-whole (word_at s.bytes (w * 4)) (fits w)) in
    omega (arith, sum_by-append f (word_places (w ∷ [])) (word_places words), one, places-sum s words fine fits, sum_by-cons (λ w. word_at s.bytes (w * 4) * factor w) w words)

products-sum : (s : State) (products words : List ℕ) → AreProducts s products → All (λ w. w < 32) words → sum_by (slice_index products) words % 2 ^ 64 ≡ word_sum s words % 2 ^ 64
products-sum s products [] are low = refl
products-sum s products (w ∷ words) are low =
    let counts = are.counts w (All-head (λ w. w < 32) w words low) in
    let ih = products-sum s products words are (All-tail (λ w. w < 32) w words low) in
    omega (arith, counts, ih, sum_by-cons (slice_index products) w words, sum_by-cons (λ w. word_at s.bytes (w * 4) * factor w) w words)

-- the fingerprint of a head's words is that of each of its entries
pub state-print : (s : State) (e : Entry) (head : Head) → AreBytes s.bytes → ((w : ℕ) → word_at s.bytes (w * 4) < 2 ^ 32) → IsTrueEntry e → IsHead head → 0 < head.len
    → (key_of e).mask ≡ head.mask → word_sum s (words_in head) % 2 ^ 64 ≡ print_in s e
state-print s e head fine fits true_e is some same =
    ap (λ n. n % 2 ^ 64) (sym (places-sum s (words_in head) fine fits) ∙ ap (sum_by (λ p. slice_index s.bytes p * weight p)) (sym (is.places some e true_e same))
    ∙ sym (sum-places (slice_index s.bytes) (first_reads_of e)))

pub words-print : (s : State) (e : Entry) (head : Head) (products : List ℕ) → AreBytes s.bytes → ((w : ℕ) → word_at s.bytes (w * 4) < 2 ^ 32) → IsTrueEntry e → IsHead head → 0 < head.len
    → (key_of e).mask ≡ head.mask → AreProducts s products → sum_by (slice_index products) (words_in head) % 2 ^ 64 ≡ print_in s e
words-print s e head products fine fits true_e is some same are =
    products-sum s products (words_in head) are is.low ∙ state-print s e head fine fits true_e is some same
