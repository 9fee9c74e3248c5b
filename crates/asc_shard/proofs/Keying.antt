-- Fingerprints: those of one mask take the same places, and none hides a match.
use Rattle.std.proofs.lemmas.List.Folds.{fold-map}
use Rattle.std.proofs.Common.{◌≡◌, cond, ◌<◌, ◌≤◌, ◌+◌, ◌*◌, ◌/◌, ◌%◌, ◌^◌, ◌==◌, ◌||◌, ◌++◌, ℕ, zero, suc, Bool, true, false, List, [], ◌∷◌, length, get_or, take, map, slice_index, refl, sym, ap, subst, ◌∙◌, inl, inr, arith, add-one, lit<}
use Rattle.std.proofs.Math.Nat.{pow-suc}
use Rattle.std.specs.Prelude.{All, nat_lt, filter, sum_by, if◌then◌else◌}
use Rattle.std.specs.List.{list_all}
use Rattle.std.specs.List.Sorted.{IsStrictlyIncreasing}
use Rattle.std.proofs.lemmas.List.{take_more}
use Rattle.std.proofs.lemmas.List.Elements.{All-append, All-cons, All-head, All-nil, All-tail, All-filter, All-weaker, filter-append, filter_passes, All-map}
use Rattle.std.proofs.lemmas.List.Kept.{IsStrictlyIncreasing-filter}
use Rattle.std.proofs.lemmas.List.Sums.{AllPass-from_list_all, sum_by-append, sum_by-cons}
use Rattle.std.proofs.lemmas.Bool.{and_parts, eqb-true, eq-eqb, ne_eqb, cases_Bool, cases_eq, ltb-true, le-ltb, lt-ltb}
use Rattle.asc_model.specs.Number.{AreBytes, number_at, word_at}
use Rattle.asc_model.specs.Shape.{is_same_shape}
use Rattle.asc_model.specs.State.{State}
use Rattle.asc_model.specs.Entry.{Entry, IsTrueEntry}
use Rattle.asc_model.specs.DependencyVector.{is_among}
use Rattle.asc_model.proofs.Numbers.{number_at-suc}
use Rattle.asc_model.proofs.Listings.{RisesFrom, RisesFrom-increasing, not_among-RisesFrom, rising_is_filter}
use Rattle.asc_traj.specs.declared.part.Part.{Part}
use Rattle.asc_traj.specs.Content.{matches}
use Rattle.asc_traj.specs.Parts.{IsPart, all_cells, kept, masked, part_cells, word_place}
use Rattle.asc_traj.proofs.Parts.{cells-push, kept-suc, kept-zero, masked-suc, masked-zero, part_cells-is}
use Rattle.asc_shard.specs.Fingerprints.{factor, fingerprint, first_reads_of, may_match, print_in, print_of, weight}
use Rattle.asc_shard.specs.Inside.{bits_of, key_of, mask_of, places_of}

-- ---- bits, one place more

pub bits-suc : (has : ℕ → Bool) (n place : ℕ) → bits_of has (suc n) place ≡ (if has place then 1 else 0) + 2 * bits_of has n (place + 1)
unfolding bits_of
bits-suc has n place = refl

pub bits-zero : (has : ℕ → Bool) (place : ℕ) → bits_of has 0 place ≡ 0
unfolding bits_of
bits-zero has place = refl

-- they fit
bits-small : (has : ℕ → Bool) (n place : ℕ) → bits_of has n place < 2 ^ n
bits-small has zero place = subst (λ b. b < 2 ^ 0) (sym (bits-zero has place)) (lit< tt)
bits-small has (suc n) place =
    let ih = bits-small has n (place + 1) in
    let pow : 2 ^ suc n ≡ 2 ^ n * 2 = pow-suc 2 n in
    rw (bits-suc has n place) (elim (cases_Bool (has place)) [ inl is ↦ rw is (omega (arith, ih, pow)) | inr not ↦ rw not (omega (arith, ih, pow)) ])

-- alike at each of the places
pub bits-alike : (has other : ℕ → Bool) (n place : ℕ) → ((p : ℕ) → place ≤ p → p < place + n → has p ≡ other p) → bits_of has n place ≡ bits_of other n place
bits-alike has other zero place same = bits-zero has place ∙ sym (bits-zero other place)
bits-alike has other (suc n) place same =
    rw (bits-suc has n place, bits-suc other n place, same place (omega arith) (omega arith), bits-alike has other n (place + 1) (λ p least most. same p (omega arith) (omega arith))) refl

-- ---- what bits tell

odd : (b : Bool) (rest : ℕ) → (((if b then 1 else 0) + 2 * rest) % 2 == 1) ≡ b
odd true rest = eq-eqb ((1 + 2 * rest) % 2) 1 (omega arith)
odd false rest = ne_eqb ((0 + 2 * rest) % 2) 1 (λ e. omega arith)

half : (b : Bool) (rest : ℕ) → ((if b then 1 else 0) + 2 * rest) / 2 ≡ rest
half true rest = omega arith
half false rest = omega arith

bits-tell : (f g : ℕ → Bool) (n place : ℕ) → bits_of f n place ≡ bits_of g n place → (p : ℕ) → place ≤ p → p < place + n → f p ≡ g p
bits-tell f g zero place e p least most = absurd (omega arith)
bits-tell f g (suc n) place e p least most =
    let both = sym (bits-suc f n place) ∙ e ∙ bits-suc g n place in
    let first : f place ≡ g place = sym (odd (f place) (bits_of f n (place + 1))) ∙ ap (λ b. b % 2 == 1) both ∙ odd (g place) (bits_of g n (place + 1)) in
    let rest = sym (half (f place) (bits_of f n (place + 1))) ∙ ap (λ b. b / 2) both ∙ half (g place) (bits_of g n (place + 1)) in
    elim (cases_eq p place) [
      | inl is ↦ ap f is ∙ first ∙ ap g (sym is)
      | inr apart ↦ bits-tell f g n (place + 1) rest p (omega (arith, apart)) (omega arith)
    ]

-- ---- the first reads of an entry

pub places-filter : (g : ℕ → Bool) (cells : List (ℕ × ℕ)) → places_of (filter (λ cell. g cell.0) cells) ≡ filter g (places_of cells)
places-filter g [] = refl
places-filter g (cell ∷ cells) = elim (cases_Bool (g cell.0)) [
  | inl e ↦ rw e (ap (λ list. cell.0 ∷ list) (places-filter g cells))
  | inr e ↦ rw e (places-filter g cells)
]

pub first-rise : (e : Entry) → IsTrueEntry e → IsStrictlyIncreasing (places_of (first_reads_of e))
first-rise e true_e =
    subst IsStrictlyIncreasing (sym (places-filter (λ p. nat_lt p 128) e.reads))
    (IsStrictlyIncreasing-filter (λ p. nat_lt p 128) (places_of e.reads) true_e.entry.reads.rise)

-- entries of one mask have the same first places
pub same-places : (a b : Entry) → IsTrueEntry a → IsTrueEntry b → (key_of a).mask ≡ (key_of b).mask
    → places_of (first_reads_of a) ≡ places_of (first_reads_of b)
same-places a b true_a true_b e =
    let xs = places_of (first_reads_of a) in
    let ys = places_of (first_reads_of b) in
    let low = λ (e : Entry). All-map (λ p. p < 128) (λ (cell : ℕ × ℕ). cell.0) (first_reads_of e)
    (All-weaker (λ cell. nat_lt cell.0 128 ≡ true) (λ cell. cell.0 < 128) (λ cell lt. ltb-true cell.0 128 lt) (first_reads_of e) (filter_passes (λ cell. nat_lt cell.0 128) e.reads)) in
    rising_is_filter (λ p. is_among p xs) 128 xs (first-rise a true_a) (low a) (λ p lt. refl)
    ∙ sym (rising_is_filter (λ p. is_among p xs) 128 ys (first-rise b true_b) (low b)
    (λ p lt. sym (bits-tell (λ q. is_among q xs) (λ q. is_among q ys) 128 0 e p (omega arith) (omega arith))))

-- a sum over cells that looks at places alone
pub sum-places : (at : ℕ → ℕ) (cells : List (ℕ × ℕ)) → sum_by (λ cell. at cell.0 * weight cell.0) cells ≡ sum_by (λ p. at p * weight p) (places_of cells)
sum-places at cells = sym (fold-map (λ (a p : ℕ). a + at p * weight p) (λ (cell : ℕ × ℕ). cell.0) 0 cells)

-- and of those a state has one fingerprint
pub same-print : (s : State) (a b : Entry) → IsTrueEntry a → IsTrueEntry b → (key_of a).mask ≡ (key_of b).mask → print_in s a ≡ print_in s b
same-print s a b true_a true_b e =
    ap (λ (n : ℕ). n % 2 ^ 64) (sum-places (slice_index s.bytes) (first_reads_of a)
    ∙ ap (sum_by (λ p. slice_index s.bytes p * weight p)) (same-places a b true_a true_b e)
    ∙ sym (sum-places (slice_index s.bytes) (first_reads_of b)))

-- ---- no match is hidden

same-sum : (at : ℕ → ℕ) (cells : List (ℕ × ℕ)) → All (λ cell. (at cell.0 == cell.1) ≡ true) cells
    → sum_by (λ cell. at cell.0 * weight cell.0) cells ≡ sum_by (λ cell. cell.1 * weight cell.0) cells
same-sum at [] all = refl
same-sum at (cell ∷ cells) all =
    let same = eqb-true (at cell.0) cell.1 (All-head (λ c. (at c.0 == c.1) ≡ true) cell cells all) in
    let rest = same-sum at cells (All-tail (λ c. (at c.0 == c.1) ≡ true) cell cells all) in
    rw (sum_by-cons (λ (c : ℕ × ℕ). at c.0 * weight c.0) cell cells, sum_by-cons (λ (c : ℕ × ℕ). c.1 * weight c.0) cell cells, same, rest) refl

pub none-hidden : (s : State) (e : Entry) → matches s e ≡ true → may_match s e ≡ true
none-hidden s e h =
    let fits = λ (cell : ℕ × ℕ). slice_index s.bytes cell.0 == cell.1 in
    let all = AllPass-from_list_all fits e.reads (and_parts (is_same_shape s.shape e.shape) (list_all fits e.reads) h).1 in
    eq-eqb (print_in s e) (print_of e) (ap (λ (n : ℕ). n % 2 ^ 64) (same-sum (slice_index s.bytes) (first_reads_of e)
    (All-filter (λ cell. nat_lt cell.0 128) (λ cell. fits cell ≡ true) e.reads all)))

-- ---- the first parts

rise-none : (low : ℕ) (cells : List (ℕ × ℕ)) → 128 ≤ low → RisesFrom low (places_of cells) → filter (λ cell. nat_lt cell.0 128) cells ≡ []
rise-none low [] least rise = refl
rise-none low (cell ∷ cells) least rise =
    rw (le-ltb cell.0 128 (omega (arith, rise.0))) (rise-none (cell.0 + 1) cells (omega (arith, rise.0)) rise.1)

filter-all : (p : ℕ × ℕ → Bool) (cells : List (ℕ × ℕ)) → All (λ cell. p cell ≡ true) cells → filter p cells ≡ cells
filter-all p [] all = refl
filter-all p (cell ∷ cells) all =
    rw (All-head (λ c. p c ≡ true) cell cells all) (ap (λ list. cell ∷ list) (filter-all p cells (All-tail (λ c. p c ≡ true) cell cells all)))

-- places of a part are in its word
masked-between : (P : ℕ × ℕ → Type 0) (n mask place word : ℕ) → ((cell : ℕ × ℕ) → place ≤ cell.0 → cell.0 < place + n → P cell) → All P (masked n mask place word)
masked-between P zero mask place word each = subst (All P) (sym (masked-zero mask place word)) (All-nil P)
masked-between P (suc n) mask place word each =
    let rest = masked-between P n (mask / 2) (place + 1) (word / 256) (λ cell least most. each cell (omega arith) (omega arith)) in
    rw (masked-suc n mask place word) (elim (cases_Bool (mask % 2 == 1)) [
      | inl is ↦ rw is (All-cons P (place, word % 256) (masked n (mask / 2) (place + 1) (word / 256)) (each (place, word % 256) (omega arith) (omega arith)) rest)
      | inr not ↦ rw not rest
    ])

part-between : (P : ℕ × ℕ → Type 0) (p : Part) → ((cell : ℕ × ℕ) → word_place p ≤ cell.0 → cell.0 < word_place p + 4 → P cell) → All P (part_cells p)
part-between P p each = subst (All P) (sym (part_cells-is p)) (masked-between P 4 (p.at % 16) (word_place p) p.word each)

pub cells-between : (P : ℕ × ℕ → Type 0) (parts : List Part) → All (λ p. (cell : ℕ × ℕ) → word_place p ≤ cell.0 → cell.0 < word_place p + 4 → P cell) parts → All P (all_cells parts)
cells-between P [] each = All-nil P
cells-between P (p ∷ parts) each = All-append P (part_cells p) (all_cells parts) (part-between P p (each 0 p (omega arith))) (cells-between P parts (λ k d lt. each (suc k) d (omega arith)))

rise-tail : (low : ℕ) (a b : List (ℕ × ℕ)) → RisesFrom low (places_of (a ++ b)) → (next : ℕ) × (low ≤ next) × RisesFrom next (places_of b)
rise-tail low [] b rise = (low, omega arith, rise)
rise-tail low (cell ∷ a) b rise =
    let rest = rise-tail (cell.0 + 1) a b rise.1 in
    (rest.0, omega (arith, rise.0, rest.1), rest.2)

-- what is high from the first place on
rise-high : (low : ℕ) (a b : List (ℕ × ℕ)) → 0 < length a → All (λ cell. 128 ≤ cell.0) a → RisesFrom low (places_of (a ++ b)) → RisesFrom 128 (places_of (a ++ b))
rise-high low [] b some high rise = absurd (omega arith)
rise-high low (cell ∷ a) b some high rise = (All-head (λ c. 128 ≤ c.0) cell a high, rise.1)

masked-some : (n mask place word : ℕ) → 0 < mask → mask < 2 ^ n → 0 < length (masked n mask place word)
masked-some zero mask place word some low = absurd (let few : mask < 1 = low in omega arith)
masked-some (suc n) mask place word some low = rw (masked-suc n mask place word) (elim (cases_eq (mask % 2) 1) [
  | inl odd ↦ rw (eq-eqb (mask % 2) 1 odd) (omega arith)
  | inr even ↦ rw (ne_eqb (mask % 2) 1 even)
      (masked-some n (mask / 2) (place + 1) (word / 256) (omega (arith, even)) (let pow : mask < 2 ^ n * 2 = subst (λ (p : ℕ). mask < p) (pow-suc 2 n) low in omega (arith, pow)))
])

part-some : (p : Part) → IsPart p → 0 < length (part_cells p)
part-some p is = subst (λ (list : List (ℕ × ℕ)). 0 < length list) (sym (part_cells-is p)) (masked-some 4 (p.at % 16) (word_place p) p.word is.some (let lt : p.at % 16 < 16 = omega arith in lt))

-- the parts up to the first one of a high word have the first reads
pub first-split : (low : ℕ) (parts : List Part) (i : ℕ) (d : Part) → All IsPart parts → RisesFrom low (places_of (all_cells parts)) → i ≤ length parts
    → ((k : ℕ) → k < i → (get_or parts k d).at < 512) → (i < length parts → 512 ≤ (get_or parts i d).at)
    → all_cells (take i parts) ≡ filter (λ cell. nat_lt cell.0 128) (all_cells parts)
first-split low [] zero d are rise most before next = refl
first-split low [] (suc i) d are rise most before next = absurd (omega arith)
first-split low (p ∷ parts) zero d are rise most before next =
    let high = next (omega arith) in
    let all = part-between (λ cell. 128 ≤ cell.0) p (λ cell least below. omega (arith, high)) in
    sym (rise-none 128 (all_cells (p ∷ parts)) (omega arith) (rise-high low (part_cells p) (all_cells parts) (part-some p (All-head IsPart p parts are)) all rise))
first-split low (p ∷ parts) (suc i) d are rise most before next =
    let here_low = before 0 (omega arith) in
    let all = part-between (λ cell. nat_lt cell.0 128 ≡ true) p (λ cell least below. lt-ltb cell.0 128 (omega (arith, here_low))) in
    let rest = rise-tail low (part_cells p) (all_cells parts) rise in
    ap (λ list. part_cells p ++ list) (first-split rest.0 parts i d (All-tail IsPart p parts are) rest.2 (omega arith) (λ k lt. before (suc k) (omega arith)) (λ lt. next (omega arith)))
    ∙ ap (λ list. list ++ filter (λ cell. nat_lt cell.0 128) (all_cells parts)) (sym (filter-all (λ cell. nat_lt cell.0 128) (part_cells p) all))
    ∙ sym (filter-append (λ cell. nat_lt cell.0 128) (part_cells p) (all_cells parts))

pub first-of-entry : (e : Entry) (parts : List Part) (i : ℕ) (d : Part) → IsTrueEntry e → all_cells parts ≡ e.reads → All IsPart parts → i ≤ length parts
    → ((k : ℕ) → k < i → (get_or parts k d).at < 512) → (i < length parts → 512 ≤ (get_or parts i d).at)
    → all_cells (take i parts) ≡ first_reads_of e
first-of-entry e parts i d true_e is are most before next =
    first-split 0 parts i d are (subst (λ (list : List (ℕ × ℕ)). RisesFrom 0 (places_of list)) (sym is) (RisesFrom-increasing 0 (places_of e.reads) true_e.entry.reads.rise (λ lt. omega arith))) most before next
    ∙ ap (filter (λ cell. nat_lt cell.0 128)) is

-- ---- what a word counts

weight-at : (index k : ℕ) → k < 4 → weight (index * 4 + k) ≡ factor index * 256 ^ k
unfolding weight
weight-at index k lt =
    let word : (index * 4 + k) / 4 ≡ index = omega arith in
    let byte : (index * 4 + k) % 4 ≡ k = omega arith in
    λ i. factor (word i) * 256 ^ byte i

-- the bytes of a word weigh together as the word does
masked-weigh : (n k mask place word index : ℕ) → n + k ≡ 4 → place ≡ index * 4 + k
    → sum_by (λ cell. cell.1 * weight cell.0) (masked n mask place word) ≡ kept n mask word * (256 ^ k * factor index)
masked-weigh zero k mask place word index count there = rw (masked-zero mask place word, kept-zero mask word) (omega arith)
masked-weigh (suc n) k mask place word index count there =
    let rest = masked n (mask / 2) (place + 1) (word / 256) in
    let ih = masked-weigh n (suc k) (mask / 2) (place + 1) (word / 256) index (omega arith) (omega arith) in
    rw (masked-suc n mask place word, kept-suc n mask word) (elim (cases_Bool (mask % 2 == 1)) [
      | inl is ↦ rw (is, sum_by-cons (λ (cell : ℕ × ℕ). cell.1 * weight cell.0) (place, word % 256) rest, ih, ap weight there ∙ weight-at index k (omega arith), pow-suc 256 k) (omega arith)
      | inr not ↦ rw (not, ih, pow-suc 256 k) (omega arith)
    ])

part-weigh : (p : Part) (word : ℕ) → sum_by (λ cell. cell.1 * weight cell.0) (masked 4 (p.at % 16) (word_place p) word) ≡ kept 4 (p.at % 16) word * factor (p.at / 16)
part-weigh p word = masked-weigh 4 0 (p.at % 16) (word_place p) word (p.at / 16) refl (omega arith) ∙ omega arith

-- the bytes of a state at the places of a mask are those of its word
pub masked-at : (n mask place word : ℕ) (bytes : List ℕ) → AreBytes bytes
    → map {B = ℕ × ℕ} (λ cell. (cell.0, slice_index bytes cell.0)) (masked n mask place word) ≡ masked n mask place (number_at n bytes place)
masked-at zero mask place word bytes fine = rw (masked-zero mask place word, masked-zero mask place (number_at 0 bytes place)) refl
masked-at (suc n) mask place word bytes fine =
    let b = slice_index bytes place in
    let r = number_at n bytes (place + 1) in
    let low : (b + 256 * r) % 256 ≡ b = omega (arith, fine place) in
    let high : (b + 256 * r) / 256 ≡ r = omega (arith, fine place) in
    rw (number_at-suc n bytes place, masked-suc n mask place word, masked-suc n mask place (b + 256 * r), low, high, sym (masked-at n (mask / 2) (place + 1) (word / 256) bytes fine))
    (elim (cases_Bool (mask % 2 == 1)) [ inl is ↦ rw is refl | inr not ↦ rw not refl ])

-- a fingerprint with one part more
more-of : (byte : ℕ × ℕ → ℕ) (parts : List Part) (i : ℕ) (d : Part) (t : ℕ) → i < length parts → sum_by (λ cell. byte cell * weight cell.0) (part_cells (get_or parts i d)) ≡ t
    → (fingerprint byte (all_cells (take i parts)) + t) % 2 ^ 64 ≡ fingerprint byte (all_cells (take (i + 1) parts))
more-of byte parts i d t lt is =
    let w : ℕ × ℕ → ℕ = λ cell. byte cell * weight cell.0 in
    let more = ap (sum_by w) (ap all_cells (take_more parts i d lt) ∙ cells-push (take i parts) (get_or parts i d))
    ∙ sum_by-append w (all_cells (take i parts)) (part_cells (get_or parts i d)) in
    omega (arith, more, is)

pub print-more : (parts : List Part) (i : ℕ) (d : Part) → i < length parts → IsPart (get_or parts i d)
    → (fingerprint (λ cell. cell.1) (all_cells (take i parts)) + (get_or parts i d).word * factor ((get_or parts i d).at / 16)) % 2 ^ 64
    ≡ fingerprint (λ cell. cell.1) (all_cells (take (i + 1) parts))
print-more parts i d lt is =
    let p = get_or parts i d in
    more-of (λ cell. cell.1) parts i d _ lt (ap (sum_by (λ (cell : ℕ × ℕ). cell.1 * weight cell.0)) (part_cells-is p) ∙ part-weigh p p.word ∙ ap (λ (w : ℕ). w * factor (p.at / 16)) is.kept)

-- what the bytes of a state at the places of a part count
pub part-sum : (bytes : List ℕ) (p : Part) → AreBytes bytes
    → sum_by (λ cell. slice_index bytes cell.0 * weight cell.0) (part_cells p) ≡ kept 4 (p.at % 16) (word_at bytes (word_place p)) * factor (p.at / 16)
part-sum bytes p fine =
    let place = word_place p in
    ap (sum_by (λ (cell : ℕ × ℕ). slice_index bytes cell.0 * weight cell.0)) (part_cells-is p)
    ∙ sym (fold-map (λ (a : ℕ) (cell : ℕ × ℕ). a + cell.1 * weight cell.0) (λ (cell : ℕ × ℕ). (cell.0, slice_index bytes cell.0)) 0 (masked 4 (p.at % 16) place p.word))
    ∙ ap (sum_by (λ (cell : ℕ × ℕ). cell.1 * weight cell.0)) (masked-at 4 (p.at % 16) place p.word bytes fine)
    ∙ part-weigh p (word_at bytes place)

pub print-in-more : (bytes : List ℕ) (parts : List Part) (i : ℕ) (d : Part) → i < length parts → AreBytes bytes
    → (fingerprint (λ cell. slice_index bytes cell.0) (all_cells (take i parts)) + kept 4 ((get_or parts i d).at % 16) (word_at bytes (word_place (get_or parts i d))) * factor ((get_or parts i d).at / 16)) % 2 ^ 64
    ≡ fingerprint (λ cell. slice_index bytes cell.0) (all_cells (take (i + 1) parts))
print-in-more bytes parts i d lt fine = more-of (λ cell. slice_index bytes cell.0) parts i d _ lt (part-sum bytes (get_or parts i d) fine)

-- ---- the bits of parts

abbrev pub bits_in : List (ℕ × ℕ) → ℕ
bits_in cells = sum_by (λ cell. 2 ^ cell.0) cells

next-power : (place : ℕ) → 2 ^ (place + 1) ≡ 2 ^ place * 2
next-power place = ap (λ k. 2 ^ k) (add-one place) ∙ pow-suc 2 place

twice : (m b h p q : ℕ) → m ≡ b + 2 * h → q ≡ b * p → q + h * (p * 2) ≡ m * p
twice m b h p q e k = rw (e, k) (omega arith)

-- those of a mask, from a place on
masked-bits : (n mask place word : ℕ) → mask < 2 ^ n → bits_in (masked n mask place word) ≡ mask * 2 ^ place
masked-bits zero mask place word lt =
    let few : mask < 1 = lt in
    let none : mask ≡ 0 = omega (arith, few) in
    rw (masked-zero mask place word, none) (omega arith)
masked-bits (suc n) mask place word lt =
    let rest = masked n (mask / 2) (place + 1) (word / 256) in
    let pow : mask < 2 ^ n * 2 = subst (λ (p : ℕ). mask < p) (pow-suc 2 n) lt in
    let ih = masked-bits n (mask / 2) (place + 1) (word / 256) (omega (arith, pow)) in
    rw (masked-suc n mask place word) (elim (cases_eq (mask % 2) 1) [
      | inl is ↦ rw (eq-eqb (mask % 2) 1 is, sum_by-cons (λ (cell : ℕ × ℕ). 2 ^ cell.0) (place, word % 256) rest, ih, next-power place)
          (twice mask 1 (mask / 2) (2 ^ place) (2 ^ place) (omega (arith, is)) (omega arith))
      | inr even ↦ rw (ne_eqb (mask % 2) 1 even, ih, next-power place) (omega (arith, twice mask 0 (mask / 2) (2 ^ place) 0 (omega (arith, even)) (omega arith)))
    ])

pub part-bits : (p : Part) → bits_in (part_cells p) ≡ p.at % 16 * 2 ^ word_place p
part-bits p = ap bits_in (part_cells-is p) ∙ masked-bits 4 (p.at % 16) (word_place p) p.word (let lt : p.at % 16 < 16 = omega arith in lt)

bits-step : (f : ℕ → Bool) (n low sum : ℕ) → sum ≡ 2 ^ (low + 1) * bits_of f n (low + 1) → cond (f low) (2 ^ low) 0 + sum ≡ 2 ^ low * bits_of f (suc n) low
bits-step f n low sum e = rw (bits-suc f n low, e, next-power low) (elim (cases_Bool (f low)) [ inl is ↦ rw is (omega arith) | inr not ↦ rw not (omega arith) ])

-- the sum of the bits of rising places has just these
rising-bits : (n low : ℕ) (places : List ℕ) → RisesFrom low places → All (λ p. p < low + n) places → sum_by (λ p. 2 ^ p) places ≡ 2 ^ low * bits_of (λ p. is_among p places) n low
rising-bits zero low [] rise below = rw (bits-zero (λ p. is_among p []) low) (omega arith)
rising-bits zero low (p ∷ places) rise below = absurd (let lt = All-head (λ q. q < low + 0) p places below in omega (arith, rise.0, lt))
rising-bits (suc n) low [] rise below = omega (arith, bits-step (λ p. is_among p []) n low 0 (rising-bits n (low + 1) [] tt (λ k d lt. absurd (omega arith))))
rising-bits (suc n) low (p ∷ places) rise below =
    let f : ℕ → Bool = λ q. is_among q (p ∷ places) in
    let under = λ (k d : ℕ) (lt : k < length (p ∷ places)). let most = below k d lt in (let e : get_or (p ∷ places) k d < low + 1 + n = omega (arith, most) in e) in
    let bit = λ (b : Bool) (is : f low ≡ b). ap (λ (b : Bool). cond b (2 ^ low) 0) is in
    elim (cases_eq p low) [
      | inl first ↦
          let rest = rising-bits n (low + 1) places (subst (λ (q : ℕ). RisesFrom (q + 1) places) first rise.1) (All-tail (λ q. q < low + 1 + n) p places under)
          ∙ ap (λ (b : ℕ). 2 ^ (low + 1) * b) (bits-alike (λ q. is_among q places) f n (low + 1)
          (λ q least most. ap (λ (b : Bool). b || is_among q places) (sym (ne_eqb p q (λ e. omega (arith, e, first, least)))))) in
          let here = bit true (ap (λ (b : Bool). b || is_among low places) (eq-eqb p low first)) in
          omega (arith, sum_by-cons (λ q. 2 ^ q) p places, ap (λ (q : ℕ). 2 ^ q) first, here, bits-step f n low _ rest)
      | inr apart ↦
          let later : RisesFrom (low + 1) (p ∷ places) = (omega (arith, rise.0, apart), rise.1) in
          let here = bit false (not_among-RisesFrom (low + 1) low (p ∷ places) later (omega arith)) in
          omega (arith, here, bits-step f n low _ (rising-bits n (low + 1) (p ∷ places) later under))
    ]

pub mask-is : (parts : List Part) → All (λ p. p.at < 512) parts → IsStrictlyIncreasing (places_of (all_cells parts)) → bits_in (all_cells parts) ≡ mask_of (places_of (all_cells parts))
mask-is parts low rise =
    let cells = all_cells parts in
    let below = cells-between (λ cell. cell.0 < 128) parts (λ k d lt cell least below. omega (arith, low k d lt, below)) in
    sym (fold-map (λ (a p : ℕ). a + 2 ^ p) (λ (cell : ℕ × ℕ). cell.0) 0 cells)
    ∙ rising-bits 128 0 (places_of cells) (RisesFrom-increasing 0 (places_of cells) rise (λ lt. omega arith)) (All-map (λ p. p < 128) (λ (cell : ℕ × ℕ). cell.0) cells below) ∙ omega arith

-- one part more
pub bits-one : (parts : List Part) (i : ℕ) (d : Part) → i < length parts → bits_in (all_cells (take i parts)) + (get_or parts i d).at % 16 * 2 ^ word_place (get_or parts i d) ≡ bits_in (all_cells (take (i + 1) parts))
bits-one parts i d lt =
    let p = get_or parts i d in
    let more = ap bits_in (ap all_cells (take_more parts i d lt) ∙ cells-push (take i parts) p) ∙ sum_by-append (λ (cell : ℕ × ℕ). 2 ^ cell.0) (all_cells (take i parts)) (part_cells p) in
    omega (arith, more, part-bits p)

-- and no more than all
bits-grow : (parts : List Part) (i : ℕ) → bits_in (all_cells (take i parts)) ≤ bits_in (all_cells parts)
bits-grow parts zero = omega arith
bits-grow [] (suc i) = omega arith
bits-grow (p ∷ parts) (suc i) =
    let more = bits-grow parts i in
    let first = sum_by-append (λ (cell : ℕ × ℕ). 2 ^ cell.0) (part_cells p) (all_cells (take i parts)) in
    let all = sum_by-append (λ (cell : ℕ × ℕ). 2 ^ cell.0) (part_cells p) (all_cells parts) in
    omega (arith, more, first, all)

pub bits-room : (parts : List Part) (i : ℕ) (d : Part) → i < length parts → All (λ p. p.at < 512) parts → IsStrictlyIncreasing (places_of (all_cells parts))
    → bits_in (all_cells (take i parts)) + (get_or parts i d).at % 16 * 2 ^ word_place (get_or parts i d) < 2 ^ 128
bits-room parts i d lt low rise = omega (arith, bits-one parts i d lt, bits-grow parts (i + 1), mask-is parts low rise, bits-small (λ p. is_among p (places_of (all_cells parts))) 128 0)
