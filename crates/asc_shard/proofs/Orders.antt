-- Which of two entries is first.
use Rattle.std.proofs.Common.{◌≡◌, ℕ, zero, suc, ◌+◌, ◌*◌, ◌/◌, ◌%◌, ◌<◌, ◌≤◌, true, false, cond, ◌==◌, nat_lt, List, [], ◌∷◌, ◌++◌, length, drop, get_or, slice_index, map, refl, sym, ap, subst, ◌∙◌, inl, inr, ◌⊎◌, arith}
use Rattle.std.specs.Ordering.{MatchOrdering, nat_cmp, ordering_then, on, is_lt, is_le, is_eq, is_ne, ordering_reverse}
use Rattle.std.specs.Cmp.{IsTotalOrder}
use Rattle.std.specs.Cmp.Lexicographic.{slice_cmp}
use Rattle.std.specs.declared.cmp.Ordering.{Ordering}
use Rattle.std.specs.declared.cmp.Ordering.TheVariants.{Less, Equal, Greater}
use Rattle.std.proofs.lemmas.Cmp.{ranked, tied_itself, alike_right, on_total, then_total, nat_cmp_total, nat_list_cmp_total}
use Rattle.std.proofs.lemmas.Bool.{and_parts, eqb-true, cases_Bool, false≢true, cond-true, cond-false, lt-ltb, le-ltb, ne_eqb}
use Rattle.std.proofs.lemmas.List.{drop_more, map-append}
use Rattle.std.specs.List.{list_all}
use Rattle.std.specs.Prelude.{All}
use Rattle.std.proofs.lemmas.List.Elements.{All-drop}
use Rattle.asc_model.specs.Shape.{Shape, length_of}
use Rattle.asc_model.specs.State.{State}
use Rattle.asc_traj.specs.declared.part.Part.{Part}
use Rattle.asc_traj.specs.Parts.{IsPart, all_cells, cells_from, first_from, masked, part_cells, word_place}
use Rattle.asc_traj.proofs.Parts.{cells-all, cells-is, masked-suc, masked-zero, part, part_cells-is, parts-within}
use Rattle.asc_traj.proofs.Matching.{length_whole}
use Rattle.asc_model.specs.Entry.{Entry, IsTrueEntry}
use Rattle.asc_shard.specs.declared.key.Key.{Key}
use Rattle.asc_shard.proofs.Keying.{cells-between}
use Rattle.asc_shard.specs.Inside.{key_of, places_of, bytes_at, bytes_of, rank_of, by_key, by_shape, by_group, by_head, by_all}

-- ---- numbers

pub nat-less : (a b : ℕ) → nat_cmp a b ≡ Less → a < b
nat-less a b e = subst (λ o. MatchOrdering o (a < b) (a ≡ b) (b < a)) e (ranked a b (nat_cmp a b) refl)

pub nat-equal : (a b : ℕ) → nat_cmp a b ≡ Equal → a ≡ b
nat-equal a b e = subst (λ o. MatchOrdering o (a < b) (a ≡ b) (b < a)) e (ranked a b (nat_cmp a b) refl)

pub nat-same : (a b : ℕ) → a ≡ b → nat_cmp a b ≡ Equal
nat-same a b e = ap (nat_cmp a) (sym e) ∙ tied_itself nat_cmp_total a

pub nat-is-less : (a b : ℕ) → a < b → nat_cmp a b ≡ Less
nat-is-less a b lt = cond-true (nat_lt a b) Less (cond (a == b) Equal Greater) (lt-ltb a b lt)

pub nat-is-greater : (a b : ℕ) → b < a → nat_cmp a b ≡ Greater
nat-is-greater a b gt =
    cond-false (nat_lt a b) Less (cond (a == b) Equal Greater) (le-ltb a b (omega arith))
    ∙ cond-false (a == b) Equal Greater (ne_eqb a b (λ e. omega arith))

-- ---- one order and then another

pub then-equal : (o r : Ordering) → ordering_then o r ≡ Equal → (o ≡ Equal) × (r ≡ Equal)
then-equal Less r e = cc
then-equal Equal r e = (refl, e)
then-equal Greater r e = cc

pub then-both : (o r : Ordering) → o ≡ Equal → r ≡ Equal → ordering_then o r ≡ Equal
then-both o r e h = ap (λ x. ordering_then x r) e ∙ h

-- an order that is not the first one's
pub not-less : (o : Ordering) → is_lt o ≡ false → (o ≡ Equal) ⊎ (o ≡ Greater)
not-less Less e = cc
not-less Equal e = inl refl
not-less Greater e = inr refl

-- ---- the orders are total

pub keys_total : IsTotalOrder by_key
keys_total = then_total (on_total (λ (m : Key). m.mask) nat_cmp_total) (on_total (λ (m : Key). m.print) nat_cmp_total)

pub shapes_total : IsTotalOrder by_shape
shapes_total = then_total (on_total (λ (shape : Shape). shape.base) nat_cmp_total)
    (then_total (on_total (λ (shape : Shape). shape.size) nat_cmp_total) (on_total (λ (shape : Shape). rank_of shape.version) nat_cmp_total))

pub groups_total : IsTotalOrder by_group
groups_total = then_total (on_total (λ (e : Entry). e.shape) shapes_total) (on_total (λ (e : Entry). places_of e.reads) nat_list_cmp_total)

pub heads_total : IsTotalOrder by_head
heads_total = then_total (on_total key_of keys_total) groups_total

pub bytes_total : IsTotalOrder (on (λ (e : Entry). bytes_of e.reads) (slice_cmp nat_cmp))
bytes_total = on_total (λ (e : Entry). bytes_of e.reads) nat_list_cmp_total

pub all_total : IsTotalOrder by_all
all_total = then_total heads_total (then_total bytes_total (on_total (λ (e : Entry). e.steps) nat_cmp_total))

-- ---- up to and before, in a total order

pub is-less : (o : Ordering) → is_lt o ≡ true → o ≡ Less
is-less Less e = refl
is-less Equal e = cc
is-less Greater e = cc

pub le-cases : (o : Ordering) → is_le o ≡ true → (o ≡ Less) ⊎ (o ≡ Equal)
le-cases Less e = inl refl
le-cases Equal e = inr refl
le-cases Greater e = cc

module _ {K : Type 0} {R : K → K → Ordering} (o : IsTotalOrder R) where
  pub le-lt : (a b w : K) → is_le (R a b) ≡ true → R b w ≡ Less → R a w ≡ Less
  le-lt a b w h k = elim (le-cases (R a b) h) [
    | inl less ↦ o.trans a b w less k
    | inr equal ↦ o.congr a b w equal ∙ k
  ]

  pub lt-le : (a b w : K) → R a b ≡ Less → is_le (R b w) ≡ true → R a w ≡ Less
  lt-le a b w h k = elim (le-cases (R b w) k) [
    | inl less ↦ o.trans a b w h less
    | inr equal ↦ sym (alike_right o b w a equal) ∙ h
  ]

  pub self-le : (a : K) → is_le (R a a) ≡ true
  self-le a = ap is_le (tied_itself o a)

-- a part of an order that is up to
pub then-up : (o r : Ordering) → is_le (ordering_then o r) ≡ true → is_le o ≡ true
then-up Less r e = refl
then-up Equal r e = refl
then-up Greater r e = cc

pub then-rest : (o r : Ordering) → o ≡ Equal → ordering_then o r ≡ r
then-rest o r e = ap (λ x. ordering_then x r) e

-- ---- rows that rise

module _ {K : Type 0} {R : K → K → Ordering} (o : IsTotalOrder R) (at : ℕ → K) (low high : ℕ) (up : (i j : ℕ) → low ≤ i → i ≤ j → j < high → is_le (R (at i) (at j)) ≡ true) where
  pub less-below : (e : K) (m i : ℕ) → low ≤ i → i ≤ m → m < high → R (at m) e ≡ Less → R (at i) e ≡ Less
  less-below e m i least le lt h = le-lt o (at i) (at m) e (up i m least le lt) h

  pub not-less-above : (e : K) (m i : ℕ) → low ≤ m → m ≤ i → i < high → is_lt (R (at m) e) ≡ false → is_lt (R (at i) e) ≡ false
  not-less-above e m i least le lt h = elim (cases_Bool (is_lt (R (at i) e))) [
    | inl less ↦ absurd (false≢true (sym h ∙ ap is_lt (less-below e i m least le lt (is-less (R (at i) e) less))))
    | inr not ↦ not
  ]

  pub greater-above : (e : K) (m i : ℕ) → low ≤ m → m ≤ i → i < high → R (at m) e ≡ Greater → R (at i) e ≡ Greater
  greater-above e m i least le lt h =
      o.antisymm (at i) e ∙ ap ordering_reverse (lt-le o e (at m) (at i) (o.antisymm e (at m) ∙ ap ordering_reverse h) (up m i least le lt))

  pub equal-below : (m i : ℕ) → low ≤ i → i ≤ m → m < high → R (at low) (at m) ≡ Equal → R (at low) (at i) ≡ Equal
  equal-below m i least le lt h = elim (le-cases (R (at low) (at i)) (up low i (omega arith) least (omega arith))) [
    | inl less ↦ let no = sym h ∙ lt-le o (at low) (at i) (at m) less (up i m least le lt) in cc
    | inr equal ↦ equal
  ]

  pub less-above : (m i : ℕ) → low ≤ m → m ≤ i → i < high → is_eq (R (at low) (at m)) ≡ false → R (at low) (at i) ≡ Less
  less-above m i least le lt h = elim (le-cases (R (at low) (at m)) (up low m (omega arith) least (omega arith))) [
    | inl less ↦ lt-le o (at low) (at m) (at i) less (up m i least le lt)
    | inr equal ↦ let no = sym h ∙ ap is_eq equal in absurd (false≢true no)
  ]

pub other-not-equal : (o : Ordering) → is_ne o ≡ true → is_eq o ≡ false
other-not-equal Less e = refl
other-not-equal Equal e = cc
other-not-equal Greater e = refl

pub is-equal : (o : Ordering) → is_eq o ≡ true → o ≡ Equal
is-equal Less e = cc
is-equal Equal e = refl
is-equal Greater e = cc

-- ---- lists of words

-- what both begin with
pub cmp-front : (xs ys zs : List ℕ) → slice_cmp nat_cmp (xs ++ ys) (xs ++ zs) ≡ slice_cmp nat_cmp ys zs
cmp-front [] ys zs = refl
cmp-front (x ∷ xs) ys zs = then-rest (nat_cmp x x) (slice_cmp nat_cmp (xs ++ ys) (xs ++ zs)) (nat-same x x refl) ∙ cmp-front xs ys zs

pub cmp-same : (x y : ℕ) (xs ys : List ℕ) → x ≡ y → slice_cmp nat_cmp (x ∷ xs) (y ∷ ys) ≡ slice_cmp nat_cmp xs ys
cmp-same x y xs ys same = then-rest (nat_cmp x y) (slice_cmp nat_cmp xs ys) (nat-same x y same)

-- the places of a part are those of another of the same bytes of a word
masked-places : (n mask place word other : ℕ) → places_of (masked n mask place word) ≡ places_of (masked n mask place other)
masked-places zero mask place word other = ap places_of (masked-zero mask place word ∙ sym (masked-zero mask place other))
masked-places (suc n) mask place word other =
    let rest = masked-places n (mask / 2) (place + 1) (word / 256) (other / 256) in
    rw (masked-suc n mask place word, masked-suc n mask place other) (elim (cases_Bool (mask % 2 == 1)) [
      | inl is ↦ rw is (ap (λ list. place ∷ list) rest)
      | inr not ↦ rw not rest
    ])

part-places : (p q : Part) → p.at ≡ q.at → places_of (part_cells p) ≡ places_of (part_cells q)
part-places p q same =
    ap places_of (part_cells-is p) ∙ ap (λ (at : ℕ). places_of (masked 4 (at % 16) (at / 16 * 4) p.word)) same
    ∙ masked-places 4 (q.at % 16) (word_place q) p.word q.word ∙ ap places_of (sym (part_cells-is q))

-- one word on, where two lists of parts have alike cells there
word-on : (f g : ℕ × ℕ → ℕ) (a b : List Part) (i : ℕ) (d : Part) → i < length a → i < length b → map f (part_cells (get_or a i d)) ≡ map g (part_cells (get_or b i d))
    → slice_cmp nat_cmp (map f (all_cells (drop i a))) (map g (all_cells (drop i b))) ≡ slice_cmp nat_cmp (map f (all_cells (drop (i + 1) a))) (map g (all_cells (drop (i + 1) b)))
word-on f g a b i d first second same =
    let p = get_or a i d in
    let q = get_or b i d in
    let one = ap (λ parts. map f (all_cells parts)) (drop_more a i d first) ∙ map-append f (part_cells p) (all_cells (drop (i + 1) a))
    ∙ ap (λ (list : List ℕ). list ++ map f (all_cells (drop (i + 1) a))) same in
    let other = ap (λ parts. map g (all_cells parts)) (drop_more b i d second) ∙ map-append g (part_cells q) (all_cells (drop (i + 1) b)) in
    (λ k. slice_cmp nat_cmp (one k) (other k)) ∙ cmp-front (map g (part_cells q)) (map f (all_cells (drop (i + 1) a))) (map g (all_cells (drop (i + 1) b)))

pub places-on : (a b : List Part) (i : ℕ) (d : Part) → i < length a → i < length b → (get_or a i d).at ≡ (get_or b i d).at
    → slice_cmp nat_cmp (places_of (all_cells (drop i a))) (places_of (all_cells (drop i b))) ≡ slice_cmp nat_cmp (places_of (all_cells (drop (i + 1) a))) (places_of (all_cells (drop (i + 1) b)))
places-on a b i d first second same = word-on (λ cell. cell.0) (λ cell. cell.0) a b i d first second (part-places (get_or a i d) (get_or b i d) same)

pub bytes-on : (a b : List Part) (i : ℕ) (d : Part) → i < length a → i < length b → (get_or a i d).at ≡ (get_or b i d).at → (get_or a i d).word ≡ (get_or b i d).word
    → slice_cmp nat_cmp (bytes_of (all_cells (drop i a))) (bytes_of (all_cells (drop i b))) ≡ slice_cmp nat_cmp (bytes_of (all_cells (drop (i + 1) a))) (bytes_of (all_cells (drop (i + 1) b)))
bytes-on a b i d first second at word = word-on (λ cell. cell.1) (λ cell. cell.1) a b i d first second (λ k. bytes_of (part_cells (part (at k) (word k))))

all-bytes : (s : State) (xs : List (ℕ × ℕ)) → list_all (λ cell. slice_index s.bytes cell.0 == cell.1) xs ≡ true → bytes_of xs ≡ bytes_at s xs
all-bytes s [] all = refl
all-bytes s (x ∷ xs) all =
    let parts = and_parts (slice_index s.bytes x.0 == x.1) (list_all (λ cell. slice_index s.bytes cell.0 == cell.1) xs) all in
    ap (λ (byte : ℕ). byte ∷ bytes_of xs) (sym (eqb-true (slice_index s.bytes x.0) x.1 parts.0)) ∙ ap (λ (list : List ℕ). slice_index s.bytes x.0 ∷ list) (all-bytes s xs parts.1)

pub state-on : (s : State) (a : List Part) (i : ℕ) (d : Part) → i < length a → list_all (λ cell. slice_index s.bytes cell.0 == cell.1) (part_cells (get_or a i d)) ≡ true
    → slice_cmp nat_cmp (bytes_of (all_cells (drop i a))) (bytes_at s (all_cells (drop i a))) ≡ slice_cmp nat_cmp (bytes_of (all_cells (drop (i + 1) a))) (bytes_at s (all_cells (drop (i + 1) a)))
state-on s a i d lt all = word-on (λ cell. cell.1) (λ cell. slice_index s.bytes cell.0) a a i d lt lt (all-bytes s (part_cells (get_or a i d)) all)

-- from a whole word on
pub cells-whole : (parts : List Part) (i : ℕ) → cells_from parts (4 * i) ≡ all_cells (drop i parts)
cells-whole parts i =
    let none : 4 * i % 4 ≡ 0 = omega arith in
    let word : 4 * i / 4 ≡ i = omega arith in
    cells-is parts (4 * i) ∙ (λ k. first_from (none k) (drop (word k) parts)) ∙ sym (cells-is (drop i parts) 0) ∙ cells-all (drop i parts)

pub rest-below : (m : ℕ) (parts : List Part) (i : ℕ) → All (λ p. word_place p + 4 ≤ m) parts → All (λ cell. cell.0 < m) (cells_from parts (4 * i))
rest-below m parts i within = subst (All (λ cell. cell.0 < m)) (sym (cells-whole parts i)) (cells-between (λ cell. cell.0 < m) (drop i parts)
    (λ k d lt cell least below. omega (arith, All-drop (λ p. word_place p + 4 ≤ m) i parts within k d lt, below)))

-- the words that an entry reads are within the shape of a state
pub reads-within : (e : Entry) (parts : List Part) {shape : Shape} → e.shape ≡ shape → IsTrueEntry e → All IsPart parts → all_cells parts ≡ e.reads
    → All (λ p. word_place p + 4 ≤ length_of shape) parts
reads-within e parts same true_e are is =
    subst (λ shape. All (λ p. word_place p + 4 ≤ length_of shape) parts) same
    (parts-within (length_of e.shape) parts (length_whole e.shape true_e.entry.shape) are (subst (All (λ cell. cell.0 < length_of e.shape)) (sym is) true_e.entry.reads.places))
