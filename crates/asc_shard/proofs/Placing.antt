-- Where an entry stands in an index, or would.
use Rattle.std.proofs.Common.{◌≡◌, ℕ, ◌+◌, ◌-◌, ◌%◌, ◌^◌, ◌<◌, ◌≤◌, Bool, true, false, List, [], ◌∷◌, ◌++◌, length, get_or, take, drop, map, refl, sym, ap, subst, ◌∙◌, inl, inr, ◌⊎◌, arith}
use Rattle.std.specs.Prelude.{All}
use Rattle.std.specs.List.{insert, list_any, remove}
use Rattle.std.specs.Ordering.{nat_cmp, is_eq, is_le, is_lt}
use Rattle.std.specs.declared.cmp.Ordering.TheVariants.{Less, Equal, Greater}
use Rattle.std.proofs.lemmas.Cmp.{tied_itself}
use Rattle.std.proofs.lemmas.Bool.{cases_Bool, cases_eq, cases_lt}
use Rattle.std.proofs.lemmas.List.{get_or-map, length-map, length_push}
use Rattle.std.proofs.lemmas.List.Elements.{All-head, All-tail}
use Rattle.std.proofs.lemmas.List.Sums.{sum_by-take-le, sum_by_more, sum_by_more_le}
use Rattle.asc_model.specs.Entry.{Entry, IsTrueEntry}
use Rattle.asc_shard.specs.declared.key.Key.{Key}
use Rattle.asc_shard.specs.declared.heads.Head.{Head}
use Rattle.asc_shard.specs.declared.heads.Beginning.{Beginning}
use Rattle.asc_shard.specs.declared.index.Index.{Index}
use Rattle.asc_shard.specs.declared.index.Place.{Place}
use Rattle.asc_shard.specs.Content.{is_same_entry}
use Rattle.asc_shard.specs.Fingerprints.{print_of}
use Rattle.asc_shard.specs.Inside.{AreHeads, IsBeginning, IsIndex, IsIndexed, IsPlace, by_all, by_key, count_at, key_of, mask_at, no_entry, no_head, position_of, positions_of, runs, sorted_in, sorted_of, total}
use Rattle.asc_shard.proofs.Lists.{map-insert, map-remove}
use Rattle.asc_shard.proofs.Orders.{all_total, le-cases, nat-equal, nat-is-greater, nat-is-less, nat-less, nat-same, then-rest}
use Rattle.asc_shard.proofs.Runs.{masks-up, runs-at, runs-before, runs-behind, runs-length}
use Rattle.asc_shard.proofs.Slots.{nth, index-up, key-up, sorted-at, sorted-length}
use Rattle.asc_shard.proofs.Keeping.{index-added, index-without, later, oldest-there, same-none, same-there, sorted-added, sorted-without}

-- ---- keys

key-le : (a b : Key) → is_le (by_key a b) ≡ true → a.mask ≡ b.mask → a.print ≤ b.print
key-le a b h same = elim (le-cases (nat_cmp a.print b.print) (ap is_le (sym (then-rest (nat_cmp a.mask b.mask) (nat_cmp a.print b.print) (nat-same a.mask b.mask same))) ∙ h)) [
  | inl less ↦ omega (arith, nat-less a.print b.print less)
  | inr equal ↦ omega (arith, nat-equal a.print b.print equal)
]

pub key-is : (a b : Key) → a.mask ≡ b.mask → a.print ≡ b.print → a ≡ b
key-is a b mask print = λ i. record { mask = mask i; print = print i }

-- an entry of a lower key is first, and one of a higher key last
key-before : (a b : Entry) → (key_of a).mask < (key_of b).mask ⊎ ((key_of a).mask ≡ (key_of b).mask) × (print_of a < print_of b) → by_all a b ≡ Less
key-before a b (inl lt) = rw (nat-is-less (key_of a).mask (key_of b).mask lt) refl
key-before a b (inr both) = rw (nat-same (key_of a).mask (key_of b).mask both.0, nat-is-less (print_of a) (print_of b) both.1) refl

key-behind : (a b : Entry) → (key_of b).mask < (key_of a).mask ⊎ ((key_of a).mask ≡ (key_of b).mask) × (print_of b < print_of a) → by_all a b ≡ Greater
key-behind a b (inl lt) = rw (nat-is-greater (key_of a).mask (key_of b).mask lt) refl
key-behind a b (inr both) = rw (nat-same (key_of a).mask (key_of b).mask both.0, nat-is-greater (print_of a) (print_of b) both.1) refl

-- ---- what an index has

module _ {held : List Entry} {index : Index} (is : IsIndexed held index) where
  abbrev pub at : ℕ → Entry
  at i = nth (sorted_in held index) i

  pub size : length index.numbers.items ≡ length held
  size = omega (arith, is.entries.size, length-map index.numbers.items (position_of index.oldest))

  sorted-size : length (sorted_in held index) ≡ length held
  sorted-size = omega (arith, sorted-length held (positions_of index), is.entries.size)

  pub prints-size : length index.prints.items ≡ length held
  prints-size = omega (arith, ap length is.prints, length-map (sorted_in held index) print_of, sorted-size)

  pub total-size : total index.heads.items ≡ length held
  total-size = omega (arith, runs-length index.heads.items, ap length is.masks, length-map (sorted_in held index) (λ e. (key_of e).mask), sorted-size)

  pub mask-is : (i : ℕ) → i < length held → get_or (runs index.heads.items) i 0 ≡ (key_of (at i)).mask
  mask-is i lt = ap (λ list. get_or list i 0) is.masks ∙ get_or-map (λ e. (key_of e).mask) (sorted_in held index) i no_entry 0 (omega (arith, lt, sorted-size))

  pub print-is : (i : ℕ) → i < length held → get_or index.prints.items i 0 ≡ print_of (at i)
  print-is i lt = ap (λ list. get_or list i 0) is.prints ∙ get_or-map print_of (sorted_in held index) i no_entry 0 (omega (arith, lt, sorted-size))

  -- of one mask fingerprints rise
  pub prints-up : (i j : ℕ) → i ≤ j → j < length held → (key_of (at i)).mask ≡ (key_of (at j)).mask → get_or index.prints.items i 0 ≤ get_or index.prints.items j 0
  prints-up i j le lt same =
      let up = key-le (key_of (at i)) (key_of (at j)) (key-up (at i) (at j) (index-up held (positions_of index) is.entries i j (omega arith) le (omega (arith, lt, is.entries.size)))) same in
      omega (arith, up, print-is i (omega (arith, le, lt)), print-is j lt)

  -- ---- where an entry's mask begins

  module _ (e : Entry) {b : Beginning} (begins : IsBeginning index.heads.items (key_of e).mask b) where
    abbrev heads : List Head
    heads = index.heads.items

    -- heads from the next one on are higher
    higher-heads : (k : ℕ) → b.head < k → k < length heads → (b.known ≡ true) ⊎ (b.known ≡ false) → (key_of e).mask < mask_at heads k
    higher-heads k lt below (inl known) = let here = begins.here known in omega (arith, here.1, masks-up heads b.head k is.heads.rise lt below)
    higher-heads k lt below (inr none) =
        let next = (begins.none none).0 (omega (arith, lt, below)) in
        omega (arith, next, masks-up heads b.head k is.heads.rise lt below)

    pub beginning-range : (b.from ≤ b.next) × (b.next ≤ length held)
    beginning-range = elim (cases_Bool b.known) [
      | inl known ↦
          let here = begins.here known in
          (omega (arith, here.2), omega (arith, here.2, begins.from, sum_by_more_le (λ (head : Head). head.count) heads b.head no_head here.0, total-size))
      | inr none ↦
          let same = (begins.none none).1 in
          (omega (arith, same), omega (arith, same, begins.from, sum_by-take-le (λ (head : Head). head.count) heads b.head, total-size))
    ]

    pub lower-mask : (i : ℕ) → i < b.from → (key_of (at i)).mask < (key_of e).mask
    lower-mask i lt =
        let below = runs-before (key_of e).mask heads b.head i begins.before begins.most (omega (arith, lt, begins.from)) in
        omega (arith, below, mask-is i (omega (arith, lt, beginning-range.0, beginning-range.1)))

    pub same-mask : (i : ℕ) → b.from ≤ i → i < b.next → (key_of (at i)).mask ≡ (key_of e).mask
    same-mask i least lt = elim (cases_Bool b.known) [
      | inl known ↦
          let here = begins.here known in
          sym (mask-is i (omega (arith, lt, beginning-range.1))) ∙ runs-at heads b.head i here.0 (omega (arith, least, begins.from)) (omega (arith, lt, here.2, begins.from)) ∙ here.1
      | inr none ↦ absurd (omega (arith, least, lt, (begins.none none).1))
    ]

    -- of the mask fingerprints rise
    pub own-up : (i j : ℕ) → b.from ≤ i → i ≤ j → j < b.next → get_or index.prints.items i 0 ≤ get_or index.prints.items j 0
    own-up i j least le lt =
        prints-up i j le (omega (arith, lt, beginning-range.1)) (same-mask i least (omega (arith, le, lt)) ∙ sym (same-mask j (omega (arith, least, le)) lt))

    pub higher-mask : (i : ℕ) → b.next ≤ i → i < length held → (key_of e).mask < (key_of (at i)).mask
    higher-mask i least lt = elim (cases_Bool b.known) [
      | inl known ↦
          let here = begins.here known in
          let more = sum_by_more (λ (head : Head). head.count) heads b.head no_head here.0 in
          let above = runs-behind (key_of e).mask heads (b.head + 1) i (λ k le below. higher-heads k (omega (arith, le)) below (inl known)) (omega (arith, here.0))
          (omega (arith, more, least, here.2, begins.from)) (omega (arith, lt, total-size)) in
          omega (arith, above, mask-is i lt)
      | inr none ↦
          let next = begins.none none in
          let above = runs-behind (key_of e).mask heads b.head i (λ k le below. elim (cases_eq k b.head) [
            | inl here ↦ omega (arith, next.0 (omega (arith, here, below)), ap (mask_at heads) here)
            | inr apart ↦ higher-heads k (omega (arith, le, apart)) below (inr none)
          ]) begins.most (omega (arith, least, next.1, begins.from)) (omega (arith, lt, total-size)) in
          omega (arith, above, mask-is i lt)
    ]

-- ---- and its fingerprint

-- what is known where code has found where an entry's mask begins, and its fingerprint there
pub record IsSought (held : List Entry) (index : Index) (e : Entry) (b : Beginning) (low high : ℕ) : Type 0 where
  pub is : IsIndexed held index
  pub begins : IsBeginning index.heads.items (key_of e).mask b
  pub range : (b.from ≤ low) × (low ≤ high) × (high ≤ b.next)
  pub before : (i : ℕ) → b.from ≤ i → i < low → get_or index.prints.items i 0 < print_of e
  pub inside : (i : ℕ) → low ≤ i → i < high → get_or index.prints.items i 0 ≡ print_of e
  pub behind : (i : ℕ) → high ≤ i → i < b.next → print_of e < get_or index.prints.items i 0

pub begins-of : {key key_e : Key} {b : Beginning} {heads items : List Head} → key ≡ key_e → heads ≡ items → IsBeginning heads key.mask b → IsBeginning items key_e.mask b
begins-of {key = key} {b = b} {items = items} same_key same_heads begins =
    subst (λ (k : Key). IsBeginning items k.mask b) same_key (subst (λ l. IsBeginning l key.mask b) same_heads begins)

pub sought : {held : List Entry} {index : Index} {e : Entry} {key : Key} {b : Beginning} {heads : List Head} {low high : ℕ} → IsIndexed held index → key ≡ key_of e
    → heads ≡ index.heads.items → IsBeginning heads key.mask b → (b.from ≤ low) × (low ≤ high) × (high ≤ b.next)
    → ((i : ℕ) → b.from ≤ i → i < low → get_or index.prints.items i 0 < key.print)
    → ((i : ℕ) → low ≤ i → i < high → get_or index.prints.items i 0 ≡ key.print)
    → ((i : ℕ) → high ≤ i → i < b.next → key.print < get_or index.prints.items i 0)
    → IsSought held index e b low high
sought {e = e} {key = key} is same_key same_heads begins range before inside behind =
    let print : key.print ≡ print_of e = ap (λ (m : Key). m.print) same_key in
    record {
      is = is;
      begins = begins-of same_key same_heads begins;
      range = range;
      before = λ i least lt. omega (arith, print, before i least lt);
      inside = λ i least lt. inside i least lt ∙ print;
      behind = λ i least lt. omega (arith, print, behind i least lt);
    }

module _ {held : List Entry} {index : Index} {e : Entry} {b : Beginning} {low high : ℕ} (k : IsSought held index e b low high) where
  abbrev here : ℕ → Entry
  here i = nth (sorted_in held index) i

  pub within : (b.from ≤ b.next) × (b.next ≤ length held)
  within = beginning-range k.is e k.begins

  pub between : (p : ℕ) → (low ≤ p) × (p < high) → (b.from ≤ p) × (p < b.next) × (p < length held)
  between p is = (omega (arith, k.range.0, is.0), omega (arith, is.1, k.range.2), omega (arith, is.1, k.range.2, within.1))

  pub alike : (i : ℕ) → low ≤ i → i < high → key_of (here i) ≡ key_of e
  alike i le lt = key-is (key_of (here i)) (key_of e) (same-mask k.is e k.begins i (omega (arith, k.range.0, le)) (omega (arith, lt, k.range.2)))
      (sym (print-is k.is i (omega (arith, lt, k.range.2, within.1))) ∙ k.inside i le lt)

  pub first-ones : (i : ℕ) → i < low → by_all (here i) e ≡ Less
  first-ones i lt = key-before (here i) e (elim (cases_lt i b.from) [
    | inl early ↦ inl (lower-mask k.is e k.begins i early)
    | inr late ↦
        let fewer = k.before i late lt in
        inr (same-mask k.is e k.begins i late (omega (arith, lt, k.range.1, k.range.2)), omega (arith, fewer, print-is k.is i (omega (arith, lt, k.range.1, k.range.2, within.1))))
  ])

  pub last-ones : (i : ℕ) → high ≤ i → i < length held → by_all (here i) e ≡ Greater
  last-ones i le lt = key-behind (here i) e (elim (cases_lt i b.next) [
    | inl early ↦ inr (same-mask k.is e k.begins i (omega (arith, k.range.0, k.range.1, le)) early, omega (arith, k.behind i le early, print-is k.is i lt))
    | inr past ↦ inl (higher-mask k.is e k.begins i past lt)
  ])

  -- the oldest stands where its fingerprint is
  pub oldest-sought : e ≡ nth held 0 → 0 < length held → (p : ℕ) × (low ≤ p) × (p < high) × (get_or (positions_of index) p 0 ≡ 0)
  oldest-sought is_e some =
      let there = oldest-there held (positions_of index) k.is.entries some in
      let p = there.0 in
      let equal : by_all (here p) e ≡ Equal = ap (λ x. by_all x e) (sorted-at held (positions_of index) p 0 there.1 ∙ ap (nth held) there.2 ∙ sym is_e) ∙ tied_itself all_total e in (
        p,
        elim (cases_lt p low) [
          | inl lt ↦ absurd (let no : Less ≡ Equal = sym (first-ones p lt) ∙ equal in cc)
          | inr le ↦ le
        ],
        elim (cases_lt p high) [
          | inl lt ↦ lt
          | inr le ↦ absurd (let no : Greater ≡ Equal = sym (last-ones p le (omega (arith, there.1, k.is.entries.size))) ∙ equal in cc)
        ],
        there.2,
      )

  -- the place itself
  module _ (place : ℕ) (le : low ≤ place) (end : place ≤ high)
      (under : (i : ℕ) → low ≤ i → i < place → by_all (here i) e ≡ Less)
      (over : (i : ℕ) → place ≤ i → i < high → is_lt (by_all (here i) e) ≡ false) where
    pub placed : (same : Bool) → IsPlace held index e (record { beginning = b; at = place; same = same })
    placed same = record {
      beginning = k.begins;
      least = omega (arith, k.range.0, le);
      most = omega (arith, end, k.range.2);
      before = λ i lt. elim (cases_lt i low) [
        | inl early ↦ first-ones i early
        | inr late ↦ under i late lt
      ];
      rest = λ i above lt. elim (cases_lt i high) [
        | inl early ↦ over i above early
        | inr late ↦ ap is_lt (last-ones i late lt)
      ];
    }

    rest : (i : ℕ) → place ≤ i → i < length (positions_of index) → is_lt (by_all (here i) e) ≡ false
    rest i above below = (placed false).rest i above (omega (arith, below, k.is.entries.size))

    -- the entry there is the same, or none
    pub same-here : (r : Bool) → place < high → r ≡ is_eq (by_all (here place) e) → r ≡ list_any (is_same_entry e) held
    same-here r lt is_r =
        same-there held (positions_of index) k.is.entries e place (placed r).before rest r is_r (omega (arith, lt, k.range.2, within.1, k.is.entries.size))

    pub same-nowhere : high ≤ place → false ≡ list_any (is_same_entry e) held
    same-nowhere past = elim (cases_lt place (length held)) [
      | inl lt ↦ same-there held (positions_of index) k.is.entries e place (placed false).before rest false (ap is_eq (sym (last-ones place past lt))) (omega (arith, lt, k.is.entries.size))
      | inr none ↦ same-none held (positions_of index) k.is.entries e place (placed false).before rest (omega (arith, none, k.is.entries.size))
    ]

-- ---- one entry more

numbers-fallen : (oldest : ℕ) (numbers : List ℕ) → oldest < 2 ^ 32 → All (λ p. 1 ≤ p) (map (position_of oldest) numbers)
    → map (position_of ((oldest + 1) % 2 ^ 32)) numbers ≡ map (λ p. p - 1) (map (position_of oldest) numbers)
numbers-fallen oldest [] lt all = refl
numbers-fallen oldest (number ∷ numbers) lt all =
    let least = All-head (λ p. 1 ≤ p) (position_of oldest number) (map (position_of oldest) numbers) all in
    let one : position_of ((oldest + 1) % 2 ^ 32) number ≡ position_of oldest number - 1 = omega (arith, least) in
    λ i. one i ∷ numbers-fallen oldest numbers lt (All-tail (λ p. 1 ≤ p) (position_of oldest number) (map (position_of oldest) numbers) all) i

pub indexed-added : (held : List Entry) (index new : Index) (e : Entry) (place : Place) → IsIndexed held index → IsTrueEntry e → IsPlace held index e place
    → list_any (is_same_entry e) held ≡ false → length held + 1 < 2 ^ 32 → new.oldest ≡ index.oldest
    → new.numbers.items ≡ insert index.numbers.items place.at ((index.oldest + length held) % 2 ^ 32)
    → new.prints.items ≡ insert index.prints.items place.at (print_of e)
    → runs new.heads.items ≡ insert (runs index.heads.items) place.at (key_of e).mask → AreHeads new.heads.items
    → IsIndexed (held ++ e ∷ []) new
indexed-added held index new e place is true_e at none few oldest numbers prints masks heads =
    let slots = positions_of index in
    let longer = length_push held e in
    let within = (beginning-range is e at.beginning).1 in
    let positions : positions_of new ≡ insert slots place.at (length held) =
    ap (λ n. map (position_of n) new.numbers.items) oldest ∙ ap (map (position_of index.oldest)) numbers
    ∙ map-insert (position_of index.oldest) index.numbers.items place.at _ ∙ ap (insert slots place.at) (omega (arith, is.oldest, is.few)) in
    let sorted : sorted_in (held ++ e ∷ []) new ≡ insert (sorted_in held index) place.at e = ap (sorted_of (held ++ e ∷ [])) positions ∙ sorted-added held slots e place.at is.entries in
    record {
      entries = subst (IsIndex (held ++ e ∷ [])) (sym positions) (index-added held slots e place.at is.entries true_e (omega (arith, at.most, within, is.entries.size)) at.before
          (λ i least lt. at.rest i least (omega (arith, lt, is.entries.size))) none);
      oldest = omega (arith, oldest, is.oldest);
      few = omega (arith, longer, few);
      prints = prints ∙ ap (λ list. insert list place.at (print_of e)) is.prints ∙ sym (map-insert print_of (sorted_in held index) place.at e) ∙ ap (map print_of) (sym sorted);
      masks = masks ∙ ap (λ list. insert list place.at (key_of e).mask) is.masks ∙ sym (map-insert (λ x. (key_of x).mask) (sorted_in held index) place.at e)
          ∙ ap (map (λ x. (key_of x).mask)) (sym sorted);
      heads = heads;
    }

-- ---- the oldest goes

pub indexed-without : (held : List Entry) (index new : Index) (place : ℕ) → IsIndexed held index → place < length held → get_or (positions_of index) place 0 ≡ 0
    → new.oldest ≡ (index.oldest + 1) % 2 ^ 32 → new.numbers.items ≡ remove index.numbers.items place
    → new.prints.items ≡ remove index.prints.items place → runs new.heads.items ≡ remove (runs index.heads.items) place → AreHeads new.heads.items
    → IsIndexed (drop 1 held) new
indexed-without [] index new place is within zero_there oldest numbers prints masks heads = absurd (omega arith)
indexed-without (x ∷ held) index new place is within zero_there oldest numbers prints masks heads =
    let slots = positions_of index in
    let lt : place < length slots = omega (arith, within, is.entries.size) in
    let left = remove slots place in
    let positions : positions_of new ≡ map (λ p. p - 1) left =
    ap (λ n. map (position_of n) new.numbers.items) oldest ∙ ap (map (position_of ((index.oldest + 1) % 2 ^ 32))) numbers
    ∙ numbers-fallen index.oldest (remove index.numbers.items place) is.oldest
    (subst (All (λ p. 1 ≤ p)) (sym (map-remove (position_of index.oldest) index.numbers.items place)) (later x held slots place is.entries lt zero_there))
    ∙ ap (map (λ p. p - 1)) (map-remove (position_of index.oldest) index.numbers.items place) in
    let sorted : sorted_in held new ≡ remove (sorted_in (x ∷ held) index) place = ap (sorted_of held) positions ∙ sorted-without x held slots place is.entries lt zero_there in
    record {
      entries = subst (IsIndex held) (sym positions) (index-without x held slots place is.entries lt zero_there);
      oldest = omega (arith, oldest);
      few = let few = is.few in omega (arith, few);
      prints = prints ∙ ap (λ list. remove list place) is.prints ∙ sym (map-remove print_of (sorted_in (x ∷ held) index) place) ∙ ap (map print_of) (sym sorted);
      masks = masks ∙ ap (λ list. remove list place) is.masks ∙ sym (map-remove (λ e. (key_of e).mask) (sorted_in (x ∷ held) index) place)
          ∙ ap (map (λ e. (key_of e).mask)) (sym sorted);
      heads = heads;
    }

-- where a place is within a beginning there is a head
pub head-there : {heads : List Head} {mask : ℕ} {b : Beginning} (place : ℕ) → IsBeginning heads mask b → b.from ≤ place → place < b.next
    → (b.head < length heads) × (total (take b.head heads) ≤ place) × (place < total (take b.head heads) + count_at heads b.head)
head-there {b = b} place begins least lt = elim (cases_Bool b.known) [
  | inl known ↦ let head = begins.here known in (head.0, omega (arith, least, begins.from), omega (arith, lt, head.2, begins.from))
  | inr none ↦ absurd (omega (arith, lt, least, (begins.none none).1))
]

-- ---- head by head

module _ {held : List Entry} {index : Index} (is : IsIndexed held index) (h : ℕ) (lt : h < length index.heads.items) where
  abbrev begin : ℕ
  begin = total (take h index.heads.items)

  abbrev end : ℕ
  end = begin + count_at index.heads.items h

  pub head-range : (begin < end) × (end ≤ length held)
  head-range =
      let some = is.heads.some h no_head lt in
      (omega (arith, some), omega (arith, sum_by_more_le (λ (head : Head). head.count) index.heads.items h no_head lt, total-size is))

  pub head-mask : (i : ℕ) → begin ≤ i → i < end → (key_of (at is i)).mask ≡ mask_at index.heads.items h
  head-mask i least below = sym (mask-is is i (omega (arith, below, head-range.1))) ∙ runs-at index.heads.items h i lt least below

  -- masks before are lower
  pub head-lower : (i j : ℕ) → i < begin → begin ≤ j → j < length held → (key_of (at is i)).mask < (key_of (at is j)).mask
  head-lower i j before behind below =
      let heads = index.heads.items in
      let first = runs-before (mask_at heads h) heads h i (λ k less. masks-up heads k h is.heads.rise less lt) (omega (arith, lt)) before in
      let mine = mask-is is i (omega (arith, before, head-range.0, head-range.1)) in
      elim (cases_lt j end) [
        | inl inside ↦ omega (arith, first, mine, head-mask j behind inside)
        | inr past ↦
            let more = sum_by_more (λ (head : Head). head.count) heads h no_head lt in
            let above = runs-behind (mask_at heads h) heads (h + 1) j (λ k le less. masks-up heads h k is.heads.rise (omega arith) less)
            (omega (arith, lt)) (omega (arith, more, past)) (omega (arith, below, total-size is)) in
            omega (arith, first, mine, above, mask-is is j below)
      ]
