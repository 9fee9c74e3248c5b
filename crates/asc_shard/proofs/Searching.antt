-- A look-up in the whole index, mask by mask.
use Rattle.std.proofs.Common.{◌≡◌, ℕ, suc, ◌+◌, ◌<◌, ◌≤◌, true, false, List, [], ◌∷◌, ◌++◌, length, get_or, take, sym, ap, subst, ◌∙◌, inl, inr, arith}
use Rattle.std.specs.Prelude.{All, sum_by, filter, nat_lt}
use Rattle.std.specs.List.{AllPairs}
use Rattle.std.proofs.lemmas.Bool.{cases_lt, eq-eqb, eqb-true, false_from_ne_true}
use Rattle.std.proofs.lemmas.List.Elements.{All-head, All-tail, All-append, All-get_or, All-weaker}
use Rattle.std.proofs.lemmas.List.Kept.{AllPairs-cons}
use Rattle.std.proofs.lemmas.List.Sums.{sum_by-append, sum_by_more}
use Rattle.asc_model.specs.State.{State}
use Rattle.asc_model.specs.Entry.{Entry, IsTrueEntry}
use Rattle.asc_traj.specs.Content.{matches}
use Rattle.asc_shard.specs.declared.heads.Head.{Head}
use Rattle.asc_shard.specs.declared.index.Index.{Index}
use Rattle.asc_shard.specs.Groups.{AreAsked, Asked, IsAsked, is_of_group}
use Rattle.asc_shard.specs.Fingerprints.{may_match, print_in, print_of}
use Rattle.asc_shard.specs.Inside.{IsFrom, IsIndex, IsIndexed, IsMost, count_at, key_of, mask_at, mask_of, no_entry, no_head, positions_of, raised, sorted_in, sorted_of, total}
use Rattle.asc_shard.proofs.Placing.{head-lower, head-mask, head-range, key-is, print-is}
use Rattle.asc_shard.proofs.Keying.{none-hidden, places-filter, same-print}
use Rattle.asc_shard.proofs.Slots.{nth, position-in, sorted-at}
use Rattle.asc_shard.proofs.Ranges.{froms-more, group-places, raised-add, test-group}

-- ---- the entries of one mask

-- groups of other masks are others
group-mask : (a b : Entry) → is_of_group a b ≡ true → (key_of a).mask ≡ (key_of b).mask
group-mask a b h = ap mask_of (
    places-filter (λ p. nat_lt p 128) a.reads ∙ ap (filter (λ p. nat_lt p 128)) (group-places a b (test-group a b h))
    ∙ sym (places-filter (λ p. nat_lt p 128) b.reads)
    )

pub true-at : (held : List Entry) (slots : List ℕ) (i : ℕ) → IsIndex held slots → i < length slots → IsTrueEntry (nth (sorted_of held slots) i)
true-at held slots i index lt =
    subst IsTrueEntry (sym (sorted-at held slots i 0 lt))
    (All-get_or IsTrueEntry held (get_or slots i 0) no_entry (position-in held slots i 0 index lt) index.true_all)

-- What is known where code has the fingerprint that the state has for the mask of the entries from one to another, and
-- where those are that have it.
pub record IsMasked (held : List Entry) (slots : List ℕ) (s : State) (from low high next print : ℕ) : Type 0 where
  pub index : IsIndex held slots
  pub some : from < next
  pub most : next ≤ length slots
  pub range : (from ≤ low) × (low ≤ high) × (high ≤ next)
  pub same : (i : ℕ) → from ≤ i → i < next → (key_of (nth (sorted_of held slots) i)).mask ≡ (key_of (nth (sorted_of held slots) from)).mask
  pub state : print ≡ print_in s (nth (sorted_of held slots) from)
  pub before : (i : ℕ) → from ≤ i → i < low → print_of (nth (sorted_of held slots) i) < print
  pub inside : (i : ℕ) → low ≤ i → i < high → print_of (nth (sorted_of held slots) i) ≡ print
  pub behind : (i : ℕ) → high ≤ i → i < next → print < print_of (nth (sorted_of held slots) i)

module _ {held : List Entry} {slots : List ℕ} {s : State} {from low high next print : ℕ} (k : IsMasked held slots s from low high next print) where
  abbrev at : ℕ → Entry
  at i = nth (sorted_of held slots) i

  pub wanted-same : (i j : ℕ) → low ≤ i → i < high → low ≤ j → j < high → key_of (at i) ≡ key_of (at j)
  wanted-same i j least lt least_j lt_j =
      key-is (key_of (at i)) (key_of (at j))
      (k.same i (omega (arith, least, k.range.0)) (omega (arith, lt, k.range.2)) ∙ sym (k.same j (omega (arith, least_j, k.range.0)) (omega (arith, lt_j, k.range.2))))
      (k.inside i least lt ∙ sym (k.inside j least_j lt_j))

  state-print : (i : ℕ) → from ≤ i → i < next → print_in s (at i) ≡ print
  state-print i least lt =
      same-print s (at i) (at from) (true-at held slots i k.index (omega (arith, lt, k.most))) (true-at held slots from k.index (omega (arith, k.some, k.most))) (k.same i least lt) ∙ sym k.state

  pub wanted-matches : (i : ℕ) → low ≤ i → i < high → may_match s (at i) ≡ true
  wanted-matches i least lt =
      eq-eqb (print_in s (at i)) (print_of (at i)) (state-print i (omega (arith, least, k.range.0)) (omega (arith, lt, k.range.2)) ∙ sym (k.inside i least lt))

  -- the others of the mask match nowhere
  other-print : (i : ℕ) → from ≤ i → i < next → (print_of (at i) ≡ print → ⊥) → matches s (at i) ≡ true → ⊥
  other-print i least lt apart match =
      apart (sym (eqb-true (print_in s (at i)) (print_of (at i)) (none-hidden s (at i) match)) ∙ state-print i least lt)

  -- ---- what is found, and what is asked

  pub most-next : (left old new : ℕ) → IsMost (sorted_of held slots) s left 0 from old → old ≤ new → IsMost (sorted_of held slots) s left low high new
      → IsMost (sorted_of held slots) s left 0 next new
  most-next left old new first le range i least lt match enough = elim (cases_lt i from) [
    | inl before ↦ let most = first i least before match enough in omega arith
    | inr behind ↦ elim (cases_lt i low) [
      | inl below ↦ let less = k.before i behind below in absurd (other-print i behind lt (λ e. omega (arith, less, e)) match)
      | inr above ↦ elim (cases_lt i high) [
        | inl inside ↦ range i above inside match enough
        | inr past ↦ let more = k.behind i past lt in absurd (other-print i behind lt (λ e. omega (arith, more, e)) match)
      ]
    ]
  ]

  asked-apart : (old : List Asked) (a : Asked) → IsFrom (sorted_of held slots) low high a.entry
      → ((i j : ℕ) → i < from → from ≤ j → j < length slots → (key_of (at i)).mask < (key_of (at j)).mask)
      → All (λ b. IsFrom (sorted_of held slots) 0 from b.entry) old → All (λ b. is_of_group a.entry b.entry ≡ false) old
  asked-apart old a is masks froms = All-weaker (λ b. IsFrom (sorted_of held slots) 0 from b.entry) (λ b. is_of_group a.entry b.entry ≡ false)
      (λ b is_b. false_from_ne_true (is_of_group a.entry b.entry) (λ one.
      let lower = masks is_b.0 from is_b.2 (omega arith) (omega (arith, k.some, k.most)) in
      let same = sym (ap (λ (e : Entry). (key_of e).mask) is_b.3) ∙ sym (group-mask a.entry b.entry one) ∙ ap (λ (e : Entry). (key_of e).mask) is.3
      ∙ k.same is.0 (omega (arith, is.1, k.range.0)) (omega (arith, is.2, k.range.2)) in
      omega (arith, lower, same))) old froms

  pub asked-both : (new old : List Asked) → AreAsked held s new → AreAsked held s old
      → ((i j : ℕ) → i < from → from ≤ j → j < length slots → (key_of (at i)).mask < (key_of (at j)).mask)
      → All (λ a. IsFrom (sorted_of held slots) low high a.entry) new → All (λ a. IsFrom (sorted_of held slots) 0 from a.entry) old → AreAsked held s (new ++ old)
  asked-both new old first second masks is_new is_old = record {
    each = All-append (IsAsked held s) new old first.each second.each;
    apart = pairs new first.apart is_new;
  }
    where
      pairs : (list : List Asked) → AllPairs (λ a b. is_of_group a.entry b.entry ≡ false) list → All (λ a. IsFrom (sorted_of held slots) low high a.entry) list
          → AllPairs (λ a b. is_of_group a.entry b.entry ≡ false) (list ++ old)
      pairs [] apart froms = second.apart
      pairs (a ∷ list) apart froms =
          AllPairs-cons (λ a b. is_of_group a.entry b.entry ≡ false) a (list ++ old)
          (All-append (λ b. is_of_group a.entry b.entry ≡ false) list old (λ i d lt. apart 0 (suc i) d (omega arith) (omega arith))
          (asked-apart old a (All-head (λ a. IsFrom (sorted_of held slots) low high a.entry) a list froms) masks is_old))
          (pairs list (λ i j d lt below. apart (suc i) (suc j) d (omega arith) (omega arith)) (All-tail (λ a. IsFrom (sorted_of held slots) low high a.entry) a list froms))

  pub froms-both : (new old : List Asked) → All (λ a. IsFrom (sorted_of held slots) low high a.entry) new → All (λ a. IsFrom (sorted_of held slots) 0 from a.entry) old
      → All (λ a. IsFrom (sorted_of held slots) 0 next a.entry) (new ++ old)
  froms-both new old is_new is_old =
      All-append (λ a. IsFrom (sorted_of held slots) 0 next a.entry) new old
      (All-weaker (λ a. IsFrom (sorted_of held slots) low high a.entry) (λ a. IsFrom (sorted_of held slots) 0 next a.entry)
      (λ a is. (is.0, omega arith, omega (arith, is.2, k.range.2), is.3)) new is_new)
      (froms-more (sorted_of held slots) 0 from next old (omega (arith, k.some)) is_old)

pub raised-both : (more : ℕ → ℕ) (new old : List Asked) (now between before : ℕ) → now ≡ raised more (sum_by (λ a. a.probes) new) between
    → between ≡ raised more (sum_by (λ a. a.probes) old) before → now ≡ raised more (sum_by (λ a. a.probes) (new ++ old)) before
raised-both more new old now between before is was =
    is ∙ ap (raised more (sum_by (λ a. a.probes) new)) was ∙ raised-add more (sum_by (λ a. a.probes) new) (sum_by (λ a. a.probes) old) before
    ∙ ap (λ n. raised more n before) (sym (sum_by-append (λ (a : Asked). a.probes) new old))

-- What is known of the entries of the head at a place of a list, which begin at a place of the index.
pub record IsHere (held : List Entry) (index : Index) (list : List Head) (h from : ℕ) : Type 0 where
  pub some : from < from + count_at list h
  pub most : from + count_at list h ≤ length held
  pub next : from + count_at list h ≡ total (take (h + 1) index.heads.items)
  pub mask : (i : ℕ) → from ≤ i → i < from + count_at list h → (key_of (nth (sorted_in held index) i)).mask ≡ mask_at list h
  pub lower : (i j : ℕ) → i < from → from ≤ j → j < length (positions_of index) → (key_of (nth (sorted_in held index) i)).mask < (key_of (nth (sorted_in held index) j)).mask

pub head-here : {held : List Entry} {index : Index} {list : List Head} {h from : ℕ} → IsIndexed held index → h < length list → list ≡ index.heads.items
    → from ≡ total (take h index.heads.items) → IsHere held index list h from
head-here {index = index} {h = h} is lt_list same begins =
    let heads = index.heads.items in
    let lt : h < length heads = omega (arith, lt_list, ap length same) in
    let range = head-range is h lt in
    let count = ap (λ (l : List Head). count_at l h) same in
    record {
      some = omega (arith, begins, count, range.0);
      most = omega (arith, begins, count, range.1);
      next = omega (arith, begins, count, sum_by_more (λ (head : Head). head.count) heads h no_head lt);
      mask = λ i least below. head-mask is h lt i (omega (arith, least, begins)) (omega (arith, below, begins, count)) ∙ sym (ap (λ (l : List Head). mask_at l h) same);
      lower = λ i j before behind below. head-lower is h lt i j (omega (arith, before, begins)) (omega (arith, behind, begins)) (omega (arith, below, is.entries.size));
    }

-- and where code has found the state's fingerprint among them
pub head-masked : (held : List Entry) (index : Index) (s : State) (list : List Head) (h from low high print : ℕ) → IsIndexed held index → IsHere held index list h from
    → print ≡ print_in s (nth (sorted_in held index) from)
    → (from ≤ low) × (low ≤ high) × (high ≤ from + count_at list h)
    → ((i : ℕ) → from ≤ i → i < low → get_or index.prints.items i 0 < print)
    → ((i : ℕ) → low ≤ i → i < high → get_or index.prints.items i 0 ≡ print)
    → ((i : ℕ) → high ≤ i → i < from + count_at list h → print < get_or index.prints.items i 0)
    → IsMasked held (positions_of index) s from low high (from + count_at list h) print
head-masked held index s list h from low high print is here state range before inside behind =
    let at = λ (i : ℕ) (below : i < from + count_at list h). print-is is i (omega (arith, below, here.most)) in
    record {
      index = is.entries;
      some = here.some;
      most = omega (arith, here.most, is.entries.size);
      range = range;
      same = λ i least below. here.mask i least below ∙ sym (here.mask from (omega arith) here.some);
      state = state;
      before = λ i least below. omega (arith, before i least below, at i (omega (arith, below, range.1, range.2)));
      inside = λ i least below. sym (at i (omega (arith, below, range.2))) ∙ inside i least below;
      behind = λ i least below. omega (arith, behind i least below, at i below);
    }
