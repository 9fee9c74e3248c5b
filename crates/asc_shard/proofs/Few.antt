-- A few entries of one key, each compared once.
use Rattle.std.proofs.Common.{◌≡◌, ℕ, zero, suc, ◌+◌, ◌-◌, ◌<◌, ◌≤◌, true, List, [], ◌∷◌, subst, ◌∙◌, inl, inr, ap, arith, length}
use Rattle.std.specs.Prelude.{All, sum_by}
use Rattle.std.specs.Ordering.{is_eq}
use Rattle.std.specs.declared.cmp.Ordering.TheVariants.{Less, Equal}
use Rattle.std.proofs.lemmas.Bool.{cases_Bool, cases_lt}
use Rattle.std.proofs.lemmas.Cmp.{tied_itself}
use Rattle.std.proofs.lemmas.List.Elements.{All-nil}
use Rattle.std.proofs.lemmas.List.Sums.{sum_by-cons}
use Rattle.asc_model.specs.State.{State}
use Rattle.asc_model.specs.Entry.{Entry}
use Rattle.asc_shard.specs.Groups.{AreAsked, Asked, IsAsked, IsFew}
use Rattle.asc_shard.specs.Fingerprints.{may_match}
use Rattle.asc_shard.specs.Inside.{IsFrom, IsIndex, by_group, key_of, sorted_of}
use Rattle.asc_shard.proofs.Orders.{groups_total, is-equal, less-above}
use Rattle.asc_shard.proofs.Slots.{nth, range-up}
use Rattle.asc_shard.proofs.Ranges.{apart-more, asked-one, froms-lower, froms-one}

few-four : (n : ℕ) → 0 < n → n ≤ 4 → IsFew n n
few-four zero some most = absurd (omega arith)
few-four (suc zero) some most = (0, omega arith, omega arith)
few-four (suc (suc zero)) some most = (1, omega arith, omega arith)
few-four (suc (suc (suc zero))) some most = (1, omega arith, omega arith)
few-four (suc (suc (suc (suc zero)))) some most = (2, omega arith, omega arith)
few-four (suc (suc (suc (suc (suc n))))) some most = absurd (omega arith)

-- These entries are of one key, which the state has.
module _ (held : List Entry) (slots : List ℕ) (s : State) (low high : ℕ) (index : IsIndex held slots) (most : high ≤ length slots) (few : high - low ≤ 4)
    (keys : (i j : ℕ) → low ≤ i → i < high → low ≤ j → j < high → key_of (nth (sorted_of held slots) i) ≡ key_of (nth (sorted_of held slots) j))
    (prints : (i : ℕ) → low ≤ i → i < high → may_match s (nth (sorted_of held slots) i) ≡ true) where
  abbrev at : ℕ → Entry
  at i = nth (sorted_of held slots) i

  -- where the group of one of them ends, looked for from a place on
  group-end : (from n m : ℕ) → low ≤ from → m + n ≡ high → from < m → ((i : ℕ) → from ≤ i → i < m → by_group (at from) (at i) ≡ Equal)
      → (end : ℕ) × (from < end) × (end ≤ high) × ((i : ℕ) → from ≤ i → i < end → by_group (at from) (at i) ≡ Equal)
      × ((i : ℕ) → end ≤ i → i < high → by_group (at from) (at i) ≡ Less)
  group-end from zero m least sum lt same = (m, lt, omega (arith, sum), same, λ i behind below. absurd (omega (arith, sum)))
  group-end from (suc n) m least sum lt same = elim (cases_Bool (is_eq (by_group (at from) (at m)))) [
    | inl is ↦ group-end from n (m + 1) least (omega (arith, sum)) (omega arith) (λ i behind below. elim (cases_lt i m) [
      | inl before ↦ same i behind before
      | inr past ↦ ap (λ k. by_group (at from) (at k)) (let e : i ≡ m = omega arith in e) ∙ is-equal (by_group (at from) (at m)) is
    ])
    | inr apart ↦
        let up = range-up held slots from high index most (λ i j behind below behind_j below_j. keys i j (omega arith) below (omega arith) below_j) in
        (m, lt, omega (arith, sum), same, λ i behind below. less-above groups_total at from high up m i (omega arith) behind below apart)
  ]

  -- so many comparisons of those before, and one of each from here on
  asked-from : (n from : ℕ) (asked : List Asked) → high ≤ from + n → low ≤ from → from ≤ high
      → ((i j : ℕ) → low ≤ i → i < from → from ≤ j → j < high → by_group (at i) (at j) ≡ Less)
      → AreAsked held s asked → All (λ a. IsFrom (sorted_of held slots) low from a.entry) asked → sum_by (λ a. a.probes) asked ≡ from - low
      → (all : List Asked) × AreAsked held s all × All (λ a. IsFrom (sorted_of held slots) low high a.entry) all × (sum_by (λ a. a.probes) all ≡ high - low)
  asked-from zero from asked fuel least le before are froms sum =
      let e : from ≡ high = omega arith in
      (asked, are, subst (λ k. All (λ a. IsFrom (sorted_of held slots) low k a.entry) asked) e froms, sum ∙ ap (λ k. k - low) e)
  asked-from (suc n) from asked fuel least le before are froms sum = elim (cases_lt from high) [
    | inr past ↦
        let e : from ≡ high = omega arith in
        (asked, are, subst (λ k. All (λ a. IsFrom (sorted_of held slots) low k a.entry) asked) e froms, sum ∙ ap (λ k. k - low) e)
    | inl lt ↦
        let here = group-end from (high - (from + 1)) (from + 1) least (omega arith) (omega arith)
        (λ i behind below. ap (λ k. by_group (at from) (at k)) (let e : i ≡ from = omega arith in e) ∙ tied_itself groups_total (at from)) in
        let end = here.0 in
        let more = here.1 in
        let within = here.2 in
        let new : Asked = record { entry = at from; probes = end - from } in
        let counted = sum_by-cons (λ (a : Asked). a.probes) new asked in
        asked-from n end (new ∷ asked) (omega arith) (omega arith) within
        (apart-more (sorted_of held slots) low from end high (omega arith) before here.3 here.4)
        (asked-one held slots s from end (end - from) asked index more (omega arith)
        (froms-lower (sorted_of held slots) low from (at from) asked (λ i behind below. before i from behind below (omega arith) lt) froms) here.3
        (prints from least lt) (few-four (end - from) (omega arith) (omega arith)) are)
        (froms-one (sorted_of held slots) low from end (end - from) asked least more froms)
        (omega (arith, counted, sum))
  ]

  pub asked-few : low ≤ high → (all : List Asked) × AreAsked held s all × All (λ a. IsFrom (sorted_of held slots) low high a.entry) all × (sum_by (λ a. a.probes) all ≡ high - low)
  asked-few le =
      asked-from (high - low) low [] (omega arith) (omega arith) le (λ i j least below. absurd (omega arith))
      (record { each = All-nil (IsAsked held s); apart = λ i j d less below. absurd (omega arith) })
      (All-nil (λ (a : Asked). IsFrom (sorted_of held slots) low low a.entry)) (omega arith)
