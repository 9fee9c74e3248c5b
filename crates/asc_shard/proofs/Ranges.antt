-- A look-up in slots of one key, group by group.
use Rattle.std.proofs.lemmas.List.Folds.{fold-map}
use Rattle.std.proofs.Common.{◌≡◌, ℕ, zero, suc, ◌+◌, ◌-◌, ◌<◌, ◌≤◌, ◌==◌, Bool, true, false, cond, List, [], ◌∷◌, length, get_or, take, Some, nat_lt, refl, sym, ap, subst, ◌∙◌, inl, inr, arith, add-one, add-zero}
use Rattle.std.specs.Prelude.{All, Contains, count_by, sum_by, if◌then◌else◌}
use Rattle.std.specs.Ordering.{nat_cmp, ordering_then}
use Rattle.std.specs.Cmp.Lexicographic.{slice_cmp}
use Rattle.std.specs.declared.cmp.Ordering.TheVariants.{Less, Equal}
use lib.Pointwise.{pointwise}
use Rattle.std.proofs.lemmas.Bool.{and_parts, and_from, cases_Bool, cases_lt, eq-eqb, eqb-true, false≢true, false_from_ne_true, cond-true, ltb-true, ltb-false}
use Rattle.std.proofs.lemmas.Cmp.{tied_itself, tied_back, nat_list_cmp_total}
use Rattle.std.proofs.lemmas.List.{take_all}
use Rattle.std.proofs.lemmas.List.Elements.{All-cons, All-weaker, Contains-get_or}
use Rattle.std.proofs.lemmas.List.Kept.{AllPairs-cons}
use Rattle.std.proofs.lemmas.List.Sums.{sum_by-cons, sum_by_more}
use Rattle.asc_model.specs.declared.version.Version.{Version}
use Rattle.asc_model.specs.declared.version.Version.TheVariants.{One, Two}
use Rattle.asc_model.specs.Shape.{Shape, is_same_shape}
use Rattle.asc_model.specs.State.{State}
use Rattle.asc_model.specs.Entry.{Entry}
use Rattle.asc_traj.specs.Content.{matches}
use Rattle.asc_shard.specs.declared.find.Best.{Best}
use Rattle.asc_shard.specs.Groups.{AreAsked, Asked, IsAsked, IsFew, is_of_group}
use Rattle.asc_shard.specs.Fingerprints.{may_match}
use Rattle.asc_shard.specs.Inside.{IsBest, IsFrom, IsIndex, IsMost, IsTailRising, by_group, by_shape, count_below, key_of, no_entry, places_of, raised, rank_of, sorted_of}
use Rattle.asc_shard.proofs.Orders.{groups_total, shapes_total, nat-equal, then-equal, then-both}
use Rattle.asc_model.proofs.Shapes.{is_same_shape-refl, is_same_shape-true}
use Rattle.asc_shard.proofs.Slots.{nth, sorted-at, sorted-length, position-in, tail-up}

-- ---- groups

same-rank : (a b : Version) → rank_of a ≡ rank_of b → a ≡ b
same-rank One One e = refl
same-rank One Two e = absurd (omega arith)
same-rank Two One e = absurd (omega arith)
same-rank Two Two e = refl

one-shape : (a b : Shape) → a.base ≡ b.base → a.size ≡ b.size → a.version ≡ b.version → a ≡ b
one-shape a b base size version = λ i. record { base = base i; size = size i; version = version i }

by-shape : (a b : Shape) → by_shape a b ≡ Equal → a ≡ b
by-shape a b h =
    let first = then-equal (nat_cmp a.base b.base) (ordering_then (nat_cmp a.size b.size) (nat_cmp (rank_of a.version) (rank_of b.version))) h in
    let second = then-equal (nat_cmp a.size b.size) (nat_cmp (rank_of a.version) (rank_of b.version)) first.1 in
    one-shape a b (nat-equal a.base b.base first.0) (nat-equal a.size b.size second.0)
    (same-rank a.version b.version (nat-equal (rank_of a.version) (rank_of b.version) second.1))

pub same-list : (xs ys : List ℕ) → slice_cmp nat_cmp xs ys ≡ Equal → xs ≡ ys
same-list [] [] e = refl
same-list [] (y ∷ ys) e = cc
same-list (x ∷ xs) [] e = cc
same-list (x ∷ xs) (y ∷ ys) e =
    let parts = then-equal (nat_cmp x y) (slice_cmp nat_cmp xs ys) e in
    λ i. nat-equal x y parts.0 i ∷ same-list xs ys parts.1 i

abbrev is_same_place : ℕ × ℕ → ℕ × ℕ → Bool
is_same_place x y = x.0 == y.0

point-places : (xs ys : List (ℕ × ℕ)) → pointwise is_same_place xs ys ≡ true → places_of xs ≡ places_of ys
point-places [] [] e = refl
point-places [] (y ∷ ys) e = cc
point-places (x ∷ xs) [] e = cc
point-places (x ∷ xs) (y ∷ ys) e =
    let parts = and_parts (x.0 == y.0) (pointwise is_same_place xs ys) e in
    λ i. eqb-true x.0 y.0 parts.0 i ∷ point-places xs ys parts.1 i

places-point : (xs ys : List (ℕ × ℕ)) → places_of xs ≡ places_of ys → pointwise is_same_place xs ys ≡ true
places-point [] [] e = refl
places-point [] (y ∷ ys) e = cc
places-point (x ∷ xs) [] e = cc
places-point (x ∷ xs) (y ∷ ys) e =
    and_from (x.0 == y.0) (pointwise is_same_place xs ys) (eq-eqb x.0 y.0 cc) (places-point xs ys cc)

-- what one group is
pub group-shape : (a b : Entry) → by_group a b ≡ Equal → a.shape ≡ b.shape
group-shape a b h = by-shape a.shape b.shape (then-equal (by_shape a.shape b.shape) (slice_cmp nat_cmp (places_of a.reads) (places_of b.reads)) h).0

pub group-places : (a b : Entry) → by_group a b ≡ Equal → places_of a.reads ≡ places_of b.reads
group-places a b h = same-list (places_of a.reads) (places_of b.reads) (then-equal (by_shape a.shape b.shape) (slice_cmp nat_cmp (places_of a.reads) (places_of b.reads)) h).1

pub group-test : (a b : Entry) → by_group a b ≡ Equal → is_of_group a b ≡ true
group-test a b h =
    and_from (is_same_shape a.shape b.shape) (pointwise is_same_place a.reads b.reads)
    (ap (is_same_shape a.shape) (sym (group-shape a b h)) ∙ is_same_shape-refl a.shape) (places-point a.reads b.reads (group-places a b h))

pub test-group : (a b : Entry) → is_of_group a b ≡ true → by_group a b ≡ Equal
test-group a b h =
    let parts = and_parts (is_same_shape a.shape b.shape) (pointwise is_same_place a.reads b.reads) h in
    then-both (by_shape a.shape b.shape) (slice_cmp nat_cmp (places_of a.reads) (places_of b.reads))
    (ap (by_shape a.shape) (sym (is_same_shape-true a.shape b.shape parts.0)) ∙ tied_itself shapes_total a.shape)
    (ap (slice_cmp nat_cmp (places_of a.reads)) (sym (point-places a.reads b.reads parts.1)) ∙ tied_itself nat_list_cmp_total (places_of a.reads))

-- ---- counts

count-take : (f : Entry → Bool) (held : List Entry) (n : ℕ) → n ≤ length held → count_below (λ p. f (nth held p)) n ≡ count_by f (take n held)
count-take f held zero most = refl
count-take f held (suc n) most =
    let ih = count-take f held n (omega arith) in
    let more = sum_by_more (λ e. cond (f e) 1 0) held n no_entry (omega arith) in
    let same = ap (λ k. count_by f (take k held)) (add-one n) in
    omega (arith, ih, more, same)

-- as many pass a test in the index as of those that are held
pub count-index : (f : Entry → Bool) (held : List Entry) (slots : List ℕ) → IsIndex held slots → count_by f (sorted_of held slots) ≡ count_by f held
count-index f held slots index =
    fold-map (λ (a : ℕ) (e : Entry). a + cond (f e) 1 0) (nth held) 0 slots ∙ index.once (λ p. f (nth held p)) ∙ count-take f held (length held) (omega arith)
    ∙ ap (count_by f) (take_all (length held) held (omega arith))

-- those of a range that all pass
pub count-range : (f : Entry → Bool) (xs : List Entry) (low n : ℕ) → low + n ≤ length xs → ((i : ℕ) → low ≤ i → i < low + n → f (nth xs i) ≡ true) → n ≤ count_by f xs
count-range f xs zero zero most all = omega arith
count-range f [] zero (suc n) most all = absurd (omega arith)
count-range f [] (suc low) n most all = absurd (omega arith)
count-range f (x ∷ xs) zero (suc n) most all =
    let ih = count-range f xs 0 n (omega arith) (λ i least lt. all (suc i) (omega arith) (omega arith)) in
    let here : cond {A = ℕ} (f x) 1 0 ≡ 1 = cond-true (f x) 1 0 (all 0 (omega arith) (omega arith)) in
    omega (arith, ih, here, sum_by-cons (λ e. cond (f e) 1 0) x xs)
count-range f (x ∷ xs) (suc low) n most all =
    omega (arith, count-range f xs low n (omega arith) (λ i least lt. all (suc i) (omega arith) (omega arith)), sum_by-cons (λ e. cond (f e) 1 0) x xs)

-- ---- one group more

pub asked-one : (held : List Entry) (slots : List ℕ) (s : State) (from end times : ℕ) (asked : List Asked) → IsIndex held slots → from < end → end ≤ length slots
    → All (λ a. by_group a.entry (nth (sorted_of held slots) from) ≡ Less) asked
    → ((i : ℕ) → from ≤ i → i < end → by_group (nth (sorted_of held slots) from) (nth (sorted_of held slots) i) ≡ Equal)
    → may_match s (nth (sorted_of held slots) from) ≡ true → IsFew times (end - from)
    → AreAsked held s asked → AreAsked held s (record { entry = nth (sorted_of held slots) from; probes = times } ∷ asked)
asked-one held slots s from end times asked index some most before same may few all =
    let xs = sorted_of held slots in
    let first = nth xs from in
    let new : Asked = record { entry = first; probes = times } in
    let blank : ℕ = 0 in
    let count = count-range (is_of_group first) xs from (end - from) (omega (arith, sorted-length held slots))
    (λ i below lt. group-test first (nth xs i) (same i below (omega arith))) in
    let is : IsAsked held s new = record {
      is_held = subst (Contains held) (sym (sorted-at held slots from blank (omega arith)))
          (Contains-get_or held (get_or slots from blank) no_entry (position-in held slots from blank index (omega arith)));
      has_print = may;
      is_few = (few.0, omega (arith, few.1, count, count-index (is_of_group first) held slots index), few.2);
    } in
    record {
      each = All-cons (IsAsked held s) new asked is all.each;
      apart = AllPairs-cons (λ a b. is_of_group a.entry b.entry ≡ false) new asked
          (All-weaker (λ a. by_group a.entry first ≡ Less) (λ b. is_of_group first b.entry ≡ false)
          (λ b less. false_from_ne_true (is_of_group first b.entry) (λ one.
          let no = sym less ∙ tied_back groups_total first b.entry (test-group first b.entry one) in cc)) asked before)
          all.apart;
    }

-- those of a range of which each group is lower than an entry's
pub froms-lower : (xs : List Entry) (low from : ℕ) (e : Entry) (asked : List Asked) → ((i : ℕ) → low ≤ i → i < from → by_group (nth xs i) e ≡ Less)
    → All (λ a. IsFrom xs low from a.entry) asked → All (λ a. by_group a.entry e ≡ Less) asked
froms-lower xs low from e asked before all =
    All-weaker (λ a. IsFrom xs low from a.entry) (λ a. by_group a.entry e ≡ Less)
    (λ a is. ap (λ (first : Entry). by_group first e) is.3 ∙ before is.0 is.1 is.2) asked all

pub froms-more : (xs : List Entry) (low from end : ℕ) (asked : List Asked) → from ≤ end → All (λ a. IsFrom xs low from a.entry) asked → All (λ a. IsFrom xs low end a.entry) asked
froms-more xs low from end asked le all =
    All-weaker (λ a. IsFrom xs low from a.entry) (λ a. IsFrom xs low end a.entry) (λ a is. (is.0, is.1, let lt = is.2 in omega arith, is.3)) asked all

pub froms-one : (xs : List Entry) (low from end times : ℕ) (asked : List Asked) → low ≤ from → from < end → All (λ a. IsFrom xs low from a.entry) asked
    → All (λ a. IsFrom xs low end a.entry) (record { entry = nth xs from; probes = times } ∷ asked)
froms-one xs low from end times asked least lt all =
    All-cons (λ a. IsFrom xs low end a.entry) (record { entry = nth xs from; probes = times }) asked (from, least, lt, refl) (froms-more xs low from end asked (omega arith) all)

-- ---- the best so far

pub best-longer : (held : List Entry) (s : State) (left : ℕ) (best : Best) (p : ℕ) → IsBest held s left best.position best.steps → p < length held
    → matches s (nth held p) ≡ true → (nth held p).steps ≤ left
    → (new : Best) → new ≡ (if nat_lt best.steps (nth held p).steps then record { position = Some p; steps = (nth held p).steps } else best)
    → IsBest held s left new.position new.steps × (best.steps ≤ new.steps) × ((nth held p).steps ≤ new.steps)
best-longer held s left best p is lt match enough new e = elim (cases_Bool (nat_lt best.steps (nth held p).steps)) [
  | inl more ↦
      let longer = ltb-true best.steps (nth held p).steps more in
      rw (e, more) (
        record {
          none = λ no. cc;
          within = λ q some. let at : p ≡ q = cc in subst (λ k. k < length held) at lt;
          matched = λ q some. let at : p ≡ q = cc in subst (λ k. matches s (nth held k) ≡ true) at match;
          steps_are = λ q some. let at : p ≡ q = cc in ap (λ k. (nth held k).steps) (sym at);
          enough = enough;
        },
        omega arith,
        omega arith,
      )
  | inr not ↦ rw (e, not) (is, omega arith, omega (arith, ltb-false best.steps (nth held p).steps not))
]

-- what none of two ranges in a row passes
pub most-more : (xs : List Entry) (s : State) (left low from end old new : ℕ) → IsMost xs s left low from old → old ≤ new → IsMost xs s left from end new → IsMost xs s left low end new
most-more xs s left low from end old new first le second i least lt match enough = elim (cases_lt i from) [
  | inl before ↦ let most = first i least before match enough in omega arith
  | inr behind ↦ second i behind lt match enough
]

-- and where those behind it do not match
pub most-passed : (xs : List Entry) (s : State) (left low end from steps : ℕ) → IsMost xs s left low end steps
    → ((i : ℕ) → end ≤ i → i < from → matches s (nth xs i) ≡ false) → IsMost xs s left low from steps
most-passed xs s left low end from steps most passed =
    most-more xs s left low end from steps steps most (omega arith) (λ i least lt match enough. absurd (false≢true (sym (passed i least lt) ∙ match)))

-- the entries of a group
pub tail-rising : (held : List Entry) (slots : List ℕ) (s : State) (from end : ℕ) → IsIndex held slots → end ≤ length slots
    → ((i j : ℕ) → from ≤ i → i < end → from ≤ j → j < end → key_of (nth (sorted_of held slots) i) ≡ key_of (nth (sorted_of held slots) j))
    → ((i : ℕ) → from ≤ i → i < end → by_group (nth (sorted_of held slots) from) (nth (sorted_of held slots) i) ≡ Equal)
    → (nth (sorted_of held slots) from).shape ≡ s.shape → IsTailRising (sorted_of held slots) s from end
tail-rising held slots s from end index most keys same shape =
    let at = nth (sorted_of held slots) in
    record {
      shape = λ i least lt. sym (group-shape (at from) (at i) (same i least lt)) ∙ shape;
      places = λ i least lt. group-places (at from) (at i) (same i least lt);
      rise = λ i j least lt below. tail-up (at i) (at j) (keys i j least (omega arith) (omega arith) below)
          (sym (groups_total.congr (at from) (at i) (at j) (same i least (omega arith))) ∙ same j (omega arith) below)
          (index.rise i j no_entry lt (omega (arith, sorted-length held slots)));
    }

-- what comes behind a group is of later groups
pub apart-more : (xs : List Entry) (low from end high : ℕ) → from ≤ end
    → ((i j : ℕ) → low ≤ i → i < from → from ≤ j → j < high → by_group (nth xs i) (nth xs j) ≡ Less)
    → ((i : ℕ) → from ≤ i → i < end → by_group (nth xs from) (nth xs i) ≡ Equal)
    → ((i : ℕ) → end ≤ i → i < high → by_group (nth xs from) (nth xs i) ≡ Less)
    → (i j : ℕ) → low ≤ i → i < end → end ≤ j → j < high → by_group (nth xs i) (nth xs j) ≡ Less
apart-more xs low from end high le before same rest i j least lt behind below = elim (cases_lt i from) [
  | inl first ↦ before i j least first (omega arith) below
  | inr second ↦ sym (groups_total.congr (nth xs from) (nth xs i) (nth xs j) (same i second lt)) ∙ rest j behind below
]

-- ---- counts that were raised

pub raised-add : (more : ℕ → ℕ) (times n count : ℕ) → raised more times (raised more n count) ≡ raised more (times + n) count
raised-add more zero n count = ap (λ k. raised more k count) (let e : n ≡ 0 + n = omega arith in e)
raised-add more (suc times) n count =
    ap more (raised-add more times n count) ∙ ap (λ k. raised more k count) (let e : suc (times + n) ≡ suc times + n = omega arith in e)

-- All these were asked of entries between two places, and those from a place on are of later groups.
pub record AreBefore (xs : List Entry) (low from high : ℕ) (asked : List Asked) : Type 0 where
  pub froms : All (λ a. IsFrom xs low from a.entry) asked
  pub lower : (j : ℕ) → from ≤ j → j < high → All (λ a. by_group a.entry (nth xs j) ≡ Less) asked

pub before-more : (xs : List Entry) (low from end high : ℕ) (asked : List Asked) → from ≤ end → AreBefore xs low from high asked → AreBefore xs low end high asked
before-more xs low from end high asked le are = record {
  froms = froms-more xs low from end asked le are.froms;
  lower = λ j least below. are.lower j (omega (arith, le, least)) below;
}

-- what is asked with one group more
pub probes-one : (more : ℕ → ℕ) (held : List Entry) (slots : List ℕ) (s : State) (low from end high times now between before : ℕ) → IsIndex held slots → low ≤ from → from < end → end ≤ length slots
    → end ≤ high
    → ((i : ℕ) → from ≤ i → i < end → by_group (nth (sorted_of held slots) from) (nth (sorted_of held slots) i) ≡ Equal)
    → ((i : ℕ) → end ≤ i → i < high → by_group (nth (sorted_of held slots) from) (nth (sorted_of held slots) i) ≡ Less)
    → may_match s (nth (sorted_of held slots) from) ≡ true
    → IsFew times (end - from) × (now ≡ raised more times between)
    → (asked : List Asked) × AreAsked held s asked × AreBefore (sorted_of held slots) low from high asked × (between ≡ raised more (sum_by (λ a. a.probes) asked) before)
    → (asked : List Asked) × AreAsked held s asked × AreBefore (sorted_of held slots) low end high asked × (now ≡ raised more (sum_by (λ a. a.probes) asked) before)
probes-one more held slots s low from end high times now between before index least some most within same rest may new old =
    let xs = sorted_of held slots in
    let new_one : Asked = record { entry = nth xs from; probes = times } in (
      new_one ∷ old.0,
      asked-one held slots s from end times old.0 index some most (old.2.lower from (omega arith) (omega arith)) same may new.0 old.1,
      record {
        froms = froms-one xs low from end times old.0 least some old.2.froms;
        lower = λ j behind below. All-cons (λ a. by_group a.entry (nth xs j) ≡ Less) new_one old.0 (rest j behind below) (old.2.lower j (omega arith) below);
      },
      new.1 ∙ ap (raised more times) old.3 ∙ raised-add more times (sum_by (λ a. a.probes) old.0) before
          ∙ ap (λ k. raised more k before) (sym (sum_by-cons (λ (a : Asked). a.probes) new_one old.0)),
    )

pub raised-by-one : (times count : ℕ) → raised (λ n. n + 1) times count ≡ count + times
raised-by-one zero count = sym (add-zero count)
raised-by-one (suc times) count = let before = raised-by-one times count in omega (arith, before)
