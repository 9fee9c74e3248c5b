-- The last match of a group, found by halves.
use Rattle.asc_model.proofs.Shapes.{is_same_shape-refl}
use Rattle.std.proofs.lemmas.Simd.{map-map}
use Rattle.std.proofs.Common.{◌≡◌, ℕ, suc, ◌+◌, ◌*◌, ◌^◌, ◌<◌, ◌≤◌, ◌==◌, true, List, [], ◌∷◌, map, Option, None, Some, slice_index, mul-le-mul_right, refl, sym, ap, subst, ◌∙◌, inl, inr, arith}
use Rattle.std.specs.List.{list_all}
use Rattle.std.specs.Ordering.{nat_cmp, is_le}
use Rattle.std.specs.Cmp.Lexicographic.{slice_cmp}
use Rattle.std.specs.declared.cmp.Ordering.TheVariants.{Less, Equal, Greater}
use Rattle.std.proofs.Math.Nat.{pow-suc}
use Rattle.std.proofs.lemmas.Bool.{and_parts, and_from, cases_eq, cases_lt, eq-eqb, eqb-true}
use Rattle.std.proofs.lemmas.Cmp.{tied_back, nat_list_cmp_total}
use Rattle.asc_model.specs.Shape.{is_same_shape}
use Rattle.asc_model.specs.State.{State}
use Rattle.asc_model.specs.Entry.{Entry}
use Rattle.asc_traj.specs.Content.{matches}
use Rattle.asc_shard.specs.Inside.{IsLast, IsTailRising, compare_with, bytes_at, bytes_of}
use Rattle.asc_shard.proofs.Slots.{nth}
use Rattle.asc_shard.proofs.Orders.{nat-equal, nat-less, nat-same, then-equal, then-both, then-up, then-rest, self-le, less-below, greater-above}

-- ---- how often it is halved

pub record HasHalved (times n all : ℕ) : Type 0 where
  pub power : ℕ
  pub enough : 2 ^ power ≤ all
  pub most : times ≤ power + 1
  pub left : n * 2 ^ times ≤ all

pub halved-none : (n : ℕ) → 0 < n → HasHalved 0 n n
halved-none n some = record {
  power = 0;
  enough = let one : 2 ^ 0 ≡ 1 = refl in omega arith;
  most = omega arith;
  left = let one : 2 ^ 0 ≡ 1 = refl in omega (arith, ap (λ k. n * k) one);
}

-- one time more, where at most half is left
pub halved-more : (times n all m : ℕ) → 0 < n → 2 * m ≤ n → HasHalved times n all → HasHalved (suc times) m all
halved-more times n all m some half h =
    let pow : 2 ^ suc times ≡ 2 ^ times * 2 = pow-suc 2 times in
    let first : 1 * 2 ^ times ≤ n * 2 ^ times = mul-le-mul_right (2 ^ times) some in
    let next : (2 * m) * 2 ^ times ≤ n * 2 ^ times = mul-le-mul_right (2 ^ times) half in
    let same : m * 2 ^ suc times ≡ (2 * m) * 2 ^ times = ap (λ k. m * k) pow ∙ omega arith in
    record {
      power = times;
      enough = let left = h.left in omega arith;
      most = omega arith;
      left = let left = h.left in omega arith;
    }

-- ---- matches, by comparing

equal-all : (at : ℕ → ℕ) (cells : List (ℕ × ℕ)) → slice_cmp nat_cmp (bytes_of cells) (map (λ cell. at cell.0) cells) ≡ Equal → list_all (λ cell. at cell.0 == cell.1) cells ≡ true
equal-all at [] e = refl
equal-all at (cell ∷ cells) e =
    let parts = then-equal (nat_cmp cell.1 (at cell.0)) (slice_cmp nat_cmp (bytes_of cells) (map (λ c. at c.0) cells)) e in
    and_from (at cell.0 == cell.1) (list_all (λ c. at c.0 == c.1) cells) (eq-eqb (at cell.0) cell.1 (sym (nat-equal cell.1 (at cell.0) parts.0))) (equal-all at cells parts.1)

all-equal : (at : ℕ → ℕ) (cells : List (ℕ × ℕ)) → list_all (λ cell. at cell.0 == cell.1) cells ≡ true → slice_cmp nat_cmp (bytes_of cells) (map (λ cell. at cell.0) cells) ≡ Equal
all-equal at [] h = refl
all-equal at (cell ∷ cells) h =
    let parts = and_parts (at cell.0 == cell.1) (list_all (λ c. at c.0 == c.1) cells) h in
    then-both (nat_cmp cell.1 (at cell.0)) (slice_cmp nat_cmp (bytes_of cells) (map (λ c. at c.0) cells))
    (nat-same cell.1 (at cell.0) (sym (eqb-true (at cell.0) cell.1 parts.0))) (all-equal at cells parts.1)

pub equal-matches : (e : Entry) (s : State) → e.shape ≡ s.shape → compare_with e s ≡ Equal → matches s e ≡ true
equal-matches e s shape equal =
    and_from (is_same_shape s.shape e.shape) (list_all (λ cell. slice_index s.bytes cell.0 == cell.1) e.reads)
    (ap (is_same_shape s.shape) shape ∙ is_same_shape-refl s.shape) (equal-all (slice_index s.bytes) e.reads equal)

pub matches-equal : (e : Entry) (s : State) → matches s e ≡ true → compare_with e s ≡ Equal
matches-equal e s h =
    all-equal (slice_index s.bytes) e.reads (and_parts (is_same_shape s.shape e.shape) (list_all (λ cell. slice_index s.bytes cell.0 == cell.1) e.reads) h).1

-- ---- in a group

-- What is known where the last match is not behind high, and low is behind the best so far.
pub record IsSought (xs : List Entry) (s : State) (left from end low high : ℕ) (best : Option ℕ) : Type 0 where
  pub range : low ≤ high
  pub least : from ≤ low
  pub most : high ≤ end
  pub none : best ≡ None → (i : ℕ) → from ≤ i → i < low → compare_with (nth xs i) s ≡ Less
  pub some : (j : ℕ) → best ≡ Some j → (j + 1 ≡ low) × (from ≤ j) × (compare_with (nth xs j) s ≡ Equal) × ((nth xs j).steps ≤ left)
  pub past : (i : ℕ) → high ≤ i → i < end → compare_with (nth xs i) s ≡ Equal → left < (nth xs i).steps

module _ {xs : List Entry} {s : State} {from end : ℕ} (group : IsTailRising xs s from end) where
  row : ℕ → List ℕ
  row i = bytes_of (nth xs i).reads

  -- the bytes of the state, at the places that all of them read
  sought : List ℕ
  sought = bytes_at s (nth xs from).reads

  fixed : (i : ℕ) → from ≤ i → i < end → compare_with (nth xs i) s ≡ slice_cmp nat_cmp (row i) sought
  unfolding row sought
  fixed i least lt = ap (slice_cmp nat_cmp (bytes_of (nth xs i).reads)) (
      sym (map-map (slice_index s.bytes) (λ (cell : ℕ × ℕ). cell.0) (nth xs i).reads) ∙ ap (map (slice_index s.bytes)) (sym (group.places i least lt))
      ∙ map-map (slice_index s.bytes) (λ (cell : ℕ × ℕ). cell.0) (nth xs from).reads
      )

  rows-up : (i j : ℕ) → from ≤ i → i ≤ j → j < end → is_le (slice_cmp nat_cmp (row i) (row j)) ≡ true
  unfolding row
  rows-up i j least le lt = elim (cases_eq i j) [
    | inl e ↦ ap (λ k. is_le (slice_cmp nat_cmp (row i) (row k))) (sym e) ∙ self-le nat_list_cmp_total (row i)
    | inr apart ↦ then-up (slice_cmp nat_cmp (row i) (row j)) (nat_cmp (nth xs i).steps (nth xs j).steps) (ap is_le (group.rise i j least (omega (arith, apart)) lt))
  ]

  -- of two that have the bytes the later one has more steps
  steps-up : (i j : ℕ) → from ≤ i → i < j → j < end → compare_with (nth xs i) s ≡ Equal → compare_with (nth xs j) s ≡ Equal → (nth xs i).steps < (nth xs j).steps
  unfolding row
  steps-up i j least lt most e k =
      let first = sym (fixed i least (omega arith)) ∙ e in
      let second = sym (fixed j (omega arith) most) ∙ k in
      let same : slice_cmp nat_cmp (row i) (row j) ≡ Equal =
      (nat_list_cmp_total).congr (row i) sought (row j) first ∙ tied_back nat_list_cmp_total (row j) sought second in
      nat-less (nth xs i).steps (nth xs j).steps (sym (then-rest (slice_cmp nat_cmp (row i) (row j)) (nat_cmp (nth xs i).steps (nth xs j).steps) same) ∙ group.rise i j least lt most)

  less-before : (m i : ℕ) → from ≤ i → i ≤ m → m < end → compare_with (nth xs m) s ≡ Less → compare_with (nth xs i) s ≡ Less
  less-before m i least le lt h =
      fixed i least (omega arith) ∙ less-below nat_list_cmp_total row from end rows-up sought m i least le lt (sym (fixed m (omega arith) lt) ∙ h)

  greater-behind : (m i : ℕ) → from ≤ m → m ≤ i → i < end → compare_with (nth xs m) s ≡ Greater → compare_with (nth xs i) s ≡ Greater
  greater-behind m i least le lt h =
      fixed i (omega arith) lt ∙ greater-above nat_list_cmp_total row from end rows-up sought m i least le lt (sym (fixed m least (omega arith)) ∙ h)

  -- ---- one step of the search

  pub sought-first : {left : ℕ} → from < end → IsSought xs s left from end from end None
  sought-first some = record {
    range = omega arith;
    least = omega arith;
    most = omega arith;
    none = λ e i least lt. absurd (omega arith);
    some = λ j e. cc;
    past = λ i least lt. absurd (omega arith);
  }

  pub sought-less : {left low high : ℕ} {best : Option ℕ} (m : ℕ) → IsSought xs s left from end low high best → low ≤ m → m < high → compare_with (nth xs m) s ≡ Less
      → IsSought xs s left from end (m + 1) high best
  sought-less m v le lt h = record {
    range = omega arith;
    least = omega (arith, v.least);
    most = v.most;
    none = λ e i least below. less-before m i least (omega arith) (omega (arith, v.most)) h;
    some = λ j e. let found = v.some j e in absurd (let no = sym (less-before m j found.1 (omega (arith, found.0)) (omega (arith, v.most)) h) ∙ found.2 in cc);
    past = v.past;
  }

  pub sought-equal : {left low high : ℕ} {best : Option ℕ} (m : ℕ) → IsSought xs s left from end low high best → low ≤ m → m < high → compare_with (nth xs m) s ≡ Equal
      → (nth xs m).steps ≤ left → IsSought xs s left from end (m + 1) high (Some m)
  sought-equal {left = left} m v le lt h fits = record {
    range = omega arith;
    least = omega (arith, v.least);
    most = v.most;
    none = λ e. cc;
    some = λ j e. let same : m ≡ j = cc in
        subst (λ k. (k + 1 ≡ m + 1) × (from ≤ k) × (compare_with (nth xs k) s ≡ Equal) × ((nth xs k).steps ≤ left)) same (refl, omega (arith, v.least), h, fits);
    past = v.past;
  }

  pub sought-greater : {left low high : ℕ} {best : Option ℕ} (m : ℕ) → IsSought xs s left from end low high best → low ≤ m → m < high → compare_with (nth xs m) s ≡ Greater
      → IsSought xs s left from end low m best
  sought-greater m v le lt h = record {
    range = le;
    least = v.least;
    most = omega (arith, v.most);
    none = v.none;
    some = v.some;
    past = λ i least below e. absurd (let no = sym (greater-behind m i (omega (arith, v.least)) least below h) ∙ e in cc);
  }

  pub sought-longer : {left low high : ℕ} {best : Option ℕ} (m : ℕ) → IsSought xs s left from end low high best → low ≤ m → m < high → compare_with (nth xs m) s ≡ Equal
      → left < (nth xs m).steps → IsSought xs s left from end low m best
  sought-longer {left = left} m v le lt h longer = record {
    range = le;
    least = v.least;
    most = omega (arith, v.most);
    none = v.none;
    some = v.some;
    past = λ i least below e. elim (cases_eq m i) [
      | inl same ↦ subst (λ k. left < (nth xs k).steps) same longer
      | inr apart ↦ omega (arith, longer, steps-up m i (omega (arith, v.least)) (omega (arith, apart)) below h e)
    ];
  }

  -- ---- its end

  pub sought-last : {left low high : ℕ} {best : Option ℕ} → IsSought xs s left from end low high best → high ≤ low → IsLast xs s left from end best
  sought-last {left = left} {high = high} v done = record {
    within = λ i e. let found = v.some i e in (found.1, omega (arith, found.0, v.range, v.most));
    matched = λ i e. let found = v.some i e in (equal-matches (nth xs i) s (group.shape i found.1 (omega (arith, found.0, v.range, v.most))) found.2, found.3);
    most = λ j e i least lt match enough.
        let found = v.some j e in
        let equal = matches-equal (nth xs i) s match in
        elim (cases_lt i high) [
          | inl before ↦ elim (cases_eq i j) [
            | inl same ↦ subst (λ k. (nth xs i).steps ≤ (nth xs k).steps) same (omega arith)
            | inr apart ↦ omega (arith, steps-up i j least (omega (arith, apart, found.0, v.range)) (omega (arith, found.0, v.range, v.most)) equal found.2)
          ]
          | inr behind ↦ absurd (omega (arith, v.past i behind lt equal, enough))
        ];
    none = λ e i least lt match enough.
        let equal = matches-equal (nth xs i) s match in
        elim (cases_lt i high) [
          | inl before ↦ absurd (let no = sym (v.none e i least (omega (arith, v.range))) ∙ equal in cc)
          | inr behind ↦ absurd (omega (arith, v.past i behind lt equal, enough))
        ];
  }
