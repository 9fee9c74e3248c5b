-- Lemmas on how many pages and which groups may have dirty ones.
use Rattle.std.proofs.Common.{◌≡◌, ◌≢◌, inl, inr, cond, false, ℕ, ◌+◌, ◌*◌, ◌-◌, ◌/◌, ◌%◌, ◌≤◌, ◌<◌, Bool, true, List, [], ◌∷◌, ◌++◌, length, replicate, max, sym, ap, ◌∙◌, arith, slice_index, slice_index_or, slice_set, length-append, refl}
use Rattle.std.proofs.lemmas.List.{get_or-replicate, length-replicate, get_or-set_same, get_or-set_other, length-set, ext_get_or, get_or_append_left, get_or-append_right}
use Rattle.std.proofs.lemmas.Bool.{cases_Bool, cases_eq, cases_lt}
use Rattle.std.proofs.lemmas.List.Sums.{count_by-le-length, sum_by-set}
use Rattle.asc_pages.specs.DirtyPages.{AreDirty, IsGroupUnlisted, IsUnlisted, IsClean, dirty_in}

-- ---- how many are dirty

-- where page p becomes dirty, which was clean
pub one_dirty : (pages : List Bool) (p : ℕ) → p < length pages → slice_index_or pages p true ≡ false → dirty_in (slice_set pages p true) ≡ dirty_in pages + 1
one_dirty pages p within clean =
    let f : Bool → ℕ = λ page. cond page 1 0 in
    let none : f (slice_index_or pages p true) ≡ 0 = ap f clean in
    omega (arith, sum_by-set f pages p true true within, none)

-- where one is not, not all are
pub some_clean : (pages : List Bool) (p : ℕ) → p < length pages → slice_index_or pages p true ≡ false → dirty_in pages < length pages
some_clean pages p within clean =
    omega (arith, one_dirty pages p within clean, count_by-le-length (λ (page : Bool). page) (slice_set pages p true), length-set pages p true)

-- ---- listed pages

-- the last one
last_listed : (listed new : List ℕ) (p j : ℕ) → new ≡ listed ++ p ∷ [] → j ≡ length listed → slice_index new j ≡ p
last_listed listed new p j is last =
    ap (λ (l : List ℕ). slice_index l j) is ∙ get_or-append_right listed (p ∷ []) (length listed) j 0 refl (omega arith)
    ∙ ap (λ k. slice_index (p ∷ []) k) (let e : j - length listed ≡ 0 = omega arith in e)

-- one of those before it
listed_first : (listed new : List ℕ) (p j : ℕ) → new ≡ listed ++ p ∷ [] → j < length listed → slice_index new j ≡ slice_index listed j
listed_first listed new p j is below = ap (λ (l : List ℕ). slice_index l j) is ∙ get_or_append_left listed (p ∷ []) 0 j below

listed_size : (listed new : List ℕ) (p : ℕ) → new ≡ listed ++ p ∷ [] → length new ≡ length listed + 1
listed_size listed new p is = ap (λ (l : List ℕ). length l) is ∙ length-append listed (p ∷ [])

-- a page that is not listed then was not before, and is another one
pub listed_before : (listed new : List ℕ) (p q : ℕ) → new ≡ listed ++ p ∷ [] → IsUnlisted new q → IsUnlisted listed q
listed_before listed new p q is other j below =
    let size = listed_size listed new p is in
    λ same. other j (omega arith) (listed_first listed new p j is below ∙ same)

pub listed_apart : (listed new : List ℕ) (p q : ℕ) → new ≡ listed ++ p ∷ [] → IsUnlisted new q → p ≢ q
listed_apart listed new p q is other same =
    let size = listed_size listed new p is in
    other (length listed) (omega arith) (last_listed listed new p (length listed) is refl ∙ same)

-- and so for a group
group_before : (listed new : List ℕ) (p g : ℕ) → new ≡ listed ++ p ∷ [] → IsGroupUnlisted new g → IsGroupUnlisted listed g
group_before listed new p g is other j below =
    let size = listed_size listed new p is in
    λ same. other j (omega arith) (ap (λ q. q / 32) (listed_first listed new p j is below) ∙ same)

group_apart : (listed new : List ℕ) (p g : ℕ) → new ≡ listed ++ p ∷ [] → IsGroupUnlisted new g → p / 32 ≢ g
group_apart listed new p g is other same =
    let size = listed_size listed new p is in
    other (length listed) (omega arith) (ap (λ q. q / 32) (last_listed listed new p (length listed) is refl) ∙ same)

-- where page p becomes dirty and is listed
pub dirty_more : (all : Bool) (listed new groups : List ℕ) (pages : List Bool) (p g many : ℕ) → AreDirty all listed groups pages → p < length pages → slice_index_or pages p true ≡ false → g ≡ p / 32
    → many ≡ max (slice_index groups g) (p % 32 + 1) → new ≡ listed ++ p ∷ [] → AreDirty all new (slice_set groups g many) (slice_set pages p true)
dirty_more all listed new groups pages p g many so inside clean group far is =
    let count : length (slice_set pages p true) ≡ length pages = length-set pages p true in
    let size : length (slice_set groups g many) ≡ length groups = length-set groups g many in
    let known : g < length groups = let h = so.least in omega arith in
    let longer = listed_size listed new p is in
    record {
      least = let h = so.least in omega arith;
      most = let h = so.most in omega arith;
      free = λ q within behind. elim (cases_eq (q / 32) g) [
        | inl one ↦
            let read : slice_index (slice_set groups g many) (q / 32) ≡ many = ap (λ j. slice_index (slice_set groups g many) j) one ∙ get_or-set_same groups g many 0 known in
            let was_so : slice_index groups (q / 32) ≡ slice_index groups g = ap (λ j. slice_index groups j) one in
            get_or-set_other pages p q true true (omega arith) ∙ so.free q (omega arith) (omega arith)
        | inr apart ↦
            let read : slice_index (slice_set groups g many) (q / 32) ≡ slice_index groups (q / 32) = get_or-set_other groups g (q / 32) many 0 apart in
            get_or-set_other pages p q true true (omega arith) ∙ so.free q (omega arith) (omega arith)
      ];
      full = λ yes. absurd (omega (arith, so.full yes, some_clean pages p inside clean));
      count = λ none. longer ∙ ap (λ n. n + 1) (so.count none) ∙ sym (one_dirty pages p inside clean);
      within = λ none j below. elim (cases_lt j (length listed)) [
        | inl old ↦ let e = listed_first listed new p j is old in let h = so.within none j old in omega arith
        | inr last ↦ let e = last_listed listed new p j is (omega arith) in omega arith
      ];
      few = λ none q within other.
          let apart : p ≢ q = listed_apart listed new p q is other in
          get_or-set_other pages p q true true (λ same. apart (sym same)) ∙ so.few none q (omega arith) (listed_before listed new p q is other);
      blank = λ none h other.
          let apart : p / 32 ≢ h = group_apart listed new p h is other in
          get_or-set_other groups g h many 0 (λ same. apart (sym (same ∙ group))) ∙ so.blank none h (group_before listed new p h is other);
    }

-- and there is room for it
pub room_left : (all : Bool) (listed groups : List ℕ) (pages : List Bool) (p room : ℕ) → AreDirty all listed groups pages → p < length pages → slice_index_or pages p true ≡ false
    → length pages ≤ room → length listed < room
room_left all listed groups pages p room so within clean least = elim (cases_Bool all) [
  | inl full ↦ absurd (omega (arith, so.full full, some_clean pages p within clean))
  | inr none ↦ omega (arith, so.count none, some_clean pages p within clean)
]

-- the pages of a group behind those that count are clean
pub clean_pages : (all : Bool) (listed groups : List ℕ) (pages : List Bool) (g many : ℕ) → AreDirty all listed groups pages → slice_index groups g ≤ many → IsClean pages (32 * g + many) (32 - many)
clean_pages all listed groups pages g many so far p least most within =
    let group : p / 32 ≡ g = omega arith in
    let read : slice_index groups (p / 32) ≡ slice_index groups g = ap (λ k. slice_index groups k) group in
    so.free p within (omega arith)

-- a list whose elements are all one
pub all_same : {A : Type 0} (list : List A) (item other : A) (count : ℕ) → length list ≡ count → ((k : ℕ) → k < count → slice_index_or list k other ≡ item) → list ≡ replicate count item
all_same list item other count size each =
    ext_get_or other list (replicate count item) (size ∙ sym (length-replicate count item))
    (λ k inside. each k (omega arith) ∙ sym (get_or-replicate count k item other (omega arith)))

-- ---- pages that become clean

-- a page that is not among the listed ones from k on, where it is not behind k either
pub one_less : (listed : List ℕ) (k q : ℕ) → q ≢ slice_index listed k → ((j : ℕ) → k + 1 ≤ j → j < length listed → slice_index listed j ≢ q)
    → (j : ℕ) → k ≤ j → j < length listed → slice_index listed j ≢ q
one_less listed k q apart other j least below = elim (cases_eq j k) [
  | inl here ↦ λ same. apart (sym same ∙ ap (λ i. slice_index listed i) here)
  | inr later ↦ other j (omega arith) below
]

pub one_less_group : (listed : List ℕ) (k h : ℕ) → h ≢ slice_index listed k / 32 → ((j : ℕ) → k + 1 ≤ j → j < length listed → slice_index listed j / 32 ≢ h)
    → (j : ℕ) → k ≤ j → j < length listed → slice_index listed j / 32 ≢ h
one_less_group listed k h apart other j least below = elim (cases_eq j k) [
  | inl here ↦ λ same. apart (sym same ∙ ap (λ i. slice_index listed i / 32) here)
  | inr later ↦ other j (omega arith) below
]
