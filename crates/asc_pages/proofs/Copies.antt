-- Lemmas on pages.
use Rattle.std.proofs.Common.{◌≡◌, ◌⊎◌, inl, inr, ℕ, ◌+◌, ◌*◌, ◌-◌, ◌/◌, ◌%◌, ◌≤◌, ◌<◌, Bool, true, false, Option, None, Some, List, [], ◌++◌, length, take, drop, replicate, refl, sym, ap, ◌∙◌, arith, max, min, slice_index, slice_index_or, map, length-append, length-take}
use Rattle.std.proofs.lemmas.List.{get_or_past, get_or_append_left, get_or-append_right, get_or-replicate, get_or-take, get_or-drop, length-replicate}
use Rattle.std.proofs.lemmas.List.FromFn.{length-map-range_with_len, get_or-map-range_with_len}
use Rattle.std.proofs.lemmas.Bool.{cases_lt, lt-ltb, le-ltb}
use Rattle.std.specs.List.{range_with_len}
use Rattle.std.specs.declared.sync.Arc.{Arc}
use Rattle.std.specs.Global.{Vec, Global}
use Rattle.asc_model.specs.Number.{word_at}
use Rattle.asc_model.proofs.Numbers.{word_at-from_le_bytes}
use Rattle.asc_pages.specs.DirtyPages.{IsUnlisted, IsClean}
use Rattle.asc_pages.specs.Pages.{Page, Group, held, page_bytes, page_in, with_gap, group_in, IsPage, ArePages, AreGroups, IsShared, Tells, Keeps}
use Rattle.asc_pages.specs.Numbers.{end_of, place_of}
use Rattle.asc_pages.specs.Tops.{bytes_in, groups_in, page_of}
use Rattle.asc_pages.specs.declared.pages.Top.{Top}
use Rattle.asc_pages.proofs.Places.{end_each, past_unlisted, place_found, place_past}

-- ---- what is shared

pub held_shared : (group was : Option Group) → IsShared group was → held group ≡ held was
held_shared None None shared = refl
held_shared None (Some was) shared = absurd shared
held_shared (Some group) None shared = absurd shared
held_shared (Some group) (Some was) shared = ap (λ (v : Vec (Option Page)). v.items) shared

pub page_shared : (page was : Option Page) → IsShared page was → page_bytes page ≡ page_bytes was
page_shared None None shared = refl
page_shared None (Some was) shared = absurd shared
page_shared (Some page) None shared = absurd shared
page_shared (Some page) (Some was) shared = shared

pub groups_shared : (groups was : Option (Arc (List (Option Group)) Global)) → IsShared groups was → groups_in groups ≡ groups_in was
groups_shared None None shared = refl
groups_shared None (Some was) shared = absurd shared
groups_shared (Some groups) None shared = absurd shared
groups_shared (Some groups) (Some was) shared = shared

-- ---- what is left out

pub none_in : (k : ℕ) → page_in [] k ≡ []
none_in k = ap (λ (page : Option Page). page_bytes page) (get_or_past [] k None (omega arith))

pub past_in : (pages : List (Option Page)) (k : ℕ) → length pages ≤ k → page_in pages k ≡ []
past_in pages k past = ap (λ (page : Option Page). page_bytes page) (get_or_past pages k None past)

-- ---- groups

-- a group before those that are left out, among them, or behind them
pub group_low : (groups : List (Option Group)) (low gap g : ℕ) → low ≤ length groups → g < low → slice_index_or (with_gap groups low gap) g None ≡ slice_index_or groups g None
group_low groups low gap g inside below =
    get_or_append_left (take low groups) (replicate gap None ++ drop low groups) None g (omega (arith, length-take low groups)) ∙ get_or-take low groups g None below

behind : (groups : List (Option Group)) (low gap g : ℕ) → low ≤ length groups → low ≤ g
    → slice_index_or (with_gap groups low gap) g None ≡ slice_index_or (replicate gap None ++ drop low groups) (g - low) None
behind groups low gap g inside above =
    get_or-append_right (take low groups) (replicate gap None ++ drop low groups) low g None (let e : length (take low groups) ≡ low = omega (arith, length-take low groups) in e) above

pub group_left : (groups : List (Option Group)) (low gap g : ℕ) → low ≤ length groups → low ≤ g → g < low + gap → slice_index_or (with_gap groups low gap) g None ≡ None
group_left groups low gap g inside above left =
    behind groups low gap g inside above
    ∙ get_or_append_left (replicate gap None) (drop low groups) None (g - low) (omega (arith, length-replicate {A = Option Group} gap None))
    ∙ get_or-replicate gap (g - low) None None (omega arith)

pub group_high : (groups : List (Option Group)) (low gap g : ℕ) → low ≤ length groups → low + gap ≤ g → slice_index_or (with_gap groups low gap) g None ≡ slice_index_or groups (g - gap) None
group_high groups low gap g inside above =
    behind groups low gap g inside (omega arith)
    ∙ get_or-append_right (replicate gap None) (drop low groups) gap (g - low) None (length-replicate gap None) (omega arith)
    ∙ get_or-drop low groups (g - low - gap) None
    ∙ ap (λ k. slice_index_or groups k None) (let e : low + (g - low - gap) ≡ g - gap = omega arith in e)

-- ---- pages

-- one that stands in the place of another
pub page_patched : (top : Top) (p : ℕ) → place_of top.patched p < length top.patched → page_of top p ≡ page_in top.patches (place_of top.patched p)
unfolding page_of
page_patched top p found = rw lt-ltb

-- one of a group
pub page_plain : (top : Top) (p : ℕ) → length top.patched ≤ place_of top.patched p → page_of top p ≡ page_in (group_in (groups_in top.groups) (p / 32)) (p % 32)
unfolding page_of
page_plain top p past = rw le-ltb

-- one behind the last
page_past : (top : Top) (p : ℕ) → 32 * length (groups_in top.groups) ≤ p → end_of top.patched ≤ p → page_of top p ≡ []
page_past top p behind higher = elim (cases_lt (place_of top.patched p) (length top.patched)) [
  | inl found ↦ absurd (omega (arith, end_each top.patched (place_of top.patched p) found, place_found top.patched p found))
  | inr past ↦ page_plain top p past
      ∙ ap (λ (group : Option Group). page_in (held group) (p % 32)) (get_or_past (groups_in top.groups) (p / 32) None (omega arith))
      ∙ none_in (p % 32)
]

-- ---- bytes

pub byte-bytes_in : (top : Top) (i : ℕ) → slice_index (bytes_in top) i ≡ slice_index (page_of top (i / 1024)) (i % 1024)
unfolding bytes_in
byte-bytes_in top i =
    let byte = λ (j : ℕ). slice_index (page_of top (j / 1024)) (j % 1024) in
    let n = 1024 * max (32 * length (groups_in top.groups)) (end_of top.patched) in
    elim (cases_lt i n) [
      | inl within ↦ get_or-map-range_with_len byte 0 n i i 0 within (omega arith)
      | inr past ↦ get_or_past (bytes_in top) i 0 (omega (arith, length-map-range_with_len byte 0 n))
          ∙ sym (ap (λ (l : List ℕ). slice_index l (i % 1024)) (page_past top (i / 1024) (omega arith) (omega arith)) ∙ get_or_past [] (i % 1024) 0 (omega arith))
    ]

-- a page as it is read
pub page_read : (bytes : List ℕ) (top : Top) (page : List ℕ) (p : ℕ) → bytes_in top ≡ bytes → page ≡ page_of top p
    → (i : ℕ) → i / 1024 ≡ p → slice_index bytes i ≡ slice_index page (i % 1024)
page_read bytes top page p is here i at =
    ap (λ (l : List ℕ). slice_index l i) (sym is) ∙ byte-bytes_in top i
    ∙ ap (λ q. slice_index (page_of top q) (i % 1024)) at
    ∙ ap (λ (l : List ℕ). slice_index l (i % 1024)) (sym here)

-- a page that is kept
pub kept_page : (dirty : List Bool) (bytes : List ℕ) (top : Top) (p : ℕ) → Keeps dirty (bytes_in top) bytes → slice_index_or dirty p true ≡ false → IsPage bytes p (page_of top p)
kept_page dirty bytes top p kept free i far inside here =
    kept i far inside (ap (λ q. slice_index_or dirty q true) here ∙ free) ∙ byte-bytes_in top i ∙ ap (λ q. slice_index (page_of top q) (i % 1024)) here

-- and one of a group
pub kept_plain : (dirty : List Bool) (bytes : List ℕ) (top : Top) (g k : ℕ) → Keeps dirty (bytes_in top) bytes → k < 32 → slice_index_or dirty (32 * g + k) true ≡ false
    → IsUnlisted top.patched (32 * g + k) → IsPage bytes (32 * g + k) (page_in (group_in (groups_in top.groups) g) k)
kept_plain dirty bytes top g k kept within free other i far inside here =
    let groups = groups_in top.groups in
    kept_page dirty bytes top (32 * g + k) kept free i far inside here
    ∙ ap (λ (l : List ℕ). slice_index l (i % 1024)) (page_plain top (32 * g + k) (place_past top.patched (32 * g + k) other)
    ∙ ap (λ h. page_in (group_in groups h) ((32 * g + k) % 32)) (let e : (32 * g + k) / 32 ≡ g = omega arith in e)
    ∙ ap (λ j. page_in (group_in groups g) j) (let e : (32 * g + k) % 32 ≡ k = omega arith in e))

-- pages that are told one by one
told : (bytes : List ℕ) (top : Top) → ((p : ℕ) → IsPage bytes p (page_of top p)) → Tells (bytes_in top) bytes
told bytes top each i far inside = each (i / 1024) i far inside refl ∙ sym (byte-bytes_in top i)

-- groups alone
pub told_whole : (bytes : List ℕ) (top : Top) → AreGroups bytes (groups_in top.groups) → top.patched ≡ [] → Tells (bytes_in top) bytes
told_whole bytes top each none = told bytes top
    (λ p i far inside here. each (p / 32) (p % 32) (omega arith) i far inside (omega arith)
    ∙ ap (λ (l : List ℕ). slice_index l (i % 1024)) (sym (page_plain top p (let e = ap (λ (l : List ℕ). length l) none in omega arith))))

-- those of a base, and pages that stand in the place of theirs
pub told_patched : (dirty : List Bool) (bytes : List ℕ) (base top : Top) → length dirty ≡ length bytes / 1024 + 1 → Keeps dirty (bytes_in base) bytes
    → groups_in top.groups ≡ groups_in base.groups
    → ((p : ℕ) → IsUnlisted top.patched p → IsUnlisted base.patched p × (p < length dirty → slice_index_or dirty p true ≡ false))
    → ((k : ℕ) → k < length top.patched → IsPage bytes (slice_index top.patched k) (page_in top.patches k)) → Tells (bytes_in top) bytes
told_patched dirty bytes base top size kept same others each = told bytes top
    (λ p. elim (cases_lt (place_of top.patched p) (length top.patched)) [
      | inl found ↦ λ i far inside here. each (place_of top.patched p) found i far inside (here ∙ sym (place_found top.patched p found))
          ∙ ap (λ (l : List ℕ). slice_index l (i % 1024)) (sym (page_patched top p found))
      | inr past ↦ λ i far inside here.
          let other = others p (past_unlisted top.patched p past) in
          kept_page dirty bytes base p kept (other.1 (omega arith)) i far inside here
          ∙ ap (λ (l : List ℕ). slice_index l (i % 1024)) (page_plain base p (place_past base.patched p other.0)
          ∙ ap (λ (groups : List (Option Group)). page_in (group_in groups (p / 32)) (p % 32)) (sym same)
          ∙ sym (page_plain top p past))
    ])

-- no pages have no bytes
pub bytes_of_none : (top : Top) → groups_in top.groups ≡ [] → top.patched ≡ [] → bytes_in top ≡ []
unfolding bytes_in
bytes_of_none top groups patched =
    let byte = λ (j : ℕ). slice_index (page_of top (j / 1024)) (j % 1024) in
    let none : 1024 * max (32 * length (groups_in top.groups)) (end_of top.patched) ≡ 0 =
    omega (arith, ap (λ (l : List (Option Group)). length l) groups, ap (λ (l : List ℕ). end_of l) patched) in
    ap (λ n. map byte (range_with_len 0 n)) none

-- ---- words

-- words with the same bytes
word_same : (xs ys : List ℕ) (i j : ℕ) → slice_index xs i ≡ slice_index ys j → slice_index xs (i + 1) ≡ slice_index ys (j + 1)
    → slice_index xs (i + 2) ≡ slice_index ys (j + 2) → slice_index xs (i + 3) ≡ slice_index ys (j + 3) → word_at xs i ≡ word_at ys j
word_same xs ys i j a b c d = word_at-from_le_bytes xs i ∙ cc (word_at-from_le_bytes ys j)

-- a word in its page
pub word_read : (bytes page : List ℕ) (place : ℕ) → ((i : ℕ) → i / 1024 ≡ place / 1024 → slice_index bytes i ≡ slice_index page (i % 1024)) → place % 4 ≡ 0
    → word_at page (place % 1024) ≡ word_at bytes place
word_read bytes page place is aligned =
    let row : (k : ℕ) → k < 4 → slice_index bytes (place + k) ≡ slice_index page (place % 1024 + k) =
    λ k within. is (place + k) (omega arith) ∙ ap (λ (j : ℕ). slice_index page j) (let e : (place + k) % 1024 ≡ place % 1024 + k = omega arith in e) in
    sym (word_same bytes page place (place % 1024) (is place refl) (row 1 (omega arith)) (row 2 (omega arith)) (row 3 (omega arith)))

-- and 0 where that page is left out
pub word_blank : (bytes page : List ℕ) (place : ℕ) → ((i : ℕ) → i / 1024 ≡ place / 1024 → slice_index bytes i ≡ slice_index page (i % 1024)) → place % 4 ≡ 0 → length page ≡ 0
    → 0 ≡ word_at bytes place
word_blank bytes page place is aligned none =
    sym (word_same page [] (place % 1024) 0 (get_or_past page (place % 1024) 0 (omega arith)) (get_or_past page (place % 1024 + 1) 0 (omega arith))
    (get_or_past page (place % 1024 + 2) 0 (omega arith)) (get_or_past page (place % 1024 + 3) 0 (omega arith)))
    ∙ word_read bytes page place is aligned

-- ---- pages of bytes

-- zeros
pub zeros-at : (n k : ℕ) → slice_index (replicate n 0) k ≡ 0
zeros-at n k = elim (cases_lt k n) [
  | inl within ↦ get_or-replicate n k 0 0 within
  | inr past ↦ get_or_past (replicate n 0) k 0 (omega (arith, length-replicate {A = ℕ} n 0))
]

-- bytes over the first ones of a page, and zeros over the others
pub written_over : (bytes new zeros rest behind : List ℕ) (m : ℕ) → new ≡ bytes → length zeros ≡ 1024 - length bytes → zeros ≡ replicate m 0 → (i : ℕ) → i < 1024
    → slice_index (take (length bytes) (new ++ rest) ++ (zeros ++ behind)) i ≡ slice_index bytes i
written_over bytes new zeros rest behind m is count blank i within =
    let n = length bytes in
    let size : length new ≡ n = ap (λ (l : List ℕ). length l) is in
    let first : length (take n (new ++ rest)) ≡ n = omega (arith, length-take n (new ++ rest), length-append new rest) in
    elim (cases_lt i n) [
      | inl below ↦ get_or_append_left (take n (new ++ rest)) (zeros ++ behind) 0 i (omega arith) ∙ get_or-take n (new ++ rest) i 0 below ∙ get_or_append_left new rest 0 i (omega arith)
          ∙ ap (λ (l : List ℕ). slice_index l i) is
      | inr above ↦ get_or-append_right (take n (new ++ rest)) (zeros ++ behind) n i 0 first above ∙ get_or_append_left zeros behind 0 (i - n) (omega arith)
          ∙ ap (λ (l : List ℕ). slice_index l (i - n)) blank ∙ zeros-at m (i - n) ∙ sym (get_or_past bytes i 0 (omega arith))
    ]

-- a group that is shared
pub group_shared : (dirty : List Bool) (bytes : List ℕ) (top : Top) (g : ℕ) (group : Option Group) → length dirty ≡ length bytes / 1024 + 1 → Keeps dirty (bytes_in top) bytes
    → IsClean dirty (32 * g) 32 → ((k : ℕ) → k < 32 → IsUnlisted top.patched (32 * g + k)) → IsShared group (slice_index_or (groups_in top.groups) g None)
    → ArePages bytes (32 * g) (held group)
group_shared dirty bytes top g group size kept free others shared k within i far inside here =
    kept_plain dirty bytes top g k kept within (free (32 * g + k) (omega arith) (omega arith) (omega arith)) (others k within) i far inside here
    ∙ ap (λ pages. slice_index (page_in pages k) (i % 1024)) (sym (held_shared group (slice_index_or (groups_in top.groups) g None) shared))

-- a page behind those that are written
pub page_behind : (dirty : List Bool) (bytes : List ℕ) (top : Top) (g used k : ℕ) (pages : List (Option Page)) → length dirty ≡ length bytes / 1024 + 1 → Keeps dirty (bytes_in top) bytes
    → IsClean dirty (32 * g + used) (32 - used) → ((k : ℕ) → used ≤ k → k < 32 → IsUnlisted top.patched (32 * g + k)) → k < 32
    → length pages ≤ k → length pages ≡ min (max used (length (group_in (groups_in top.groups) g))) (min (32 * g + 32) (length dirty) - 32 * g) → IsPage bytes (32 * g + k) (page_in pages k)
page_behind dirty bytes top g used k pages size kept free others within past count i far inside here =
    kept_plain dirty bytes top g k kept within (free (32 * g + k) (omega arith) (omega arith) (omega arith)) (others k (omega arith) within) i far inside here
    ∙ ap (λ (l : List ℕ). slice_index l (i % 1024)) (past_in (group_in (groups_in top.groups) g) k (omega arith) ∙ sym (past_in pages k past))

-- the pages of a group
pub group_made : (dirty : List Bool) (bytes : List ℕ) (top : Top) (g used : ℕ) (pages : List (Option Page)) → length dirty ≡ length bytes / 1024 + 1 → Keeps dirty (bytes_in top) bytes
    → IsClean dirty (32 * g + used) (32 - used) → ((k : ℕ) → used ≤ k → k < 32 → IsUnlisted top.patched (32 * g + k))
    → length pages ≡ min (max used (length (group_in (groups_in top.groups) g))) (min (32 * g + 32) (length dirty) - 32 * g)
    → ((k : ℕ) → k < length pages → IsPage bytes (32 * g + k) (page_bytes (slice_index_or pages k None))) → ArePages bytes (32 * g) pages
group_made dirty bytes top g used pages size kept free others count each k within = elim (cases_lt k (length pages)) [
  | inl inside ↦ each k inside
  | inr past ↦ page_behind dirty bytes top g used k pages size kept free others within past count
]

-- groups of which a run is left out
pub groups_made : (dirty : List Bool) (bytes : List ℕ) (top : Top) (groups : List (Option Group)) (low gap : ℕ) → length dirty ≡ length bytes / 1024 + 1
    → Keeps dirty (bytes_in top) bytes → IsClean dirty (32 * low) (32 * gap)
    → ((j : ℕ) → j < length top.patched → (slice_index top.patched j / 32 < low) ⊎ (low + gap ≤ slice_index top.patched j / 32))
    → ((g : ℕ) → low ≤ g → g < low + gap → slice_index_or (groups_in top.groups) g None ≡ None)
    → low ≤ length groups → length dirty ≤ 32 * (length groups + gap)
    → ((k : ℕ) → k < length groups → k < low → ArePages bytes (32 * k) (group_in groups k))
    → ((k : ℕ) → k < length groups → low ≤ k → ArePages bytes (32 * (k + gap)) (group_in groups k)) → AreGroups bytes (with_gap groups low gap)
groups_made dirty bytes top groups low gap size kept clean others blank inner all lows highs g k within i far inside here = elim (cases_lt g low) [
  | inl below ↦ lows g (omega arith) below k within i far inside here
      ∙ ap (λ (group : Option Group). slice_index (page_in (held group) k) (i % 1024)) (sym (group_low groups low gap g inner below))
  | inr above ↦ elim (cases_lt g (low + gap)) [
    | inl left ↦ kept_plain dirty bytes top g k kept within (clean (32 * g + k) (omega arith) (omega arith) (omega arith))
        (λ j below same. elim (others j below) [ inl lower ↦ absurd (omega arith) | inr higher ↦ absurd (omega arith) ]) i far inside here
        ∙ ap (λ (group : Option Group). slice_index (page_in (held group) k) (i % 1024)) (blank g above left ∙ sym (group_left groups low gap g inner above left))
    | inr high ↦ highs (g - gap) (omega arith) (omega arith) k within i far inside (omega arith)
        ∙ ap (λ (group : Option Group). slice_index (page_in (held group) k) (i % 1024)) (sym (group_high groups low gap g inner high))
  ]
]
