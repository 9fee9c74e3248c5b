-- Which pages are dirty, 32 to a group.
use Rattle.std.specs.Prelude.{◌≡◌, ◌≢◌, ℕ, ◌+◌, ◌*◌, ◌/◌, ◌%◌, ◌<◌, ◌≤◌, Bool, true, false, List, length, slice_index, slice_index_or}
use Rattle.std.specs.List.{count_by}

-- how many are dirty
abbrev pub dirty_in : List Bool → ℕ
dirty_in dirty = count_by (λ page. page) dirty

-- none of so many, from one on, is dirty
abbrev pub IsClean : List Bool → ℕ → ℕ → Type 0
IsClean dirty from count =
    (p : ℕ) → from ≤ p → p < from + count → p < length dirty → slice_index_or dirty p true ≡ false

-- a page is not among those that are listed
abbrev pub IsUnlisted : List ℕ → ℕ → Type 0
IsUnlisted listed p = (j : ℕ) → j < length listed → slice_index listed j ≢ p

-- no page of a group is
abbrev pub IsGroupUnlisted : List ℕ → ℕ → Type 0
IsGroupUnlisted listed g = (j : ℕ) → j < length listed → slice_index listed j / 32 ≢ g

-- It is told up to which page of each group one may be dirty. And each dirty page is listed once, unless all
-- pages are dirty.
pub record AreDirty (all : Bool) (listed groups : List ℕ) (pages : List Bool) : Type 0 where
  pub least : length pages ≤ 32 * length groups
  pub most : 32 * length groups < length pages + 32
  pub free : (p : ℕ) → p < length pages → slice_index groups (p / 32) ≤ p % 32 → slice_index_or pages p true ≡ false
  pub full : all ≡ true → dirty_in pages ≡ length pages
  pub count : all ≡ false → length listed ≡ dirty_in pages
  pub within : all ≡ false → (j : ℕ) → j < length listed → slice_index listed j < length pages
  pub few : all ≡ false → (p : ℕ) → p < length pages → IsUnlisted listed p → slice_index_or pages p true ≡ false
  pub blank : all ≡ false → (g : ℕ) → IsGroupUnlisted listed g → slice_index groups g ≡ 0
