-- Pages: 1024 places each. Groups: 32 pages each. The first 136 places are of no account.
use Rattle.std.specs.Prelude.{◌≡◌, ℕ, ◌+◌, ◌*◌, ◌/◌, ◌%◌, ◌<◌, ◌≤◌, Bool, true, false, List, [], ◌++◌, length, take, drop, replicate, slice_index, slice_index_or, Option, Some, None}
use Rattle.std.specs.declared.sync.Arc.{Arc}
use Rattle.std.specs.Global.{Vec, Global}

-- a page that is there, shared
abbrev pub Page : Type 0
Page = Arc (List ℕ) Global

-- a group of pages that is there, shared
abbrev pub Group : Type 0
Group = Arc (Vec (Option Page)) Global

-- the pages of a group; none where it is left out
abbrev pub held : Option Group → List (Option Page)
held None = []
held (Some group) = group.value.items

-- the bytes of a page; none where it is left out, so that it is blank
abbrev pub page_bytes : Option Page → List ℕ
page_bytes None = []
page_bytes (Some page) = page.value

-- the bytes of page k of a list
abbrev pub page_in : List (Option Page) → ℕ → List ℕ
page_in pages k = page_bytes (slice_index_or pages k None)

-- the groups of a list from which `gap` blank ones, behind the first `low`, are left out
abbrev pub with_gap : List (Option Group) → (low gap : ℕ) → List (Option Group)
with_gap groups low gap = take low groups ++ (replicate gap None ++ drop low groups)

-- the pages of group g
abbrev pub group_in : List (Option Group) → ℕ → List (Option Page)
group_in groups g = held (slice_index_or groups g None)

-- this is page p of these bytes
abbrev pub IsPage : List ℕ → ℕ → List ℕ → Type 0
IsPage bytes p page = (i : ℕ) → 136 ≤ i → i < length bytes → i / 1024 ≡ p → slice_index bytes i ≡ slice_index page (i % 1024)

-- these are the pages of a group of these bytes, from page `from` on
abbrev pub ArePages : List ℕ → ℕ → List (Option Page) → Type 0
ArePages bytes from pages = (k : ℕ) → k < 32 → IsPage bytes (from + k) (page_in pages k)

-- these are the groups of these bytes
abbrev pub AreGroups : List ℕ → List (Option Group) → Type 0
AreGroups bytes groups = (g : ℕ) → ArePages bytes (32 * g) (group_in groups g)

-- pages have these bytes, from place 136 on
abbrev pub Tells : List ℕ → List ℕ → Type 0
Tells pages bytes = (i : ℕ) → 136 ≤ i → i < length bytes → slice_index bytes i ≡ slice_index pages i

-- and where they are not dirty
abbrev pub Keeps : List Bool → List ℕ → List ℕ → Type 0
Keeps dirty pages bytes =
    (i : ℕ) → 136 ≤ i → i < length bytes → slice_index_or dirty (i / 1024) true ≡ false → slice_index bytes i ≡ slice_index pages i

-- the bytes of pages; where there are none, all bytes are 0
abbrev pub base_bytes : Option (List ℕ) → List ℕ
base_bytes None = []
base_bytes (Some pages) = pages

-- a part of a list, and one that shares it
abbrev pub IsShared : {A : Type 0} → Option (Arc A Global) → Option (Arc A Global) → Type 0
IsShared None None = Unit {0}
IsShared None (Some part) = ⊥
IsShared (Some share) None = ⊥
IsShared (Some share) (Some part) = share.value ≡ part.value
