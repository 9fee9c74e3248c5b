-- Groups, and pages that stand in the place of theirs.
use Rattle.std.specs.Prelude.{ℕ, ◌*◌, ◌/◌, ◌%◌, List, [], length, map, max, slice_index, nat_lt, if◌then◌else◌, Option, Some, None}
use Rattle.std.specs.List.{range_with_len}
use Rattle.std.specs.declared.sync.Arc.{Arc}
use Rattle.std.specs.Global.{Global}
use Rattle.asc_pages.specs.Numbers.{end_of, place_of}
use Rattle.asc_pages.specs.Pages.{Group, group_in, page_in}
use Rattle.asc_pages.specs.declared.pages.Top.{Top}

-- the groups; none where they are left out
abbrev pub groups_in : Option (Arc (List (Option Group)) Global) → List (Option Group)
groups_in None = []
groups_in (Some groups) = groups.value

-- the bytes of page p
unfoldable pub page_of : Top → ℕ → List ℕ
page_of top p = if nat_lt (place_of top.patched p) (length top.patched)
    then page_in top.patches (place_of top.patched p)
    else page_in (group_in (groups_in top.groups) (p / 32)) (p % 32)

-- the bytes
unfoldable pub bytes_in : Top → List ℕ
bytes_in top = map (λ i. slice_index (page_of top (i / 1024)) (i % 1024))
    (range_with_len 0 (1024 * max (32 * length (groups_in top.groups)) (end_of top.patched)))
