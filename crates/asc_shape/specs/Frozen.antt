-- What a snapshot has.
use Rattle.std.specs.Prelude.{ℕ, List, map, slice_index, if◌then◌else◌, nat_lt}
use Rattle.std.specs.List.{range_with_len}

-- the byte at a place: the first 136 are the front's, and the others those of pages
abbrev pub frozen_byte : (front pages : List ℕ) → ℕ → ℕ
frozen_byte front pages i = if nat_lt i 136 then slice_index front i else slice_index pages i

-- n bytes of a front and pages
unfoldable pub frozen : ℕ → (front pages : List ℕ) → List ℕ
frozen n front pages = map (frozen_byte front pages) (range_with_len 0 n)
