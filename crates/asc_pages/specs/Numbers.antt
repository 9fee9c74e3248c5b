-- Numbers of pages in a list.
use Rattle.std.specs.Prelude.{◌≡◌, ℕ, ◌+◌, ◌%◌, ◌<◌, Bool, true, false, List, [], ◌∷◌, length, max, slice_index, slice_index_or, nat_eq}
use Rattle.std.specs.List.{position_or_len}

-- the place of a number; the count of the numbers where it is none of them
unfoldable pub place_of : List ℕ → ℕ → ℕ
place_of numbers p = position_or_len (λ n. nat_eq n p) numbers

-- a number above these
abbrev pub end_of : List ℕ → ℕ
end_of [] = 0
end_of (p ∷ numbers) = max (p + 1) (end_of numbers)

-- the remainder of each of these numbers is there
abbrev pub HasRemainders : List Bool → List ℕ → Type 0
HasRemainders has numbers =
    (j : ℕ) → j < length numbers → slice_index_or has (slice_index numbers j % 32) false ≡ true
