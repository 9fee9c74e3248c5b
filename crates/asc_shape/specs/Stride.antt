-- Words that go on as they went: by as much as from one copy to the next, so many times.
use Rattle.std.specs.Prelude.{ℕ, ◌*◌, ◌/◌, ◌%◌, List, length, map, slice_index}
use Rattle.std.specs.List.{range_with_len}
use Rattle.asc_model.specs.Number.{word_at, bytes_of}
use Rattle.asc_model.specs.Arithmetic.{◌+w◌, ◌-w◌, product}

-- a word that is so many times the difference further on than the last one, modulo 2 ^ 32
abbrev pub strided_word : ℕ → ℕ → ℕ → ℕ
strided_word ahead last prev = last +w product ahead (last -w prev)

-- the byte at a place of words that are strided, each from a multiple of 4 on
abbrev pub strided_byte : ℕ → List ℕ → List ℕ → ℕ → ℕ
strided_byte ahead last prev i =
    let word = i / 4 * 4 in
    slice_index (bytes_of 4 (strided_word ahead (word_at last word) (word_at prev word))) (i % 4)

-- each aligned word strided
unfoldable pub strided : ℕ → List ℕ → List ℕ → List ℕ
strided ahead last prev = map (strided_byte ahead last prev) (range_with_len 0 (length last))
