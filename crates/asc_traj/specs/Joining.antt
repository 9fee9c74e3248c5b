-- Joining two entries word by word.
use Rattle.std.specs.Prelude.{◌≡◌, ℕ, ◌+◌, ◌*◌, ◌/◌, ◌%◌, ◌^◌, ◌<◌, ◌≤◌, ◌==◌, ◌&&◌, Bool, true, List, [], ◌∷◌, All, map, length, min, Option, Some, None, if◌then◌else◌}
use Rattle.std.specs.List.Sorted.{IsStrictlyIncreasing}
use Rattle.asc_model.specs.Entry.{Entry}
use Rattle.asc_model.specs.Join.{agrees, byte_in, cells_by, left_by_both, read_by_both}
use Rattle.asc_traj.specs.declared.part.Part.{Part}
use Rattle.asc_traj.specs.declared.entry.Halves.{Halves}
use Rattle.asc_traj.specs.declared.join.WordBytes.{WordBytes}
use Rattle.asc_traj.specs.Parts.{IsPart, all_cells}
use Rattle.asc_traj.specs.Inside.{AreHalves}

-- what two entries of one shape read and leave, one after the other
pub record HasHalves (a b : Entry) (halves : Halves) : Type 0 where
  pub parts : AreHalves halves
  pub reads : all_cells halves.reads.items ≡ cells_by a.shape (read_by_both a b)
  pub writes : all_cells halves.writes.items ≡ cells_by a.shape (left_by_both a b)

-- the number of the word of the first of parts; of no part it is past all
abbrev pub first_of : List Part → ℕ
first_of [] = 2 ^ 28
first_of (part ∷ parts) = part.at / 16

-- the number of the first word of which one of three lists has a part
abbrev pub next_of : (xs ys zs : List Part) → ℕ
next_of xs ys zs = min (min (first_of xs) (first_of ys)) (first_of zs)

-- byte k of some of the bytes of a word
abbrev pub byte_of : WordBytes → (k : ℕ) → Option ℕ
byte_of bytes k = if bytes.mask / 2 ^ k % 2 == 1 then Some (bytes.word / 256 ^ k % 256) else None

-- parts whose cells rise
pub record Rises (parts : List Part) : Type 0 where
  pub rise : IsStrictlyIncreasing (map (λ cell. cell.0) (all_cells parts))
  pub are : All IsPart parts

-- The bytes of a word were taken from parts that rise, and these are left.
pub record HasTaken (index : ℕ) (parts : List Part) (found : WordBytes) (rest : List Part) : Type 0 where
  pub low : found.mask < 16
  pub bytes : (k : ℕ) → k < 4 → byte_of found k ≡ byte_in (all_cells parts) (4 * index + k)
  pub others : (place : ℕ) → 4 * index + 4 ≤ place → byte_in (all_cells rest) place ≡ byte_in (all_cells parts) place
  pub later : index < first_of rest
  pub rises : Rises rest
  pub fewer : length rest ≤ length parts
  pub none : length rest ≡ length parts → found.mask ≡ 0

-- whether a byte that is read is the one that is known, where there are both
abbrev pub meets : (known read : Option ℕ) → Bool
meets known None = true
meets known (Some byte) = agrees known byte

-- whether each byte that both have is the same
abbrev pub meets_all : (known read : WordBytes) → Bool
meets_all known read = meets (byte_of known 0) (byte_of read 0) && meets (byte_of known 1) (byte_of read 1)
    && meets (byte_of known 2) (byte_of read 2) && meets (byte_of known 3) (byte_of read 3)
