-- The text of an entry.
use Rattle.std.specs.Prelude.{ℕ, zero, suc, ◌+◌, ◌-◌, ◌*◌, ◌/◌, ◌%◌, ◌==◌, ◌&&◌, nat_lt, codes, decimal, List, [], ◌∷◌, ◌++◌, take, drop, Option, Some, None, if◌then◌else◌}
use Rattle.hex.specs.Hex.{encode_lower}
use Rattle.asc_model.specs.declared.why.Why.{Why}
use Rattle.asc_model.specs.declared.why.Why.TheVariants.{Lap, Span, Room, Stopped, Call, Fault}
use Rattle.asc_model.specs.Shape.{Shape, start_of}
use Rattle.asc_model.specs.Entry.{Entry}
use Rattle.asc_words.specs.Report.{word_text}

-- eight letters for each word before memory: the pc, registers 1 to 31, and the two words of the reservation
abbrev pub names : List ℕ
names = codes "pc      ra      sp      gp      tp      t0      t1      t2      s0      s1      a0      a1      "
    ++ codes "a2      a3      a4      a5      a6      a7      s2      s3      s4      s5      s6      s7      "
    ++ codes "s8      s9      s10     s11     t3      t4      t5      t6      reservedvalid   "

-- a place by its name, or by its address in memory
abbrev pub place_text : Shape → ℕ → List ℕ
place_text shape place =
    if nat_lt place (start_of shape.version) then take 8 (drop (8 * (place / 4)) names)
    else word_text (shape.base + (place - start_of shape.version))

-- the line of some bytes from a place on, the highest first
abbrev pub line_text : Shape → (place : ℕ) → (bytes : List ℕ) → List ℕ
line_text shape place bytes =
    codes "  " ++ place_text shape place ++ codes " " ++ encode_lower bytes ++ codes "\n"

-- the bytes of the first four cells, the highest first, where they are a word
abbrev pub word_of : List (ℕ × ℕ) → Option (List ℕ)
word_of (a ∷ b ∷ c ∷ d ∷ rest) =
    if (a.0 % 4 == 0) && (b.0 == a.0 + 1) && (c.0 == b.0 + 1) && (d.0 == c.0 + 1)
    then Some (d.1 ∷ c.1 ∷ b.1 ∷ a.1 ∷ []) else None
word_of cells = None

-- The lines of cells but the first so many: one for each word of which all four places are there, and else one for each
-- place.
unfoldable pub cells_text : Shape → (skipped : ℕ) → List (ℕ × ℕ) → List ℕ
cells_text shape skipped [] = []
cells_text shape (suc k) (cell ∷ rest) = cells_text shape k rest
cells_text shape zero (cell ∷ rest) = elim (word_of (cell ∷ rest)) [
  | Some bytes ↦ line_text shape cell.0 bytes ++ cells_text shape 3 rest
  | None ↦ line_text shape cell.0 (cell.1 ∷ []) ++ cells_text shape 0 rest
]

-- where a trace ended
abbrev pub why_text : Why → List ℕ
why_text Lap = codes " up to the visit"
why_text Span = codes " up to the span"
why_text Room = codes " up to the most places"
why_text Stopped = codes " up to a halt"
why_text Call = codes " up to a guest call"
why_text (Fault fault) = codes " up to a fault"

-- an entry whose trace ended for this reason: its steps, what it reads, and what it writes
abbrev pub entry_text : Entry → Why → List ℕ
entry_text e why = codes "steps " ++ decimal e.steps ++ why_text why ++ codes "\nreads\n" ++ cells_text e.shape 0 e.reads
    ++ codes "writes\n" ++ cells_text e.shape 0 e.writes
