-- The heads of a stretch of a run: the addresses that its steps led back to.
use Rattle.std.specs.Prelude.{◌≡◌, ◌<◌, ℕ, zero, suc, ◌+◌, ◌-◌, ◌/◌, ◌%◌, Bool, nat_lt, ◌==◌, ◌&&◌, ◌||◌, List, replicate, set, slice_index_or, Option, Some, None, if◌then◌else◌}
use Rattle.asc_seek.specs.declared.heads.Head.{Head}

-- where a run stands at each count of steps, while it goes on
abbrev pub Path : Type 0
Path = ℕ → Option ℕ

-- where a step leads to, if that is a lower address than where it comes from
abbrev pub led_back : (from to : Option ℕ) → Option ℕ
led_back (Some from) (Some to) = if nat_lt to from then Some to else None
led_back (Some from) None = None
led_back None to = None

-- the address that the step to a count led back to, if it did
abbrev pub head_at : Path → (count : ℕ) → Option ℕ
head_at path zero = None
head_at path (suc n) = led_back (path n) (path (suc n))

-- ---- a table of heads

-- how many it has at most
abbrev pub table_slots : ℕ
table_slots = 4096

-- where an address stands in it: one of two addresses with the same slot is left out
abbrev pub slot_of : (address : ℕ) → ℕ
slot_of address = address / 4 % table_slots

abbrev pub no_heads : List (Option Head)
no_heads = replicate table_slots None

-- An address is met once more, at a count, and this stood at its slot. A slot belongs to the address that was met first.
abbrev pub meet : (address count : ℕ) → Option Head → Option Head
meet address count None = Some (record { address = address; times = 1; first = count; last = count })
meet address count (Some h) =
    Some (if h.address == address then record h { times = h.times + 1; last = count } else h)

-- the table once an address was met
abbrev pub note : (count : ℕ) → (met : Option ℕ) → List (Option Head) → List (Option Head)
note count None table = table
note count (Some address) table =
    set table (slot_of address) (meet address count (slice_index_or table (slot_of address) None))

-- the table of the heads that so many steps behind a count led back to
unfoldable pub heads_of : Path → (from steps : ℕ) → List (Option Head)
heads_of path from zero = no_heads
heads_of path from (suc n) = note (from + suc n) (head_at path (from + suc n)) (heads_of path from n)

-- the steps of its laps on average, where it was met twice or more
abbrev pub lap_of : Head → ℕ
lap_of h = (h.last - h.first) / (h.times - 1)

-- whether a head comes before another: it has shorter laps, or as long ones and the lower address
abbrev pub comes_before : Head → Head → Bool
comes_before a b = nat_lt (lap_of a) (lap_of b) || ((lap_of a == lap_of b) && nat_lt a.address b.address)

-- each of its heads was met before a count
abbrev pub AreEarlier : (count : ℕ) → List (Option Head) → Type 0
AreEarlier count table = (k : ℕ) (h : Head) → slice_index_or table k None ≡ Some h → h.last < count
