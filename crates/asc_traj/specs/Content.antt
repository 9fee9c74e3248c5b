-- Whether an entry matches, as a test for definitions, and the longest entry that does.
use Rattle.std.specs.Prelude.{ℕ, Bool, ◌==◌, ◌&&◌, nat_le, nat_lt, List, fold, slice_index, Option, Some, None, if◌then◌else◌}
use Rattle.std.specs.List.{list_all}
use Rattle.asc_model.specs.State.{State}
use Rattle.asc_model.specs.Entry.{Entry}
use Rattle.asc_model.specs.Shape.{is_same_shape}

-- whether a state has an entry's shape and each byte of its reads
abbrev pub matches : State → Entry → Bool
matches s e = is_same_shape s.shape e.shape && list_all (λ cell. slice_index s.bytes cell.0 == cell.1) e.reads

-- the more steps of two, of which the second is within a bound
abbrev pub longer_of : (left : ℕ) → Option ℕ → ℕ → Option ℕ
longer_of left None n = if nat_le n left then Some n else None
longer_of left (Some best) n = if nat_le n left && nat_lt best n then Some n else Some best

-- the most steps, at most left, of an entry of these that matches a state
abbrev pub longest : List Entry → State → (left : ℕ) → Option ℕ
longest held s left = fold (λ best e. if matches s e then longer_of left best e.steps else best) None held
