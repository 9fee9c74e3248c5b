-- Which later visits of a run are guessed, and as what states.
use Rattle.std.specs.Prelude.{ℕ, ◌+◌, ◌-◌, max, nat_lt, List, [], if◌then◌else◌}
use Rattle.std.specs.List.{range_with_len}
use Rattle.asc_model.specs.State.{State}
use Rattle.asc_shape.specs.Stride.{strided}
use Rattle.asc_guess.specs.declared.kind.Kind.{Kind}
use Rattle.asc_guess.specs.declared.kind.Kind.TheVariants.{Last, Stride}

-- the state that so many visits after the last one is guessed, from that and the one before
abbrev pub guess_of : Kind → (ahead : ℕ) → (prev last : State) → State
guess_of Last ahead prev last = last
guess_of Stride ahead prev last = record last { bytes = strided ahead last.bytes prev.bytes }

-- a guess of a visit: its kind, and how many visits after the last one
abbrev pub Task : Type 0
Task = Kind × ℕ

-- The visits that are guessed at a visit, where those up to issued were guessed before: all up to so many ahead, but
-- those already guessed. None at the first visit.
abbrev pub targets_of : (issued visit ahead : ℕ) → List ℕ
targets_of issued visit ahead = let before = max issued visit in
    if nat_lt visit 2 then [] else range_with_len (before + 1) (visit + ahead - before)
