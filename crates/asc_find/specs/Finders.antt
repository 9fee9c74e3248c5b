-- What the finders of this crate are.
use Rattle.std.specs.Prelude.{ℕ, Bool, false, nat_lt, List, [], ◌∷◌, ◌++◌, length, Option, Some, None, if◌then◌else◌}
use Rattle.asc_model.specs.Entry.{Entry}
use Rattle.asc_find.specs.Finder.{Jumps}

-- a list of entries, and what was counted over it
pub record Listed : Type 0 where
  pub entries : List Entry
  pub jumps : Jumps

-- the first replies, at most so many, and whether they are all
pub record Notes : Type 0 where
  pub first : List (Option ℕ)
  pub all : Bool

-- a finder that is passed on to, and what is noted of its replies
pub record Noting (F : Type 0) : Type 0 where
  pub finder : F
  pub cap : ℕ
  pub notes : Notes

-- the notes after one more reply, which is noted where there is room
abbrev pub noted_after : (cap : ℕ) → Notes → Option ℕ → Notes
noted_after cap notes reply =
    if nat_lt (length notes.first) cap then record notes { first = notes.first ++ reply ∷ [] }
    else record notes { all = false }

-- the replies that notes tell
abbrev pub told_of : Notes → Option (List (Option ℕ))
told_of notes = if notes.all then Some notes.first else None
