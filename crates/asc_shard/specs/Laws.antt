-- The laws of shards, which the functions of `laws.rt` stand for.
use Rattle.std.specs.Prelude.{◌≡◌, ℕ, true, List, [], ◌∷◌, ◌++◌}
use Rattle.asc_model.specs.State.{State}
use Rattle.asc_model.specs.Entry.{Entry}
use Rattle.asc_traj.specs.Content.{matches}
use Rattle.asc_shard.specs.Content.{add, content_of}
use Rattle.asc_shard.specs.Fingerprints.{may_match}

-- A state that an entry matches has its fingerprint.
abbrev pub PrintsHideNoMatch : Type 0
PrintsHideNoMatch = (s : State) (e : Entry) → matches s e ≡ true → may_match s e ≡ true

-- One insertion more adds to the content.
abbrev pub InsertionsAdd : Type 0
InsertionsAdd = (capacity : ℕ) (log : List Entry) (e : Entry)
    → content_of capacity (log ++ e ∷ []) ≡ add capacity (content_of capacity log) e
