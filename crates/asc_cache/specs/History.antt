-- What the log of a shard says. Before an entry is appended it is noted as tried. A try that came to nothing is one that
-- nobody counts: the next one starts again from what is stored. A store is noted before the publication: where that is
-- refused, nothing is noted any more.
use Rattle.std.specs.Prelude.{List, [], ◌∷◌, ◌++◌, fold}
use Rattle.asc_model.specs.Entry.{Entry}
use Rattle.asc_cache.specs.declared.log.Note.{Note}
use Rattle.asc_cache.specs.declared.log.Note.TheVariants.{Tries, Stores}

-- lists of insertions, the oldest first: the one that is stored, and the one that was tried last
pub record History : Type 0 where
  pub stored : List Entry
  pub tried : List Entry

-- what a note adds: an entry is tried behind what is stored, or what was tried last is stored
abbrev pub noted : History → Note → History
noted h (Tries e) = record { stored = h.stored; tried = h.stored ++ e.value ∷ [] }
noted h Stores = record { stored = h.tried; tried = h.tried }

abbrev pub history : List Note → History
history log = fold noted (record { stored = []; tried = [] }) log

-- the insertions that a log says are stored
abbrev pub stored_in : List Note → List Entry
stored_in log = (history log).stored

-- the insertions that it says were tried last
abbrev pub tried_in : List Note → List Entry
tried_in log = (history log).tried
