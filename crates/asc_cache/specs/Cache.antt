-- What callers see of a shard's writer, of its reader, and of what the one tells the other.
use Rattle.std.specs.Prelude.{◌≡◌, ◌<◌, ℕ, Bool, true, false, Option, None, List, [], ◌∷◌, ◌++◌, length, slice_index_or}
use Rattle.std.specs.Option.{option_or}
use mathlib.Core.List.{IsPrefix}
use Rattle.logbook.specs.Pages.{Book}
use Rattle.asc_model.specs.Entry.{Entry}
use Rattle.asc_model.specs.State.{State}
use Rattle.asc_traj.specs.Content.{longest}
use Rattle.asc_find.specs.Finder.{Jumps}
use Rattle.asc_shard.specs.Shard.{Shard}
use Rattle.asc_shard.specs.Content.{content_of}
use Rattle.asc_shard.specs.declared.shard.Inserted.{Inserted}
use Rattle.asc_shard.specs.declared.shard.Inserted.TheVariants.{Known, Stored}
use Rattle.asc_cache.specs.Insert.{ShardId}
use Rattle.asc_cache.specs.declared.writer.Refused.{Refused}
use Rattle.asc_cache.specs.declared.writer.Refused.TheVariants.{Append, Publication}

-- a shard's writer
pub record ShardWriter : Type 0 where
  -- which shard it is, and its number in the cache
  pub shard : Book
  pub index : ℕ
  -- how many entries the shard may hold
  pub capacity : ℕ
  -- all stored insertions, the oldest first
  pub stored : List Entry
  -- whether an entry is pending, since its publication was refused
  pub refused : Bool

-- a shard's reader
pub record ShardReader : Type 0 where
  pub shard : Book
  pub capacity : ℕ
  -- the insertions that it has seen: a beginning of all that were stored
  pub seen : List Entry

-- what a writer tells
pub record Notice : Type 0 where
  pub shard : Book
  pub index : ℕ
  -- all stored insertions, as they then are
  pub stored : List Entry

-- the readers of all shards, and what was counted over them
pub record ShardReaders : Type 0 where
  pub readers : List ShardReader
  pub jumps : Jumps

-- a cache: the writers of its shards, and their readers
pub record Cache : Type 0 where
  pub writers : List ShardWriter
  pub readers : ShardReaders

-- which shard of a cache a writer's is
abbrev pub id_of : ShardWriter → ShardId
id_of w = record { shard = w.shard; index = w.index; capacity = w.capacity }

-- the shard that a writer's insertions leave
abbrev pub shard_of : ShardWriter → Shard
shard_of w = record { held = content_of w.capacity w.stored; capacity = w.capacity }

-- the stored insertions, after one more that was answered so
abbrev pub stored_after : List Entry → Inserted → Entry → List Entry
stored_after stored Known e = stored
stored_after stored Stored e = stored ++ e ∷ []

-- a writer after an insertion that was answered so
abbrev pub writer_after : ShardWriter → Inserted → Entry → ShardWriter
writer_after w i e = record w { stored = stored_after w.stored i e }

-- a writer after an insertion that was refused: as before, or with an entry that is pending
abbrev pub writer_left : ShardWriter → Refused → ShardWriter
writer_left w Append = w
writer_left w Publication = record w { refused = true }

-- what a writer tells
abbrev pub notice_of : ShardWriter → Notice
notice_of w = record { shard = w.shard; index = w.index; stored = w.stored }

-- the content that a reader has seen
abbrev pub content_seen : ShardReader → List Entry
content_seen r = content_of r.capacity r.seen

-- the most steps, at most left, of an entry of it that matches a state
abbrev pub found_by : State → (left : ℕ) → ShardReader → Option ℕ
found_by s left r = longest (content_seen r) s left

-- what the first of these readers finds that finds something
abbrev pub first_found : State → (left : ℕ) → List ShardReader → Option ℕ
first_found s left [] = None
first_found s left (r ∷ readers) = option_or (found_by s left r) (first_found s left readers)

-- the reader of the same shard, which has seen what was seen before, and perhaps more
pub record IsLater (old new : ShardReader) : Type 0 where
  pub shard : new.shard ≡ old.shard
  pub capacity : new.capacity ≡ old.capacity
  pub seen : IsPrefix old.seen new.seen

-- so each of these readers is
pub record AreLater (old new : List ShardReader) : Type 0 where
  pub count : length new ≡ length old
  pub each : (i : ℕ) (d : ShardReader) → i < length old → IsLater (slice_index_or old i d) (slice_index_or new i d)

-- the reader at a writer's number is its shard's
pub record IsOwnReader (w : ShardWriter) (readers : List ShardReader) : Type 0 where
  pub there : w.index < length readers
  pub shard : (d : ShardReader) → (slice_index_or readers w.index d).shard ≡ w.shard

-- the writer and the reader of an empty shard
pub record IsOpened (capacity index : ℕ) (w : ShardWriter) (r : ShardReader) : Type 0 where
  pub writer : w ≡ record { shard = w.shard; index = index; capacity = capacity; stored = []; refused = false }
  pub reader : r ≡ record { shard = w.shard; capacity = capacity; seen = [] }

-- those of so many empty shards
pub record AreOpened (shards capacity : ℕ) (writers : List ShardWriter) (readers : List ShardReader) : Type 0 where
  pub writer_count : length writers ≡ shards
  pub reader_count : length readers ≡ shards
  pub each : (i : ℕ) (w : ShardWriter) (r : ShardReader) → i < shards
      → IsOpened capacity i (slice_index_or writers i w) (slice_index_or readers i r)
