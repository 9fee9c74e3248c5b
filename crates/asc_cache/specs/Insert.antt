-- Which shard entries are inserted into, and what an insertion does to its content.
use Rattle.std.specs.Prelude.{◌≡◌, ℕ, Result, Ok, Err}
use Rattle.logbook.specs.Pages.{Book}
use Rattle.asc_model.specs.Entry.{Entry}
use Rattle.asc_shard.specs.Shard.{Shard}
use Rattle.asc_shard.specs.Content.{add, inserted_in}
use Rattle.asc_shard.specs.declared.shard.Inserted.{Inserted}

-- a shard of a cache: its book, its number in the cache, and how many entries it may hold
pub record ShardId : Type 0 where
  pub shard : Book
  pub index : ℕ
  pub capacity : ℕ

-- a shard after an insertion of an entry
abbrev pub shard_after : Shard → Entry → Shard
shard_after s e = record { held = add s.capacity s.held e; capacity = s.capacity }

-- An entry is put into a shard, and what becomes of it is answered. Where memory was wanting the shard stays.
abbrev pub IsInserted : {F : Type 0} → Result Inserted F → Entry → (old new : Shard) → Type 0
IsInserted (Ok i) e old new = (i ≡ inserted_in old.held e) × (new ≡ shard_after old e)
IsInserted (Err _) e old new = new ≡ old
