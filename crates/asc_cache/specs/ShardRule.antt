-- The rule of a doubled shard: what is shown is what its list of insertions leaves, and each reader has seen a beginning
-- of that list. And what its writer has of it.
use Rattle.std.specs.Prelude.{◌≡◌, ℕ, ◌<◌, Option, None, Some, List, [], ◌∷◌, ◌++◌, length}
use Rattle.std.specs.Arc.{arc_value}
use mathlib.Core.Option.{some}
use mathlib.Core.List.{IsPrefix}
use lib.ListN.{get_elem?}
use Rattle.logbook.specs.Pages.{Book}
use Rattle.logbook.specs.declared.tokens.Seen.{Seen}
use Rattle.asc_model.specs.Entry.{Entry}
use Rattle.asc_shard.specs.Shard.{Shard}
use Rattle.asc_shard.specs.Content.{content_of, IsContent}
use Rattle.asc_cache.specs.History.{stored_in, tried_in}
use Rattle.asc_cache.specs.Insert.{shard_after}
use Rattle.asc_cache.specs.declared.log.Counted.{Counted}
use Rattle.asc_cache.specs.declared.log.Note.{Note}
use Rattle.asc_cache.specs.declared.instance.Instance.{Instance}
use Rattle.asc_cache.specs.declared.instance.Operation.{Operation}
use Rattle.asc_cache.specs.declared.sight.Sight.{Sight}

-- a beginning of the log
abbrev pub Front : Type 0
Front = Seen Note (Unit {0}) Counted

-- what a seat at the shard knows: the capacity, and a beginning of the log
abbrev pub sight : (capacity : ℕ) → Front → Sight
sight capacity front = record { capacity = capacity; front = front }

-- that of one that has not looked
abbrev pub first_sight : Sight
first_sight =
    sight 0 (record { marker = record {}; book = record { number = 0; log_name = 0; cells_name = 0 }; names = []; log = [] })

-- The shard is what its list of insertions leaves. It has the log up to the last of them, which is tried there.
abbrev pub IsFolded : Instance → Type 0
IsFolded x = x.shard.held ≡ content_of x.shard.capacity (tried_in x.front.log)

-- What a seat knows is so of the shard that is shown: its list begins with the one that was seen.
abbrev pub IsSighted : Instance → Sight → Type 0
IsSighted x v = 0 < v.capacity
    → (v.capacity ≡ x.shard.capacity) × (v.front.book ≡ x.front.book)
    × IsPrefix (tried_in v.front.log) (tried_in x.front.log)

-- the rule, with what all seats know
abbrev pub ShardRule : Instance → List Sight → Type 0
ShardRule x views = IsFolded x × ((seat : ℕ) (v : Sight) → get_elem? views seat ≡ some v → IsSighted x v)

-- A seat that knew v looks at the shard x: it has then seen the whole list of x, which begins with what it knew.
abbrev pub Looks : Sight → Instance → Sight → Type 0
Looks v x w = (w ≡ sight x.shard.capacity x.front) × IsFolded x × IsSighted x v

-- A seat that knew v has looked once or more often, and knows w: so much more of the same list, which leaves the content
-- of a shard.
pub record HasLooked (v w : Sight) (front : Front) (stored : ℕ) : Type 0 where
  pub knows : w ≡ sight v.capacity front
  pub book : front.book ≡ v.front.book
  pub more : IsPrefix (tried_in v.front.log) (tried_in front.log)
  pub counted : length (tried_in front.log) ≡ stored
  pub content : IsContent v.capacity (content_of v.capacity (tried_in front.log))

-- what an instance leaves of its operations: its shard, and the log that it has taken in
abbrev pub state_of : Instance → Shard × Front
state_of x = (x.shard, x.front)

-- what an operation does to that
abbrev pub absorbed : Shard × Front → Operation → Shard × Front
absorbed s o = (shard_after s.0 (arc_value o.entry), o.front)

-- the operation inserts an entry, which comes next to the shard x: it was tried behind the list of x
abbrev pub IsNext : Instance → Operation → Type 0
IsNext x o = (o.front.book ≡ x.front.book) × (tried_in o.front.log ≡ tried_in x.front.log ++ arc_value o.entry ∷ [])

-- What the writer's log says beside the shard x and its pending operations. Where there is none, the list of x is
-- stored. There may be one, which comes next to x, and was tried last.
abbrev pub IsLogged : Instance → List Operation → Front → Type 0
IsLogged x [] whole = stored_in whole.log ≡ tried_in x.front.log
IsLogged x (o ∷ []) whole = IsNext x o × (tried_in whole.log ≡ tried_in o.front.log)
IsLogged x _ whole = ⊥

-- What a writer has of a doubled shard: what is shown, pending operations, the whole log, and of that so many notes
-- which tell what is stored.
pub record IsWritten (x : Instance) (pending : List Operation) (whole told : Front) (notes : ℕ) : Type 0 where
  pub folded : IsFolded x
  pub book : whole.book ≡ x.front.book
  pub logged : IsLogged x pending whole
  pub told_book : told.book ≡ x.front.book
  pub told_list : stored_in told.log ≡ tried_in x.front.log
  pub counted : length told.log ≡ notes

-- the entry of the first of these operations
abbrev pub entry_in : List Operation → Option Entry
entry_in [] = None
entry_in (o ∷ _) = Some (arc_value o.entry)

-- a doubled shard, as its writer sees it
pub record Doubled : Type 0 where
  -- which shard it is, and how many entries it may hold
  pub shard : Book
  pub capacity : ℕ
  -- all stored insertions, the oldest first
  pub stored : List Entry
  -- an entry that was appended, and is not published
  pub pending : Option Entry

-- one that holds nothing
abbrev pub empty_of : Book → (capacity : ℕ) → Doubled
empty_of shard capacity = record { shard = shard; capacity = capacity; stored = []; pending = None }

-- two shards that readers cannot tell apart
abbrev pub IsAlike : Instance → Instance → Type 0
IsAlike x y = (y.shard ≡ x.shard) × (y.front ≡ x.front)
