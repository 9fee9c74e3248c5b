-- Workers, and what running a job does.
use Rattle.std.specs.Prelude.{◌≡◌, ℕ, ◌≤◌, Bool, true, false, ◌&&◌, Option, Some, None, if◌then◌else◌}
use Rattle.std.specs.Option.{is_some}
use Rattle.asc_model.specs.Shape.{Shape}
use Rattle.asc_model.specs.State.{State}
use Rattle.asc_model.specs.Machine.{view_of}
use Rattle.asc_model.specs.Entry.{Entry, entry_of}
use Rattle.asc_model.specs.Join.{join_of}
use Rattle.asc_model.specs.Reach.{Bounds, reach_of}
use Rattle.asc_outside.specs.Outside.{one_more}
use Rattle.asc_guess.specs.Guess.{guess_of}
use Rattle.asc_traj.specs.Made.{RisesAtMostOnce}
use Rattle.asc_traj.specs.Trace.{guess_bounds}
use Rattle.asc_shard.specs.Shard.{Shard}
use Rattle.asc_shard.specs.declared.shard.Inserted.{Inserted}
use Rattle.asc_shard.specs.declared.shard.Inserted.TheVariants as answers
use Rattle.asc_shard.specs.Content.{inserted_in}
use Rattle.asc_cache.specs.Insert.{shard_after}
use Rattle.asc_model.specs.Tally.{JobCounts, noted}
use Rattle.asc_jobs.specs.declared.job.Job.{Job}
use Rattle.asc_model.specs.declared.tally.Column.{Column}
use Rattle.asc_model.specs.declared.tally.Column.TheVariants.{Stored, Known, Empty, Dropped, Stopped}

-- A worker: the shape of its states, how far it traces a guess, where it inserts entries, what stops it, and its tally.
-- Where it joins entries it keeps the entry of the last job that was stored. It counts the jobs at which a join, or an entry
-- to keep, was left out for want of memory.
pub record Worker (W H : Type 0) : Type 0 where
  pub shape : Shape
  pub laps : ℕ
  pub span : ℕ
  pub writer : W
  pub halt : H
  pub tally : JobCounts
  pub join : Bool
  pub kept : Option Entry
  pub left_out : ℕ

-- the guess of a job
abbrev pub guess_for : Job → State
guess_for job = guess_of job.kind job.ahead job.prev.value job.last.value

-- a trace of it ends at the pc of the last visit
abbrev pub bounds_for : (laps span : ℕ) → Job → Bounds
bounds_for laps span job = guess_bounds (view_of job.last.value).pc laps span

-- how many steps such a trace takes
abbrev pub steps_for : (laps span : ℕ) → Job → ℕ
steps_for laps span job = reach_of (bounds_for laps span job) (guess_for job)

-- both snapshots of a job are of a shape
abbrev pub IsOfShape : Shape → Job → Type 0
IsOfShape shape job = (job.prev.value.shape ≡ shape) × (job.last.value.shape ≡ shape)

-- a job that gives no entry: its snapshots are not of the worker's shape, or its guess makes no step
abbrev pub IsEmpty : {W H : Type 0} → Worker W H → Job → Type 0
IsEmpty w job = IsOfShape w.shape job → steps_for w.laps w.span job ≡ 0

-- an entry was inserted, with this answer
abbrev pub Inserts : Inserted → Option Entry → (old new : Shard) → Type 0
Inserts answer entry old new = (e : Entry) × (entry ≡ Some e) × (answer ≡ inserted_in old.held e) × (new ≡ shard_after old e)

-- the entry of its guess
abbrev pub entry_for : (laps span : ℕ) → Job → Option Entry
entry_for laps span job = entry_of (steps_for laps span job) (guess_for job)

-- the join of the entry that a worker keeps, and of another behind it
abbrev pub join_behind : (kept : Option Entry) → Entry → Option Entry
join_behind None e = None
join_behind (Some kept) e = join_of kept e

-- a shard after an insertion of an entry, where there is one
abbrev pub shard_with : Shard → Option Entry → Shard
shard_with s None = s
shard_with s (Some e) = shard_after s e

-- A worker w that joins entries became v once an entry was stored, which had left a shard at `between`. The entry is kept,
-- and its join behind the one kept before is inserted, where there is one. What of this is left out is counted.
pub record HasJoined {W H : Type 0} (w v : Worker W H) (e : Entry) (between new : Shard) : Type 0 where
  pub keeps : Bool
  pub joins : Bool
  pub kept : v.kept ≡ (if keeps then Some e else None)
  pub content : new ≡ (if joins then shard_with between (join_behind w.kept e) else between)
  pub left_out : v.left_out ≡ (if keeps && joins then w.left_out else one_more w.left_out)
  pub due : joins ≡ false → is_some (join_behind w.kept e) ≡ true

-- what a worker keeps for joins, and its count of what was left out, are as they were
abbrev pub KeepsJoin : {W H : Type 0} → (w v : Worker W H) → Type 0
KeepsJoin w v = (v.kept ≡ w.kept) × (v.left_out ≡ w.left_out)

-- the entry of a job was stored, which took a shard from old to new
pub record HasStored {W H : Type 0} (w v : Worker W H) (entry : Option Entry) (old new : Shard) : Type 0 where
  pub e : Entry
  pub is : entry ≡ Some e
  pub stored : inserted_in old.held e ≡ answers.Stored
  pub alone : w.join ≡ false → KeepsJoin w v × (new ≡ shard_after old e)
  pub joined : w.join ≡ true → HasJoined w v e (shard_after old e) new

-- What a job that was noted in a column did to the content of a shard, and to the worker w, which is v then.
abbrev pub HasInserted : {W H : Type 0} → Column → (w v : Worker W H) → Job → (old new : Shard) → Type 0
HasInserted Stored w v job old new = IsOfShape w.shape job × HasStored w v (entry_for w.laps w.span job) old new
HasInserted Known w v job old new =
    IsOfShape w.shape job × Inserts answers.Known (entry_for w.laps w.span job) old new × KeepsJoin w v
HasInserted Empty w v job old new = (new ≡ old) × KeepsJoin w v
HasInserted Dropped w v job old new =
    IsOfShape w.shape job × (1 ≤ steps_for w.laps w.span job) × (new ≡ old) × KeepsJoin w v
HasInserted Stopped w v job old new = (new ≡ old) × KeepsJoin w v

-- What a job that was noted in a column did to the count of yes answers of the worker's halt. A job that gives no entry may
-- have been asked to stop before that was known.
abbrev pub HasAsked : Column → (before now : ℕ) → Type 0
HasAsked Stored before now = now ≡ before
HasAsked Known before now = now ≡ before
HasAsked Empty before now = RisesAtMostOnce before now
HasAsked Dropped before now = now ≡ before
HasAsked Stopped before now = now ≡ one_more before

-- A worker has run a job, w being the worker before, and v afterwards: what became of the job, what its entry did, and what
-- was counted.
pub record HasRun {W H : Type 0} (count : H → ℕ) (content : W → Shard) (w : Worker W H) (job : Job) (v : Worker W H) : Type 0 where
  pub column : Column
  pub empty : column ≡ Empty → IsEmpty w job
  pub other : (IsOfShape w.shape job → ⊥) → column ≡ Empty
  pub steps : IsEmpty w job → column ≡ Empty
  pub halt : HasAsked column (count w.halt) (count v.halt)
  pub inserted : HasInserted column w v job (content w.writer) (content v.writer)
  pub tally : v.tally ≡ noted column w.tally

-- ---- words of private contracts

-- what became of an entry that a worker inserted
abbrev pub Ends : {W H : Type 0} → Column → (w v : Worker W H) → Option Entry → (old new : Shard) → Type 0
Ends Stored w v entry old new = HasStored w v entry old new
Ends Known w v entry old new = Inserts answers.Known entry old new × KeepsJoin w v
Ends Empty w v entry old new = ⊥
Ends Dropped w v entry old new = (new ≡ old) × KeepsJoin w v
Ends Stopped w v entry old new = ⊥
