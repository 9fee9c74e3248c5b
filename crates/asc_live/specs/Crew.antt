-- A walk with workers beside it, and a crew of workers for several walks.
use Rattle.std.specs.Prelude.{◌≡◌, ℕ, ◌+◌, ◌*◌, ◌<◌, ◌≤◌, List, [], length, map, slice_index_or, All, Option, Some, None, IsSome}
use mathlib.Core.List.{IsPrefix}
use Rattle.asc_model.specs.declared.limits.TheConstants.{MOST_AHEAD, MOST_ENTRIES, MOST_GUESSES}
use Rattle.asc_model.specs.Entry.{Entry}
use Rattle.asc_model.specs.Shape.{Shape}
use Rattle.asc_find.specs.declared.guessing.Guessing.{Guessing}
use Rattle.asc_calls.specs.World.{BlamesOnly, Outside}
use Rattle.asc_cache.specs.Cache.{IsOwnReader, ShardReader, ShardReaders, ShardWriter, id_of}
use Rattle.asc_shard.specs.Content.{content_of}
use Rattle.asc_jobs.specs.Jobs as jobs
use Rattle.asc_run.specs.declared.walk.Ended.{Ended}
use Rattle.asc_run.specs.Execution.{device_of}
use Rattle.asc_find.specs.Finder.{Aid}
use Rattle.asc_run.specs.Guessed.{guesses_until}
use Rattle.asc_find.specs.Helper.{seen}
use Rattle.asc_run.specs.LastVisits.{no_visits}
use Rattle.asc_run.specs.Walk.{Walk, GoesFirst, IsRaisedBy, jumps}
use Rattle.asc_work.specs.Halting as halting
use Rattle.asc_work.specs.Halting.{Flag}
use Rattle.asc_work.specs.Posts.{Team}
use Rattle.asc_work.specs.Worker.{Worker}
use Rattle.asc_work.specs.declared.post.Post.{Post}
use Rattle.asc_live.specs.declared.crew.Crew.{Crew}
use Rattle.asc_live.specs.declared.crew.Worked.{Worked}
use Rattle.asc_live.specs.declared.open_crew.RunParts.{RunParts}

-- what a helper tells that was not asked yet, and for which nothing was made yet
pub record IsNewAid (guessing : Guessing) (a : Aid) : Type 0 where
  pub jumps_are : a.jumps ≡ jumps 0 0 0
  pub made : a.plan.made ≡ 0
  pub refused : a.plan.refused ≡ 0
  pub full : a.plan.full ≡ 0
  pub seen_is : a.plan.seen ≡ Some (seen 0 guessing)

-- A walk that had not ended went to its end beside a crew, with a helper that came from first to last. Each job that was
-- pushed is counted as run or as left.
pub record WentBeside (guessing : Guessing) (crew : Crew) (was now : Walk) (old new : Outside) (worked : Worked)
    : Type 0 where
  pub first : Aid
  pub last : Aid
  pub goes : GoesFirst was now old new first last worked.ended
  pub fresh : IsNewAid guessing first
  pub raised : IsRaisedBy now.jumps first.jumps last.jumps
  pub limit : now.count ≤ was.settings.limit
  pub faults : BlamesOnly (device_of worked.ended) old.faults new.faults
  -- where no device failed, its state has the shape that it had
  pub shape : device_of worked.ended ≡ None → now.state.shape ≡ was.state.shape
  -- its numbers are those of the helper
  pub made : worked.made ≡ last.plan.made
  pub refused : worked.refused ≡ last.plan.refused
  pub full : worked.full ≡ last.plan.full
  -- each job that was pushed was run, or left
  pub jobs : worked.made ≡ worked.taken.tally.ran + worked.taken.left
  -- where memory was not wanting, each guess that was due was pushed, or found no room or was not offered
  pub guesses : worked.refused ≡ 0 → worked.made + worked.full ≡ guesses_until guessing now.jumps.asked
  -- with memory or without, at most MOST_GUESSES guesses were pushed, found no room or were not offered at each visit
  pub few : worked.made + worked.full ≤ MOST_GUESSES * now.jumps.asked
  -- a guess found no room, or was not offered, only once as many were pushed as the queue holds
  pub room : 0 < worked.full → crew.queue ≤ worked.made
  -- as many workers were beside it as the crew has
  pub workers : worked.workers ≡ crew.workers

-- A crew that was opened for runs, one after the other, over one cache.
pub record OpenCrew : Type 0 where
  -- of which shape the states of its runs are, what is guessed, and how many workers and jobs there are
  pub shape : Shape
  pub guessing : Guessing
  pub crew : Crew
  -- for how many runs it still has memory
  pub runs : ℕ
  -- the readers of its shards, and the workers' writers, post by post
  pub readers : List ShardReader
  pub writers : List ShardWriter

-- it is as it was asked for, with a shard for each worker
pub record IsAskedFor (shape : Shape) (guessing : Guessing) (crew : Crew) (runs : ℕ) (c : OpenCrew) : Type 0 where
  pub shape_is : c.shape ≡ shape
  pub guessing_is : c.guessing ≡ guessing
  pub crew_is : c.crew ≡ crew
  pub runs_is : c.runs ≡ runs
  pub reader_count : length c.readers ≡ crew.workers
  pub writer_count : length c.writers ≡ crew.workers
  pub own : All (λ w. IsOwnReader w c.readers) c.writers

-- The reader of shard 0 has learnt insertions that leave what these entries leave, added in their order.
pub record HasLearnt (entries : List Entry) (readers : List ShardReader) : Type 0 where
  pub learnt : List Entry
  pub content : content_of MOST_ENTRIES learnt ≡ content_of MOST_ENTRIES entries
  pub capacity : (d : ShardReader) → (slice_index_or readers 0 d).capacity ≡ MOST_ENTRIES
  pub seen : (d : ShardReader) → IsPrefix learnt (slice_index_or readers 0 d).seen

-- the reader at a writer's number is its shard's, and has seen all that the writer has stored
pub record HasMet (readers : List ShardReader) (w : ShardWriter) : Type 0 where
  pub own : IsOwnReader w readers
  pub seen : (d : ShardReader) → IsPrefix w.stored (slice_index_or readers w.index d).seen

-- each of these writers writes into the shard that it had
pub record AreOfSameShards (old new : List ShardWriter) : Type 0 where
  pub count : length new ≡ length old
  pub each : (i : ℕ) (d : ShardWriter) → i < length old → id_of (slice_index_or new i d) ≡ id_of (slice_index_or old i d)

-- ---- words of private contracts

-- a walk that had not ended went to its end with a helper
pub record Walks (was now : Walk) (old new : Outside) (first last : Aid) (ended : Ended) : Type 0 where
  pub goes : GoesFirst was now old new first last ended
  pub raised : IsRaisedBy now.jumps first.jumps last.jumps
  pub limit : now.count ≤ was.settings.limit
  pub faults : BlamesOnly (device_of ended) old.faults new.faults
  pub shape : device_of ended ≡ None → now.state.shape ≡ was.state.shape

-- the bounds of a worker's traces, and whether it joins entries, as a crew is asked for
abbrev pub HasBoundsOf : {W H : Type 0} → Shape → Guessing → Worker W H → Type 0
HasBoundsOf shape guessing w =
    (w.shape ≡ shape) × (w.laps ≡ guessing.laps) × (w.span ≡ guessing.span) × (w.join ≡ guessing.join)

-- one of these readers is that of a writer's shard, which may hold so many entries
pub record IsWriterOf (readers : List ShardReader) (w : ShardWriter) : Type 0 where
  pub own : IsOwnReader w readers
  pub capacity : w.capacity ≡ MOST_ENTRIES

-- a worker has the bounds that it had, and the shard into which it writes
pub record IsSameWorker (w v : Worker ShardWriter Flag) : Type 0 where
  pub shape : v.shape ≡ w.shape
  pub laps : v.laps ≡ w.laps
  pub span : v.span ≡ w.span
  pub join : v.join ≡ w.join
  pub shard : id_of v.writer ≡ id_of w.writer

-- so has each worker, post by post
pub record AreSameWorkers (old new : List (Post ShardWriter Flag)) : Type 0 where
  pub count : length new ≡ length old
  pub each : (i : ℕ) (d : Post ShardWriter Flag) → i < length old
      → IsSameWorker (slice_index_or old i d).worker (slice_index_or new i d).worker

-- Of one run no job was asked yet: nothing is kept of a visit, and there is a new queue, and flags of a halter that has not
-- asked to stop.
pub record IsForRun (guessing : Guessing) (crew : Crew) (r : RunParts) : Type 0 where
  pub visits : r.visits ≡ no_visits guessing
  pub queue : jobs.AreOpened crew.queue crew.workers r.giver r.takers.items
  pub halts : halting.AreOpened crew.workers r.halter r.flags.items

-- a team that has no queue: so many workers of a crew, each with the writer of a shard that one of these readers reads
pub record IsTeamOf (shape : Shape) (guessing : Guessing) (workers : ℕ) (readers : List ShardReader)
    (team : Team ShardWriter Flag) : Type 0 where
  pub idle : team.queue ≡ None
  pub count : length team.posts ≡ workers
  pub bounds : All (λ p. HasBoundsOf shape guessing p.worker) team.posts
  pub writers : All (λ p. IsWriterOf readers p.worker.writer) team.posts

-- the readers, where they are not lent
abbrev pub readers_in : Option ShardReaders → List ShardReader
readers_in (Some r) = r.readers
readers_in None = []

-- the workers' writers, post by post
abbrev pub writers_of : List (Post ShardWriter Flag) → List ShardWriter
writers_of posts = map (λ (p : Post ShardWriter Flag). p.worker.writer) posts

-- What holds of a crew between its runs: its readers are there, its workers have no queue, and nothing was asked of the
-- parts of the runs to come.
pub record IsOpenCrew (shape : Shape) (guessing : Guessing) (crew : Crew) (readers : Option ShardReaders)
    (t : Team ShardWriter Flag) (many : ℕ) (runs : List RunParts) : Type 0 where
  pub least : 1 ≤ guessing.ahead
  pub most : guessing.ahead ≤ MOST_AHEAD
  pub there : IsSome readers
  pub shards : length (readers_in readers) ≡ crew.workers
  pub team : IsTeamOf shape guessing crew.workers (readers_in readers) t
  pub wakers : many ≡ crew.workers
  pub parts : All (IsForRun guessing crew) runs
