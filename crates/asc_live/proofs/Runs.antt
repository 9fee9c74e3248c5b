-- The workers of a crew before and after a run.
use Rattle.std.proofs.Common.{◌≡◌, ℕ, ◌<◌, List, [], ◌∷◌, All, Option, Some, None, length, get_or, sym, ap, subst, ◌∙◌, arith, rules}
use Rattle.std.proofs.lemmas.List.{get_or-map, length-map}
use Rattle.std.proofs.lemmas.List.Elements.{All-nil, All-cons, All-head, All-tail}
use Rattle.asc_model.specs.Shape.{Shape}
use Rattle.asc_find.specs.declared.guessing.Guessing.{Guessing}
use Rattle.asc_calls.specs.World.{Outside}
use Rattle.asc_cache.specs.Cache.{AreLater, IsOwnReader, ShardReader, ShardReaders, ShardWriter, id_of}
use Rattle.asc_cache.specs.Insert.{ShardId}
use Rattle.asc_run.specs.Walk.{Walk}
use Rattle.asc_work.specs.Halting.{Flag}
use Rattle.asc_work.specs.Posts.{IsRehalted, IsTakenIn, Team}
use Rattle.asc_work.specs.Worker.{Worker}
use Rattle.asc_work.specs.declared.post.Post.{Post}
use Rattle.asc_live.specs.Crew.{AreOfSameShards, AreSameWorkers, HasBoundsOf, IsForRun, IsOpenCrew, IsSameWorker, IsTeamOf, IsWriterOf, WentBeside, readers_in, writers_of}
use Rattle.asc_live.specs.declared.crew.Crew.{Crew}
use Rattle.asc_live.specs.declared.crew.Worked.{Worked}
use Rattle.asc_live.specs.declared.open_crew.RunParts.{RunParts}
use Rattle.asc_live.proofs.Meeting.{one_of}
use Rattle.asc_live.proofs.Opening.{stays_writer}

-- ---- one worker

pub same_rehalted : (p q : Post ShardWriter Flag) → IsRehalted p q → IsSameWorker p.worker q.worker
same_rehalted p q is = record {
  shape = ap (λ (w : Worker ShardWriter Flag). w.shape) is.worker;
  laps = ap (λ (w : Worker ShardWriter Flag). w.laps) is.worker;
  span = ap (λ (w : Worker ShardWriter Flag). w.span) is.worker;
  join = ap (λ (w : Worker ShardWriter Flag). w.join) is.worker;
  shard = ap (λ (w : Worker ShardWriter Flag). id_of w.writer) is.worker;
}

pub same_taken_in : (p q : Post ShardWriter Flag) → IsTakenIn p q → IsSameWorker p.worker q.worker
same_taken_in p q is = record {
  shape = ap (λ (w : Worker ShardWriter Flag). w.shape) is.worker;
  laps = ap (λ (w : Worker ShardWriter Flag). w.laps) is.worker;
  span = ap (λ (w : Worker ShardWriter Flag). w.span) is.worker;
  join = ap (λ (w : Worker ShardWriter Flag). w.join) is.worker;
  shard = ap (λ (w : Worker ShardWriter Flag). id_of w.writer) is.worker;
}

same_twice : (u v w : Worker ShardWriter Flag) → IsSameWorker u v → IsSameWorker v w → IsSameWorker u w
same_twice u v w a b = record {
  shape = b.shape ∙ a.shape;
  laps = b.laps ∙ a.laps;
  span = b.span ∙ a.span;
  join = b.join ∙ a.join;
  shard = b.shard ∙ a.shard;
}

-- ---- all workers

pub workers_twice : (one two three : List (Post ShardWriter Flag)) → AreSameWorkers one two → AreSameWorkers two three → AreSameWorkers one three
workers_twice one two three a b = record {
  count = b.count ∙ a.count;
  each = λ i d l. same_twice (get_or one i d).worker (get_or two i d).worker (get_or three i d).worker (a.each i d l) (b.each i d (omega (arith, l, a.count)));
}

-- so they are after a whole run
pub run_workers : (old manned served new : List (Post ShardWriter Flag)) → length manned ≡ length old → length new ≡ length served
    → ((i : ℕ) (d : Post ShardWriter Flag) → i < length old → IsRehalted (get_or old i d) (get_or manned i d)) → AreSameWorkers manned served
    → ((i : ℕ) (d : Post ShardWriter Flag) → i < length served → IsTakenIn (get_or served i d) (get_or new i d)) → AreSameWorkers old new
run_workers old manned served new begun ended rehalted same taken =
    workers_twice old served new
    (workers_twice old manned served (record { count = begun; each = λ i d l. same_rehalted (get_or old i d) (get_or manned i d) (rehalted i d l) }) same)
    (record { count = ended; each = λ i d l. same_taken_in (get_or served i d) (get_or new i d) (taken i d l) })

-- ---- a team

same_bounds : (shape : Shape) (guessing : Guessing) (w v : Worker ShardWriter Flag) → IsSameWorker w v → HasBoundsOf shape guessing w → HasBoundsOf shape guessing v
same_bounds shape guessing w v same has =
    (same.shape ∙ has.0, same.laps ∙ has.1, same.span ∙ has.2, same.join ∙ has.3)

same_writer : (readers : List ShardReader) (w v : ShardWriter) → id_of v ≡ id_of w → IsWriterOf readers w → IsWriterOf readers v
same_writer readers w v same is =
    let index : v.index ≡ w.index = ap (λ (s : ShardId). s.index) same in record {
      own = record {
        there = omega (arith, index, is.own.there);
        shard = λ d. ap (λ i. (get_or readers i d).shard) index ∙ is.own.shard d ∙ sym (ap (λ (s : ShardId). s.shard) same);
      };
      capacity = ap (λ (s : ShardId). s.capacity) same ∙ is.capacity;
    }

-- the team of a crew is one still after a run
pub team_after : (shape : Shape) (guessing : Guessing) (workers : ℕ) (readers later : List ShardReader) (old new : Team ShardWriter Flag)
    → IsTeamOf shape guessing workers readers old → new.queue ≡ None → AreSameWorkers old.posts new.posts → AreLater readers later
    → IsTeamOf shape guessing workers later new
team_after shape guessing workers readers later old new is idle same learnt = record {
  idle = idle;
  count = same.count ∙ is.count;
  bounds = λ k d l.
      let m : k < length old.posts = omega (arith, l, same.count) in
      same_bounds shape guessing (get_or old.posts k d).worker (get_or new.posts k d).worker (same.each k d m) (is.bounds k d m);
  writers = λ k d l.
      let m : k < length old.posts = omega (arith, l, same.count) in
      stays_writer readers later learnt (get_or new.posts k d).worker.writer
      (same_writer readers (get_or old.posts k d).worker.writer (get_or new.posts k d).worker.writer (same.each k d m).shard (is.writers k d m));
}

-- ---- a crew

-- what is known of a walk beside a crew is known for what is equal
pub went_as : {was now : Walk} {old new : Outside} {worked : Worked} → (g h : Guessing) (c d : Crew) → g ≡ h → c ≡ d
    → WentBeside g c was now old new worked → WentBeside h d was now old new worked
went_as {was} {now} {old} {new} {worked} g h c d e f went =
    subst (λ (h : Guessing). WentBeside h d was now old new worked) e (subst (λ (d : Crew). WentBeside g d was now old new worked) f went)

-- what holds of the writer at each post holds of all writers
pub all_writers_of : (P : ShardWriter → Type 0) (posts : List (Post ShardWriter Flag)) → All (λ p. P p.worker.writer) posts → All P (writers_of posts)
all_writers_of P [] h = All-nil P
all_writers_of P (p ∷ posts) h =
    All-cons P p.worker.writer (writers_of posts) (All-head (λ (p : Post ShardWriter Flag). P p.worker.writer) p posts h)
    (all_writers_of P posts (All-tail (λ (p : Post ShardWriter Flag). P p.worker.writer) p posts h))

-- the writers of the same workers are of the same shards
pub same_shards : (old new : List (Post ShardWriter Flag)) → AreSameWorkers old new → AreOfSameShards (writers_of old) (writers_of new)
same_shards old new same =
    let writer : Post ShardWriter Flag → ShardWriter = λ p. p.worker.writer in record {
      count = length-map new writer ∙ same.count ∙ sym (length-map old writer);
      each = λ i d l.
          let within : i < length old = omega (arith, l, length-map old writer) in
          let p : Post ShardWriter Flag = one_of old i within in
          ap id_of (get_or-map writer new i p d (omega (arith, within, same.count)))
          ∙ (same.each i p within).shard
          ∙ sym (ap id_of (get_or-map writer old i p d within));
    }

-- a crew is one still after a run
pub crew_after : (shape : Shape) (guessing : Guessing) (crew : Crew) (readers : Option ShardReaders) (now : ShardReaders) (old new : Team ShardWriter Flag) (many : ℕ) (runs left : List RunParts)
    → IsOpenCrew shape guessing crew readers old many runs → AreLater (readers_in readers) now.readers → new.queue ≡ None → AreSameWorkers old.posts new.posts
    → All (IsForRun guessing crew) left → IsOpenCrew shape guessing crew (Some now) new many left
crew_after shape guessing crew readers now old new many runs left is later idle same parts = record {
  least = is.least;
  most = is.most;
  there = search rules;
  shards = later.count ∙ is.shards;
  team = team_after shape guessing crew.workers (readers_in readers) now.readers old new is.team idle same later;
  wakers = is.wakers;
  parts = parts;
}

-- each writer of its team is that of a reader
pub own_writers : (shape : Shape) (guessing : Guessing) (workers : ℕ) (readers : List ShardReader) (team : Team ShardWriter Flag) → IsTeamOf shape guessing workers readers team
    → All (λ p. IsOwnReader p.worker.writer readers) team.posts
own_writers shape guessing workers readers team is = λ k d l. (is.writers k d l).own
