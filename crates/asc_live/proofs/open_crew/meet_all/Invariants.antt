use Rattle.std.proofs.Common.{ℕ, ◌<◌, get_or}
use Rattle.asc_cache.specs.Cache.{AreLater, ShardWriter}
use Rattle.asc_work.specs.Halting.{Flag}
use Rattle.asc_work.specs.declared.post.Post.{Post}
use Rattle.asc_live.specs.Crew.{HasMet}
use Rattle.asc_live.proofs.open_crew.meet_all.Given as goal

abbrev pub invariant-loop-i : goal.invariant-loop-i
invariant-loop-i g l = record {
  later : AreLater l.initial.readers.readers l.readers.readers;
  met : (k : ℕ) → k < l.i → (d : Post ShardWriter Flag) → HasMet l.readers.readers (get_or l.team.posts k d).worker.writer;
}
