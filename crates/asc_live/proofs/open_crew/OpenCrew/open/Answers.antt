use Rattle.std.proofs.Common.{ℕ, refl, subst, ◌∙◌, rules}
use Rattle.std.proofs.lemmas.List.{length-map}
use Rattle.asc_cache.specs.Cache.{IsOwnReader, ShardWriter}
use Rattle.asc_work.specs.Halting.{Flag}
use Rattle.asc_work.specs.declared.post.Post.{Post}
use Rattle.asc_live.specs.Crew.{IsTeamOf}
use Rattle.asc_live.proofs.Runs.{all_writers_of, own_writers}
use Rattle.asc_live.proofs.open_crew.OpenCrew.open.Goals as goal

pub invariant_of-result : goal.invariant_of-result
invariant_of-result g c =
    let shards = c.in_ok-writers.ensures in let made = c.in_ok-team.ensures in
    let readers = c.in_ok-writers.readers.readers in record {
      least = c.requires.ahead.0;
      most = c.requires.ahead.1;
      there = search rules;
      shards = shards.reader_count;
      team = subst (λ (n : ℕ). IsTeamOf c.args.shape c.args.guessing n readers c.in_ok-team.team) shards.writer_count (made.team readers shards.own);
      wakers = made.wakers ∙ shards.writer_count;
      parts = c.in_ok-parts.ensures.each;
    }

pub returns-clause-asked : goal.returns-clause-asked
returns-clause-asked g c =
    let shards = c.in_ok-writers.ensures in let team = c.in_ok-team.team in
    let readers = c.in_ok-writers.readers.readers in
    let is : IsTeamOf c.args.shape c.args.guessing c.args.crew.workers readers team =
    subst (λ (n : ℕ). IsTeamOf c.args.shape c.args.guessing n readers team) shards.writer_count (c.in_ok-team.ensures.team readers shards.own) in record {
      shape_is = refl;
      guessing_is = refl;
      crew_is = refl;
      runs_is = c.in_ok-parts.ensures.count;
      reader_count = shards.reader_count;
      writer_count = length-map team.posts (λ (p : Post ShardWriter Flag). p.worker.writer) ∙ is.count;
      own = all_writers_of (λ w. IsOwnReader w readers) team.posts (own_writers c.args.shape c.args.guessing c.args.crew.workers readers team is);
    }
