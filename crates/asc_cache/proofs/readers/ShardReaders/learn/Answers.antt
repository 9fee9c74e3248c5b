use Rattle.std.proofs.Common.{rules, ◌≡◌, subst, get_or, set}
use Rattle.asc_cache.specs.Cache.{IsLater}
use Rattle.asc_cache.proofs.Firsts.{one-later}
use Rattle.asc_cache.proofs.readers.ShardReaders.learn.Goals as goal

pub returns-clause-later : goal.returns-clause-later
returns-clause-later g c =
    let xs = c.self.inside.readers.items in
    let same : xs ≡ c.args.self.now.readers = search rules in
    let was = c.index_mut.result.now in
    let here : was ≡ get_or xs c.index-index.result was = search rules in
    record {
      count = search rules;
      each = λ i d small. subst (λ ys. IsLater (get_or ys i d) (get_or (set xs c.index-index.result c.learn.new.self) i d)) same
          (one-later xs c.index-index.result was c.learn.new.self (search rules) (subst (λ r. IsLater r c.learn.new.self) here c.learn.ensures.later) i d);
    }
