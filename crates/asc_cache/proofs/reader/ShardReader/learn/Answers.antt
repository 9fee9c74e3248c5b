use Rattle.std.proofs.Common.{rules, ◌≤◌, ◌+◌, List, length, ap, subst}
use mathlib.Core.List.{IsPrefix}
use Rattle.asc_model.specs.Entry.{Entry}
use Rattle.asc_cache.specs.Cache.{Notice}
use Rattle.asc_cache.specs.History.{tried_in}
use Rattle.asc_cache.proofs.History.{begins}
use Rattle.asc_cache.proofs.reader.ShardReader.learn.Goals as goal

pub returns-clause-told : goal.returns-clause-told
returns-clause-told g c =
    let told = c.told.inside.front.log in
    let seen = c.catch_up-looked.result.front.log in
    let near : length told ≤ length seen + 1 = search rules in
    subst (λ (l : List Entry). IsPrefix l (tried_in seen)) (ap (λ (t : Notice). t.stored) c.told.view_is) (begins told seen c.compare.ensures near)
