use Rattle.std.proofs.Common.{drop}
use Rattle.asc_cache.proofs.Steps.{publishes, published, if_ok}
use Rattle.asc_cache.proofs.doubled.publish_one.Goals as goal

pub publish_as-requires : goal.publish_as-requires
publish_as-requires g c next is =
    let handle = c.args.handle in
    let o = c.requires.next in
    publishes handle.desk.shown.value next o.0 o.2 (published handle.desk.shown.value next o.0 (drop handle.behind handle.log.items) o.1 is) handle.desk.place.id _

pub returns-clause-ok : goal.returns-clause-ok
returns-clause-ok g c =
    let handle = c.args.handle in
    let r = c.publish_as.result in
    if_ok r.1 _ _ _ c.publish_as.ensures.values (λ a. (a.1, λ o one. published handle.desk.shown.value r.0.desk.shown.value o (drop handle.behind handle.log.items) one a.0))
