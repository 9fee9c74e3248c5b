use Rattle.std.proofs.Common.{drop}
use Rattle.asc_cache.proofs.Steps.{opens, alike, both_ok}
use Rattle.asc_cache.proofs.doubled.begin.Goals as goal

pub publish_as-requires : goal.publish_as-requires
publish_as-requires g c next is =
    let handle = c.args.handle in
    opens handle.desk.shown.value next (alike handle.desk.shown.value next (drop handle.behind handle.log.items) c.requires.none is) handle.desk.place.id _

pub returns : goal.returns
returns g c =
    let handle = c.args.handle in
    let r = c.publish_as.result in
    both_ok r.1 _ _ _ _ _ c.publish_as.ensures.values c.publish_as.ensures.rule (λ a b. (a.1, alike handle.desk.shown.value r.0.desk.shown.value (drop handle.behind handle.log.items) c.requires.none a.0, b))
