use Rattle.std.proofs.Common.{drop, ap, ◌∙◌}
use Rattle.std.specs.Prelude.{is_some}
use Rattle.asc_cache.specs.ShardRule.{Doubled}
use Rattle.asc_cache.proofs.Written.{one_pending, published, shows}
use Rattle.asc_cache.proofs.doubled.Doubled.publish.Goals as goal

pub replace_with-requires : goal.replace_with-requires
replace_with-requires g c =
    let d = c.self.inside in
    let some = ap (λ (d : Doubled). is_some d.pending) c.self.view_is ∙ c.requires in
    (c.self.invariant.folded, one_pending d.handle.desk.shown.value d.log.whole (drop d.handle.behind d.handle.log.items) c.self.invariant.logged some)

pub invariant_of-self-2 : goal.invariant_of-self-2
invariant_of-self-2 g c =
    let d = c.self.inside in
    let x = d.handle.desk.shown.value in
    let after = c.replace_with.new.dest in
    let old = drop d.handle.behind d.handle.log.items in
    let some = ap (λ (d : Doubled). is_some d.pending) c.self.view_is ∙ c.requires in
    let one = one_pending x d.log.whole old c.self.invariant.logged some in
    let done = c.in_ok-replace_with.ensures.0 in
    let log = c.append.new.self in
    published x after.desk.shown.value d.log.whole log.whole c.again.result d.told one.0 old (drop after.behind after.log.items) d.notes log.count c.self.invariant one.1 done.0 c.again.ensures
    c.append.ensures.book (c.append.ensures.appended c.if-not-append.false) (done.1 one.0 one.1) log.counted

pub returns-clause-published : goal.returns-clause-published
returns-clause-published g c e pending =
    let d = c.self.inside in
    let x = d.handle.desk.shown.value in
    let old = drop d.handle.behind d.handle.log.items in
    let some = ap (λ (d : Doubled). is_some d.pending) c.self.view_is ∙ c.requires in
    let one = one_pending x d.log.whole old c.self.invariant.logged some in
    let done = c.in_ok-replace_with.ensures.0 in
    shows x c.replace_with.new.dest.desk.shown.value one.0 old (drop c.replace_with.new.dest.behind c.replace_with.new.dest.log.items) c.args.self.now e one.2 one.1 done.0 (done.1 one.0 one.1) c.self.view_is pending
