-- Each entry that is tried has no join, or that is the newest one's.
use Rattle.std.proofs.Common.{sym, ap, ◌∙◌}
use Rattle.std.specs.Arc.{arc_value}
use Rattle.std.specs.Option.{is_some}
use Rattle.asc_model.specs.Join.{join_of}
use Rattle.asc_model.proofs.Joins.{can-some}
use Rattle.asc_calls.proofs.Taken.{OnErr-any}
use Rattle.asc_run.proofs.JoinsFound.{found-all, none-behind, none-map, one-more, some-map}
use Rattle.asc_run.proofs.joining.join_newest.Goals as goal

pub loop-i-init : goal.loop-i-init
loop-i-init c = λ others e is. none-behind c.args.shard.now.held others e c.len-newest.result is c.len-newest.ensures

pub returns-then-is_some-clause-joined : goal.returns-then-is_some-clause-joined
returns-then-is_some-clause-joined c = λ others e is.
    let tried = one-more c.args.shard.now.held others e _ _ c.loop-i.i c.len-newest.result is c.len-newest.ensures c.loop-i-test.true c.loop-i.auto.i c.entry.ensures c.entry-in-loop-i.ensures (c.loop-i.invariant others e is) in
    let first = c.deref.ensures in
    let second = c.deref-in-loop-i.ensures in
    let found = (λ j. join_of (sym first j) (sym second j)) ∙ sym c.in_ok-joined.ensures.joined in
    let some = sym c.is_some.ensures ∙ c.if-is_some.true in
    sym (found-all others e _ _ (some-map arc_value c.in_ok-joined.joined some) (tried ∙ found))

pub returns-in_err-joined-clause-memory : goal.returns-in_err-joined-clause-memory
returns-in_err-joined-clause-memory c = λ others e is.
    let tried = one-more c.args.shard.now.held others e _ _ c.loop-i.i c.len-newest.result is c.len-newest.ensures c.loop-i-test.true c.loop-i.auto.i c.entry.ensures c.entry-in-loop-i.ensures (c.loop-i.invariant others e is) in
    let first = c.deref.ensures in
    let second = c.deref-in-loop-i.ensures in
    let there = can-some c.deref.result.now c.deref-in-loop-i.result.now c.in_err-joined.ensures.memory in
    OnErr-any c.from_residual.result _ (ap is_some (found-all others e _ _ there (tried ∙ (λ j. join_of (sym first j) (sym second j)))) ∙ there)

pub loop-i-preserved : goal.loop-i-preserved
loop-i-preserved c = λ others e is.
    let tried = one-more c.args.shard.now.held others e _ _ c.loop-i.i c.len-newest.result is c.len-newest.ensures c.loop-i-test.true c.loop-i.auto.i c.entry.ensures c.entry-in-loop-i.ensures (c.loop-i.invariant others e is) in
    let first = c.deref.ensures in
    let second = c.deref-in-loop-i.ensures in
    let found = (λ j. join_of (sym first j) (sym second j)) ∙ sym c.in_ok-joined.ensures.joined in
    let none = sym c.is_some.ensures ∙ c.if-is_some.false in
    tried ∙ found ∙ none-map arc_value c.in_ok-joined.joined none
