use Rattle.std.proofs.Common.{drop, ap, sym, ◌∙◌, subst}
use Rattle.asc_cache.specs.ShardRule.{IsWritten}
use Rattle.asc_cache.proofs.Steps.{admits, tells, learns}
use Rattle.asc_cache.proofs.Opened.{begun, no-error, none-behind, told}
use Rattle.asc_cache.proofs.doubled.Doubled.open.Goals as goal

pub reader-requires : goal.reader-requires
reader-requires g c = admits

pub tell-requires : goal.tell-requires
tell-requires g c = tells _ _

pub learn-requires-clause-rule : goal.learn-requires-clause-rule
learn-requires-clause-rule g c = learns _ _ _ _

pub invariant_of-doubled : goal.invariant_of-doubled
invariant_of-doubled g c =
    let shown = no-error c.begin-handle.result.1 c.begin-handle.ensures (sym c.is_err.ensures.value ∙ c.if-is_err.false) in
    let first = c.in_ok-first.ensures in
    let kept = c.tell.ensures.kept in
    let now = c.tell.new.self in
    let alike = told c.in_ok-handle.handle.desk.shown.value c.begin-handle.result.0.desk.shown.value now.desk.shown.value (ap (λ s. s.value) kept.0) shown.1 in
    let idle = none-behind now.behind c.begin-handle.result.0.behind now.log.items c.begin-handle.result.0.log.items kept.2 (ap (λ l. l.items) kept.1) shown.0 in
    let whole = c.new-log.result.whole in
    let pending = drop now.behind now.log.items in
    let is : IsWritten now.desk.shown.value pending whole whole 0 =
    begun whole c.in_ok-first.first c.in_ok-handle.handle.desk.shown.value now.desk.shown.value pending c.new-log.ensures first.0 first.2 c.in_ok-handle.ensures.0 alike idle in
    subst (λ t. IsWritten now.desk.shown.value pending whole t 0) (sym c.again-told.ensures) is
