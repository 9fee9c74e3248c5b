-- The guesses that are due are counted, and all else stays.
use Rattle.std.proofs.Common.{◌≡◌, ◌+◌, ◌^◌, true, Some, None, length, nat_lt, [], refl, sym, ap, ◌∙◌, subst, if◌then◌else◌}
use Rattle.asc_run.specs.LastVisits.{LastVisits, listed, issued_after}
use Rattle.asc_live.specs.Due.{jobs_of}
use Rattle.asc_live.specs.Live.{IsLive, live, is_guessing, is_needless, due_by, seen_after}
use Rattle.asc_live.proofs.Seeing.{IsLive-asked, left-alone, left-live, needless-is}
use Rattle.asc_live.proofs.live.Live.leave.Goals as goal

pub invariant_of-self : goal.invariant_of-self
invariant_of-self g c =
    let i = c.self.inside in
    let number = c.args.number in
    let old = live i.finder i.visits i.pusher i.seen (length i.workers.now.items) i.budget in
    let needless = subst (λ l. is_needless number l ≡ true) (sym c.self.view_is) c.requires.needless in
    let on = subst (λ l. is_guessing l.guessing ≡ true) (sym c.self.view_is) c.requires.guesses in
    let kept = (needless-is number old needless).1 in
    let last = kept.0 in
    let none : i.seen ≡ None = ap (λ l. l.seen) c.self.view_is ∙ c.requires.seen in
    let untold : seen_after number i.pusher.refused i.seen ≡ i.seen = ap (seen_after number i.pusher.refused) none ∙ sym none in
    let issued : issued_after old.guessing old.issued number old.last ≡ number + i.visits.guessing.ahead =
    ap (λ l. issued_after old.guessing old.issued number l) kept.1 in
    let visits : record (listed number i.visits) { issued = issued_after old.guessing old.issued number old.last } ≡ c.list.new.self =
    ap (λ n. record (listed number i.visits) { issued = n }) issued ∙ sym c.list.ensures in
    let pusher : record i.pusher { left = i.pusher.left + length (due_by number old.last (Some last) old) } ≡ c.leave.new.self =
    ap (λ l. record i.pusher { left = i.pusher.left + length (due_by number l (Some last) old) }) kept.1
    ∙ ap (λ jobs. record i.pusher { left = i.pusher.left + length (if nat_lt (length i.pusher.giver.pushed) (2 ^ 60) then jobs_of last last jobs else []) })
    (sym (c.jobs.ensures.jobs ∙ ap (λ (v : LastVisits). v.jobs) c.list.ensures))
    ∙ sym (c.leave.ensures last last) in
    subst IsLive (λ j. live i.finder (visits j) (pusher j) (untold j) (length i.workers.now.items) i.budget)
    (IsLive-asked (left-alone number last old) i.finder i.budget refl (left-live number last old c.requires.number c.self.invariant on needless))
