-- Where no two states are kept, no job is due.
use Rattle.std.proofs.Common.{◌≡◌, None, length, sym, ap, ◌∙◌, subst}
use Rattle.asc_run.specs.LastVisits.{LastVisits}
use Rattle.asc_live.specs.Due.{Pushes}
use Rattle.asc_live.specs.Live.{live, due_by, offers_at}
use Rattle.asc_live.proofs.Pushing.{Pushes-none}
use Rattle.asc_live.proofs.live.Live.push_due.Goals as goal

pub returns-in_default-clause-pushes : goal.returns-in_default-clause-pushes
returns-in_default-clause-pushes g c =
    let i = c.self.inside in
    let number = c.args.number in
    let l = live i.finder i.visits i.pusher i.seen (length i.workers.now.items) i.budget in
    let none : i.visits.prev ≡ None = sym (ap (λ (v : LastVisits). v.prev) c.plan.ensures) ∙ c.in_default.ensures in
    subst (λ l. Pushes (offers_at number l) (due_by number l.prev l.last l) l.pusher i.pusher) c.self.view_is
    (subst (λ prev. Pushes (offers_at number l) (due_by number prev l.last l) i.pusher i.pusher) (sym none) (Pushes-none (offers_at number l) i.pusher))
