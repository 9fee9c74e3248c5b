-- Guesses are not offered only once the queue had been filled up.
use Rattle.std.proofs.Common.{◌≡◌, ◌+◌, true, None, length, sym, ap, ◌∙◌, subst}
use Rattle.asc_find.specs.Serial.{kinds_of}
use Rattle.asc_run.specs.LastVisits.{LastVisits}
use Rattle.asc_live.specs.Due.{is_filled}
use Rattle.asc_live.specs.Live.{IsLive, live, is_guessing, seen_after}
use Rattle.asc_live.proofs.Seeing.{given_up-live}
use Rattle.asc_live.proofs.live.Live.give_up.Goals as goal

pub invariant_of-self : goal.invariant_of-self
invariant_of-self g c =
    let i = c.self.inside in
    let old = live i.finder i.visits i.pusher i.seen (length i.workers.now.items) i.budget in
    let filled = subst (λ l. is_guessing l.guessing ≡ true → is_filled l.pusher.giver ≡ true) (sym c.self.view_is) c.requires.filled in
    let none : i.seen ≡ None = ap (λ l. l.seen) c.self.view_is ∙ c.requires.seen in
    let untold : seen_after c.args.number i.pusher.refused i.seen ≡ i.seen = ap (seen_after c.args.number i.pusher.refused) none ∙ sym none in
    let guessing : c.guessing.result ≡ i.visits.guessing = c.guessing.ensures ∙ ap (λ (v : LastVisits). v.guessing) c.skip.ensures in
    let pusher : record i.pusher { passed = i.pusher.passed + length (kinds_of i.visits.guessing) } ≡ c.pass_over.new.self =
    ap (λ g. record i.pusher { passed = i.pusher.passed + length (kinds_of g) }) (sym guessing) ∙ sym c.pass_over.ensures in
    subst IsLive (λ j. live i.finder (sym c.skip.ensures j) (pusher j) (untold j) (length i.workers.now.items) i.budget)
    (given_up-live c.args.number old.last old c.requires.number c.self.invariant filled)
