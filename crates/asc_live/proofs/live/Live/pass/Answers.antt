-- No state is kept, and the guesses that are due count as not offered.
use Rattle.std.proofs.Common.{◌≡◌, ◌+◌, true, length, sym, ap, ◌∙◌, subst}
use Rattle.asc_find.specs.Serial.{kinds_of}
use Rattle.asc_run.specs.LastVisits.{LastVisits}
use Rattle.asc_live.specs.Due.{is_filled}
use Rattle.asc_live.specs.Live.{IsLive, PassesOver, live, is_guessing, is_passed_over}
use Rattle.asc_live.proofs.Seeing.{passed-is, passed-live}
use Rattle.asc_live.proofs.live.Live.pass.Goals as goal

pub invariant_of-self : goal.invariant_of-self
invariant_of-self g c =
    let i = c.self.inside in
    let old = live i.finder i.visits i.pusher i.seen (length i.workers.now.items) i.budget in
    let passed = subst (λ l. is_passed_over l ≡ true) (sym c.self.view_is) c.requires.passed in
    let kinds = ap (λ g. record i.pusher { passed = i.pusher.passed + length (kinds_of g) }) (c.guessing.ensures ∙ ap (λ (v : LastVisits). v.guessing) c.pass_over.ensures) in
    subst IsLive (sym (passed-is c.args.number i.finder i.visits i.pusher i.seen (length i.workers.now.items) i.budget _ _ _ _ c.self.invariant
    c.pass_over.ensures (c.pass_over-2.ensures ∙ kinds) c.seen_after-self-inside.ensures (c.pass.ensures.after (is_guessing old.guessing) (is_filled old.pusher.giver) 0 passed)))
    (passed-live c.args.number 0 old c.requires.number c.self.invariant passed)

pub returns : goal.returns
returns g c =
    let i = c.self.inside in
    let old = live i.finder i.visits i.pusher i.seen (length i.workers.now.items) i.budget in
    let passed = subst (λ l. is_passed_over l ≡ true) (sym c.self.view_is) c.requires.passed in
    let kinds = ap (λ g. record i.pusher { passed = i.pusher.passed + length (kinds_of g) }) (c.guessing.ensures ∙ ap (λ (v : LastVisits). v.guessing) c.pass_over.ensures) in
    subst (λ l. PassesOver c.args.number 0 l (live i.finder c.pass_over.new.self c.pass_over-2.new.self c.seen_after-self-inside.result (length i.workers.now.items) c.pass.new.self)) c.self.view_is
    (record {
      passed = passed;
      rest = passed-is c.args.number i.finder i.visits i.pusher i.seen (length i.workers.now.items) i.budget _ _ _ _ c.self.invariant
          c.pass_over.ensures (c.pass_over-2.ensures ∙ kinds) c.seen_after-self-inside.ensures (c.pass.ensures.after (is_guessing old.guessing) (is_filled old.pusher.giver) 0 passed);
    })
