-- The state was kept, and jobs were pushed; or memory was wanting.
use Rattle.std.proofs.Common.{rules, arith, length}
use Rattle.asc_live.specs.Live.{live}
use Rattle.asc_live.proofs.Pages.{pages-few}
use Rattle.asc_live.proofs.Seeing.{visit-live}
use Rattle.asc_live.proofs.live.Live.make.Goals as goal

pub invariant_of-self-2 : goal.invariant_of-self-2
invariant_of-self-2 g c =
    let i = c.self-2.inside in
    let new = live i.finder i.visits i.pusher c.seen_after-self-inside.result (length i.workers.now.items) i.budget in
    visit-live c.args.number c.copied-pages.result c.args.state.now c.args.self.now new c.requires.number (search rules) (search rules)

pub make_unseen-requires-clause-pages : goal.make_unseen-requires-clause-pages
make_unseen-requires-clause-pages g c = omega (arith, c.copied-pages.ensures.most, pages-few c.args.state.now.shape c.requires.state.shape)

pub returns-clause-visits : goal.returns-clause-visits
returns-clause-visits g c = (c.copied-pages.result, c.copied-pages.ensures.most, search rules)
