use Rattle.std.proofs.Common.{◌∙◌}
use Rattle.asc_guess.proofs.Best.{chosen-same}
use Rattle.asc_guess.proofs.Counts.{candidates_same}
use Rattle.asc_guess.proofs.choosing.choose.Goals as goal

pub returns-clause-chosen : goal.returns-clause-chosen
returns-clause-chosen c =
    let old = c.args.visits.now in let new = c.sort_unstable.new.self in
    c.choose_sorted.ensures ∙ chosen-same old new c.args.least c.requires.least c.sort_unstable.ensures.permutation
    (λ a. candidates_same old new a c.requires.rise c.sort_unstable.ensures.sorted c.sort_unstable.ensures.permutation)
