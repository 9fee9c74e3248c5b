use Rattle.std.proofs.Common.{List, ap, subst}
use mathlib.Core.List.{IsPrefix}
use Rattle.asc_cache.specs.declared.log.Note.{Note}
use Rattle.asc_cache.proofs.Fronts.{prefix_shorter}
use Rattle.asc_cache.proofs.log.compare.Goals as goal

pub returns : goal.returns
returns c =
    let both = c.learn.new.self.log in
    let one = c.args.one.now.log in
    let other = c.args.other.now.log in
    let this : IsPrefix one both = subst (λ (l : List Note). IsPrefix l both) (ap (λ s. s.log) c.again-both.ensures) c.learn.ensures.2 in
    (prefix_shorter one other both this c.learn.ensures.3, prefix_shorter other one both c.learn.ensures.3 this)
