-- The proofs of the laws.
use Rattle.std.proofs.Common.{ap, sym, ◌∙◌, arith}
use Rattle.asc_find.specs.Finder.{Plan}
use Rattle.asc_live.specs.Laws.{GuessesAreCounted}

-- all guesses that are due were made, found no room or were not offered
pub guesses_are_counted : GuessesAreCounted
guesses_are_counted guessing queue visits first last new all none =
    let refused = ap (λ (p : Plan). p.refused) new in
    let made = ap (λ (p : Plan). p.made) new in
    let full = ap (λ (p : Plan). p.full) new in
    let sum = (all guessing (ap (λ (p : Plan). p.seen) new) (none ∙ sym refused)).1 in
    omega (arith, made, full, sum)
