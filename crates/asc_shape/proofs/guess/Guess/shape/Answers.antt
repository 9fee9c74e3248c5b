use Rattle.std.proofs.Common.{subst}
use Rattle.asc_model.specs.State.{IsState}
use Rattle.asc_shape.proofs.Guesses.{IsState-guess}
use Rattle.asc_shape.proofs.guess.Guess.shape.Goals as goal

pub returns-clause-state : goal.returns-clause-state
returns-clause-state c =
    let s = c.self.inside in
    subst IsState c.self.view_is (IsState-guess s.ahead s.prev s.last.value (subst IsState c.deref.ensures c.shape.ensures.state))
