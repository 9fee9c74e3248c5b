-- From a visit it goes on to the next, and where it stops short of one, it does so of the last.
use Rattle.std.proofs.Common.{◌-◌, ℕ, List, [], ◌∷◌, refl, ap, ◌∙◌, arith}
use Rattle.std.proofs.lemmas.Result.{err_from_is_err_and}
use Rattle.asc_model.specs.State.{State}
use Rattle.asc_inspect.specs.declared.request.Visit.{Visit}
use Rattle.asc_inspect.proofs.Missing.{stops-earlier}
use Rattle.asc_inspect.proofs.miss.come_with_copies.Goals as goal

pub returns-in_err-prev-clause-ended : goal.returns-in_err-prev-clause-ended
returns-in_err-prev-clause-ended g c =
    let p = err_from_is_err_and c.from_residual.result c.from_residual.ensures.1 in
    let visit = c.args.visit in
    let at : Visit = record { pc = visit.pc; number = visit.number - 2 } in
    rw (p.1, p.2) (λ start was. stops-earlier c.args.limit at visit start _ _ c.in_err-prev.field-0.0 refl (omega arith) (c.in_err-prev.ensures.ended start [] was))

pub returns-in_err-last-clause-ended : goal.returns-in_err-last-clause-ended
returns-in_err-last-clause-ended g c =
    let p = err_from_is_err_and c.from_residual-in_err-last.result c.from_residual-in_err-last.ensures.1 in
    let visit = c.args.visit in
    let at : Visit = record { pc = visit.pc; number = visit.number - 1 } in
    let one : List (ℕ × State) = (visit.number - 2, c.in_ok-prev.prev.value) ∷ [] in
    rw (p.1, p.2) (λ start was. stops-earlier c.args.limit at visit start _ _ c.in_err-last.field-0.0 refl (omega arith)
    (c.in_err-last.ensures.ended start one (c.in_ok-prev.ensures.there start [] was)))

pub returns-in_err-come_to-clause-ended : goal.returns-in_err-come_to-clause-ended
returns-in_err-come_to-clause-ended g c =
    let p = err_from_is_err_and c.from_residual-in_err-come_to.result c.from_residual-in_err-come_to.ensures.1 in
    let visit = c.args.visit in
    let one : List (ℕ × State) = (visit.number - 2, c.in_ok-prev.prev.value) ∷ [] in
    let both : List (ℕ × State) = (visit.number - 1, c.in_ok-last.last.value) ∷ one in
    rw (p.1, p.2) (λ start was. c.in_err-come_to.ensures.ended start both (c.in_ok-last.ensures.there start one (c.in_ok-prev.ensures.there start [] was)))

pub returns-clause-shapes : goal.returns-clause-shapes
returns-clause-shapes g c = λ start was.
    let before : List (ℕ × State) = (c.args.visit.number - 2, c.in_ok-prev.prev.value) ∷ [] in
    let one = c.in_ok-prev.ensures.there start [] was in
    let two = c.in_ok-last.ensures.there start before one in
    (ap (λ (s : State). s.shape) c.in_ok-prev.ensures.copied ∙ one.shape, ap (λ (s : State). s.shape) c.in_ok-last.ensures.copied ∙ two.shape)
