-- The first fault of two lists of cases.
use Rattle.std.proofs.Common.{◌≡◌, cond, List, [], ◌∷◌, ◌++◌, Some, true, false, refl}
use Rattle.std.specs.Option.{option_or}
use Rattle.asc_model.specs.Case.{Case, first_fault}

-- the first list's, and else the second's
pub first_fault-append : {Fault : Type 0} (a b : List (Case Fault)) → first_fault (a ++ b) ≡ option_or (first_fault a) (first_fault b)
first_fault-append [] b = refl
first_fault-append (case ∷ a) b =
    elim case.stands as (λ v. cond v (Some case.fault) (first_fault (a ++ b)) ≡ option_or (cond v (Some case.fault) (first_fault a)) (first_fault b)) [
      | true ↦ refl
      | false ↦ first_fault-append a b
    ]
