-- What the system tells.
use Rattle.std.proofs.Common.{◌≡◌, ℕ, List, None, subst}
use Rattle.asc_outside.specs.Outside.{Given}
use Rattle.asc_inspect.specs.declared.answer.Answer.{Answer}
use Rattle.asc_inspect.specs.Shown.{Answers, Outer, outer}
use Rattle.asc_streams.specs.Told.{untold}
use Rattle.asc_show.specs.Status.{IsStatusOf, IsStatusOver, IsToldOver}

pub told-over-system : (before : ℕ) (after : Given) (faults : ℕ) (answer : Answer) (status : ℕ) → before ≡ 0
    → IsStatusOf untold after before faults answer status → IsToldOver answer status
told-over-system before after faults answer status no_fault told = record {
  after = after;
  faults = faults;
  told = subst (λ n. IsStatusOf untold after n faults answer status) no_fault told;
}

pub over-system : (words : List (List ℕ)) (steps faults : ℕ) (new : Outer) (answer : Answer) (status : ℕ) → steps ≡ 0 → faults ≡ 0
    → Answers words None (outer None untold steps faults) new answer → IsToldOver answer status → IsStatusOver words status
over-system words steps faults new answer status no_step no_fault says told = record {
  answer = answer;
  new = new;
  says = subst (λ n. Answers words None (outer None untold 0 n) new answer) no_fault
      (subst (λ n. Answers words None (outer None untold n faults) new answer) no_step says);
  told = told;
}
