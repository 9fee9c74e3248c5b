-- What the system tells.
use Rattle.std.proofs.Common.{◌≡◌, refl, ℕ, List, None, subst}
use Rattle.asc_calls.specs.World.{Told, outside, faults}
use Rattle.asc_top.specs.Answered.{Surroundings, around}
use Rattle.asc_top.specs.Reported.{Report, report_with}
use Rattle.asc_words.specs.declared.answer.Conclusion.{Conclusion}
use Rattle.asc_streams.specs.Told.{untold}
use Rattle.asc_cli.specs.Status.{IsStatus, IsStatusOf, IsStatusOver, of_system, report_of_system}

of-zeros : (store steps input out err : ℕ) → store ≡ 0 → steps ≡ 0 → input ≡ 0 → out ≡ 0 → err ≡ 0
    → around None None store (outside None untold untold steps (faults input out err)) ≡ of_system
of-zeros store steps input out err no_store no_step no_input no_out no_err = rw (no_store, no_step, no_input, no_out, no_err) refl

-- what devices of the system tell, where so many of their calls failed
abbrev pub told_by_system : (input out err : ℕ) → Told
told_by_system input out err = record { left = None; out = untold; err = untold; faults = faults input out err }

pub over-system : (told : Told) (words : List (List ℕ)) (store steps input out err report : ℕ) (new : Surroundings) (after : Report) (status : ℕ)
    → store ≡ 0 → steps ≡ 0 → input ≡ 0 → out ≡ 0 → err ≡ 0 → report ≡ 0
    → told ≡ told_by_system input out err
    → IsStatus words (around None None store (outside told.left told.out told.err steps told.faults)) new (report_with untold report) after status
    → IsStatusOver words status
over-system told words store steps input out err report new after status no_store no_step no_input no_out no_err no_report same is = record {
  new = new;
  after = after;
  is = subst (λ old. IsStatus words old new (report_with untold 0) after status)
      (of-zeros store steps input out err no_store no_step no_input no_out no_err)
      (subst (λ n. IsStatus words (around None None store (outside None untold untold steps (faults input out err))) new (report_with untold n) after status)
      no_report
      (subst (λ (t : Told). IsStatus words (around None None store (outside t.left t.out t.err steps t.faults)) new (report_with untold report) after status)
      same is));
}

pub refused-over-system : (report : ℕ) (after : Report) (conclusion : Conclusion) (status : ℕ) → report ≡ 0
    → IsStatusOf (report_with untold report) after conclusion status → IsStatusOf report_of_system after conclusion status
refused-over-system report after conclusion status no_report is = subst (λ n. IsStatusOf (report_with untold n) after conclusion status) no_report is
