use Rattle.std.proofs.Common.{◌∙◌, Err, Ok, Result, ap, sym, subst, inl, inr, ◌^◌, ◌-◌}
use Rattle.std.specs.Result.{result_map_both}
use Rattle.asc_words.specs.declared.answer.Bad.{Bad}
use Rattle.asc_words.specs.declared.line.RunLine.{RunLine}
use Rattle.asc_words.specs.declared.line.Line.{Line}
use Rattle.asc_words.specs.declared.line.Line.TheVariants.{Make, Save, Trial}
use Rattle.asc_words.specs.declared.line.LineFault.{LineFault}
use Rattle.asc_words.specs.Line.{IsWithin}
use Rattle.asc_words.proofs.Lines.{batch_within, found, met_batch, met_make, met_one, met_run, met_save, met_trial, passed_up, refused_by, run_within, save_within, trial_within}
use Rattle.asc_words.proofs.line.parse.Goals as goal

-- the line of `asc save`
abbrev saved : Result RunLine Bad → Result Line Bad
saved = result_map_both (λ line. Save line) (λ bad. bad)

pub returns-in_err-matches-clause-usage : goal.returns-in_err-matches-clause-usage
returns-in_err-matches-clause-usage c =
    λ bad usage. refused_by _ _ c.in_err-matches.field-0.0 bad c.in_ok-asc_command.ensures c.in_err-matches.ensures.kinds
    (passed_up _ _ _ c.from_residual-in_err-matches.ensures.1 usage)

pub run_line-requires : goal.run_line-requires
run_line-requires c =
    let parse = c.in_ok-matches.ensures in
    let of = found _ _ c.in_ok-matches.matches c.in_ok-asc_command.ensures parse.kinds parse.matches in
    let met = met_run _ _ c.subcommand.result c.unwrap.result c.unwrap.ensures c.subcommand.ensures.name c.subcommand.ensures.rows of c.in-run.is in
    met.values

pub returns-in-run-clause-line : goal.returns-in-run-clause-line
returns-in-run-clause-line c =
    let parse = c.in_ok-matches.ensures in
    let of = found _ _ c.in_ok-matches.matches c.in_ok-asc_command.ensures parse.kinds parse.matches in
    let met = met_run _ _ c.subcommand.result c.unwrap.result c.unwrap.ensures c.subcommand.ensures.name c.subcommand.ensures.rows of c.in-run.is in
    met.line ∙ c.in_ok-run_line-in-run.ensures.line

pub returns-in-run-clause-within : goal.returns-in-run-clause-within
returns-in-run-clause-within c =
    let parse = c.in_ok-matches.ensures in
    let of = found _ _ c.in_ok-matches.matches c.in_ok-asc_command.ensures parse.kinds parse.matches in
    let met = met_run _ _ c.subcommand.result c.unwrap.result c.unwrap.ensures c.subcommand.ensures.name c.subcommand.ensures.rows of c.in-run.is in
    run_within _ met.values _ c.in_ok-run_line-in-run.ensures.line

pub returns-in_err-run_line-in-run-clause-usage : goal.returns-in_err-run_line-in-run-clause-usage
returns-in_err-run_line-in-run-clause-usage c = λ bad usage.
    let parse = c.in_ok-matches.ensures in
    let of = found _ _ c.in_ok-matches.matches c.in_ok-asc_command.ensures parse.kinds parse.matches in
    let met = met_run _ _ c.subcommand.result c.unwrap.result c.unwrap.ensures c.subcommand.ensures.name c.subcommand.ensures.rows of c.in-run.is in
    let passed = passed_up _ _ _ c.from_residual-in_err-run_line-in-run.ensures.1 usage in
    met.line ∙ c.run_line.ensures.usage bad (c.in_err-run_line-in-run.was ∙ ap (λ (fault : LineFault). Err fault) passed)

pub shared_line-requires : goal.shared_line-requires
shared_line-requires c =
    let parse = c.in_ok-matches.ensures in
    let of = found _ _ c.in_ok-matches.matches c.in_ok-asc_command.ensures parse.kinds parse.matches in
    let met = met_save _ _ c.subcommand.result c.unwrap.result c.unwrap.ensures c.subcommand.ensures.name c.subcommand.ensures.rows of c.in-save.is in
    met.values

pub returns-in-save-clause-line : goal.returns-in-save-clause-line
returns-in-save-clause-line c =
    let parse = c.in_ok-matches.ensures in
    let of = found _ _ c.in_ok-matches.matches c.in_ok-asc_command.ensures parse.kinds parse.matches in
    let met = met_save _ _ c.subcommand.result c.unwrap.result c.unwrap.ensures c.subcommand.ensures.name c.subcommand.ensures.rows of c.in-save.is in
    met.line ∙ ap saved c.in_ok-shared_line-in-save.ensures.line

pub returns-in-save-clause-within : goal.returns-in-save-clause-within
returns-in-save-clause-within c =
    let parse = c.in_ok-matches.ensures in
    let of = found _ _ c.in_ok-matches.matches c.in_ok-asc_command.ensures parse.kinds parse.matches in
    let met = met_save _ _ c.subcommand.result c.unwrap.result c.unwrap.ensures c.subcommand.ensures.name c.subcommand.ensures.rows of c.in-save.is in
    save_within _ met.values _ (ap saved c.in_ok-shared_line-in-save.ensures.line)

pub returns-in_err-shared_line-in-save-clause-usage : goal.returns-in_err-shared_line-in-save-clause-usage
returns-in_err-shared_line-in-save-clause-usage c = λ bad usage.
    let parse = c.in_ok-matches.ensures in
    let of = found _ _ c.in_ok-matches.matches c.in_ok-asc_command.ensures parse.kinds parse.matches in
    let met = met_save _ _ c.subcommand.result c.unwrap.result c.unwrap.ensures c.subcommand.ensures.name c.subcommand.ensures.rows of c.in-save.is in
    let passed = passed_up _ _ _ c.from_residual-in_err-shared_line-in-save.ensures.1 usage in
    met.line ∙ ap saved (c.shared_line.ensures.usage bad (c.in_err-shared_line-in-save.was ∙ ap (λ (fault : LineFault). Err fault) passed))

pub number-requires : goal.number-requires
number-requires c =
    let parse = c.in_ok-matches.ensures in
    let of = found _ _ c.in_ok-matches.matches c.in_ok-asc_command.ensures parse.kinds parse.matches in
    let met = met_make _ _ c.subcommand.result c.unwrap.result c.unwrap.ensures c.subcommand.ensures.name c.subcommand.ensures.rows of c.in-make.is in
    (0, 2 ^ 64 - 1, met.values.number)

pub returns-in-make-clause-line : goal.returns-in-make-clause-line
returns-in-make-clause-line c =
    let parse = c.in_ok-matches.ensures in
    let of = found _ _ c.in_ok-matches.matches c.in_ok-asc_command.ensures parse.kinds parse.matches in
    let met = met_make _ _ c.subcommand.result c.unwrap.result c.unwrap.ensures c.subcommand.ensures.name c.subcommand.ensures.rows of c.in-make.is in
    met.line ∙ (λ i. Ok (Make (sym c.number.ensures i)))

pub number-n-requires : goal.number-n-requires
number-n-requires c =
    let parse = c.in_ok-matches.ensures in
    let of = found _ _ c.in_ok-matches.matches c.in_ok-asc_command.ensures parse.kinds parse.matches in
    let met = met_trial _ _ c.subcommand.result c.unwrap.result c.unwrap.ensures c.subcommand.ensures.name c.subcommand.ensures.rows of c.in-trial.is in
    (0, 2 ^ 64 - 1, met.values.number)

pub workers_of-workers-requires-clause-workers : goal.workers_of-workers-requires-clause-workers
workers_of-workers-requires-clause-workers c =
    let parse = c.in_ok-matches.ensures in
    let of = found _ _ c.in_ok-matches.matches c.in_ok-asc_command.ensures parse.kinds parse.matches in
    let met = met_trial _ _ c.subcommand.result c.unwrap.result c.unwrap.ensures c.subcommand.ensures.name c.subcommand.ensures.rows of c.in-trial.is in
    met.values.workers

pub workers_of-workers-requires-clause-rounds : goal.workers_of-workers-requires-clause-rounds
workers_of-workers-requires-clause-rounds c =
    let parse = c.in_ok-matches.ensures in
    let of = found _ _ c.in_ok-matches.matches c.in_ok-asc_command.ensures parse.kinds parse.matches in
    let met = met_trial _ _ c.subcommand.result c.unwrap.result c.unwrap.ensures c.subcommand.ensures.name c.subcommand.ensures.rows of c.in-trial.is in
    met.values.rounds

pub returns-in-trial-clause-line : goal.returns-in-trial-clause-line
returns-in-trial-clause-line c =
    let parse = c.in_ok-matches.ensures in
    let of = found _ _ c.in_ok-matches.matches c.in_ok-asc_command.ensures parse.kinds parse.matches in
    let met = met_trial _ _ c.subcommand.result c.unwrap.result c.unwrap.ensures c.subcommand.ensures.name c.subcommand.ensures.rows of c.in-trial.is in
    met.line ∙ (λ i. Ok (Trial (sym c.number-n.ensures i) (sym c.workers_of-workers.ensures i).0 (sym c.workers_of-workers.ensures i).1))

pub returns-in-trial-clause-within : goal.returns-in-trial-clause-within
returns-in-trial-clause-within c =
    let parse = c.in_ok-matches.ensures in
    let of = found _ _ c.in_ok-matches.matches c.in_ok-asc_command.ensures parse.kinds parse.matches in
    let met = met_trial _ _ c.subcommand.result c.unwrap.result c.unwrap.ensures c.subcommand.ensures.name c.subcommand.ensures.rows of c.in-trial.is in
    subst (λ (line : Line). IsWithin line) (λ i. Trial (sym c.number-n.ensures i) (sym c.workers_of-workers.ensures i).0 (sym c.workers_of-workers.ensures i).1) (trial_within _ met.values)

pub batch_line-requires : goal.batch_line-requires
batch_line-requires c =
    let parse = c.in_ok-matches.ensures in
    let of = found _ _ c.in_ok-matches.matches c.in_ok-asc_command.ensures parse.kinds parse.matches in
    let met = met_batch _ _ c.subcommand.result c.unwrap.result c.unwrap.ensures c.subcommand.ensures.name c.subcommand.ensures.rows of c.in-batch.is in
    met.values

pub returns-in-batch-clause-line : goal.returns-in-batch-clause-line
returns-in-batch-clause-line c =
    let parse = c.in_ok-matches.ensures in
    let of = found _ _ c.in_ok-matches.matches c.in_ok-asc_command.ensures parse.kinds parse.matches in
    let met = met_batch _ _ c.subcommand.result c.unwrap.result c.unwrap.ensures c.subcommand.ensures.name c.subcommand.ensures.rows of c.in-batch.is in
    met.line ∙ c.in_ok-batch_line-in-batch.ensures.line

pub returns-in-batch-clause-within : goal.returns-in-batch-clause-within
returns-in-batch-clause-within c =
    let parse = c.in_ok-matches.ensures in
    let of = found _ _ c.in_ok-matches.matches c.in_ok-asc_command.ensures parse.kinds parse.matches in
    let met = met_batch _ _ c.subcommand.result c.unwrap.result c.unwrap.ensures c.subcommand.ensures.name c.subcommand.ensures.rows of c.in-batch.is in
    batch_within _ met.values _ c.in_ok-batch_line-in-batch.ensures.line

pub returns-in_err-batch_line-in-batch-clause-usage : goal.returns-in_err-batch_line-in-batch-clause-usage
returns-in_err-batch_line-in-batch-clause-usage c = λ bad usage.
    let parse = c.in_ok-matches.ensures in
    let of = found _ _ c.in_ok-matches.matches c.in_ok-asc_command.ensures parse.kinds parse.matches in
    let met = met_batch _ _ c.subcommand.result c.unwrap.result c.unwrap.ensures c.subcommand.ensures.name c.subcommand.ensures.rows of c.in-batch.is in
    let passed = passed_up _ _ _ c.from_residual-in_err-batch_line-in-batch.ensures.1 usage in
    met.line ∙ c.batch_line.ensures.usage bad (c.in_err-batch_line-in-batch.was ∙ ap (λ (fault : LineFault). Err fault) passed)

pub unreachable-requires : goal.unreachable-requires
unreachable-requires c =
    let parse = c.in_ok-matches.ensures in
    let of = found _ _ c.in_ok-matches.matches c.in_ok-asc_command.ensures parse.kinds parse.matches in
    let one = met_one _ _ c.subcommand.result c.unwrap.result c.unwrap.ensures c.subcommand.ensures.name c.subcommand.ensures.rows of in
    elim one [
      | inl run ↦ c.in_default.not-run run
      | inr (inl save) ↦ c.in_default.not-save save
      | inr (inr (inl make)) ↦ c.in_default.not-make make
      | inr (inr (inr (inl trial))) ↦ c.in_default.not-trial trial
      | inr (inr (inr (inr batch))) ↦ c.in_default.not-batch batch
    ]
