-- What a run of a batch comes to.
use Rattle.std.proofs.Common.{◌≡◌, ◌∙◌, Result, Ok, Err, OnOk, IfOk, IfErr, refl, inl, inr}
use Rattle.asc_run.specs.Walk.{new_walk}
use Rattle.asc_calls.specs.World.{Outside}
use Rattle.asc_top.specs.Numbers.{settings_of}
use Rattle.asc_top.specs.Ran.{Walked}
use Rattle.asc_top.specs.Reported.{report_with}
use Rattle.asc_top.proofs.Lent.{over_input}
use Rattle.asc_top.proofs.BatchRuns.{answer_stops, made_run, made_serial}
use Rattle.asc_top.proofs.batch.run_input.Goals as goal

-- where a call went well
ok_by : {T E A P : Type 0} (r : Result T E) → OnOk r A → (A → P) → IfOk r (λ _. P)
ok_by (Ok x) is f = f is
ok_by (Err e) is f = tt

-- and where it did not
err_by : {T E : Type 0} {P Q : E → Type 0} (r : Result T E) → IfErr r P → ((e : E) → P e → Q e) → IfErr r Q
err_by (Ok x) is f = tt
err_by (Err e) is f = f e is

pub returns-in_default-clause-serves : goal.returns-in_default-clause-serves
returns-in_default-clause-serves g c = c.run-conclusion.ensures.serves

pub returns-clause-serves : goal.returns-clause-serves
returns-clause-serves g c = c.run-conclusion.ensures.serves

pub returns-in_default-clause-broken : goal.returns-in_default-clause-broken
returns-in_default-clause-broken g c =
    let line = c.args.line.now in
    let image = c.args.image.now in
    let ran = c.run-conclusion.ensures.runs in
    let walked = over_input c.args.devices.now c.swap_input.new.self c.run-conclusion.new.devices c.args.input.now c.args.steps.now c.run-conclusion.new.steps
    (λ (old new : Outside). Walked line.report c.again.new.self c.run-conclusion.new.walk old new ran.first ran.last c.run-conclusion.result.workers c.run-conclusion.result)
    c.swap_input.ensures.taken c.input.ensures.faults ran.walked in
    let is : c.again.new.self ≡ new_walk image (settings_of line) = c.again.ensures.walk ∙ (λ i. new_walk image (c.requires.settings i)) in
    let failed = c.in_default.ensures.none in
    inl (refl, answer_stops line image c.args.input.now c.again.new.self c.run-conclusion.new.walk is _ _ refl ran.first ran.last c.run-conclusion.result walked ran.fresh failed.0 failed.1)

pub returns-clause-ended : goal.returns-clause-ended
returns-clause-ended g c =
    let line = c.args.line.now in
    let image = c.args.image.now in
    let ran = c.run-conclusion.ensures.runs in
    let walked = over_input c.args.devices.now c.swap_input.new.self c.run-conclusion.new.devices c.args.input.now c.args.steps.now c.run-conclusion.new.steps
    (λ (old new : Outside). Walked line.report c.again.new.self c.run-conclusion.new.walk old new ran.first ran.last c.run-conclusion.result.workers c.run-conclusion.result)
    c.swap_input.ensures.taken c.input.ensures.faults ran.walked in
    let is : c.again.new.self ≡ new_walk image (settings_of line) = c.again.ensures.walk ∙ (λ i. new_walk image (c.requires.settings i)) in
    let run = c.in-Some.run' in
    let told = c.in-Some.ensures.told in
    ok_by c.report_run.result c.report_run.ensures.put (λ put. record {
      run = run;
      makes = made_run line image c.args.input.now c.again.new.self c.run-conclusion.new.walk is _ _ refl ran.first ran.last c.run-conclusion.result walked ran.fresh
          _ c.args.runner.now c.run-conclusion.new.self _ c.requires.serves.1 ran.help ran.workers c.args.number c.count.result run told.0 told.1 c.count.ensures;
      serial = made_serial line image c.args.input.now c.again.new.self c.run-conclusion.new.walk is _ _ refl ran.first ran.last c.run-conclusion.result walked ran.fresh
          _ c.args.runner.now c.run-conclusion.new.self _ c.requires.serves.1 ran.help ran.workers c.args.number c.count.result run told.0 told.1 c.count.ensures;
      lines = λ i. report_with (put.0 i) (put.1 i);
    })

pub returns-clause-broken : goal.returns-clause-broken
returns-clause-broken g c =
    let line = c.args.line.now in
    let image = c.args.image.now in
    let ran = c.run-conclusion.ensures.runs in
    let walked = over_input c.args.devices.now c.swap_input.new.self c.run-conclusion.new.devices c.args.input.now c.args.steps.now c.run-conclusion.new.steps
    (λ (old new : Outside). Walked line.report c.again.new.self c.run-conclusion.new.walk old new ran.first ran.last c.run-conclusion.result.workers c.run-conclusion.result)
    c.swap_input.ensures.taken c.input.ensures.faults ran.walked in
    let is : c.again.new.self ≡ new_walk image (settings_of line) = c.again.ensures.walk ∙ (λ i. new_walk image (c.requires.settings i)) in
    let run = c.in-Some.run' in
    let told = c.in-Some.ensures.told in
    err_by c.report_run.result c.report_run.ensures.failed (λ answered failed. inr (record {
      run = run;
      makes = made_run line image c.args.input.now c.again.new.self c.run-conclusion.new.walk is _ _ refl ran.first ran.last c.run-conclusion.result walked ran.fresh
          _ c.args.runner.now c.run-conclusion.new.self _ c.requires.serves.1 ran.help ran.workers c.args.number c.count.result run told.0 told.1 c.count.ensures;
      serial = made_serial line image c.args.input.now c.again.new.self c.run-conclusion.new.walk is _ _ refl ran.first ran.last c.run-conclusion.result walked ran.fresh
          _ c.args.runner.now c.run-conclusion.new.self _ c.requires.serves.1 ran.help ran.workers c.args.number c.count.result run told.0 told.1 c.count.ensures;
      given = failed.1;
      faults = failed.2;
      answer = failed.0;
    }))
