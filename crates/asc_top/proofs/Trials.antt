-- What holds of the answer to a trial.
use Rattle.std.proofs.Common.{◌≡◌, ◌∙◌, ◌≢◌, ℕ, ◌+◌, ◌-◌, ◌*◌, ◌^◌, ◌<◌, ◌≤◌, min, Option, Some, None, IsSome, true, false, List, [], length, Result, Ok, Err, refl, sym, ap, subst, arith, inl, inr}
use Rattle.asc_outside.specs.Outside.{File, Given, PutsPart, given_after, one_more}
use Rattle.asc_outside.specs.Lists.{given_number}
use Rattle.asc_outside.proofs.Streams.{Takes-nil, given_after-nil}
use Rattle.asc_elf.specs.declared.fault.ElfFault.{ElfFault}
use Rattle.asc_elf.specs.Image as loader
use Rattle.asc_calls.specs.GuestCall.{Device, Input, Out, Err as Errors, io_of, nothing}
use Rattle.asc_calls.specs.World.{BlamesOnly, DeviceFaults, Outside, faults, outside}
use Rattle.asc_make.specs.File.{image_of}
use Rattle.asc_run.specs.declared.walk.Ended.{Ended}
use Rattle.asc_run.specs.declared.walk.Ended.TheVariants as ends
use Rattle.asc_words.specs.declared.line.RunLine.{RunLine}
use Rattle.asc_words.specs.declared.line.Line.TheVariants as lines
use Rattle.asc_words.specs.declared.answer.Answer.{Answer}
use Rattle.asc_words.specs.declared.answer.Answer.TheVariants as answers
use Rattle.asc_words.specs.declared.answer.Counts.{Counts}
use Rattle.asc_words.specs.declared.answer.Conclusion.{Conclusion}
use Rattle.asc_words.specs.declared.answer.SavedFault.{SavedFault}
use Rattle.asc_words.specs.declared.answer.TrialRun.{TrialRun}
use Rattle.asc_words.specs.Answer.{conclusion_of}
use Rattle.asc_words.specs.Report.{trial_text}
use Rattle.asc_words.specs.Line.{file_limit}
use Rattle.asc_top.specs.Program.{Gives, GivesPart, IsNoSaved, ProgramResult, answer_at, image_alone, load_of, meaning, result_of_load, run_of_image, trial_run}
use Rattle.asc_top.specs.Numbers.{AreNumbers, AreTold, AreTrialNumbers, Means, Tries, exit_at, exit_of, result_of_trial, told_by_trial, trial_meaning, trial_of, trial_result}
use Rattle.asc_top.specs.Ran.{Ran}
use Rattle.asc_top.specs.Endings.{Finished, ending_of, device_of_answer, Completes, IsRefusal}
use Rattle.asc_top.specs.Answered.{IsAnswerFor, around}
use Rattle.asc_top.specs.Reported.{EndsTrial, IsPut, told_of_trial}
use Rattle.asc_top.proofs.Causes.{meaning-within, runs-limit, runs-fault, image-is, saved-is, done-never, usage-never, too_long-never, store_fault-never, report_fault-never}
use Rattle.asc_top.proofs.Outputs.{out-exec}
use Rattle.asc_top.proofs.Runs.{completed}

-- an image has 180 bytes
length-image_of : (n : ℕ) → length (image_of n) ≡ 180
length-image_of n = refl

pub image-within : (n : ℕ) → length (image_of n) ≤ file_limit
image-within n = omega (arith, length-image_of n)

-- devices that never fail did not fail
pub no_device : (failed : Option Device) → BlamesOnly failed (faults 0 0 0) (faults 0 0 0) → failed ≡ None
no_device None stays = refl
no_device (Some Input) stays = absurd (let no : ⊥ = omega (arith, ap (λ (f : DeviceFaults). f.input) stays) in no)
no_device (Some Out) stays = absurd (let no : ⊥ = omega (arith, ap (λ (f : DeviceFaults). f.out) stays) in no)
no_device (Some Errors) stays = absurd (let no : ⊥ = omega (arith, ap (λ (f : DeviceFaults). f.err) stays) in no)

-- the numbers of no run
no_numbers : ℕ → Counts
no_numbers executed = record { run = record { executed = executed; skipped = 0; asked = 0; hits = 0 }; made = 0; refused = 0 }

-- a trial whose guest does not end by itself puts no text
other_result : (n workers : ℕ) (counts : Counts) (run : ProgramResult) (answered : Answer) → ((status : ℕ) → answered ≡ answers.Exit status → ⊥)
    → result_of_trial n workers counts run answered ≡ record { answer = answered; io = nothing; count = run.count }
other_result n workers counts run (answers.Exit status) other = absurd (other status refl)
other_result n workers counts run (answers.Done refused) other = refl
other_result n workers counts run (answers.Limit count) other = refl
other_result n workers counts run (answers.Fault fault count) other = refl
other_result n workers counts run (answers.Usage bad) other = refl
other_result n workers counts run (answers.Image fault) other = refl
other_result n workers counts run answers.TooLong other = refl
other_result n workers counts run (answers.InputTooLong input) other = refl
other_result n workers counts run (answers.Saved fault) other = refl
other_result n workers counts run answers.StoreFault other = refl
other_result n workers counts run answers.Memory other = refl
other_result n workers counts run answers.ReadFault other = refl
other_result n workers counts run answers.WriteFault other = refl
other_result n workers counts run answers.ErrFault other = refl
other_result n workers counts run answers.ReportFault other = refl

-- a guest that ended whose numbers are told is found
no_exit : (answered : Answer) (counts : Option Counts) → exit_at answered counts ≡ None → (ending_of answered ≡ Finished → IsSome counts) → (status : ℕ) → answered ≡ answers.Exit status → ⊥
no_exit answered (Some c) none told status is = let no : Some (status, c) ≡ None = sym (ap (λ a. exit_at a (Some c)) is) ∙ none in cc
no_exit answered None none told status is = let no : false ≡ true = told (ap ending_of is) in absurd (cc)

-- what was answered where a guest ended whose numbers are told
record Exits (answered : Answer) (counts : Option Counts) (status : ℕ) (own : Counts) : Type 0 where
  answer : answered ≡ answers.Exit status
  counts_are : counts ≡ Some own

one_pair : (a b : ℕ × Counts) → Some a ≡ Some b → a ≡ b
one_pair a b is = cc

exits : (answered : Answer) (counts : Option Counts) (status : ℕ) (own : Counts) → exit_at answered counts ≡ Some (status, own) → Exits answered counts status own
exits (answers.Exit code) (Some c) status own is =
    let same = one_pair (code, c) (status, own) is in
    record { answer = ap (λ (p : ℕ × Counts). answers.Exit p.0) same; counts_are = ap (λ (p : ℕ × Counts). Some p.1) same }
exits (answers.Exit code) None status own is = absurd (cc)
exits (answers.Done refused) counts status own is = absurd (cc)
exits (answers.Limit count) counts status own is = absurd (cc)
exits (answers.Fault fault count) counts status own is = absurd (cc)
exits (answers.Usage bad) counts status own is = absurd (cc)
exits (answers.Image fault) counts status own is = absurd (cc)
exits answers.TooLong counts status own is = absurd (cc)
exits (answers.InputTooLong input) counts status own is = absurd (cc)
exits (answers.Saved fault) counts status own is = absurd (cc)
exits answers.StoreFault counts status own is = absurd (cc)
exits answers.Memory counts status own is = absurd (cc)
exits answers.ReadFault counts status own is = absurd (cc)
exits answers.WriteFault counts status own is = absurd (cc)
exits answers.ErrFault counts status own is = absurd (cc)
exits answers.ReportFault counts status own is = absurd (cc)

-- a run at whose end no device failed finished
finished_at : (how : Ended) (count : ℕ) → device_of_answer (answer_at how count) ≡ None → ending_of (answer_at how count) ≡ Finished
finished_at (ends.Exit c) count none = refl
finished_at (ends.Fault f) count none = refl
finished_at ends.Limit count none = refl
finished_at ends.ReadFault count none = absurd (cc)
finished_at ends.WriteFault count none = absurd (cc)
finished_at ends.ErrFault count none = absurd (cc)

one_number : (a b : ℕ) → Some a ≡ Some b → a ≡ b
one_number a b is = cc

-- what the run of a trial means, by what its image loads as
means_load : (n workers : ℕ) (load : Result loader.Image ElfFault) → load_of (trial_run workers) (image_of n) ≡ load → trial_meaning n workers ≡ result_of_load (trial_run workers) None load []
means_load n workers load is = meaning-within (trial_run workers) (image_alone (image_of n)) [] (image-within n) ∙ ap (λ (l : Result loader.Image ElfFault). result_of_load (trial_run workers) None l []) is

-- it has no saved entries
unsaved : {line : RunLine} {content : List ℕ} (fault : SavedFault) → IsNoSaved fault line (image_alone content) → ⊥
unsaved fault unloaded = let refused = unloaded.refused in cc

-- the run of a trial over its own devices, which never fail
module _ (n workers lanes : ℕ) (remains : Option (List ℕ)) (put complained before after : ℕ) (conclusion : Conclusion)
    (r : Ran (outside (Some []) (given_number 0) (given_number 0) before (faults 0 0 0)) (outside remains (given_number put) (given_number complained) after (faults 0 0 0)) (trial_run workers) (image_alone (image_of n)) conclusion) where
  abbrev old : Outside
  old = outside (Some []) (given_number 0) (given_number 0) before (faults 0 0 0)

  abbrev new : Outside
  new = outside remains (given_number put) (given_number complained) after (faults 0 0 0)

  abbrev run : ProgramResult
  run = trial_meaning n workers

  undisturbed : device_of_answer conclusion.answer ≡ None
  undisturbed = no_device (device_of_answer conclusion.answer) r.faults

  run_means : conclusion.answer ≢ answers.Memory → Means old new conclusion (trial_run workers) (image_alone (image_of n))
  run_means given = r.means given undisturbed

  -- the run was made, and gave what it means
  run_gives : (m : Means old new conclusion (trial_run workers) (image_alone (image_of n))) → Gives old new m.executed conclusion.answer run
  run_gives m = subst (λ (left : List ℕ). Gives old new m.executed conclusion.answer (meaning (trial_run workers) (image_alone (image_of n)) left)) (sym m.agrees) m.gives

  -- its numbers, where they are told
  told_numbers : (m : Means old new conclusion (trial_run workers) (image_alone (image_of n))) (own : Counts) → conclusion.counts ≡ Some own → (own.run.executed ≡ m.executed) × AreTrialNumbers n workers own
  told_numbers m own are =
      let told = subst (λ (c : Option Counts). AreTold (trial_run workers) None (load_of (trial_run workers) (image_of n)) m.left m.executed (meaning (trial_run workers) (image_alone (image_of n)) m.left).count c) are m.told in
      (told.0, subst (λ (left : List ℕ). AreNumbers (trial_run workers) None (load_of (trial_run workers) (image_of n)) left own) (sym m.agrees) told.1)

  -- its numbers, or those of no run where its image were none
  record Told (executed : ℕ) : Type 0 where
    counts : Counts
    numbers : AreTrialNumbers n workers counts
    executed_is : counts.run.executed ≡ executed

  tells : (m : Means old new conclusion (trial_run workers) (image_alone (image_of n))) → Told m.executed
  unfolding no_numbers
  tells m = go (load_of (trial_run workers) (image_of n)) refl conclusion.counts refl
    where
      go : (load : Result loader.Image ElfFault) → load_of (trial_run workers) (image_of n) ≡ load → (counts : Option Counts) → conclusion.counts ≡ counts → Told m.executed
      go load is (Some own) are = let told = told_numbers m own are in record { counts = own; numbers = told.1; executed_is = told.0 }
      go (Ok image) is None are =
          let plain = run_of_image (trial_run workers) image [] in
          let answer : conclusion.answer ≡ answer_at plain.ended plain.count = (run_gives m).answer ∙ ap (λ (x : ProgramResult). x.answer) (means_load n workers (Ok image) is) in
          let finished : ending_of conclusion.answer ≡ Finished = ap ending_of answer ∙ finished_at plain.ended plain.count (sym (ap (λ (a : Answer). device_of_answer a) answer) ∙ undisturbed) in
          let some : IsSome conclusion.counts = r.counts.1 (refl, finished) in
          let no : false ≡ true = subst (λ (c : Option Counts). IsSome c) are some in
          absurd (cc)
      go (Err fault) is None are = record {
        counts = no_numbers m.executed;
        numbers = subst (λ (l : Result loader.Image ElfFault). AreNumbers (trial_run workers) None l [] (no_numbers m.executed)) (sym is) tt;
        executed_is = refl;
      }

  -- where its guest did not end by itself, that is the trial's answer
  tries_other : (left : Option (List ℕ)) (out err : Given) (fs : DeviceFaults) → conclusion.answer ≢ answers.Memory → ((status : ℕ) → conclusion.answer ≡ answers.Exit status → ⊥)
      → Tries n workers (outside left out err before fs) (outside left out err after fs) conclusion.answer
  tries_other left out err fs given other =
      let m = run_means given in
      let gives = run_gives m in
      let t = tells m in
      let is : trial_result n workers t.counts ≡ record { answer = conclusion.answer; io = nothing; count = run.count } =
      ap (λ (a : Answer). result_of_trial n workers t.counts run a) (sym gives.answer) ∙ other_result n workers t.counts run conclusion.answer other in
      record {
        counts = t.counts;
        numbers = t.numbers;
        gives = subst (λ (x : ProgramResult). Gives (outside left out err before fs) (outside left out err after fs) t.counts.run.executed conclusion.answer x) (sym is) (record {
          answer = refl;
          does = record { taken = Takes-nil left; out = sym (given_after-nil out); err = sym (given_after-nil err) };
          most = omega (arith, gives.most, t.executed_is);
          steps = omega (arith, gives.steps, t.executed_is);
        });
      }

  answer_of_other : (files : Option (List File)) (asked : Option (List (List ℕ))) (store_faults : ℕ) (left : Option (List ℕ)) (out err : Given) (fs : DeviceFaults) → exit_of conclusion ≡ None
      → IsAnswerFor (Ok (lines.Trial n workers lanes)) (around files asked store_faults (outside left out err before fs)) (around files asked store_faults (outside left out err after fs)) (conclusion_of conclusion.answer)
  answer_of_other files asked store_faults left out err fs none =
      let other = no_exit conclusion.answer conclusion.counts none (λ finished. r.counts.1 (refl, finished)) in
      let within = image-within n in
      let line = trial_run workers in
      let content = image_alone (image_of n) in
      let means_at : (answer : Answer) → conclusion.answer ≡ answer → answer ≢ answers.Memory → Means old new conclusion line content = λ answer is given. run_means (λ memory. given (sym is ∙ memory)) in
      let tries : Completes conclusion.answer → Tries n workers (outside left out err before fs) (outside left out err after fs) conclusion.answer =
      λ completes. tries_other left out err fs (completed conclusion.answer completes).0 other in
      record {
        headline = tries;
        untold = tries;
        stopped = λ device failed. absurd (cc (failed, undisturbed));
        exit = λ code is. other code is;
        silent = λ line is. absurd (cc);
        done = λ refused is. absurd (done-never line content within _ _ conclusion (means_at _ is (λ memory. cc)) refused is);
        limit = λ count is. runs-limit line content within _ _ conclusion (means_at _ is (λ memory. cc)) count is;
        fault = λ fault count is. runs-fault line content within _ _ conclusion (means_at _ is (λ memory. cc)) fault count is;
        image = λ fault is. image-is line content within _ _ conclusion (means_at _ is (λ memory. cc)) fault is;
        too_long = λ is. too_long-never line content within _ _ conclusion (means_at _ is (λ memory. cc)) is;
        saved = λ fault is. absurd (unsaved fault (saved-is line content within _ _ conclusion (means_at _ is (λ memory. cc)) fault is));
        usage = λ bad is. absurd (usage-never line content within _ _ conclusion (means_at _ is (λ memory. cc)) bad is);
        no_command = λ bad wrong. absurd (cc);
        store_fault = record { rose = λ is. absurd (store_fault-never line content within _ _ conclusion (means_at _ is (λ memory. cc)) is); stays = λ _. refl };
        faults = subst (λ (d : Option Device). BlamesOnly d fs fs) (sym undisturbed) refl;
        no_report_fault = λ is. report_fault-never line content within _ _ conclusion (means_at _ is (λ memory. cc)) is;
        counts = ((λ told. let no : false ≡ true = told in absurd (cc)), (λ h. absurd h.0));
        workers = refl;
        refused = λ refused. let same = r.refused refused in λ i. outside left out err (same i).steps fs;
        files = refl;
        names = refl;
      }

  -- where its guest ended, the text that is put is the trial's
  record Ends (status : ℕ) (own : Counts) : Type 0 where
    numbers : AreTrialNumbers n workers own
    result : trial_result n workers own ≡ record { answer = answers.Done own.refused; io = io_of Out (trial_text (trial_of n workers status run own)); count = run.count }
    most : own.run.executed ≤ run.count
    steps : after ≡ before + own.run.executed
    told : trial_of n workers status run own ≡ record { n = n; status = status; steps = own.run.executed + own.run.skipped; output = put; counts = told_by_trial workers own }

  ends_so : (status : ℕ) (own : Counts) → exit_of conclusion ≡ Some (status, own) → Ends status own
  ends_so status own is =
      let e = exits conclusion.answer conclusion.counts status own is in
      let m = run_means (λ memory. cc (e.answer, memory)) in
      let gives = run_gives m in
      let numbers = told_numbers m own e.counts_are in
      let exit : run.answer ≡ answers.Exit status = sym gives.answer ∙ e.answer in
      let number : put ≡ 0 + min (length run.io.out) (2 ^ 64 - 1 - 0) = one_number _ _ (ap (λ (given : Given). given.number) gives.does.out) in
      let sizes = sized (load_of (trial_run workers) (image_of n)) refl own numbers.1 status exit in
      let steps : run.count ≡ own.run.executed + own.run.skipped = sizes.0 in
      let output : length run.io.out ≡ put = omega (arith, number, sizes.1) in
      record {
        numbers = numbers.1;
        result = ap (λ (a : Answer). result_of_trial n workers own run a) exit;
        most = omega (arith, gives.most, numbers.0);
        steps = omega (arith, gives.steps, numbers.0);
        told = λ i. record { n = n; status = status; steps = steps i; output = output i; counts = told_by_trial workers own };
      }
    where
      sized : (load : Result loader.Image ElfFault) → load_of (trial_run workers) (image_of n) ≡ load → (own : Counts) → AreTrialNumbers n workers own → (status : ℕ) → run.answer ≡ answers.Exit status
          → (run.count ≡ own.run.executed + own.run.skipped) × (length run.io.out < 2 ^ 64)
      sized (Ok image) is own numbers status exit =
          let same = means_load n workers (Ok image) is in
          let own_numbers = subst (λ (l : Result loader.Image ElfFault). AreNumbers (trial_run workers) None l [] own) is numbers in
          let shape = r.shape image is in
          let few : length (run_of_image (trial_run workers) image []).io.out ≤ 1000000 * (image.start.shape.base + image.start.shape.size) =
          out-exec 1000000 image.low (loader.high_of image) image.start [] in
          let out : length run.io.out ≡ length (run_of_image (trial_run workers) image []).io.out = ap (λ (x : ProgramResult). length x.io.out) same in
          (ap (λ (x : ProgramResult). x.count) same ∙ sym own_numbers.of.total, omega (arith, few, out, shape.base.within))
      sized (Err fault) is own numbers status exit =
          let image : run.answer ≡ answers.Image fault = ap (λ (x : ProgramResult). x.answer) (means_load n workers (Err fault) is) in
          absurd (cc)

  module _ (files : Option (List File)) (asked : Option (List (List ℕ))) (store_faults : ℕ) (left : Option (List ℕ)) (out later err : Given) (input_faults out_faults later_faults err_faults status : ℕ) (own : Counts)
      (is : exit_of conclusion ≡ Some (status, own)) where
    abbrev first : Outside
    first = outside left out err before (faults input_faults out_faults err_faults)

    abbrev last : Outside
    last = outside left later err after (faults input_faults later_faults err_faults)

    abbrev text : List ℕ
    text = trial_text (record { n = n; status = status; steps = own.run.executed + own.run.skipped; output = put; counts = told_by_trial workers own })

    done_so : later ≡ given_after out text → later_faults ≡ out_faults
        → IsAnswerFor (Ok (lines.Trial n workers lanes)) (around files asked store_faults first) (around files asked store_faults last) (conclusion_of (answers.Done own.refused))
    done_so given stays =
        let e = ends_so status own is in
        let tries : Tries n workers first last (answers.Done own.refused) = record {
          counts = own;
          numbers = e.numbers;
          gives = subst (λ (x : ProgramResult). Gives first last own.run.executed (answers.Done own.refused) x) (sym e.result) (record {
            answer = refl;
            does = record { taken = Takes-nil left; out = given ∙ ap (λ (t : TrialRun). given_after out (trial_text t)) (sym e.told); err = sym (given_after-nil err) };
            most = e.most;
            steps = e.steps;
          });
        } in
        record {
          headline = λ _. tries;
          untold = λ _. tries;
          stopped = λ device failed. absurd (cc);
          exit = λ code is. cc;
          silent = λ line is. absurd (cc);
          done = λ refused is. (record { n = n; status = status; steps = own.run.executed + own.run.skipped; output = put; counts = told_by_trial workers own }, refl, given);
          limit = λ count is. absurd (cc);
          fault = λ fault count is. absurd (cc);
          image = λ fault is. absurd (cc);
          too_long = λ is. cc;
          saved = λ fault is. absurd (cc);
          usage = λ bad is. absurd (cc);
          no_command = λ bad wrong. absurd (cc);
          store_fault = record { rose = λ is. absurd (cc); stays = λ _. refl };
          faults = λ i. faults input_faults (stays i) err_faults;
          no_report_fault = λ is. cc;
          counts = ((λ told. let no : false ≡ true = told in absurd (cc)), (λ h. absurd h.0));
          workers = refl;
          refused = λ refused. absurd (not_refusal refused);
          files = refl;
          names = refl;
        }
      where
        not_refusal : IsRefusal (answers.Done own.refused) → ⊥
        not_refusal (inl is) = cc
        not_refusal (inr (inl is)) = cc
        not_refusal (inr (inr is)) = cc

    fault_so : PutsPart out later text → later_faults ≡ one_more out_faults
        → IsAnswerFor (Ok (lines.Trial n workers lanes)) (around files asked store_faults first) (around files asked store_faults last) (conclusion_of answers.WriteFault)
    fault_so part rose =
        let e = ends_so status own is in
        let incomplete : Completes answers.WriteFault → ⊥ = λ completes. let none = (completed answers.WriteFault completes).1 in cc in
        record {
          headline = λ completes. absurd (incomplete completes);
          untold = λ completes. absurd (incomplete completes);
          stopped = λ device failed. (
            one_device device failed,
            record {
              counts = own;
              numbers = e.numbers;
              gives = subst (λ (x : ProgramResult). GivesPart first last own.run.executed x) (sym e.result) (record {
                left = refl;
                out = subst (λ (t : TrialRun). PutsPart out later (trial_text t)) (sym e.told) part;
                err = refl;
                most = e.most;
                steps = e.steps;
              });
            },
          );
          exit = λ code is. cc;
          silent = λ line is. absurd (cc);
          done = λ refused is. absurd (cc);
          limit = λ count is. absurd (cc);
          fault = λ fault count is. absurd (cc);
          image = λ fault is. absurd (cc);
          too_long = λ is. cc;
          saved = λ fault is. absurd (cc);
          usage = λ bad is. absurd (cc);
          no_command = λ bad wrong. absurd (cc);
          store_fault = record { rose = λ is. absurd (cc); stays = λ _. refl };
          faults = λ i. faults input_faults (rose i) err_faults;
          no_report_fault = λ is. cc;
          counts = ((λ told. let no : false ≡ true = told in absurd (cc)), (λ h. absurd h.0));
          workers = refl;
          refused = λ refused. absurd (not_refusal refused);
          files = refl;
          names = refl;
        }
      where
        one_device : (device : Device) → Some Out ≡ Some device → device ≡ Out
        one_device device is = cc

        not_refusal : IsRefusal answers.WriteFault → ⊥
        not_refusal (inl is) = cc
        not_refusal (inr (inl is)) = cc
        not_refusal (inr (inr is)) = cc

    -- the same, and its text was put to out, or out failed
    answer_of_exit : (answered : Answer) → IsPut (told_of_trial n workers put status own) own.refused out later out_faults later_faults answered
        → IsAnswerFor (Ok (lines.Trial n workers lanes)) (around files asked store_faults first) (around files asked store_faults last) (conclusion_of answered)
    answer_of_exit answered (inl done) =
        subst (λ (a : Answer). IsAnswerFor (Ok (lines.Trial n workers lanes)) (around files asked store_faults first) (around files asked store_faults last) (conclusion_of a)) (sym done.0) (done_so done.1 done.2)
    answer_of_exit answered (inr cut) =
        subst (λ (a : Answer). IsAnswerFor (Ok (lines.Trial n workers lanes)) (around files asked store_faults first) (around files asked store_faults last) (conclusion_of a)) (sym cut.0) (fault_so cut.1 cut.2)

-- the run of a trial, over devices and with a line that are those of a trial
own_run : (n workers : ℕ) (line : RunLine) (file input : List ℕ) (output errors : ℕ) (remains : Option (List ℕ)) (put complained before after : ℕ) (conclusion : Conclusion)
    → line ≡ trial_run workers → file ≡ image_of n → input ≡ [] → output ≡ 0 → errors ≡ 0
    → Ran (outside (Some input) (given_number output) (given_number errors) before (faults 0 0 0)) (outside remains (given_number put) (given_number complained) after (faults 0 0 0)) line (image_alone file) conclusion
    → Ran (outside (Some []) (given_number 0) (given_number 0) before (faults 0 0 0)) (outside remains (given_number put) (given_number complained) after (faults 0 0 0)) (trial_run workers) (image_alone (image_of n)) conclusion
own_run n workers line file input output errors remains put complained before after conclusion line_is file_is none unput uncomplained r =
    subst (λ (l : RunLine). Ran (outside (Some []) (given_number 0) (given_number 0) before (faults 0 0 0)) (outside remains (given_number put) (given_number complained) after (faults 0 0 0)) l (image_alone (image_of n)) conclusion) line_is
    (subst (λ (f : List ℕ). Ran (outside (Some []) (given_number 0) (given_number 0) before (faults 0 0 0)) (outside remains (given_number put) (given_number complained) after (faults 0 0 0)) line (image_alone f) conclusion) file_is
    (subst (λ (o : Outside). Ran o (outside remains (given_number put) (given_number complained) after (faults 0 0 0)) line (image_alone file) conclusion)
    (λ i. outside (Some (none i)) (given_number (unput i)) (given_number (uncomplained i)) before (faults 0 0 0)) r))

-- What a trial came to by what its run came to: where its guest ended, its text was put to out, or out failed.
module _ (n workers lanes : ℕ) (line : RunLine) (file input : List ℕ) (output errors : ℕ) (remains : Option (List ℕ)) (put complained before after : ℕ) (ran : Conclusion)
    (line_is : line ≡ trial_run workers) (file_is : file ≡ image_of n) (none : input ≡ []) (unput : output ≡ 0) (uncomplained : errors ≡ 0)
    (r : Ran (outside (Some input) (given_number output) (given_number errors) before (faults 0 0 0)) (outside remains (given_number put) (given_number complained) after (faults 0 0 0)) line (image_alone file) ran)
    (files : Option (List File)) (asked : Option (List (List ℕ))) (store_faults : ℕ) (left : Option (List ℕ)) (out later err : Given) (input_faults out_faults later_faults err_faults : ℕ) (conclusion : Conclusion) where
  abbrev Answers : Conclusion → Type 0
  Answers o = IsAnswerFor (Ok (lines.Trial n workers lanes)) (around files asked store_faults (outside left out err before (faults input_faults out_faults err_faults)))
      (around files asked store_faults (outside left later err after (faults input_faults later_faults err_faults))) o

  own : Ran (outside (Some []) (given_number 0) (given_number 0) before (faults 0 0 0)) (outside remains (given_number put) (given_number complained) after (faults 0 0 0)) (trial_run workers) (image_alone (image_of n)) ran
  own = own_run n workers line file input output errors remains put complained before after ran line_is file_is none unput uncomplained r

  by : (exit : Option (ℕ × Counts)) → exit_of ran ≡ exit → EndsTrial n workers put exit ran.answer out later out_faults later_faults conclusion → Answers conclusion
  by None is e = subst (λ (o : Conclusion). Answers o) (sym e.0)
      (subst (λ (at : Given × ℕ). IsAnswerFor (Ok (lines.Trial n workers lanes)) (around files asked store_faults (outside left out err before (faults input_faults out_faults err_faults)))
      (around files asked store_faults (outside left at.0 err after (faults input_faults at.1 err_faults))) (conclusion_of ran.answer)) (λ i. (sym e.1 i, sym e.2 i))
      (answer_of_other n workers lanes remains put complained before after ran own files asked store_faults left out err (faults input_faults out_faults err_faults) is))
  by (Some (status, counts)) is e = subst (λ (o : Conclusion). Answers o) (sym e.1)
      (answer_of_exit n workers lanes remains put complained before after ran own files asked store_faults left out later err input_faults out_faults later_faults err_faults status counts is e.0 e.2)

  pub answer_of_trial : EndsTrial n workers put (exit_of ran) ran.answer out later out_faults later_faults conclusion → Answers conclusion
  answer_of_trial = by (exit_of ran) refl
