-- What holds of the answer to a save.
use Rattle.std.proofs.Common.{◌≡◌, ◌∙◌, ◌⊎◌, ℕ, ◌<◌, ◌≤◌, Bool, MatchBool, Option, Some, true, false, nat_lt, List, [], length, Result, Ok, Err, refl, sym, ap, subst, arith, inl, inr}
use Rattle.std.proofs.lemmas.Bool.Decides.{nat_tests}
use Rattle.asc_model.specs.EntryFile.{entry_file}
use Rattle.asc_outside.specs.Outside.{AsksFor, Blames, File, Given, MayHold, PutsPart, given_after, one_more}
use Rattle.asc_outside.proofs.Streams.{Takes-nil, given_after-nil}
use Rattle.asc_elf.specs.declared.fault.ElfFault.{ElfFault}
use Rattle.asc_elf.specs.Image as loader
use Rattle.asc_calls.specs.GuestCall.{Device, Out}
use Rattle.asc_calls.specs.World.{Outside, faults, outside}
use Rattle.asc_run.specs.Execution.{exec}
use Rattle.asc_words.specs.declared.line.RunLine.{RunLine}
use Rattle.asc_words.specs.declared.line.Line.TheVariants as lines
use Rattle.asc_words.specs.declared.answer.Answer.{Answer}
use Rattle.asc_words.specs.declared.answer.Answer.TheVariants as answers
use Rattle.asc_words.specs.Answer.{conclusion_of}
use Rattle.asc_words.specs.Line.{file_limit}
use Rattle.asc_top.specs.Program.{load_of, refusal, run_of_image, Gives}
use Rattle.asc_top.specs.Numbers.{Saves, SavesLoaded, entries_of_save}
use Rattle.asc_top.specs.Ran.{IsNoRun, IsRefused}
use Rattle.asc_top.specs.Saves.{EndsSave, RunsToSave}
use Rattle.asc_top.specs.Endings.{Completes, IsRefusal, Unread, ending_of}
use Rattle.asc_top.specs.Answered.{Surroundings, IsAnswerFor, IsHeld, IsUntouched, RisesWithin, around}
use Rattle.asc_top.proofs.Refused.{gives_refusal}
use Rattle.asc_top.proofs.Refusals.{IsUnrun, answer_of_refusal}
use Rattle.asc_top.proofs.Runs.{completed, one_content, uncompleted}

-- ---- what a save of a file did

saves-loaded : (line : RunLine) (content : List ℕ) (load : Result loader.Image ElfFault) (old new : Outside) (answered : Answer) → length content ≤ file_limit → load_of line content ≡ load
    → SavesLoaded line load old new answered → Saves line content old new answered
saves-loaded line content load old new answered within loads saves =
    let short : nat_lt file_limit (length content) ≡ false = grind (arith, nat_tests) in
    subst (λ (b : Bool). MatchBool b (Gives old new 0 answered (refusal answers.TooLong)) (SavesLoaded line (load_of line content) old new answered)) (sym short)
    (subst (λ (l : Result loader.Image ElfFault). SavesLoaded line l old new answered) (sym loads) saves)

saves-long : (line : RunLine) (content : List ℕ) (o : Outside) → file_limit < length content → Saves line content o o answers.TooLong
saves-long line content o long =
    let is : nat_lt file_limit (length content) ≡ true = grind (arith, nat_tests) in
    subst (λ (b : Bool). MatchBool b (Gives o o 0 answers.TooLong (refusal answers.TooLong)) (SavesLoaded line (load_of line content) o o answers.TooLong)) (sym is)
    (gives_refusal answers.TooLong o)

-- no more steps were executed than the run has
most_executed : (line : RunLine) (image : loader.Image) (before after : ℕ) (l : RunsToSave line image before after) → l.run.numbers.run.executed ≤ (run_of_image line image []).count
unfolding exec
most_executed line image before after l = omega (arith, l.run.serial.executed)

-- the told file is the one that may be held
saves_told : (old new : Surroundings) (line : RunLine) (content told : List ℕ) (answered : Answer) → MayHold old.files line.image content → Saves line content old.guest new.guest answered
    → IsHeld old.files line.image told → Saves line told old.guest new.guest answered
saves_told old new line content told answered may saves is =
    subst (λ (c : List ℕ). Saves line c old.guest new.guest answered) (one_content old.files line.image content told may is) saves

-- ---- files that are refused

module _ (line : RunLine) (old : Surroundings) (files : Option (List File)) (after : Option (List (List ℕ))) (store_faults : ℕ) (stay : files ≡ old.files) (names : AsksFor line.image old.asked after) where
  abbrev new : Surroundings
  new = record old { files = files; asked = after; store_faults = store_faults }

  abbrev Answers : Answer → Type 0
  Answers answered = IsAnswerFor (Ok (lines.Save line)) old new (conclusion_of answered)

  -- the file was not read
  unread : (answered : Answer) → ending_of answered ≡ Unread → IsUntouched (Ok (lines.Save line)) answered old.guest old.guest → Blames (answered ≡ answers.StoreFault) old.store_faults store_faults → Answers answered
  unread answered kind untouched blames = answer_of_refusal (Ok (lines.Save line)) old new answered (record {
    unrun = subst IsUnrun (sym kind) tt;
    line = lines.Save line;
    is = refl;
    faults = refl;
    headline = λ completes. absurd (uncompleted answered kind completes);
    untold = λ completes. absurd (uncompleted answered kind completes);
    image = λ fault is. let other = ap ending_of is in absurd (cc (kind, other));
    too_long = λ is. let other = ap ending_of is in absurd (cc (kind, other));
    saved = λ fault is. let other = ap ending_of is in absurd (cc (kind, other));
    store_fault = blames;
    workers = refl;
    refused = untouched;
    files = stay;
    names = inl names;
  })

  -- it is too long
  long : (content : List ℕ) → MayHold old.files line.image content → file_limit < length content → store_faults ≡ old.store_faults → Answers answers.TooLong
  long content may over no_fault = answer_of_refusal (Ok (lines.Save line)) old new answers.TooLong (record {
    unrun = tt;
    line = lines.Save line;
    is = refl;
    faults = refl;
    headline = λ _. λ told is. saves_told old new line content told answers.TooLong may (saves-long line content old.guest over) is;
    untold = λ _. (content, may, saves-long line content old.guest over);
    image = λ fault is. absurd (cc);
    too_long = λ _. (content, may, over);
    saved = λ fault is. absurd (cc);
    store_fault = record { rose = λ is. absurd (cc); stays = λ _. no_fault };
    workers = refl;
    refused = refl;
    files = stay;
    names = inl names;
  })

  -- it is no image
  no_image : (content : List ℕ) (fault : ElfFault) → MayHold old.files line.image content → length content ≤ file_limit → load_of line content ≡ Err fault → store_faults ≡ old.store_faults
      → Answers (answers.Image fault)
  no_image content fault may within loads no_fault =
      let saves = saves-loaded line content (Err fault) old.guest old.guest (answers.Image fault) within loads (gives_refusal (answers.Image fault) old.guest) in
      answer_of_refusal (Ok (lines.Save line)) old new (answers.Image fault) (record {
        unrun = tt;
        line = lines.Save line;
        is = refl;
        faults = refl;
        headline = λ _. λ told is. saves_told old new line content told (answers.Image fault) may saves is;
        untold = λ _. (content, may, saves);
        image = λ own is. (content, may, record { within = within; loads = loads ∙ ap (λ (f : ElfFault). Err f) (one_fault fault own is) });
        too_long = λ is. absurd (cc);
        saved = λ own is. absurd (cc);
        store_fault = record { rose = λ is. absurd (cc); stays = λ _. no_fault };
        workers = refl;
        refused = refl;
        files = stay;
        names = inl names;
      })
    where
      one_fault : (a b : ElfFault) → answers.Image a ≡ answers.Image b → a ≡ b
      one_fault a b is = cc

abbrev AnswersRead : (line : RunLine) (old : Surroundings) (files : Option (List File)) (after : Option (List (List ℕ))) (store_faults : ℕ) → Answer → Type 0
AnswersRead line old files after store_faults answered =
    IsAnswerFor (Ok (lines.Save line)) old (record old { files = files; asked = after; store_faults = store_faults }) (conclusion_of answered)

-- no image was read
pub answer_of_no_save : (line : RunLine) (old : Surroundings) (files : Option (List File)) (after : Option (List (List ℕ))) (store_faults : ℕ) (answered : Answer)
    → IsRefused line.image (IsNoRun line) answered old.files old.asked old.store_faults files after store_faults
    → IsAnswerFor (Ok (lines.Save line)) old (record old { files = files; asked = after; store_faults = store_faults }) (conclusion_of answered)
answer_of_no_save line old files after store_faults answered r = by r.cause
  where
    by : ((answered ≡ answers.StoreFault) ⊎ (answered ≡ answers.Memory)) ⊎ ((content : List ℕ) × MayHold old.files line.image content × IsNoRun line content answered) → AnswersRead line old files after store_faults answered
    by (inl (inl is)) = subst (λ (a : Answer). AnswersRead line old files after store_faults a) (sym is)
        (unread line old files after store_faults r.stay r.names answers.StoreFault refl refl (subst (λ (a : Answer). Blames (a ≡ answers.StoreFault) old.store_faults store_faults) is r.store_fault))
    by (inl (inr is)) = subst (λ (a : Answer). AnswersRead line old files after store_faults a) (sym is)
        (unread line old files after store_faults r.stay r.names answers.Memory refl ((0, omega arith, omega arith), refl) (subst (λ (a : Answer). Blames (a ≡ answers.StoreFault) old.store_faults store_faults) is r.store_fault))
    by (inr (content, may, inl (is, over))) = subst (λ (a : Answer). AnswersRead line old files after store_faults a) (sym is)
        (long line old files after store_faults r.stay r.names content may over (r.store_fault.stays (λ failed. cc (is, failed))))
    by (inr (content, may, inr (within, (fault, is, loads)))) = subst (λ (a : Answer). AnswersRead line old files after store_faults a) (sym is)
        (no_image line old files after store_faults r.stay r.names content fault may within loads (r.store_fault.stays (λ failed. cc (is, failed))))

-- ---- files that were run

module _ (line : RunLine) (content : List ℕ) (image : loader.Image) (files last_files : Option (List File)) (asked last_asked : Option (List (List ℕ))) (store_faults last_store_faults : ℕ)
    (may : MayHold files line.image content) (within : length content ≤ file_limit) (loads : load_of line content ≡ Ok image) (stay : last_files ≡ files) (names : AsksFor line.image asked last_asked)
    (no_fault : last_store_faults ≡ store_faults) (left : Option (List ℕ)) (out later err : Given) (before after input_faults out_faults later_faults err_faults : ℕ) where
  abbrev first : Outside
  first = outside left out err before (faults input_faults out_faults err_faults)

  abbrev last : Outside
  last = outside left later err after (faults input_faults later_faults err_faults)

  abbrev old : Surroundings
  old = around files asked store_faults first

  abbrev now : Surroundings
  now = around last_files last_asked last_store_faults last

  abbrev Answers3 : Answer → Type 0
  Answers3 answered = IsAnswerFor (Ok (lines.Save line)) old now (conclusion_of answered)

  -- memory was wanting
  wanting : RisesWithin line.limit before after → later ≡ out → later_faults ≡ out_faults → Answers3 answers.Memory
  wanting rises unput sound =
      let incomplete : Completes answers.Memory → ⊥ = uncompleted answers.Memory refl in
      answer_of_refusal (Ok (lines.Save line)) old now answers.Memory (record {
        unrun = tt;
        line = lines.Save line;
        is = refl;
        faults = λ i. faults input_faults (sound i) err_faults;
        headline = λ completes. absurd (incomplete completes);
        untold = λ completes. absurd (incomplete completes);
        image = λ fault is. absurd (cc);
        too_long = λ is. absurd (cc);
        saved = λ fault is. absurd (cc);
        store_fault = record { rose = λ is. absurd (cc); stays = λ _. no_fault };
        workers = refl;
        refused = (rises, λ i. outside left (unput i) err after (faults input_faults (sound i) err_faults));
        files = stay;
        names = inl names;
      })

  module _ (l : RunsToSave line image before after) where
    abbrev file : List ℕ
    file = entry_file image.start.shape (entries_of_save l.run)

    done_so : later ≡ given_after out file → later_faults ≡ out_faults → Answers3 (answers.Done 0)
    done_so given sound =
        let saves : Saves line content first last (answers.Done 0) = saves-loaded line content (Ok image) first last (answers.Done 0) within loads (record {
          run = l.run;
          gives = record {
            answer = refl;
            does = record { taken = Takes-nil left; out = given; err = sym (given_after-nil err) };
            most = most_executed line image before after l;
            steps = l.steps;
          };
        }) in
        record {
          headline = λ _. λ told is. saves_told old now line content told (answers.Done 0) may saves is;
          untold = λ _. (content, may, saves);
          stopped = λ device failed. absurd (cc);
          exit = λ code is. absurd (cc);
          silent = λ line is finished. cc;
          done = λ refused is. (image.start.shape, entries_of_save l.run, given);
          limit = λ count is. absurd (cc);
          fault = λ fault count is. absurd (cc);
          image = λ fault is. absurd (cc);
          too_long = λ is. absurd (cc);
          saved = λ fault is. absurd (cc);
          usage = λ bad is. absurd (cc);
          no_command = λ bad wrong. absurd (cc);
          store_fault = record { rose = λ is. absurd (cc); stays = λ _. no_fault };
          faults = λ i. faults input_faults (sound i) err_faults;
          no_report_fault = λ is. cc;
          counts = ((λ told. let no : false ≡ true = told in absurd (cc)), (λ h. absurd h.0));
          workers = refl;
          refused = λ refused. absurd (not_refusal refused);
          files = stay;
          names = inl names;
        }
      where
        not_refusal : IsRefusal (answers.Done 0) → ⊥
        not_refusal (inl is) = cc
        not_refusal (inr (inl is)) = cc
        not_refusal (inr (inr is)) = cc

    fault_so : PutsPart out later file → later_faults ≡ one_more out_faults → Answers3 answers.WriteFault
    fault_so part rose =
        let incomplete : Completes answers.WriteFault → ⊥ = λ completes. let none = (completed answers.WriteFault completes).1 in cc in
        record {
          headline = λ completes. absurd (incomplete completes);
          untold = λ completes. absurd (incomplete completes);
          stopped = λ device failed. (
            one_device device failed,
            (
              content,
              may,
              record {
                within = within;
                image = image;
                loads = loads;
                run = l.run;
                gives = record {
                  left = refl;
                  out = part;
                  err = refl;
                  most = most_executed line image before after l;
                  steps = l.steps;
                };
              },
            ),
          );
          exit = λ code is. absurd (cc);
          silent = λ line is finished. cc;
          done = λ refused is. absurd (cc);
          limit = λ count is. absurd (cc);
          fault = λ fault count is. absurd (cc);
          image = λ fault is. absurd (cc);
          too_long = λ is. absurd (cc);
          saved = λ fault is. absurd (cc);
          usage = λ bad is. absurd (cc);
          no_command = λ bad wrong. absurd (cc);
          store_fault = record { rose = λ is. absurd (cc); stays = λ _. no_fault };
          faults = λ i. faults input_faults (rose i) err_faults;
          no_report_fault = λ is. cc;
          counts = ((λ told. let no : false ≡ true = told in absurd (cc)), (λ h. absurd h.0));
          workers = refl;
          refused = λ refused. absurd (not_refusal refused);
          files = stay;
          names = inl names;
        }
      where
        one_device : (device : Device) → Some Out ≡ Some device → device ≡ Out
        one_device device is = cc

        not_refusal : IsRefusal answers.WriteFault → ⊥
        not_refusal (inl is) = cc
        not_refusal (inr (inl is)) = cc
        not_refusal (inr (inr is)) = cc

  -- what holds of the answer
  pub answer_of_save : (answered : Answer) → EndsSave line image before after out later out_faults later_faults answered → Answers3 answered
  answer_of_save answered (inl (is, rises, unput, sound)) = subst (λ (a : Answer). Answers3 a) (sym is) (wanting rises unput sound)
  answer_of_save answered (inr (l, inl (is, given, sound))) = subst (λ (a : Answer). Answers3 a) (sym is) (done_so l given sound)
  answer_of_save answered (inr (l, inr (is, part, rose))) = subst (λ (a : Answer). Answers3 a) (sym is) (fault_so l part rose)
