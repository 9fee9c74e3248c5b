-- What holds of the answer to a batch.
use Rattle.std.proofs.Common.{◌≡◌, ◌≢◌, ◌∙◌, ◌⊎◌, ℕ, ◌+◌, ◌<◌, ◌≤◌, Bool, true, false, nat_lt, Option, Some, None, List, [], ◌∷◌, length, MatchBool, Ok, Err, Result, refl, sym, ap, subst, arith, inl, inr}
use Rattle.std.specs.Prelude.{if◌then◌else◌}
use Rattle.std.proofs.lemmas.Bool.Decides.{nat_tests}
use Rattle.std.proofs.lemmas.List.{append-nil}
use Rattle.asc_outside.specs.Outside.{File, Given, MayHold, Takes, given_after, one_more}
use Rattle.asc_outside.proofs.Streams.{Takes-nil, given_after-nil}
use Rattle.asc_elf.specs.declared.fault.ElfFault.{ElfFault}
use Rattle.asc_elf.specs.Image as loader
use Rattle.asc_calls.specs.GuestCall.{Device, Out, Err as Errors, Input}
use Rattle.asc_calls.specs.World.{BlamesOnly, DeviceFaults, Outside}
use Rattle.asc_words.specs.Batch.{BatchLine}
use Rattle.asc_words.specs.Line.{file_limit}
use Rattle.asc_words.specs.Answer.{conclusion_of}
use Rattle.asc_words.specs.Report.{answer_text, report_text}
use Rattle.asc_words.specs.declared.line.RunLine.{RunLine}
use Rattle.asc_words.specs.declared.line.Line.TheVariants as lines
use Rattle.asc_words.specs.declared.answer.Answer.{Answer}
use Rattle.asc_words.specs.declared.answer.Answer.TheVariants as answers
use Rattle.asc_words.specs.declared.answer.BatchRun.{BatchRun}
use Rattle.asc_top.specs.Program.{Gives, IsStopped, ProgramResult, image_alone, load_of, refusal}
use Rattle.asc_top.specs.Endings.{BadFile, BadWords, Completes, IsRefusal, device_of_answer, device_of_ending, ending_of}
use Rattle.asc_top.specs.Batch.{AreBatchFiles, AreInputs, BatchFiles, MakesRuns, batch_meaning, first_long, input_names, result_of_batch, result_of_inputs}
use Rattle.asc_top.specs.BatchAnswer.{AsksForBatch, AsksSoOften, CutsRun, IsBatchAnswer, IsBatchFor, IsBatchReported, StopsBehind, batch_texts}
use Rattle.asc_top.specs.Answered.{Surroundings, Headline, IsHeld, around}
use Rattle.asc_top.specs.BatchRead.{ReadsBatch, RefusesBatch}
use Rattle.asc_top.specs.Reported.{IsReported, Report, report_with}
use Rattle.asc_top.specs.Runner.{BreaksRuns, EndsRuns, ReportsAll, StopsWithin}
use Rattle.asc_top.proofs.BatchLists.{executed-most, none-taken}
use Rattle.asc_top.proofs.Refused.{gives_refusal}
use Rattle.asc_top.proofs.Runs.{completed, one_content, uncompleted}

-- ---- what files mean

-- an image that is one
pub meaning-batch : (line : BatchLine) (files : BatchFiles) (image : loader.Image) → length files.image ≤ file_limit → load_of line.run files.image ≡ Ok image
    → batch_meaning line files ≡ result_of_inputs line.run image files.inputs (first_long 0 files.inputs)
unfolding batch_meaning
meaning-batch line files image within loads =
    let short : nat_lt file_limit (length files.image) ≡ false = grind (arith, nat_tests) in
    (λ i. if short i then refusal answers.TooLong else result_of_batch line.run (load_of line.run files.image) files.inputs)
    ∙ ap (λ (l : Result loader.Image ElfFault). result_of_batch line.run l files.inputs) loads

-- one that is none
pub meaning-no-image : (line : BatchLine) (files : BatchFiles) (fault : ElfFault) → length files.image ≤ file_limit → load_of line.run files.image ≡ Err fault
    → batch_meaning line files ≡ refusal (answers.Image fault)
unfolding batch_meaning
meaning-no-image line files fault within loads =
    let short : nat_lt file_limit (length files.image) ≡ false = grind (arith, nat_tests) in
    (λ i. if short i then refusal answers.TooLong else result_of_batch line.run (load_of line.run files.image) files.inputs)
    ∙ ap (λ (l : Result loader.Image ElfFault). result_of_batch line.run l files.inputs) loads

-- one that is too long
pub meaning-long-image : (line : BatchLine) (files : BatchFiles) → file_limit < length files.image → batch_meaning line files ≡ refusal answers.TooLong
unfolding batch_meaning
meaning-long-image line files long =
    let is : nat_lt file_limit (length files.image) ≡ true = grind (arith, nat_tests) in
    λ i. if is i then refusal answers.TooLong else result_of_batch line.run (load_of line.run files.image) files.inputs

-- behind an input that is too long there is none
by_length : {A B : Type 0} {may told : List (List ℕ)} (long : Bool) → MatchBool long (may ≡ []) A → MatchBool long (told ≡ []) B → (A → B → may ≡ told) → may ≡ told
by_length true none no_more rest = none ∙ sym no_more
by_length false is has rest = rest is has

-- names have one list of contents
one_inputs : (held : Option (List File)) (names may told : List (List ℕ)) → AreInputs (MayHold held) names may → AreInputs (IsHeld held) names told → may ≡ told
one_inputs held [] [] [] is has = refl
one_inputs held [] (m ∷ may) told is has = absurd is
one_inputs held [] [] (t ∷ told) is has = absurd has
one_inputs held (n ∷ names) [] told is has = absurd is
one_inputs held (n ∷ names) (m ∷ may) [] is has = absurd has
one_inputs held (n ∷ names) (m ∷ may) (t ∷ told) (m_held, m_rest) (t_held, t_rest) =
    let same : m ≡ t = one_content held n m t m_held t_held in
    let t_rest_so : MatchBool (nat_lt file_limit (length m)) (told ≡ []) (AreInputs (IsHeld held) names told) =
    subst (λ (x : List ℕ). MatchBool (nat_lt file_limit (length x)) (told ≡ []) (AreInputs (IsHeld held) names told)) (sym same) t_rest in
    let rest : may ≡ told = by_length (nat_lt file_limit (length m)) m_rest t_rest_so (λ a b. one_inputs held names may told a b) in
    λ i. same i ∷ rest i

one_files : (held : Option (List File)) (line : BatchLine) (may told : BatchFiles) → AreBatchFiles (MayHold held) line may → AreBatchFiles (IsHeld held) line told → may ≡ told
one_files held line may told is has =
    let image = one_content held line.run.image may.image told.image is.0 has.0 in
    let inputs = one_inputs held (input_names line told.image) may.inputs told.inputs
    (subst (λ (i : List ℕ). AreInputs (MayHold held) (input_names line i) may.inputs) image is.1) has.1 in
    λ i. record { image = image i; inputs = inputs i }

-- what was done by files that the store may hold is what the told ones mean
pub headline_by : (line : BatchLine) (old new : Surroundings) (files : BatchFiles) (answered : Answer) (executed : ℕ) → AreBatchFiles (MayHold old.files) line files
    → Gives old.guest new.guest executed answered (batch_meaning line files) → Headline (Ok (lines.Batch line)) old new answered
headline_by line old new files answered executed held gives = λ completes. λ told is.
    (executed, subst (λ (f : BatchFiles). Gives old.guest new.guest executed answered (batch_meaning line f)) (one_files old.files line files told held is) gives)

-- ---- the runs, over devices with an input that stays

module _ (left : Option (List ℕ)) (input_faults : ℕ) where
  -- the same devices with an input
  abbrev pub beside_input : Outside → Outside
  beside_input o = record o { left = left; faults = record o.faults { input = input_faults } }

  pub make_beside : (line : RunLine) (image : loader.Image) (inputs : List (List ℕ)) (told : List BatchRun) (old new : Outside)
      → MakesRuns line image inputs told old new → MakesRuns line image inputs told (beside_input old) (beside_input new)
  make_beside line image inputs told old new makes = record {
    executed = makes.executed;
    told_are = makes.told_are;
    serial = makes.serial;
    does = record {
      taken = subst (λ (l : List ℕ). Takes left left l) (sym (none-taken line image inputs)) (Takes-nil left);
      out = makes.does.out;
      err = makes.does.err;
    };
    steps = makes.steps;
    faults = ap (λ (f : DeviceFaults). record f { input = input_faults }) makes.faults;
  }

  stop_beside : (line : RunLine) (content input : List ℕ) (device : Device) (old new : Outside) (remains : Option (List ℕ))
      → IsStopped (record old { left = Some input }) (record new { left = remains }) device line (image_alone content)
      → IsStopped (record (beside_input old) { left = Some input }) (record (beside_input new) { left = remains }) device line (image_alone content)
  stop_beside line content input device old new remains is = record {
    within = is.within;
    image = is.image;
    loads = is.loads;
    entries = is.entries;
    taken = is.taken;
    left = is.left;
    agrees = is.agrees;
    count = is.count;
    below = is.below;
    io = is.io;
    done = is.done;
    does = record { taken = is.does.taken; out = is.does.out; err = is.does.err };
    run = is.run;
    call = is.call;
    begins = is.begins;
    executed = is.executed;
    most = is.most;
    steps = is.steps;
  }

  -- the device that failed is none of the input's
  blame_beside : (device : Device) (old new : Outside) → old.faults.input ≡ 0 → new.faults.input ≡ 0 → BlamesOnly (Some device) old.faults new.faults
      → BlamesOnly (Some device) (beside_input old).faults (beside_input new).faults
  blame_beside Input old new none still is =
      let rose : new.faults.input ≡ one_more old.faults.input = ap (λ (f : DeviceFaults). f.input) is in
      absurd (let no : ⊥ = omega (arith, rose ∙ ap one_more none, still) in no)
  blame_beside Out old new none still is = ap (λ (f : DeviceFaults). record f { input = input_faults }) is
  blame_beside Errors old new none still is = ap (λ (f : DeviceFaults). record f { input = input_faults }) is

-- ---- answers

no_text : report_text (conclusion_of (answers.Done 0)) ≡ []
unfolding report_text answer_text
no_text = refl

-- the answer's line is put behind those of the runs
pub reported_last : (told : List BatchRun) (answered shown : Answer) (before after : Report) → (answered ≡ answers.ReportFault → ⊥)
    → IsReported (report_with (given_after before.given (batch_texts told)) before.faults) after (conclusion_of answered) shown
    → IsBatchReported told answered before after shown
reported_last told answers.ReportFault shown before after other is = absurd (other refl)
reported_last told (answers.Exit code) shown before after other is = is
reported_last told (answers.Done refused) shown before after other is = is
reported_last told (answers.Limit count) shown before after other is = is
reported_last told (answers.Fault fault count) shown before after other is = is
reported_last told (answers.Usage bad) shown before after other is = is
reported_last told (answers.Image fault) shown before after other is = is
reported_last told answers.TooLong shown before after other is = is
reported_last told (answers.InputTooLong input) shown before after other is = is
reported_last told (answers.Saved fault) shown before after other is = is
reported_last told answers.StoreFault shown before after other is = is
reported_last told answers.Memory shown before after other is = is
reported_last told answers.ReadFault shown before after other is = is
reported_last told answers.WriteFault shown before after other is = is
reported_last told answers.ErrFault shown before after other is = is

-- where a device failed, all files were asked for
asks_all : (line : BatchLine) (answered : Answer) (device : Device) (number : ℕ) → device_of_answer answered ≡ Some device → number ≡ 1 + length line.inputs → AsksSoOften line answered number
asks_all line (answers.Exit code) device number is all = absurd (cc)
asks_all line (answers.Done refused) device number is all = absurd (cc)
asks_all line (answers.Limit count) device number is all = absurd (cc)
asks_all line (answers.Fault fault count) device number is all = absurd (cc)
asks_all line (answers.Usage bad) device number is all = absurd (cc)
asks_all line (answers.Image fault) device number is all = absurd (cc)
asks_all line answers.TooLong device number is all = absurd (cc)
asks_all line (answers.InputTooLong input) device number is all = absurd (cc)
asks_all line (answers.Saved fault) device number is all = absurd (cc)
asks_all line answers.StoreFault device number is all = absurd (cc)
asks_all line answers.Memory device number is all = absurd (cc)
asks_all line answers.ReportFault device number is all = absurd (cc)
asks_all line answers.ReadFault device number is all = all
asks_all line answers.WriteFault device number is all = all
asks_all line answers.ErrFault device number is all = all

-- a refusal blames no device
no_device_refused : (answered : Answer) → IsRefusal answered → device_of_answer answered ≡ None
no_device_refused answered (inl is) = ap device_of_ending is
no_device_refused answered (inr (inl is)) = ap device_of_ending is
no_device_refused answered (inr (inr is)) = ap device_of_ending is

no_device_bad : (answered : Answer) → ending_of answered ≡ BadFile → device_of_answer answered ≡ None
no_device_bad answered is = ap device_of_ending is

-- a batch of which all files were read
module _ (line : BatchLine) (read : BatchFiles) (files : Option (List File)) (asked : Option (List (List ℕ))) (store_faults : ℕ)
    (files_after : Option (List File)) (asked_after : Option (List (List ℕ))) (store_faults_after : ℕ)
    (r : ReadsBatch line read files asked store_faults files_after asked_after store_faults_after) (left : Option (List ℕ)) (input_faults : ℕ) (old new : Outside)
    (no_input : old.faults.input ≡ 0) (no_input_after : new.faults.input ≡ 0) (report reported : Report) where
  abbrev pub before : Surroundings
  before = around files asked store_faults (beside_input left input_faults old)

  abbrev pub after : Surroundings
  after = around files_after asked_after store_faults_after (beside_input left input_faults new)

  names : (answered : Answer) → AsksSoOften line answered (1 + length line.inputs) → AsksForBatch line answered asked asked_after
  names answered number = record {
    names = line.run.image ∷ line.inputs;
    rest = [];
    first = sym (append-nil (line.run.image ∷ line.inputs));
    asked = r.names_are;
    number = subst (λ n. AsksSoOften line answered n) (let same : 1 + length line.inputs ≡ length (line.run.image ∷ line.inputs) = omega arith in same) number;
  }

  -- all were run
  answer_all : (told : List BatchRun) → MakesRuns line.run r.image read.inputs told old new → IsBatchFor line before after told (answers.Done 0)
  answer_all told made =
      let makes = make_beside left input_faults line.run r.image read.inputs told old new made in
      let means : batch_meaning line read ≡ result_of_inputs line.run r.image read.inputs None =
      meaning-batch line read r.image r.within r.loads ∙ ap (λ (long : Option ℕ). result_of_inputs line.run r.image read.inputs long) r.short in
      let gives : Gives before.guest after.guest makes.executed (answers.Done 0) (result_of_inputs line.run r.image read.inputs None) =
      record { answer = refl; does = makes.does; most = executed-most line.run r.image 0 read.inputs told makes.executed makes.told_are; steps = makes.steps } in
      record {
        headline = headline_by line before after read (answers.Done 0) makes.executed r.held
            (subst (λ (x : ProgramResult). Gives before.guest after.guest makes.executed (answers.Done 0) x) (sym means) gives);
        bad = λ is. absurd (cc);
        ran = λ _. (read, r.held, record { within = r.within; image = r.image; loads = r.loads; short = r.short; ends = inl (record { answer = refl; made = makes }) });
        refused = λ is. absurd (unrefused is);
        usage = λ is. cc;
        left = refl;
        input = refl;
        store_fault = record { rose = λ is. absurd (cc); stays = λ _. r.no_fault };
        faults = makes.faults;
        files = r.stay;
        names = names (answers.Done 0) refl;
      }
    where
      unrefused : IsRefusal (answers.Done 0) → ⊥
      unrefused (inl is) = cc
      unrefused (inr (inl is)) = cc
      unrefused (inr (inr is)) = cc

  pub answer_of_end : EndsRuns line.run r.image read.inputs old new report reported → IsBatchAnswer line before after report reported (answers.Done 0)
  answer_of_end ends = record {
    told = ends.told;
    answered = answers.Done 0;
    is = answer_all ends.told ends.made;
    reported = inl (record {
      shown_is = refl;
      given = ap (λ (x : Report). x.given) ends.reports ∙ sym (given_after-nil (given_after report.given (batch_texts ends.told)))
          ∙ ap (λ (t : List ℕ). given_after (given_after report.given (batch_texts ends.told)) t) (sym no_text);
      faults = ap (λ (x : Report). x.faults) ends.reports;
    });
  }

  -- a device failed under a run
  answer_stopped : (told : List BatchRun) (answered : Answer) → StopsWithin line.run r.image read.inputs told old new answered → IsBatchFor line before after told answered
  answer_stopped told answered s =
      let between = beside_input left input_faults s.between in
      let makes = make_beside left input_faults line.run r.image s.ran told old s.between s.made in
      let device = s.stops.answer in
      let none : s.between.faults.input ≡ 0 = ap (λ (f : DeviceFaults). f.input) s.made.faults ∙ no_input in
      let blames : BlamesOnly (Some s.stops.device) before.guest.faults after.guest.faults =
      subst (λ (f : DeviceFaults). BlamesOnly (Some s.stops.device) f after.guest.faults) makes.faults
      (blame_beside left input_faults s.stops.device s.between new none no_input_after s.stops.faults) in
      record {
        headline = λ completes. let no : device_of_answer answered ≡ None = (completed answered completes).1 in absurd (cc (no, device));
        bad = λ is. let no = no_device_bad answered is in absurd (cc (no, device));
        ran = λ _. (
          read,
          r.held,
          record {
            within = r.within;
            image = r.image;
            loads = r.loads;
            short = r.short;
            ends = inr (inl (record {
              device = s.stops.device;
              answer = device;
              ran = s.ran;
              input = s.input;
              rest = s.rest;
              split = s.split;
              between = between;
              made = makes;
              left = s.stops.left;
              stopped = stop_beside left input_faults line.run read.image s.input s.stops.device s.between new s.stops.left (s.stops.stopped read.image r.within r.loads);
            }));
          },
        );
        refused = λ is. let no = no_device_refused answered is in absurd (cc (no, device));
        usage = λ is. let no : device_of_answer answered ≡ None = ap device_of_ending is in cc (no, device);
        left = refl;
        input = refl;
        store_fault = record { rose = λ is. let no : device_of_answer answered ≡ None = ap device_of_answer is in absurd (cc (no, device)); stays = λ _. r.no_fault };
        faults = subst (λ d. BlamesOnly d before.guest.faults after.guest.faults) (sym device) blames;
        files = r.stay;
        names = names answered (asks_all line answered s.stops.device _ device refl);
      }

  pub answer_of_stop : (told : List BatchRun) (answered shown : Answer) (between : Report) → StopsWithin line.run r.image read.inputs told old new answered → ReportsAll told report between
      → IsReported between reported (conclusion_of answered) shown → IsBatchAnswer line before after report reported shown
  answer_of_stop told answered shown between s all is = record {
    told = told;
    answered = answered;
    is = answer_stopped told answered s;
    reported = reported_last told answered shown report reported
        (λ fault. let no : device_of_answer answered ≡ None = ap device_of_answer fault in let device = s.stops.answer in cc (no, device))
        (subst (λ (x : Report). IsReported x reported (conclusion_of answered) shown) all is);
  }

  -- the report failed behind a run
  pub answer_of_cut : (told : List BatchRun) (answered : Answer) → StopsBehind line.run r.image read.inputs told old new answered → CutsRun told report reported
      → IsBatchAnswer line before after report reported answered
  answer_of_cut told answered s cut =
      let makes = make_beside left input_faults line.run r.image s.ran told old new s.made in
      subst (λ (a : Answer). IsBatchAnswer line before after report reported a) (sym s.answer) (record {
        told = told;
        answered = answers.ReportFault;
        is = record {
          headline = λ completes. absurd (uncompleted_report completes);
          bad = λ is. absurd (cc);
          ran = λ _. (
            read,
            r.held,
            record {
              within = r.within;
              image = r.image;
              loads = r.loads;
              short = r.short;
              ends = inr (inr (record { answer = refl; ran = s.ran; rest = s.rest; split = s.split; made = makes }));
            },
          );
          refused = λ is. absurd (unrefused is);
          usage = λ is. cc;
          left = refl;
          input = refl;
          store_fault = record { rose = λ is. absurd (cc); stays = λ _. r.no_fault };
          faults = makes.faults;
          files = r.stay;
          names = names answers.ReportFault refl;
        };
        reported = (refl, cut);
      })
    where
      uncompleted_report : Completes answers.ReportFault → ⊥
      uncompleted_report (inl (inl is)) = cc
      uncompleted_report (inl (inr is)) = cc
      uncompleted_report (inr (inl is)) = cc
      uncompleted_report (inr (inr is)) = cc

      unrefused : IsRefusal answers.ReportFault → ⊥
      unrefused (inl is) = cc
      unrefused (inr (inl is)) = cc
      unrefused (inr (inr is)) = cc

  -- memory was wanting for the runs
  pub answer_of_no_memory : (shown : Answer) → new ≡ old → IsReported report reported (conclusion_of answers.Memory) shown → IsBatchAnswer line before after report reported shown
  answer_of_no_memory shown same is = record {
    told = [];
    answered = answers.Memory;
    is = record {
      headline = λ completes. absurd (uncompleted answers.Memory refl completes);
      bad = λ is. absurd (cc);
      ran = λ unrefused. absurd (unrefused (inr (inr refl)));
      refused = λ _. (refl, ap (beside_input left input_faults) same);
      usage = λ is. cc;
      left = refl;
      input = refl;
      store_fault = record { rose = λ is. absurd (cc); stays = λ _. r.no_fault };
      faults = ap (λ (o : Outside). (beside_input left input_faults o).faults) same;
      files = r.stay;
      names = names answers.Memory tt;
    };
    reported = subst (λ (g : Given). IsReported (report_with g report.faults) reported (conclusion_of answers.Memory) shown) (sym (given_after-nil report.given)) is;
  }

-- a batch whose files were refused, or not read
module _ (line : BatchLine) (answered : Answer) (files : Option (List File)) (asked : Option (List (List ℕ))) (store_faults : ℕ)
    (files_after : Option (List File)) (asked_after : Option (List (List ℕ))) (store_faults_after : ℕ)
    (r : RefusesBatch line answered files asked store_faults files_after asked_after store_faults_after) (guest : Outside) (report reported : Report) (shown : Answer) where
  abbrev before2 : Surroundings
  before2 = around files asked store_faults guest

  abbrev after2 : Surroundings
  after2 = around files_after asked_after store_faults_after guest

  -- what is left to be known of the answer
  record Refusing : Type 0 where
    refusal_is : IsRefusal answered
    usage : ending_of answered ≢ BadWords
    headline : Headline (Ok (lines.Batch line)) before2 after2 answered
    bad : ending_of answered ≡ BadFile → (read : BatchFiles) × AreBatchFiles (MayHold files) line read × (batch_meaning line read ≡ refusal answered)

  refusing : Refusing
  refusing = by r.cause
    where
      by : ((answered ≡ answers.StoreFault) ⊎ (answered ≡ answers.Memory)) ⊎ ((read : BatchFiles) × AreBatchFiles (MayHold files) line read × (ending_of answered ≡ BadFile) × (batch_meaning line read ≡ refusal answered)) → Refusing
      by (inl (inl is)) = record {
        refusal_is = inr (inr (ap ending_of is));
        usage = λ kind. let other = ap ending_of is in cc (kind, other);
        headline = λ completes. absurd (uncompleted answered (ap ending_of is) completes);
        bad = λ kind. let other = ap ending_of is in absurd (cc (kind, other));
      }
      by (inl (inr is)) = record {
        refusal_is = inr (inr (ap ending_of is));
        usage = λ kind. let other = ap ending_of is in cc (kind, other);
        headline = λ completes. absurd (uncompleted answered (ap ending_of is) completes);
        bad = λ kind. let other = ap ending_of is in absurd (cc (kind, other));
      }
      by (inr (read, held, kind, means)) = record {
        refusal_is = inl kind;
        usage = λ words. cc (kind, words);
        headline = headline_by line before2 after2 read answered 0 held (subst (λ (x : ProgramResult). Gives guest guest 0 answered x) (sym means) (gives_refusal answered guest));
        bad = λ _. (read, held, means);
      }

  pub answer_of_refused_batch : IsReported report reported (conclusion_of answered) shown → IsBatchAnswer line before2 after2 report reported shown
  answer_of_refused_batch is =
      let f = refusing in
      let none = no_device_refused answered f.refusal_is in
      record {
        told = [];
        answered = answered;
        is = record {
          headline = f.headline;
          bad = f.bad;
          ran = λ unrefused. absurd (unrefused f.refusal_is);
          refused = λ _. (refl, refl);
          usage = f.usage;
          left = refl;
          input = refl;
          store_fault = r.store_fault;
          faults = subst (λ d. BlamesOnly d guest.faults guest.faults) (sym none) refl;
          files = r.stay;
          names = r.names;
        };
        reported = reported_last [] answered shown report reported (λ fault. refused_report (subst IsRefusal fault f.refusal_is))
            (subst (λ (g : Given). IsReported (report_with g report.faults) reported (conclusion_of answered) shown) (sym (given_after-nil report.given)) is);
      }
    where
      refused_report : IsRefusal answers.ReportFault → ⊥
      refused_report (inl is) = cc
      refused_report (inr (inl is)) = cc
      refused_report (inr (inr is)) = cc

-- the runs were broken off, or memory was wanting for them
abbrev pub Breaks : RunLine → loader.Image → (inputs : List (List ℕ)) → (old new : Outside) → (report between : Report) → Answer → Type 0
Breaks line image inputs old new report between answered =
    ((answered ≡ answers.Memory) × (new ≡ old) × (between ≡ report)) ⊎ BreaksRuns line image inputs old new report between answered

module _ (line : BatchLine) (read : BatchFiles) (files : Option (List File)) (asked : Option (List (List ℕ))) (store_faults : ℕ)
    (files_after : Option (List File)) (asked_after : Option (List (List ℕ))) (store_faults_after : ℕ)
    (r : ReadsBatch line read files asked store_faults files_after asked_after store_faults_after) (left : Option (List ℕ)) (input_faults : ℕ) (old new : Outside)
    (no_input : old.faults.input ≡ 0) (no_input_after : new.faults.input ≡ 0) (report between : Report) (answered : Answer)
    (breaks : Breaks line.run r.image read.inputs old new report between answered) where
  abbrev Answers3 : (reported : Report) → (shown : Answer) → Type 0
  Answers3 reported shown = IsBatchAnswer line (around files asked store_faults (beside_input left input_faults old)) (around files_after asked_after store_faults_after (beside_input left input_faults new)) report reported shown

  -- where the report failed
  pub answer_of_failed_report : answered ≡ answers.ReportFault → Answers3 between answered
  answer_of_failed_report failed = by breaks
    where
      by_how : (told : List BatchRun) → ((StopsWithin line.run r.image read.inputs told old new answered × ReportsAll told report between)
          ⊎ (StopsBehind line.run r.image read.inputs told old new answered × CutsRun told report between)) → Answers3 between answered
      by_how told (inl (s, all)) = let none : device_of_answer answered ≡ None = ap device_of_answer failed in let device = s.stops.answer in absurd (cc (none, device))
      by_how told (inr (s, cut)) = answer_of_cut line read files asked store_faults files_after asked_after store_faults_after r left input_faults old new no_input no_input_after report between told answered s cut

      by : Breaks line.run r.image read.inputs old new report between answered → Answers3 between answered
      by (inl (memory, same, untouched)) = absurd (cc (memory, failed))
      by (inr b) = by_how b.told b.how

  -- where it did not, and the answer's line was put
  pub answer_of_break : (answered ≡ answers.ReportFault → ⊥) → (reported : Report) (shown : Answer) → IsReported between reported (conclusion_of answered) shown → Answers3 reported shown
  answer_of_break other reported shown is = by breaks
    where
      by_how : (told : List BatchRun) → ((StopsWithin line.run r.image read.inputs told old new answered × ReportsAll told report between)
          ⊎ (StopsBehind line.run r.image read.inputs told old new answered × CutsRun told report between)) → Answers3 reported shown
      by_how told (inl (s, all)) = answer_of_stop line read files asked store_faults files_after asked_after store_faults_after r left input_faults old new no_input no_input_after report reported told answered shown between s all is
      by_how told (inr (s, cut)) = absurd (other s.answer)

      by : Breaks line.run r.image read.inputs old new report between answered → Answers3 reported shown
      by (inl (memory, same, untouched)) =
          answer_of_no_memory line read files asked store_faults files_after asked_after store_faults_after r left input_faults old new no_input no_input_after report reported shown same
          (subst (λ (a : Answer). IsReported report reported (conclusion_of a) shown) memory (subst (λ (b : Report). IsReported b reported (conclusion_of answered) shown) untouched is))
      by (inr b) = by_how b.told b.how
