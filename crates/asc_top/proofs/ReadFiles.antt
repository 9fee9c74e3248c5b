-- What a run comes to whose files were read, or were refused.
use Rattle.std.proofs.Common.{◌≡◌, ◌∙◌, ◌≢◌, ◌⊎◌, ℕ, ◌<◌, ◌≤◌, Bool, Option, Some, None, true, false, nat_lt, List, [], length, Result, Ok, Err, IfErr, refl, sym, ap, subst, arith, inl, inr}
use Rattle.std.specs.Prelude.{if◌then◌else◌}
use Rattle.std.specs.Result.{IsErrAnd}
use Rattle.std.proofs.lemmas.Bool.Decides.{nat_tests}
use Rattle.asc_model.specs.Entry.{Entry}
use Rattle.asc_outside.specs.Outside.{AsksFor, Blames, File, MayHold, MayHoldLonger}
use Rattle.asc_elf.specs.declared.fault.ElfFault.{ElfFault}
use Rattle.asc_elf.specs.Image as loader
use Rattle.asc_calls.specs.World.{Outside}
use Rattle.asc_run.specs.Walk.{Walk}
use Rattle.asc_words.specs.declared.line.RunLine.{RunLine}
use Rattle.asc_words.specs.declared.line.Line.TheVariants as lines
use Rattle.asc_words.specs.declared.answer.Answer.{Answer}
use Rattle.asc_words.specs.declared.answer.Answer.TheVariants as answers
use Rattle.asc_words.specs.declared.answer.Conclusion.{Conclusion}
use Rattle.asc_words.specs.Answer.{conclusion_of}
use Rattle.asc_words.specs.Line.{file_limit}
use Rattle.asc_top.specs.Program.{Files, entries_for, image_alone, load_of}
use Rattle.asc_top.specs.Numbers.{settings_of}
use Rattle.asc_top.specs.Ran.{AreOpened, IsNoEntries, IsNoRun, IsRead, IsRefused, IsTooLong, IsWalkOf, Opens, Ran}
use Rattle.asc_top.specs.Endings.{Unread, device_of_answer, ending_of}
use Rattle.asc_top.specs.Answered.{AreFilesOf, AsksBehind, AsksForFiles, AsksForSecond, Surroundings, HasSecond, IsAnswerFor, around, second_name}
use Rattle.asc_top.proofs.Causes.{image-is, too_long-never}
use Rattle.asc_top.proofs.Refused.{means_long, ran_image, ran_saved}
use Rattle.asc_top.proofs.Refusals.{IsUnrun, answer_of_refusal}
use Rattle.asc_top.proofs.Runs.{answer_of_run, gives_told, longer_file, uncompleted}

-- ---- the file that is read behind an image

abbrev by_load : RunLine → (is_long : Bool) → (content : List ℕ) → Option (List ℕ)
by_load line is_long content = if is_long then None else elim (load_of line content) [ Ok loaded ↦ line.load | Err fault ↦ None ]

-- behind one that is run it is the line's
pub second-loaded : (line : RunLine) (content : List ℕ) (image : loader.Image) → length content ≤ file_limit → load_of line content ≡ Ok image → second_name line content ≡ line.load
second-loaded line content image within loads =
    let short : nat_lt file_limit (length content) ≡ false = grind (arith, nat_tests) in
    (λ i. by_load line (short i) content) ∙ (λ i. elim (loads i) [ Ok loaded ↦ line.load | Err fault ↦ None ])

-- behind any other it is none
second-long : (line : RunLine) (content : List ℕ) → file_limit < length content → second_name line content ≡ None
second-long line content long =
    let is : nat_lt file_limit (length content) ≡ true = grind (arith, nat_tests) in
    λ i. by_load line (is i) content

second-unloaded : (line : RunLine) (content : List ℕ) (fault : ElfFault) → length content ≤ file_limit → load_of line content ≡ Err fault → second_name line content ≡ None
second-unloaded line content fault within loads =
    let short : nat_lt file_limit (length content) ≡ false = grind (arith, nat_tests) in
    (λ i. by_load line (short i) content) ∙ (λ i. elim (loads i) [ Ok loaded ↦ line.load | Err fault ↦ None ])

-- an image that may be held, with a second file of this content where there is one to be read
pub are_files : (held : Option (List File)) (line : RunLine) (content : List ℕ) (name saved : Option (List ℕ)) → MayHold held line.image content → second_name line content ≡ name → HasSecond (MayHold held) name saved
    → AreFilesOf (MayHold held) line (record { image = content; saved = saved })
are_files held line content name saved may name_is has = (may, subst (λ (n : Option (List ℕ)). HasSecond (MayHold held) n saved) (sym name_is) has)

-- ---- what the store was asked for behind an image

abbrev MayAsk : RunLine → (before after : Option (List (List ℕ))) → Type 0
MayAsk line before after = (after ≡ before) ⊎ AsksForSecond line.load before after

behind_store_fault : (line : RunLine) (answered : Answer) (before after : Option (List (List ℕ))) → answered ≡ answers.StoreFault → MayAsk line before after → AsksBehind line answered before after
behind_store_fault line answered before after is may = subst (λ (a : Answer). AsksBehind line a before after) (sym is) may

behind_memory : (line : RunLine) (answered : Answer) (before after : Option (List (List ℕ))) → answered ≡ answers.Memory → MayAsk line before after → AsksBehind line answered before after
behind_memory line answered before after is may = subst (λ (a : Answer). AsksBehind line a before after) (sym is) may

behind_run : (line : RunLine) (answered : Answer) (before after : Option (List (List ℕ))) → (answered ≡ answers.TooLong → ⊥) → ((fault : ElfFault) → answered ≡ answers.Image fault → ⊥) → AsksForSecond line.load before after → AsksBehind line answered before after
behind_run line answers.TooLong before after short image asks = absurd (short refl)
behind_run line (answers.Image fault) before after short image asks = absurd (image fault refl)
behind_run line (answers.InputTooLong input) before after short image asks = asks
behind_run line answers.StoreFault before after short image asks = inr asks
behind_run line answers.Memory before after short image asks = inr asks
behind_run line (answers.Exit code) before after short image asks = asks
behind_run line (answers.Done refused) before after short image asks = asks
behind_run line (answers.Limit count) before after short image asks = asks
behind_run line (answers.Fault fault count) before after short image asks = asks
behind_run line answers.ReadFault before after short image asks = asks
behind_run line answers.WriteFault before after short image asks = asks
behind_run line answers.ErrFault before after short image asks = asks
behind_run line (answers.Saved fault) before after short image asks = asks
behind_run line (answers.Usage bad) before after short image asks = asks
behind_run line answers.ReportFault before after short image asks = asks

-- ---- files that are refused

module _ (line : RunLine) (old : Surroundings) (files : Option (List File)) (after : Option (List (List ℕ))) (faults : ℕ) (stay : files ≡ old.files) where
  abbrev new : Surroundings
  new = record old { files = files; asked = after; store_faults = faults }

  abbrev Answers : Answer → Type 0
  Answers answered = IsAnswerFor (Ok (lines.Run line)) old new (conclusion_of answered)

  -- a file was not read
  unread : (answered : Answer) → ending_of answered ≡ Unread → Blames (answered ≡ answers.StoreFault) old.store_faults faults → AsksForFiles (Ok (lines.Run line)) answered old.asked after → Answers answered
  unread answered kind blames names = answer_of_refusal (Ok (lines.Run line)) old new answered (record {
    unrun = subst IsUnrun (sym kind) tt;
    line = lines.Run line;
    is = refl;
    faults = refl;
    headline = λ completes. absurd (uncompleted answered kind completes);
    untold = λ completes. absurd (uncompleted answered kind completes);
    image = λ fault is. let other = ap ending_of is in absurd (cc (kind, other));
    too_long = λ is. let other = ap ending_of is in absurd (cc (kind, other));
    saved = λ fault is. let other = ap ending_of is in absurd (cc (kind, other));
    store_fault = blames;
    workers = tt;
    refused = refl;
    files = stay;
    names = names;
  })

  -- an image that is too long was not read
  long : (content : List ℕ) → MayHold old.files line.image content → file_limit < length content → faults ≡ old.store_faults → AsksFor line.image old.asked after → Answers answers.TooLong
  long content may over faults_stay names =
      let read = image_alone content in
      let held = are_files old.files line content None None may (second-long line content over) tt in
      let means = means_long line old.guest read over in
      answer_of_refusal (Ok (lines.Run line)) old new answers.TooLong (record {
        unrun = tt;
        line = lines.Run line;
        is = refl;
        faults = refl;
        headline = λ _. λ told left is_held is_left. gives_told old new line read told left (conclusion_of answers.TooLong) held means is_held is_left;
        untold = λ _. (read, held, means);
        image = λ fault is. absurd (cc);
        too_long = λ _. (read, held, over);
        saved = λ fault is. absurd (cc);
        store_fault = record { rose = λ is. absurd (cc); stays = λ _. faults_stay };
        workers = tt;
        refused = refl;
        files = stay;
        names = inl (after, names, refl);
      })

  -- a file that was read is no image
  no_image : (content : List ℕ) (fault : ElfFault) → MayHold old.files line.image content → length content ≤ file_limit → load_of line content ≡ Err fault → faults ≡ old.store_faults → AsksFor line.image old.asked after
      → Answers (answers.Image fault)
  no_image content fault may within loads faults_stay names =
      answer_of_run line (image_alone content) old new (conclusion_of (answers.Image fault)) (are_files old.files line content None None may (second-unloaded line content fault within loads) tt) within
      (ran_image line (image_alone content) fault old.guest within loads) stay (inl (after, names, refl)) faults_stay

  -- no image was read
  pub answer_of_no_run : (answered : Answer) → IsRefused line.image (IsNoRun line) answered old.files old.asked old.store_faults files after faults → Answers answered
  answer_of_no_run answered r = by r.cause
    where
      by : ((answered ≡ answers.StoreFault) ⊎ (answered ≡ answers.Memory)) ⊎ ((content : List ℕ) × MayHold old.files line.image content × IsNoRun line content answered) → Answers answered
      by (inl (inl is)) = unread answered (ap ending_of is) r.store_fault (inl (after, r.names, behind_store_fault line answered after after is (inl refl)))
      by (inl (inr is)) = unread answered (ap ending_of is) r.store_fault (inl (after, r.names, behind_memory line answered after after is (inl refl)))
      by (inr (content, may, inl (is, over))) =
          subst (λ (a : Answer). Answers a) (sym is) (long content may over (r.store_fault.stays (λ failed. cc (is, failed))) r.names)
      by (inr (content, may, inr (within, (fault, is, loads)))) =
          subst (λ (a : Answer). Answers a) (sym is) (no_image content fault may within loads (r.store_fault.stays (λ failed. cc (is, failed))) r.names)

-- an image was read, and then the file of saved entries was refused
module _ (line : RunLine) (content name : List ℕ) (walk : Walk) (own : IsWalkOf line (settings_of line) content walk) (files between_files last_files : Option (List File)) (asked between last : Option (List (List ℕ)))
    (faults between_faults last_faults : ℕ) (read : IsRead line.image content files asked faults between_files between between_faults) (load : line.load ≡ Some name) where
  abbrev Answers2 : Outside → Answer → Type 0
  Answers2 guest answered = IsAnswerFor (Ok (lines.Run line)) (around files asked faults guest) (around last_files last last_faults guest) (conclusion_of answered)

  pub answer_of_no_entries : (guest : Outside) (answered : Answer) → IsRefused name (IsNoEntries own.image.start.shape) answered between_files between between_faults last_files last last_faults → Answers2 guest answered
  answer_of_no_entries guest answered r = by r.cause
    where
      stay : last_files ≡ files
      stay = r.stay ∙ read.stay

      blames : Blames (answered ≡ answers.StoreFault) faults last_faults
      blames = subst (λ (n : ℕ). Blames (answered ≡ answers.StoreFault) n last_faults) read.no_fault r.store_fault

      asks : AsksForSecond line.load between last
      asks = subst (λ (n : Option (List ℕ)). AsksForSecond n between last) (sym load) r.names

      names : AsksBehind line answered between last → AsksForFiles (Ok (lines.Run line)) answered asked last
      names behind = inl (between, read.names, behind)

      by : ((answered ≡ answers.StoreFault) ⊎ (answered ≡ answers.Memory)) ⊎ ((saved : List ℕ) × MayHold between_files name saved × IsNoEntries own.image.start.shape saved answered) → Answers2 guest answered
      by (inl (inl is)) = unread line (around files asked faults guest) last_files last last_faults stay answered (ap ending_of is) blames (names (behind_store_fault line answered between last is (inr asks)))
      by (inl (inr is)) = unread line (around files asked faults guest) last_files last last_faults stay answered (ap ending_of is) blames (names (behind_memory line answered between last is (inr asks)))
      by (inr (saved, may, (fault, is, refused))) =
          let pair : Files = record { image = content; saved = Some saved } in
          let held = are_files files line content (Some name) (Some saved) read.held (second-loaded line content own.image read.within own.loads ∙ load)
          (subst (λ (f : Option (List File)). MayHold f name saved) read.stay may) in
          answer_of_run line pair (around files asked faults guest) (around last_files last last_faults guest) (conclusion_of answered) held read.within
          (subst (λ (a : Answer). Ran guest guest line pair (conclusion_of a)) (sym is) (ran_saved line pair own.image fault guest read.within own.loads own.good refused))
          stay (names (subst (λ (a : Answer). AsksBehind line a between last) (sym is) asks)) (blames.stays (λ failed. cc (is, failed)))

  -- or its entries were taken
  pub opens_both : (saved : List ℕ) (entries : List Entry) → entries_for own.image.start.shape saved ≡ Ok entries → IsRead name saved between_files between between_faults last_files last last_faults
      → Opens line walk entries files asked faults last_files last last_faults
  opens_both saved entries taken second = record {
    read = record { image = content; saved = Some saved };
    held = are_files files line content (Some name) (Some saved) read.held (second-loaded line content own.image read.within own.loads ∙ load) (subst (λ (f : Option (List File)). MayHold f name saved) read.stay second.held);
    are = record { within = read.within; own = own; taken = taken; none = λ unnamed. absurd (cc (load, unnamed)) };
    stay = second.stay ∙ read.stay;
    between = between;
    first = read.names;
    second = subst (λ (n : Option (List ℕ)). AsksForSecond n between last) (sym load) second.names;
    no_fault = second.no_fault ∙ read.no_fault;
  }

-- an image was read, and there is no other file to be read
pub opens_one : (line : RunLine) (content : List ℕ) (walk : Walk) (own : IsWalkOf line (settings_of line) content walk) (files last_files : Option (List File)) (asked last : Option (List (List ℕ)))
    (faults last_faults : ℕ) → IsRead line.image content files asked faults last_files last last_faults → line.load ≡ None → Opens line walk [] files asked faults last_files last last_faults
opens_one line content walk own files last_files asked last faults last_faults read load = record {
  read = image_alone content;
  held = are_files files line content None None read.held (second-loaded line content own.image read.within own.loads ∙ load) tt;
  are = record { within = read.within; own = own; taken = refl; none = λ _. refl };
  stay = read.stay;
  between = last;
  first = read.names;
  second = subst (λ (n : Option (List ℕ)). AsksForSecond n last last) (sym load) refl;
  no_fault = read.no_fault;
}

-- a run of what was opened is answered neither that its image is too long nor that it is none
module _ (line : RunLine) (walk : Walk) (entries : List Entry) (read : Files) (are : AreOpened line read walk entries) (old new : Outside) (conclusion : Conclusion) (r : Ran old new line read conclusion) where
  not_long : conclusion.answer ≡ answers.TooLong → ⊥
  not_long is = too_long-never line read are.within old new conclusion (r.means (λ memory. cc (is, memory)) (ap (λ (a : Answer). device_of_answer a) is)) is

  not_image : (fault : ElfFault) → conclusion.answer ≡ answers.Image fault → ⊥
  not_image fault is =
      let none = image-is line read are.within old new conclusion (r.means (λ memory. cc (is, memory)) (ap (λ (a : Answer). device_of_answer a) is)) fault is in
      let loads = are.own.loads in
      let fails = none.loads in
      cc (loads, fails)

-- a run of what was opened
pub answer_of_opened : (line : RunLine) (walk : Walk) (entries : List Entry) (old new : Surroundings) (conclusion : Conclusion) → (o : Opens line walk entries old.files old.asked old.store_faults new.files new.asked new.store_faults)
    → Ran old.guest new.guest line o.read conclusion → IsAnswerFor (Ok (lines.Run line)) old new conclusion
answer_of_opened line walk entries old new conclusion o r =
    let behind = behind_run line conclusion.answer o.between new.asked (not_long line walk entries o.read o.are old.guest new.guest conclusion r) (not_image line walk entries o.read o.are old.guest new.guest conclusion r) o.second in
    answer_of_run line o.read old new conclusion o.held o.are.within r o.stay (inl (o.between, o.first, behind)) o.no_fault

-- a file is too long
pub is_longer : (name : List ℕ) (answered : Answer) (files last_files : Option (List File)) (asked last : Option (List (List ℕ))) (faults last_faults : ℕ) → MayHoldLonger files name file_limit → last_files ≡ files
    → AsksFor name asked last → answered ≢ answers.StoreFault → last_faults ≡ faults → IsRefused name (IsTooLong answered) answered files asked faults last_files last last_faults
is_longer name answered files last_files asked last faults last_faults longer stay names other no_fault =
    let file = longer_file files name longer in
    record {
      stay = stay;
      names = names;
      store_fault = record { rose = λ is. absurd (other is); stays = λ _. no_fault };
      cause = inr (file.0, file.1, (refl, file.2));
    }

-- what holds of an answer holds of the one that is handed on
pub answered_as : {T : Type 0} (result : Result T Answer) (answered : Answer) (P : Answer → Type 0) → IsErrAnd result (λ e. e ≡ answered) → P answered → IfErr result P
answered_as (Err e) answered P same holds = subst P (sym same) holds
answered_as (Ok value) answered P same holds = tt
