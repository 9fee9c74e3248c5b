-- What holds of the answer to a run.
use Rattle.std.proofs.Common.{◌≡◌, ◌∙◌, ◌≢◌, ℕ, ◌+◌, ◌<◌, ◌≤◌, Option, Some, None, List, length, replicate, Ok, refl, sym, ap, subst, arith, inl, inr}
use Rattle.std.proofs.lemmas.List.{length-replicate}
use Rattle.asc_outside.specs.Outside.{File, MayHold, MayHoldLonger}
use Rattle.asc_calls.specs.World.{Agrees}
use Rattle.asc_words.specs.declared.line.RunLine.{RunLine}
use Rattle.asc_words.specs.declared.line.Line.TheVariants as lines
use Rattle.asc_words.specs.declared.answer.Answer.{Answer}
use Rattle.asc_words.specs.declared.answer.Answer.TheVariants as answers
use Rattle.asc_words.specs.declared.answer.Conclusion.{Conclusion}
use Rattle.asc_words.specs.Line.{file_limit}
use Rattle.asc_top.specs.Program.{Files, meaning, Gives}
use Rattle.asc_top.specs.Numbers.{Means}
use Rattle.asc_top.specs.Ran.{Ran}
use Rattle.asc_top.specs.Endings.{Completes, Unread, ending_of, device_of_answer, device_of_ending}
use Rattle.asc_top.specs.Answered.{AreFilesOf, AsksForFiles, Surroundings, HasSecond, IsHeld, IsAnswerFor, second_name}
use Rattle.asc_top.proofs.Causes.{runs-exit, runs-limit, runs-fault, image-is, saved-is, done-never, usage-never, too_long-never, store_fault-never, report_fault-never}

-- a name has one content
pub one_content : (files : Option (List File)) (name content told : List ℕ) → MayHold files name content → IsHeld files name told → content ≡ told
one_content (Some files) name content told may is = cc
one_content None name content told may is = absurd is

second_one : (held : Option (List File)) (name may told : Option (List ℕ)) → HasSecond (MayHold held) name may → HasSecond (IsHeld held) name told → may ≡ told
second_one held (Some name) (Some may) (Some told) has is = ap (λ (c : List ℕ). Some c) (one_content held name may told has is)
second_one held (Some name) (Some may) None has is = absurd is
second_one held (Some name) None told has is = absurd has
second_one held None (Some may) told has is = absurd has
second_one held None None (Some told) has is = absurd is
second_one held None None None has is = refl

-- a line has one pair of files
one_pair : (held : Option (List File)) (line : RunLine) (may told : Files) → AreFilesOf (MayHold held) line may → AreFilesOf (IsHeld held) line told → may ≡ told
one_pair held line may told has is =
    let image = one_content held line.image may.image told.image has.0 is.0 in
    let second = subst (λ (i : List ℕ). HasSecond (MayHold held) (second_name line i) may.saved) image has.1 in
    let saved = second_one held (second_name line told.image) may.saved told.saved second is.1 in
    λ i. record { image = image i; saved = saved i }

-- a told input is the one that agrees with it
one_left : (told : Option (List ℕ)) (left input : List ℕ) → Agrees told left → told ≡ Some input → left ≡ input
one_left (Some t) left input agrees is = cc
one_left None left input agrees is = absurd (cc)

-- there are lists of any length
long_list : (n : ℕ) → (list : List ℕ) × (n < length list)
long_list n = (replicate (n + 1) 0, omega (arith, length-replicate {A = ℕ} (n + 1) 0))

-- there is a file that is longer
pub longer_file : (files : Option (List File)) (name : List ℕ) → MayHoldLonger files name file_limit → (content : List ℕ) × MayHold files name content × (file_limit < length content)
longer_file (Some files) name longer = longer
longer_file None name longer = let long = long_list file_limit in (long.0, tt, long.1)

-- an answer without a failure
pub completed : (answered : Answer) → Completes answered → (answered ≢ answers.Memory) × (device_of_answer answered ≡ None)
completed answered (inl (inl is)) = ((λ memory. let unread = ap ending_of memory in cc), ap device_of_ending is)
completed answered (inl (inr is)) = ((λ memory. let unread = ap ending_of memory in cc), ap device_of_ending is)
completed answered (inr (inl is)) = ((λ memory. let unread = ap ending_of memory in cc), ap device_of_ending is)
completed answered (inr (inr is)) = ((λ memory. let unread = ap ending_of memory in cc), ap device_of_ending is)

-- an answer of a file that was not read is none of them
pub uncompleted : (answered : Answer) → ending_of answered ≡ Unread → Completes answered → ⊥
uncompleted answered unread (inl (inl is)) = cc
uncompleted answered unread (inl (inr is)) = cc
uncompleted answered unread (inr (inl is)) = cc
uncompleted answered unread (inr (inr is)) = cc

-- what files gave is what the told files mean over the told input
pub gives_told : (old new : Surroundings) (line : RunLine) (may told : Files) (left : List ℕ) (conclusion : Conclusion) → AreFilesOf (MayHold old.files) line may → Means old.guest new.guest conclusion line may
    → AreFilesOf (IsHeld old.files) line told → old.guest.left ≡ Some left → (executed : ℕ) × Gives old.guest new.guest executed conclusion.answer (meaning line told left)
gives_told old new line may told left conclusion held m is input =
    let files_are : may ≡ told = one_pair old.files line may told held is in
    let left_is : m.left ≡ left = one_left old.guest.left m.left left m.agrees input in (
      m.executed,
      subst (λ (i : List ℕ). Gives old.guest new.guest m.executed conclusion.answer (meaning line told i)) left_is
          (subst (λ (f : Files). Gives old.guest new.guest m.executed conclusion.answer (meaning line f m.left)) files_are m.gives),
    )

-- a line's files were read whole, and run
module _ (line : RunLine) (read : Files) (old new : Surroundings) (conclusion : Conclusion) (held : AreFilesOf (MayHold old.files) line read) (within : length read.image ≤ file_limit)
    (r : Ran old.guest new.guest line read conclusion) (files : new.files ≡ old.files) (names : AsksForFiles (Ok (lines.Run line)) conclusion.answer old.asked new.asked) (store_faults : new.store_faults ≡ old.store_faults) where
  means_where : Completes conclusion.answer → Means old.guest new.guest conclusion line read
  means_where completes = let whole = completed conclusion.answer completes in r.means whole.0 whole.1

  -- at an answer that is neither want of memory nor a device's failure
  means_at : (answer : Answer) → conclusion.answer ≡ answer → Completes answer → Means old.guest new.guest conclusion line read
  means_at answer is completes = means_where (subst (λ a. Completes a) (sym is) completes)

  -- the same where no device failed
  means_else : (answer : Answer) → conclusion.answer ≡ answer → answer ≢ answers.Memory → device_of_answer answer ≡ None → Means old.guest new.guest conclusion line read
  means_else answer is other none = r.means (λ memory. other (sym is ∙ memory)) (ap (λ a. device_of_answer a) is ∙ none)

  no_store_fault : conclusion.answer ≡ answers.StoreFault → ⊥
  no_store_fault is = store_fault-never line read within _ _ conclusion (means_else _ is (λ memory. cc) refl) is

  no_report_fault : conclusion.answer ≡ answers.ReportFault → ⊥
  no_report_fault is = report_fault-never line read within _ _ conclusion (means_else _ is (λ memory. cc) refl) is

  pub answer_of_run : IsAnswerFor (Ok (lines.Run line)) old new conclusion
  answer_of_run = record {
    headline = λ completes. λ told left is_held is_left. gives_told old new line read told left conclusion held (means_where completes) is_held is_left;
    untold = λ completes. (read, held, means_where completes);
    stopped = λ device failed. (read, held, r.stopped device failed);
    exit = λ code is. (read, held, runs-exit line read within _ _ conclusion (means_at _ is (inl (inl refl))) code is);
    silent = λ other is. absurd (cc);
    done = λ refused is. absurd (done-never line read within _ _ conclusion (means_at _ is (inr (inl refl))) refused is);
    limit = λ count is. (read, held, runs-limit line read within _ _ conclusion (means_at _ is (inl (inl refl))) count is);
    fault = λ fault count is. (read, held, runs-fault line read within _ _ conclusion (means_at _ is (inl (inl refl))) fault count is);
    image = λ fault is. (read, held, image-is line read within _ _ conclusion (means_at _ is (inl (inr refl))) fault is);
    too_long = λ is. absurd (too_long-never line read within _ _ conclusion (means_at _ is (inl (inr refl))) is);
    saved = λ fault is. (read, held, saved-is line read within _ _ conclusion (means_at _ is (inl (inr refl))) fault is);
    usage = λ bad is. absurd (usage-never line read within _ _ conclusion (means_at _ is (inr (inr refl))) bad is);
    no_command = λ bad wrong. absurd (cc);
    store_fault = record { rose = λ is. absurd (no_store_fault is); stays = λ _. store_faults };
    faults = r.faults;
    no_report_fault = no_report_fault;
    counts = r.counts;
    workers = r.workers;
    refused = r.refused;
    files = files;
    names = names;
  }
