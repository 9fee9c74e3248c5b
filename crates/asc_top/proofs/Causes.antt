-- When the answers of a file that was run come.
use Rattle.std.proofs.Common.{◌≡◌, ◌⊎◌, ℕ, ◌<◌, ◌≤◌, Bool, true, false, nat_lt, cond, List, length, Option, Some, None, Result, Ok, Err, refl, sym, ◌∙◌, ap, subst, arith, inl, inr}
use Rattle.std.proofs.lemmas.Bool.Decides.{nat_tests}
use Rattle.asc_model.specs.declared.fault.Fault.{Fault}
use Rattle.asc_model.specs.Entry.{Entry}
use Rattle.asc_calls.specs.World.{Outside}
use Rattle.asc_elf.specs.declared.fault.ElfFault.{ElfFault}
use Rattle.asc_elf.specs.Image as loader
use Rattle.asc_run.specs.declared.walk.Ended.{Ended}
use Rattle.asc_run.specs.declared.walk.Ended.TheVariants as ends
use Rattle.asc_run.specs.Execution.{Run}
use Rattle.asc_words.specs.declared.line.RunLine.{RunLine}
use Rattle.asc_words.specs.declared.answer.Answer.{Answer}
use Rattle.asc_words.specs.declared.answer.Answer.TheVariants as answers
use Rattle.asc_words.specs.declared.answer.Conclusion.{Conclusion}
use Rattle.asc_words.specs.declared.answer.Bad.{Bad}
use Rattle.asc_words.specs.declared.answer.SavedFault.{SavedFault}
use Rattle.asc_words.specs.Line.{file_limit}
use Rattle.asc_top.specs.Program.{Files, load_of, first_entries, IsNoImage, IsNoSaved, answer_at, refusal, result_of_entries, result_of_load, run_of_image, meaning, Runs}
use Rattle.asc_top.specs.Numbers.{Means}
use Rattle.asc_top.specs.Endings.{Finished, ending_of}

-- files whose image is not too long mean what its load comes to
pub meaning-within : (line : RunLine) (files : Files) (left : List ℕ) → length files.image ≤ file_limit
    → meaning line files left ≡ result_of_load line files.saved (load_of line files.image) left
unfolding meaning
meaning-within line files left within =
    let short : nat_lt file_limit (length files.image) ≡ false = grind (arith, nat_tests) in
    ap (λ (b : Bool). cond b (refusal answers.TooLong) (result_of_load line files.saved (load_of line files.image) left)) short

-- those whose image is too long are refused
pub meaning-long : (line : RunLine) (files : Files) (left : List ℕ) → file_limit < length files.image → meaning line files left ≡ refusal answers.TooLong
unfolding meaning
meaning-long line files left long =
    let is : nat_lt file_limit (length files.image) ≡ true = grind (arith, nat_tests) in
    ap (λ (b : Bool). cond b (refusal answers.TooLong) (result_of_load line files.saved (load_of line files.image) left)) is

-- the image of a load, the saved entries, and the answer of its run
record RunOf (line : RunLine) (saved : Option (List ℕ)) (result : Result loader.Image ElfFault) (left : List ℕ) (answered : Answer) : Type 0 where
  image : loader.Image
  loads : result ≡ Ok image
  entries : List Entry
  taken : first_entries image saved ≡ Ok entries
  answer : answered ≡ answer_at (run_of_image line image left).ended (run_of_image line image left).count

-- an answer of a guest that ended by itself is an image's
run_of-answer : (line : RunLine) (saved : Option (List ℕ)) (result : Result loader.Image ElfFault) (left : List ℕ) (answered : Answer) → ending_of answered ≡ Finished
    → answered ≡ (result_of_load line saved result left).answer → RunOf line saved result left answered
run_of-answer line saved (Ok image) left answered ended is = by (first_entries image saved) refl is
  where
    by : (first : Result (List Entry) SavedFault) → first_entries image saved ≡ first → answered ≡ (result_of_entries line image first left).answer → RunOf line saved (Ok image) left answered
    by (Ok entries) taken is = record { image = image; loads = refl; entries = entries; taken = taken; answer = is }
    by (Err fault) taken is = let refused = ap ending_of is in absurd (cc)
run_of-answer line saved (Err fault) left answered ended is = let refused = ap ending_of is in absurd (cc)

-- how a run ended, by its answer
end_in : Answer → Option Ended
end_in (answers.Exit code) = Some (ends.Exit code)
end_in (answers.Done refused) = None
end_in (answers.Limit count) = Some ends.Limit
end_in (answers.Fault fault count) = Some (ends.Fault fault)
end_in answers.ReadFault = Some ends.ReadFault
end_in answers.WriteFault = Some ends.WriteFault
end_in answers.ErrFault = Some ends.ErrFault
end_in (answers.Usage bad) = None
end_in (answers.Image fault) = None
end_in answers.TooLong = None
end_in (answers.InputTooLong input) = None
end_in (answers.Saved fault) = None
end_in answers.StoreFault = None
end_in answers.Memory = None
end_in answers.ReportFault = None

end_in-answer_at : (how : Ended) (count : ℕ) → end_in (answer_at how count) ≡ Some how
unfolding end_in
end_in-answer_at (ends.Exit code) count = refl
end_in-answer_at (ends.Fault fault) count = refl
end_in-answer_at ends.Limit count = refl
end_in-answer_at ends.ReadFault count = refl
end_in-answer_at ends.WriteFault count = refl
end_in-answer_at ends.ErrFault count = refl

-- the answer of a run tells how it ended
end_of : (how own : Ended) (count : ℕ) (answered : Answer) → end_in answered ≡ Some own → answered ≡ answer_at how count → how ≡ own
end_of how own count answered own_is is =
    let ends_so : end_in answered ≡ Some how = ap end_in is ∙ end_in-answer_at how count in
    cc

limit_of : (how : Ended) (count n : ℕ) → how ≡ ends.Limit → answers.Limit n ≡ answer_at how count → count ≡ n
limit_of how count n ended is =
    let limit : answers.Limit n ≡ answers.Limit count = is ∙ ap (λ (h : Ended). answer_at h count) ended in
    cc

fault_of : (how : Ended) (count n : ℕ) (f : Fault) → how ≡ ends.Fault f → answers.Fault f n ≡ answer_at how count → count ≡ n
fault_of how count n f ended is =
    let fault : answers.Fault f n ≡ answers.Fault f count = is ∙ ap (λ (h : Ended). answer_at h count) ended in
    cc

-- an answer of a load by which no run ended is that of a file that is no image, or of saved entries that are refused
record IsOfFault (result : Result loader.Image ElfFault) (answered : Answer) : Type 0 where
  fault : ElfFault
  loads : result ≡ Err fault
  answer : answered ≡ answers.Image fault

record IsOfSaved (saved : Option (List ℕ)) (result : Result loader.Image ElfFault) (answered : Answer) : Type 0 where
  image : loader.Image
  loads : result ≡ Ok image
  fault : SavedFault
  refused : first_entries image saved ≡ Err fault
  answer : answered ≡ answers.Saved fault

abbrev Unran : Option (List ℕ) → Result loader.Image ElfFault → Answer → Type 0
Unran saved result answered = IsOfFault result answered ⊎ IsOfSaved saved result answered

of_fault : (line : RunLine) (saved : Option (List ℕ)) (result : Result loader.Image ElfFault) (left : List ℕ) (answered : Answer) → end_in answered ≡ None
    → answered ≡ (result_of_load line saved result left).answer → Unran saved result answered
of_fault line saved (Err fault) left answered none is = inl (record { fault = fault; loads = refl; answer = is })
of_fault line saved (Ok image) left answered none is = by (first_entries image saved) refl is
  where
    by : (first : Result (List Entry) SavedFault) → first_entries image saved ≡ first → answered ≡ (result_of_entries line image first left).answer → Unran saved (Ok image) answered
    by (Err fault) refused is = inr (record { image = image; loads = refl; fault = fault; refused = refused; answer = is })
    by (Ok entries) taken is =
        let run = run_of_image line image left in
        let ended : end_in answered ≡ Some run.ended = ap end_in is ∙ end_in-answer_at run.ended run.count in
        absurd (cc)

module _ (line : RunLine) (files : Files) (within : length files.image ≤ file_limit) (old new : Outside) (conclusion : Conclusion) (m : Means old new conclusion line files) where
  answer : conclusion.answer ≡ (result_of_load line files.saved (load_of line files.image) m.left).answer
  answer = subst (λ r. conclusion.answer ≡ r.answer) (meaning-within line files m.left within) m.gives.answer

  runs : (P : Run → Type 0) → ending_of conclusion.answer ≡ Finished
      → ((image : loader.Image) (left : List ℕ) → conclusion.answer ≡ answer_at (run_of_image line image left).ended (run_of_image line image left).count → P (run_of_image line image left))
      → Runs old.left P line files
  runs P ended holds =
      let o = run_of-answer line files.saved (load_of line files.image) m.left conclusion.answer ended answer in
      record {
        within = within;
        image = o.image;
        loads = o.loads;
        entries = o.entries;
        taken = o.taken;
        left = m.left;
        agrees = m.agrees;
        holds = holds o.image m.left o.answer;
      }

  -- how the run of such an answer ended
  ends_as : (own : Ended) (known : Answer) → conclusion.answer ≡ known → end_in known ≡ Some own → (image : loader.Image) (left : List ℕ)
      → conclusion.answer ≡ answer_at (run_of_image line image left).ended (run_of_image line image left).count → (run_of_image line image left).ended ≡ own
  ends_as own known is own_is image left answer =
      let run = run_of_image line image left in
      end_of run.ended own run.count conclusion.answer (ap end_in is ∙ own_is) answer

  pub runs-exit : (code : ℕ) → conclusion.answer ≡ answers.Exit code → Runs old.left (λ run. run.ended ≡ ends.Exit code) line files
  unfolding end_in
  runs-exit code is = runs _ (ap ending_of is) (ends_as (ends.Exit code) (answers.Exit code) is refl)

  pub runs-limit : (count : ℕ) → conclusion.answer ≡ answers.Limit count → Runs old.left (λ run. (run.ended ≡ ends.Limit) × (run.count ≡ count)) line files
  unfolding end_in
  runs-limit count is = runs _ (ap ending_of is) (λ image left answer.
      let run = run_of_image line image left in
      let ended : run.ended ≡ ends.Limit = ends_as ends.Limit (answers.Limit count) is refl image left answer in
      (ended, limit_of run.ended run.count count ended (sym is ∙ answer)))

  pub runs-fault : (fault : Fault) (count : ℕ) → conclusion.answer ≡ answers.Fault fault count → Runs old.left (λ run. (run.ended ≡ ends.Fault fault) × (run.count ≡ count)) line files
  unfolding end_in
  runs-fault fault count is = runs _ (ap ending_of is) (λ image left answer.
      let run = run_of_image line image left in
      let ended : run.ended ≡ ends.Fault fault = ends_as (ends.Fault fault) (answers.Fault fault count) is refl image left answer in
      (ended, fault_of run.ended run.count count fault ended (sym is ∙ answer)))

  unrun : (known : Answer) → conclusion.answer ≡ known → end_in known ≡ None → Unran files.saved (load_of line files.image) conclusion.answer
  unrun known is none = of_fault line files.saved (load_of line files.image) m.left conclusion.answer (ap end_in is ∙ none) answer

  pub image-is : (fault : ElfFault) → conclusion.answer ≡ answers.Image fault → IsNoImage fault line files
  unfolding end_in
  image-is fault is = by (unrun (answers.Image fault) is refl)
    where
      by : Unran files.saved (load_of line files.image) conclusion.answer → IsNoImage fault line files
      by (inl of) = let same : of.fault ≡ fault = cc (of.answer, is) in
          record { within = within; loads = of.loads ∙ ap (λ (f : ElfFault). Err f) same }
      by (inr of) = absurd (cc (of.answer, is))

  pub saved-is : (fault : SavedFault) → conclusion.answer ≡ answers.Saved fault → IsNoSaved fault line files
  unfolding end_in
  saved-is fault is = by (unrun (answers.Saved fault) is refl)
    where
      by : Unran files.saved (load_of line files.image) conclusion.answer → IsNoSaved fault line files
      by (inl of) = absurd (cc (of.answer, is))
      by (inr of) = let same : of.fault ≡ fault = cc (of.answer, is) in
          record { within = within; image = of.image; loads = of.loads; refused = of.refused ∙ ap (λ (f : SavedFault). Err f) same }

  -- answers that no files that were read give
  never : (known : Answer) → conclusion.answer ≡ known → end_in known ≡ None → ((fault : ElfFault) → known ≡ answers.Image fault → ⊥) → ((fault : SavedFault) → known ≡ answers.Saved fault → ⊥) → ⊥
  never known is none image saved = by (unrun known is none)
    where
      by : Unran files.saved (load_of line files.image) conclusion.answer → ⊥
      by (inl of) = image of.fault (sym is ∙ of.answer)
      by (inr of) = saved of.fault (sym is ∙ of.answer)

  pub usage-never : (bad : Bad) → conclusion.answer ≡ answers.Usage bad → ⊥
  unfolding end_in
  usage-never bad is = never (answers.Usage bad) is refl (λ fault no. cc) (λ fault no. cc)

  pub too_long-never : conclusion.answer ≡ answers.TooLong → ⊥
  unfolding end_in
  too_long-never is = never answers.TooLong is refl (λ fault no. cc) (λ fault no. cc)

  pub done-never : (refused : ℕ) → conclusion.answer ≡ answers.Done refused → ⊥
  unfolding end_in
  done-never refused is = never (answers.Done refused) is refl (λ fault no. cc) (λ fault no. cc)

  pub report_fault-never : conclusion.answer ≡ answers.ReportFault → ⊥
  unfolding end_in
  report_fault-never is = never answers.ReportFault is refl (λ fault no. cc) (λ fault no. cc)

  pub store_fault-never : conclusion.answer ≡ answers.StoreFault → ⊥
  unfolding end_in
  store_fault-never is = never answers.StoreFault is refl (λ fault no. cc) (λ fault no. cc)
