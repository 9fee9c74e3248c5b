-- Files that are not run.
use Rattle.std.proofs.Common.{◌≡◌, ◌∙◌, ◌≢◌, ℕ, ◌≤◌, ◌<◌, Option, Some, None, List, [], length, Ok, Err, true, false, refl, sym, ap, subst, arith, inl, inr}
use Rattle.asc_model.specs.Shape.{IsShape}
use Rattle.asc_elf.specs.declared.fault.ElfFault.{ElfFault}
use Rattle.asc_elf.specs.Image as loader
use Rattle.asc_calls.specs.World.{Outside, Agrees, BlamesOnly}
use Rattle.asc_run.proofs.Reach.{DoesIo-nothing}
use Rattle.asc_words.specs.declared.line.RunLine.{RunLine}
use Rattle.asc_words.specs.declared.answer.Answer.{Answer}
use Rattle.asc_words.specs.declared.answer.Answer.TheVariants as answers
use Rattle.asc_words.specs.declared.answer.SavedFault.{SavedFault}
use Rattle.asc_words.specs.Answer.{conclusion_of}
use Rattle.asc_words.specs.Line.{file_limit}
use Rattle.asc_top.specs.Program.{Files, Gives, ProgramResult, first_entries, image_alone, load_of, meaning, refusal, result_of_entries, result_of_load}
use Rattle.asc_top.specs.Numbers.{Means}
use Rattle.asc_top.specs.Ran.{HasNoWalk, Ran}
use Rattle.asc_top.specs.Endings.{Finished, device_of_answer, ending_of}
use Rattle.asc_top.proofs.Causes.{meaning-within, meaning-long}

-- an input that agrees with what is told
some_left : (told : Option (List ℕ)) → (left : List ℕ) × Agrees told left
some_left (Some told) = (told, refl)
some_left None = ([], tt)

-- where files are refused nothing happens
pub gives_refusal : (answered : Answer) (o : Outside) → Gives o o 0 answered (refusal answered)
gives_refusal answered o = record { answer = refl; does = DoesIo-nothing o; most = omega arith; steps = omega arith }

means_refusal : (line : RunLine) (files : Files) (answered : Answer) (o : Outside) → ((left : List ℕ) → meaning line files left ≡ refusal answered) → Means o o (conclusion_of answered) line files
means_refusal line files answered o refused =
    let input = some_left o.left in
    let is = refused input.0 in
    record {
      left = input.0;
      agrees = input.1;
      executed = 0;
      gives = subst (λ (x : ProgramResult). Gives o o 0 answered x) (sym is) (gives_refusal answered o);
      told = λ _ _. sym (ap (λ (x : ProgramResult). x.count) is);
    }

-- a file that is too long
pub means_long : (line : RunLine) (o : Outside) (files : Files) → file_limit < length files.image → Means o o (conclusion_of answers.TooLong) line files
means_long line o files long = means_refusal line files answers.TooLong o (λ left. meaning-long line files left long)

-- an answer that comes without a run
ran_not : (line : RunLine) (files : Files) (answered : Answer) (o : Outside) → device_of_answer answered ≡ None → (ending_of answered ≡ Finished → ⊥)
    → (answered ≢ answers.Memory → Means o o (conclusion_of answered) line files) → ((image : loader.Image) → load_of line files.image ≡ Ok image → IsShape image.start.shape)
    → Ran o o line files (conclusion_of answered)
ran_not line files answered o none unfinished means shape = record {
  means = λ other _. means other;
  stopped = λ device failed. absurd (cc (none, failed));
  refused = λ _. refl;
  counts = ((λ told. let no : false ≡ true = told in absurd (cc)), (λ h. absurd (unfinished h.1)));
  workers = tt;
  shape = shape;
  limit = tt;
  faults = subst (λ d. BlamesOnly d o.faults o.faults) (sym none) refl;
}

-- a file that is no image
pub ran_image : (line : RunLine) (files : Files) (fault : ElfFault) (o : Outside) → length files.image ≤ file_limit → load_of line files.image ≡ Err fault
    → Ran o o line files (conclusion_of (answers.Image fault))
ran_image line files fault o within loads =
    ran_not line files (answers.Image fault) o refl (λ is. cc)
    (λ _. means_refusal line files (answers.Image fault) o (λ left. meaning-within line files left within ∙ ap (λ i. result_of_load line files.saved i left) loads))
    (λ image loaded. absurd (cc (loads, loaded)))

-- a file of saved entries that is refused
pub ran_saved : (line : RunLine) (files : Files) (image : loader.Image) (fault : SavedFault) (o : Outside) → length files.image ≤ file_limit → load_of line files.image ≡ Ok image
    → IsShape image.start.shape → first_entries image files.saved ≡ Err fault → Ran o o line files (conclusion_of (answers.Saved fault))
ran_saved line files image fault o within loads good refused =
    ran_not line files (answers.Saved fault) o refl (λ is. cc)
    (λ _. means_refusal line files (answers.Saved fault) o
    (λ left. meaning-within line files left within ∙ ap (λ i. result_of_load line files.saved i left) loads ∙ ap (λ e. result_of_entries line image e left) refused))
    (λ other loaded. let same : image ≡ other = cc (loads, loaded) in subst (λ (i : loader.Image). IsShape i.start.shape) same good)

-- memory was wanting before they were run
pub ran_memory : (line : RunLine) (files : Files) (image : loader.Image) (o : Outside) → load_of line files.image ≡ Ok image → IsShape image.start.shape
    → Ran o o line files (conclusion_of answers.Memory)
ran_memory line files image o loads good =
    ran_not line files answers.Memory o refl (λ is. cc) (λ other. absurd (other refl))
    (λ other loaded. let same : image ≡ other = cc (loads, loaded) in subst (λ (i : loader.Image). IsShape i.start.shape) same good)

-- there is no walk of a file
pub ran_no_walk : (line : RunLine) (content : List ℕ) (answered : Answer) (o : Outside) → length content ≤ file_limit → HasNoWalk line content answered → Ran o o line (image_alone content) (conclusion_of answered)
ran_no_walk line content answered o within (inl (fault, is, loads)) =
    subst (λ (a : Answer). Ran o o line (image_alone content) (conclusion_of a)) (sym is) (ran_image line (image_alone content) fault o within loads)
ran_no_walk line content answered o within (inr (image, is, loads, good)) =
    subst (λ (a : Answer). Ran o o line (image_alone content) (conclusion_of a)) (sym is) (ran_memory line (image_alone content) image o loads good)
