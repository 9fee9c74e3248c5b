-- What holds of an answer for which no guest was run.
use Rattle.std.proofs.Common.{◌≡◌, ◌<◌, None, length, Ok, true, false, refl, sym, subst}
use Rattle.asc_outside.specs.Outside.{Blames}
use Rattle.asc_elf.specs.declared.fault.ElfFault.{ElfFault}
use Rattle.asc_calls.specs.World.{BlamesOnly}
use Rattle.asc_words.specs.declared.line.Line.{Line}
use Rattle.asc_words.specs.declared.answer.Answer.{Answer}
use Rattle.asc_words.specs.declared.answer.Answer.TheVariants as answers
use Rattle.asc_words.specs.declared.answer.SavedFault.{SavedFault}
use Rattle.asc_words.specs.Answer.{conclusion_of}
use Rattle.asc_words.specs.Line.{file_limit}
use Rattle.asc_top.specs.Program.{IsNoImage, IsNoSaved}
use Rattle.asc_top.specs.Endings.{Ending, BadFile, BadWords, Finished, Stopped, Unread, Unreported, Written, Completes, device_of_answer, device_of_ending, ending_of}
use Rattle.asc_top.specs.Answered.{Asked, AsksForFiles, Surroundings, DoneUntold, HasFile, HasImage, HasWorkersOf, Headline, IsAnswerFor, IsUntouched}

-- a file is none that is run, or it was not read
abbrev pub IsUnrun : Ending → Type 0
IsUnrun BadFile = Unit {0}
IsUnrun Unread = Unit {0}
IsUnrun _ = ⊥

no_device : (kind : Ending) → IsUnrun kind → device_of_ending kind ≡ None
no_device BadFile unrun = refl
no_device Unread unrun = refl
no_device Finished unrun = absurd unrun
no_device Written unrun = absurd unrun
no_device (Stopped device) unrun = absurd unrun
no_device BadWords unrun = absurd unrun
no_device Unreported unrun = absurd unrun

-- what is to be known of such an answer
pub record Refuses (asked : Asked) (old new : Surroundings) (answered : Answer) : Type 0 where
  pub unrun : IsUnrun (ending_of answered)
  pub line : Line
  pub is : asked ≡ Ok line
  pub faults : new.guest.faults ≡ old.guest.faults
  pub headline : Headline asked old new answered
  pub untold : Completes answered → DoneUntold asked old new (conclusion_of answered)
  pub image : (fault : ElfFault) → answered ≡ answers.Image fault → HasImage asked old (λ told. IsNoImage fault)
  pub too_long : answered ≡ answers.TooLong → HasFile asked old (λ line files. file_limit < length files.image)
  pub saved : (fault : SavedFault) → answered ≡ answers.Saved fault → HasFile asked old (IsNoSaved fault)
  pub store_fault : Blames (answered ≡ answers.StoreFault) old.store_faults new.store_faults
  pub workers : HasWorkersOf asked (conclusion_of answered)
  pub refused : IsUntouched asked answered old.guest new.guest
  pub files : new.files ≡ old.files
  pub names : AsksForFiles asked answered old.asked new.asked

module _ (asked : Asked) (old new : Surroundings) (answered : Answer) (r : Refuses asked old new answered) where
  known : (other : Answer) → answered ≡ other → IsUnrun (ending_of other)
  known other is = subst (λ a. IsUnrun (ending_of a)) is r.unrun

  none : device_of_answer answered ≡ None
  none = no_device (ending_of answered) r.unrun

  pub answer_of_refusal : IsAnswerFor asked old new (conclusion_of answered)
  answer_of_refusal = record {
    headline = r.headline;
    untold = r.untold;
    stopped = λ device failed. absurd (cc (failed, none));
    exit = λ code is. absurd (known _ is);
    silent = λ line is finished. subst IsUnrun finished r.unrun;
    done = λ refused is. absurd (known _ is);
    limit = λ count is. absurd (known _ is);
    fault = λ fault count is. absurd (known _ is);
    image = r.image;
    too_long = r.too_long;
    saved = r.saved;
    usage = λ bad is. absurd (known _ is);
    no_command = λ bad wrong. let line = r.is in absurd (cc (line, wrong));
    store_fault = r.store_fault;
    faults = subst (λ d. BlamesOnly d old.guest.faults new.guest.faults) (sym none) r.faults;
    no_report_fault = λ is. known _ is;
    counts = ((λ told. let no : false ≡ true = told in absurd (cc)), (λ h. absurd (subst IsUnrun h.1 r.unrun)));
    workers = r.workers;
    refused = λ _. r.refused;
    files = r.files;
    names = r.names;
  }
