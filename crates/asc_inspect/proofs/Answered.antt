-- An answer to a file is an answer to the words that ask for it.
use Rattle.std.proofs.Common.{ℕ, inl, inr, List, Option, Result, Ok, Err, IfErr, IsErrAnd, ◌≡◌, refl, ap, ◌∙◌, subst, arith}
use Rattle.asc_model.specs.State.{State}
use Rattle.asc_outside.specs.Lists.{given_number}
use Rattle.asc_outside.specs.Outside.{Blames, File, MayHold}
use Rattle.asc_calls.specs.World.{BlamesOnly, CallState, Outside, Told, World, faults, faults_after, outside, world_in}
use Rattle.asc_run.specs.declared.walk.Ended.TheVariants as ends
use Rattle.asc_words.specs.declared.answer.Bad.{Bad}
use Rattle.asc_words.specs.declared.line.LineFault.{LineFault}
use Rattle.asc_words.specs.declared.line.LineFault.TheVariants as LineFaults
use Rattle.asc_words.specs.declared.line.RunLine.{RunLine}
use Rattle.asc_inspect.specs.declared.answer.Answer.{Answer}
use Rattle.asc_inspect.specs.declared.answer.Answer.TheVariants as answers
use Rattle.asc_inspect.specs.declared.request.Question.{Question}
use Rattle.asc_inspect.specs.declared.request.Question.TheVariants.{Entry, Miss, At, Profile, Seek}
use Rattle.asc_inspect.specs.declared.request.Request.{Request}
use Rattle.asc_inspect.specs.Asked.{Asks}
use Rattle.asc_inspect.specs.Shown.{Answers, HasInputFailed, HasNoText, HasOutputFailed, Outer, Says, Starts, counted_outside, device_of_answer, device_of_result, refusal_of}

pub of-file : (words : List (List ℕ)) (files : Option (List File)) (old new : Outer) (request : Request) (content : List ℕ) (answer : Answer) → Asks words request → MayHold files request.line.image content
    → Says request content old new answer → Answers words files old new answer
of-file words files old new request content answers.Shown asks held says = (request, asks, (content, held, says))
of-file words files old new request content answers.NoStep asks held says = (request, asks, (content, held, says))
of-file words files old new request content (answers.Ended ended reached) asks held says = (request, asks, (content, held, says))
of-file words files old new request content (answers.Image fault) asks held says = (request, asks, (content, held, says))
of-file words files old new request content answers.OutFault asks held says = (request, asks, (content, held, says))
of-file words files old new request content answers.Memory asks held says = says
of-file words files old new request content answers.Usage asks held says = absurd says
of-file words files old new request content answers.TooLong asks held says = absurd says
of-file words files old new request content answers.StoreFault asks held says = absurd says

-- what may be said where there is no text
abbrev IsNoText : Answer → Type 0
IsNoText answers.Memory = Unit {0}
IsNoText answers.NoStep = Unit {0}
IsNoText (answers.Ended ended reached) = Unit {0}
IsNoText answers.Shown = ⊥
IsNoText (answers.Image fault) = ⊥
IsNoText answers.OutFault = ⊥
IsNoText answers.Usage = ⊥
IsNoText answers.TooLong = ⊥
IsNoText answers.StoreFault = ⊥

no-text : (line : RunLine) (question : Question) (start : World) (left : Option (List ℕ)) (steps : ℕ) (answer : Answer) → HasNoText line question start left steps answer → IsNoText answer
no-text line question start left steps answers.Memory none = tt
no-text line question start left steps answers.NoStep none = tt
no-text line question start left steps (answers.Ended ended reached) none = tt
no-text line (Entry visit) start left steps answers.Shown none = absurd none
no-text line (Miss visit) start left steps answers.Shown none = absurd none
no-text line (At count) start left steps answers.Shown none = absurd none
no-text line (Profile addresses) start left steps answers.Shown none = absurd none
no-text line Seek start left steps answers.Shown none = absurd none
no-text line (Entry visit) start left steps (answers.Image fault) none = absurd none
no-text line (Miss visit) start left steps (answers.Image fault) none = absurd none
no-text line (At count) start left steps (answers.Image fault) none = absurd none
no-text line (Profile addresses) start left steps (answers.Image fault) none = absurd none
no-text line Seek start left steps (answers.Image fault) none = absurd none
no-text line (Entry visit) start left steps answers.OutFault none = absurd none
no-text line (Miss visit) start left steps answers.OutFault none = absurd none
no-text line (At count) start left steps answers.OutFault none = absurd none
no-text line (Profile addresses) start left steps answers.OutFault none = absurd none
no-text line Seek start left steps answers.OutFault none = absurd none
no-text line (Entry visit) start left steps answers.Usage none = absurd none
no-text line (Miss visit) start left steps answers.Usage none = absurd none
no-text line (At count) start left steps answers.Usage none = absurd none
no-text line (Profile addresses) start left steps answers.Usage none = absurd none
no-text line Seek start left steps answers.Usage none = absurd none
no-text line (Entry visit) start left steps answers.TooLong none = absurd none
no-text line (Miss visit) start left steps answers.TooLong none = absurd none
no-text line (At count) start left steps answers.TooLong none = absurd none
no-text line (Profile addresses) start left steps answers.TooLong none = absurd none
no-text line Seek start left steps answers.TooLong none = absurd none
no-text line (Entry visit) start left steps answers.StoreFault none = absurd none
no-text line (Miss visit) start left steps answers.StoreFault none = absurd none
no-text line (At count) start left steps answers.StoreFault none = absurd none
no-text line (Profile addresses) start left steps answers.StoreFault none = absurd none
no-text line Seek start left steps answers.StoreFault none = absurd none

-- why there is no text is the answer
said : (request : Request) (content : List ℕ) (old new : Outer) (answer : Answer) → IsNoText answer → new.out ≡ old.out → Starts request content old (λ start. HasNoText request.line request.question start new.left new.steps answer)
    → Says request content old new answer
said request content old new answers.Memory is out none = out
said request content old new answers.NoStep is out none = (none, out)
said request content old new (answers.Ended ended reached) is out none = (none, out)
said request content old new answers.Shown is out none = absurd is
said request content old new (answers.Image fault) is out none = absurd is
said request content old new answers.OutFault is out none = absurd is
said request content old new answers.Usage is out none = absurd is
said request content old new answers.TooLong is out none = absurd is
said request content old new answers.StoreFault is out none = absurd is

pub of-none : (request : Request) (content : List ℕ) (old new : Outer) (answer : Answer) → new.out ≡ old.out → Starts request content old (λ start. HasNoText request.line request.question start new.left new.steps answer)
    → Says request content old new answer
of-none request content old new answer out none = said request content old new answer (no-text request.line request.question _ _ _ answer none.2) out none

-- the output is not blamed where there is no text
pub none-OutFault : (line : RunLine) (question : Question) (start : World) (left : Option (List ℕ)) (steps n : ℕ) (answer : Answer) → HasNoText line question start left steps answer → Blames (answer ≡ answers.OutFault) n n
none-OutFault line question start left steps n answer none = record {
  rose = λ is. absurd (subst IsNoText is (no-text line question start left steps answer none));
  stays = λ _. refl;
}

-- the program of an image, before it begins
pub same-start : (s t : State) (calls calls' : CallState) (o : Outside) → s ≡ t → calls ≡ calls' → world_in s calls o ≡ world_in t calls' o
same-start s t calls calls' o same also = λ i. world_in (same i) (also i) o

-- what is told of devices before the guest puts anything
pub nothing-put : (t : Told) (left : Option (List ℕ)) (out err steps input_faults : ℕ)
    → t ≡ record { left = left; out = given_number out; err = given_number err; faults = faults input_faults 0 0 } → out ≡ 0 → err ≡ 0
    → outside t.left t.out t.err steps t.faults ≡ counted_outside left steps input_faults
nothing-put t left out err steps input_faults is no_out no_err =
    ap (λ (x : Told). outside x.left x.out x.err steps x.faults) is ∙ (λ i. outside left (given_number (no_out i)) (given_number (no_err i)) steps (faults input_faults 0 0))

-- The input failed where that is answered, and else not. Outputs that are only counted do not fail.
blames-answer : (answer : Answer) (old new : ℕ) → BlamesOnly (device_of_answer answer) (faults old 0 0) (faults new 0 0) → Blames (HasInputFailed answer) old new
blames-answer (answers.Ended ends.ReadFault at) old new blamed = record { rose = λ _. ap (λ f. f.input) blamed; stays = λ no. absurd (no (at, refl)) }
blames-answer (answers.Ended ends.WriteFault at) old new blamed = record { rose = λ is. let e = is.1 in cc; stays = λ _. ap (λ f. f.input) blamed }
blames-answer (answers.Ended ends.ErrFault at) old new blamed = record { rose = λ is. let e = is.1 in cc; stays = λ _. ap (λ f. f.input) blamed }
blames-answer (answers.Ended ends.Limit at) old new blamed = record { rose = λ is. let e = is.1 in cc; stays = λ _. ap (λ f. f.input) blamed }
blames-answer (answers.Ended (ends.Exit code) at) old new blamed = record { rose = λ is. let e = is.1 in cc; stays = λ _. ap (λ f. f.input) blamed }
blames-answer (answers.Ended (ends.Fault fault) at) old new blamed = record { rose = λ is. let e = is.1 in cc; stays = λ _. ap (λ f. f.input) blamed }
blames-answer answers.Memory old new blamed = record { rose = λ is. let e = is.1 in cc; stays = λ _. ap (λ f. f.input) blamed }
blames-answer (answers.Image fault) old new blamed = record { rose = λ is. let e = is.1 in cc; stays = λ _. ap (λ f. f.input) blamed }
blames-answer answers.Shown old new blamed = record { rose = λ is. let e = is.1 in cc; stays = λ _. ap (λ f. f.input) blamed }
blames-answer answers.NoStep old new blamed = record { rose = λ is. let e = is.1 in cc; stays = λ _. ap (λ f. f.input) blamed }
blames-answer answers.Usage old new blamed = record { rose = λ is. let e = is.1 in cc; stays = λ _. ap (λ f. f.input) blamed }
blames-answer answers.TooLong old new blamed = record { rose = λ is. let e = is.1 in cc; stays = λ _. ap (λ f. f.input) blamed }
blames-answer answers.StoreFault old new blamed = record { rose = λ is. let e = is.1 in cc; stays = λ _. ap (λ f. f.input) blamed }
blames-answer answers.OutFault old new blamed = record { rose = λ is. let e = is.1 in cc; stays = λ _. ap (λ f. f.input) blamed }

pub blames-input : {T : Type 0} (r : Result T Answer) (old new : ℕ) → BlamesOnly (device_of_result r) (faults old 0 0) (faults new 0 0) → Blames (IsErrAnd r HasInputFailed) old new
blames-input (Ok done) old new blamed = record { rose = λ is. absurd is; stays = λ _. ap (λ f. f.input) blamed }
blames-input (Err answer) old new blamed = blames-answer answer old new blamed

pub no-output-failed : {T : Type 0} (r : Result T Answer) (old new : ℕ) → BlamesOnly (device_of_result r) (faults old 0 0) (faults new 0 0) → IfErr r (λ answer. HasOutputFailed answer → ⊥)
no-output-failed (Ok done) old new blamed = tt
no-output-failed (Err answer) old new blamed = λ failed.
    let after = λ (a : Answer). faults_after (device_of_answer a) (faults old 0 0) in
    elim failed.1 [
      | inl is ↦ let e : 0 ≡ 1 = ap (λ f. f.out) (blamed ∙ ap after is) in absurd (let x : ⊥ = omega (arith, e) in x)
      | inr is ↦ let e : 0 ≡ 1 = ap (λ f. f.err) (blamed ∙ ap after is) in absurd (let x : ⊥ = omega (arith, e) in x)
    ]

-- words that are refused
pub refused : (words : List (List ℕ)) (files : Option (List File)) (o : Outer) (fault : LineFault) (answer : Answer) → answer ≡ refusal_of fault
    → ((bad : Bad) → fault ≡ LineFaults.Usage bad → (request : Request) → Asks words request → ⊥) → Answers words files o o answer
refused words files o (LineFaults.Usage bad) answer is none = rw is (none bad refl, refl)
refused words files o LineFaults.Memory answer is none = rw is refl
