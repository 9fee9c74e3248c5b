-- Runs of a batch, one more behind the others.
use Rattle.std.proofs.Common.{◌≡◌, ◌∙◌, ℕ, ◌+◌, ◌≤◌, List, [], ◌∷◌, ◌++◌, length, Option, Some, None, IfSome, refl, sym, ap, subst, arith, append_assoc}
use Rattle.std.proofs.lemmas.List.{append-nil}
use Rattle.asc_model.specs.Entry.{Entry}
use Rattle.asc_elf.specs.Image as loader
use Rattle.asc_calls.specs.GuestCall.{Io, then_io}
use Rattle.asc_calls.specs.World.{DoesIo, Outside}
use Rattle.asc_run.proofs.Growth.{then_io-nothing}
use Rattle.asc_run.proofs.Reach.{DoesIo-nothing, DoesIo-then_io}
use Rattle.asc_run.specs.SerialRun.{IsSerialRun}
use Rattle.asc_run.specs.Visits.{visit_rule}
use Rattle.asc_words.specs.Report.{batch_text}
use Rattle.asc_words.specs.declared.line.RunLine.{RunLine}
use Rattle.asc_words.specs.declared.answer.BatchRun.{BatchRun}
use Rattle.asc_words.specs.declared.answer.Counts.{Counts}
use Rattle.asc_top.specs.Program.{run_of_image}
use Rattle.asc_top.specs.Numbers.{course_of_image, guessing_of, numbers_of, recognised_by}
use Rattle.asc_top.specs.Batch.{AreRunsTold, AreSerialRuns, IsRunTold, MakesRuns, outputs_of, put_by, batch_steps}
use Rattle.asc_top.specs.BatchAnswer.{batch_texts}
use Rattle.asc_top.specs.Runner.{IsSerialFrom, Keeps, MakesRun}
use Rattle.asc_top.specs.declared.runner.Runner.{Runner}

-- ---- what they put

then_io_assoc : (a b c : Io) → then_io (then_io a b) c ≡ then_io a (then_io b c)
then_io_assoc a b c = λ i. record {
  taken = append_assoc a.taken b.taken c.taken i;
  out = append_assoc a.out b.out c.out i;
  err = append_assoc a.err b.err c.err i;
}

module _ (line : RunLine) (image : loader.Image) where
  pub outputs-more : (inputs : List (List ℕ)) (input : List ℕ)
      → outputs_of line image (inputs ++ input ∷ []) ≡ then_io (outputs_of line image inputs) (put_by (run_of_image line image input))
  outputs-more [] input = then_io-nothing (put_by (run_of_image line image input))
  outputs-more (first ∷ inputs) input =
      ap (λ (rest : Io). then_io (put_by (run_of_image line image first)) rest) (outputs-more inputs input)
      ∙ sym (then_io_assoc (put_by (run_of_image line image first)) (outputs_of line image inputs) (put_by (run_of_image line image input)))

  -- they take nothing
  pub none-taken : (inputs : List (List ℕ)) → (outputs_of line image inputs).taken ≡ []
  none-taken [] = refl
  none-taken (input ∷ inputs) = none-taken inputs

  -- ---- what is told of them

  pub told-more : (number : ℕ) (inputs : List (List ℕ)) (told : List BatchRun) (executed : ℕ) (input : List ℕ) (run : BatchRun) (here : ℕ)
      → AreRunsTold line image number inputs told executed → IsRunTold line image (number + length inputs) input run here
      → AreRunsTold line image number (inputs ++ input ∷ []) (told ++ run ∷ []) (executed + here)
  told-more number [] [] executed input run here none is =
      (here, 0, omega (arith, none), subst (λ n. IsRunTold line image n input run here) (let same : number + 0 ≡ number = omega arith in same) is, refl)
  told-more number (first ∷ inputs) (one ∷ told) executed input run here (now, rest, sum, is_first, are) is = (
    now,
    rest + here,
    omega (arith, sum),
    is_first,
    told-more (number + 1) inputs told rest input run here are (subst (λ n. IsRunTold line image n input run here) (let same : number + length (first ∷ inputs) ≡ number + 1 + length inputs = omega arith in same) is),
  )
  told-more number [] (one ∷ told) executed input run here never is = absurd never
  told-more number (first ∷ inputs) [] executed input run here never is = absurd never

  -- no more steps were executed than they have
  pub executed-most : (number : ℕ) (inputs : List (List ℕ)) (told : List BatchRun) (executed : ℕ) → AreRunsTold line image number inputs told executed → executed ≤ batch_steps line image inputs
  executed-most number [] [] executed none = omega (arith, none)
  executed-most number (first ∷ inputs) (one ∷ told) executed (now, rest, sum, is_first, are) =
      let most = is_first.most in
      omega (arith, sum, most, executed-most (number + 1) inputs told rest are)
  executed-most number [] (one ∷ told) executed never = absurd never
  executed-most number (first ∷ inputs) [] executed never = absurd never

  -- ---- their serial numbers

  -- one run from a content on
  abbrev IsSerialOne : List Entry → (input : List ℕ) → Counts → Type 0
  IsSerialOne content input counts = IsSerialRun line.limit (visit_rule (recognised_by line) (course_of_image image input)) (course_of_image image input) image.start.shape (guessing_of line) content (numbers_of counts)

  -- what holds of the content that a run leaves
  leaves-more : (content : List Entry) (input : List ℕ) (counts : Option Counts) (A B : List Entry → Type 0) → ((c : List Entry) → A c → B c)
      → IfSome counts (λ c. c.refused ≡ 0 → (serial : IsSerialOne content input c) × A serial.now.content)
      → IfSome counts (λ c. c.refused ≡ 0 → (serial : IsSerialOne content input c) × B serial.now.content)
  leaves-more content input None A B f is = tt
  leaves-more content input (Some c) A B f is = λ refused. let s = is refused in (s.0, f s.0.now.content s.1)

  pub serial-more : (content : List Entry) (number : ℕ) (inputs : List (List ℕ)) (told : List BatchRun) (executed : ℕ) (input : List ℕ) (run : BatchRun) (P Q : List Entry → Type 0)
      → AreRunsTold line image number inputs told executed → AreSerialRuns line image content inputs told P
      → ((c : List Entry) → P c → AreSerialRuns line image c (input ∷ []) (run ∷ []) Q)
      → AreSerialRuns line image content (inputs ++ input ∷ []) (told ++ run ∷ []) Q
  serial-more content number [] [] executed input run P Q none are one = one content are
  serial-more content number (first ∷ inputs) (some ∷ told) executed input run P Q (now, rest, sum, is_first, more) are one =
      leaves-more content first some.counts (λ c. AreSerialRuns line image c inputs told P) (λ c. AreSerialRuns line image c (inputs ++ input ∷ []) (told ++ run ∷ []) Q)
      (λ c left. serial-more c (number + 1) inputs told rest input run P Q more left one) are
  serial-more content number [] (some ∷ told) executed input run P Q never are one = absurd never
  serial-more content number (first ∷ inputs) [] executed input run P Q never are one = absurd never

  -- less may be said of what is left
  pub serial-less : (content : List Entry) (inputs : List (List ℕ)) (told : List BatchRun) (P : List Entry → Type 0)
      → AreSerialRuns line image content inputs told P → AreSerialRuns line image content inputs told (λ c. Unit {0})
  serial-less content [] [] P are = tt
  serial-less content [] (some ∷ told) P are = tt
  serial-less content (first ∷ inputs) [] P are = tt
  serial-less content (first ∷ inputs) (some ∷ told) P are =
      leaves-more content first some.counts (λ c. AreSerialRuns line image c inputs told P) (λ c. AreSerialRuns line image c inputs told (λ x. Unit {0}))
      (λ c left. serial-less c inputs told P left) are

  -- ---- the runs so far

  -- they were made, and served by what is now this
  pub record SoFar {R : Type 0} (inputs : List (List ℕ)) (told : List BatchRun) (runner : Runner R) (old new : Outside) : Type 0 where
    pub made : MakesRuns line image inputs told old new
    pub serial : line.workers ≡ 0 → AreSerialRuns line image [] inputs told (λ c. Keeps line image.start.shape c runner)

  pub none-so-far : {R : Type 0} (runner : Runner R) (o : Outside) → Keeps line image.start.shape [] runner → SoFar [] [] runner o o
  none-so-far runner o empty = record {
    made = record {
      executed = 0;
      told_are = refl;
      serial = λ _. tt;
      does = DoesIo-nothing o;
      steps = omega arith;
      faults = refl;
    };
    serial = λ _. empty;
  }

  pub one-more : {R : Type 0} (inputs : List (List ℕ)) (told : List BatchRun) (before after : Runner R) (old between new : Outside) (input : List ℕ) (run : BatchRun)
      → SoFar inputs told before old between → MakesRun line image (length inputs) input run between new → IsSerialFrom line image input run before after
      → SoFar (inputs ++ input ∷ []) (told ++ run ∷ []) after old new
  one-more inputs told before after old between new input run far makes from =
      let serial : line.workers ≡ 0 → AreSerialRuns line image [] (inputs ++ input ∷ []) (told ++ run ∷ []) (λ c. Keeps line image.start.shape c after) =
      λ alone. serial-more [] 0 inputs told far.made.executed input run (λ c. Keeps line image.start.shape c before) (λ c. Keeps line image.start.shape c after) far.made.told_are (far.serial alone)
      (λ c keeps. from c keeps alone) in
      record {
        made = record {
          executed = far.made.executed + makes.executed;
          told_are = told-more 0 inputs told far.made.executed input run makes.executed far.made.told_are
              (subst (λ n. IsRunTold line image n input run makes.executed) (let same : length inputs ≡ 0 + length inputs = omega arith in same) makes.told);
          serial = λ alone. serial-less [] (inputs ++ input ∷ []) (told ++ run ∷ []) (λ c. Keeps line image.start.shape c after) (serial alone);
          does = subst (λ (io : Io). DoesIo old new io) (sym (outputs-more inputs input))
              (DoesIo-then_io old between new (outputs_of line image inputs) (put_by (run_of_image line image input)) far.made.does makes.does);
          steps = omega (arith, far.made.steps, makes.steps);
          faults = makes.faults ∙ far.made.faults;
        };
        serial = serial;
      }

-- ---- their lines

pub texts-more : (told : List BatchRun) (run : BatchRun) → batch_texts (told ++ run ∷ []) ≡ batch_texts told ++ batch_text run
texts-more [] run = append-nil (batch_text run)
texts-more (one ∷ told) run = ap (λ (rest : List ℕ). batch_text one ++ rest) (texts-more told run) ∙ sym (append_assoc (batch_text one) (batch_texts told) (batch_text run))
