-- The runs of a batch, input by input.
use Rattle.std.proofs.Common.{◌≡◌, ◌∙◌, ℕ, ◌+◌, ◌-◌, ◌<◌, ◌≤◌, List, [], ◌∷◌, ◌++◌, length, take, drop, get_or, refl, sym, ap, subst, arith, append_assoc, inl, inr}
use Rattle.std.proofs.lemmas.List.{drop_more, length-take-le, take-append-drop, take_all, take_more}
use Rattle.asc_outside.specs.Outside.{PutsPart, given_after, one_more}
use Rattle.asc_outside.proofs.Streams.{given_after-given_after, given_after-nil}
use Rattle.asc_elf.specs.Image as loader
use Rattle.asc_calls.specs.World.{Outside}
use Rattle.asc_run.specs.Walk.{Walk}
use Rattle.asc_words.specs.Report.{batch_text}
use Rattle.asc_words.specs.declared.line.RunLine.{RunLine}
use Rattle.asc_words.specs.declared.answer.Answer.{Answer}
use Rattle.asc_words.specs.declared.answer.BatchRun.{BatchRun}
use Rattle.asc_top.specs.Numbers.{settings_of}
use Rattle.asc_top.specs.BatchAnswer.{batch_texts}
use Rattle.asc_top.specs.Reported.{Report}
use Rattle.asc_top.specs.Runner.{BreaksOff, BreaksRuns, EndsRuns, Keeps, MakesRun, ReportsAll, ReportsRun, IsRunnerFor}
use Rattle.asc_top.specs.declared.runner.Runner.{Runner}
use Rattle.asc_top.proofs.BatchLists.{SoFar, none-so-far, one-more, texts-more}

module _ (R : Type 0) (line : RunLine) (image : loader.Image) (inputs : List (List ℕ)) (old : Outside) (report : Report) where
  -- the first inputs were run and reported
  pub record At (number : ℕ) (left : List (List ℕ)) (walk : Walk) (runner : Runner R) (now : Outside) (reported : Report) : Type 0 where
    pub count : length left ≡ length inputs
    pub rest : (k : ℕ) (d : List ℕ) → number ≤ k → get_or left k d ≡ get_or inputs k d
    pub shape : walk.state.shape ≡ image.start.shape
    pub settings : walk.settings ≡ settings_of line
    pub runs : ℕ
    pub to_come : runs + number ≡ length inputs
    pub serves : IsRunnerFor line runs runner
    pub told : List BatchRun
    pub far : SoFar line image (take number inputs) told runner old now
    pub reports : ReportsAll told report reported

  none_told : report ≡ record report { given = given_after report.given [] }
  none_told = λ i. record report { given = sym (given_after-nil report.given) i }

  pub at_first : (walk : Walk) (runner : Runner R) → walk.state.shape ≡ image.start.shape → walk.settings ≡ settings_of line → IsRunnerFor line (length inputs) runner → Keeps line image.start.shape [] runner
      → At 0 inputs walk runner old report
  at_first walk runner shape settings serves empty = record {
    count = refl;
    rest = λ k d least. refl;
    shape = shape;
    settings = settings;
    runs = length inputs;
    to_come = omega arith;
    serves = serves;
    told = [];
    far = none-so-far line image runner old empty;
    reports = none_told;
  }

  -- the lines of one run more
  more_lines : (told : List BatchRun) (run : BatchRun) (between reported : Report) → ReportsAll told report between → reported ≡ record between { given = given_after between.given (batch_text run) }
      → ReportsAll (told ++ run ∷ []) report reported
  more_lines told run between reported all one =
      let given : given_after between.given (batch_text run) ≡ given_after report.given (batch_texts (told ++ run ∷ [])) =
      ap (λ (r : Report). given_after r.given (batch_text run)) all ∙ given_after-given_after report.given (batch_texts told) (batch_text run)
      ∙ ap (given_after report.given) (sym (texts-more told run)) in
      one ∙ (λ i. record { given = given i; faults = (all i).faults })

  pub at_next : (number : ℕ) (left after : List (List ℕ)) (input : List ℕ) (walk now_walk : Walk) (runner new_runner : Runner R) (between now : Outside) (middle reported : Report)
      → At number left walk runner between middle → number < length inputs → get_or left number input ≡ input
      → length after ≡ length left → ((k : ℕ) (d : List ℕ) → number + 1 ≤ k → get_or after k d ≡ get_or left k d)
      → now_walk.state.shape ≡ image.start.shape → now_walk.settings ≡ settings_of line → ((runs : ℕ) → IsRunnerFor line (runs + 1) runner → IsRunnerFor line runs new_runner)
      → ReportsRun line image number input runner new_runner between now middle reported
      → At (number + 1) after now_walk new_runner now reported
  at_next number left after input walk now_walk runner new_runner between now middle reported at below is same_count others shape settings serves run =
      let item : get_or inputs number input ≡ input = sym (at.rest number input (omega arith)) ∙ is in
      let taken : take (number + 1) inputs ≡ take number inputs ++ input ∷ [] = take_more inputs number input below ∙ ap (λ (x : List ℕ). take number inputs ++ x ∷ []) item in
      let long : number ≡ length (take number inputs) = sym (length-take-le number inputs (omega (arith, below))) in
      let far = one-more line image (take number inputs) at.told runner new_runner old between now input run.run at.far
      (subst (λ n. MakesRun line image n input run.run between now) long run.makes) run.serial in
      record {
        count = same_count ∙ at.count;
        rest = λ k d least. others k d least ∙ at.rest k d (omega (arith, least));
        shape = shape;
        settings = settings;
        runs = at.runs - 1;
        to_come = let to_come = at.to_come in omega (arith, to_come, below);
        serves = serves (at.runs - 1) (subst (λ n. IsRunnerFor line n runner) (let to_come = at.to_come in let same : at.runs ≡ at.runs - 1 + 1 = omega (arith, to_come, below) in same) at.serves);
        told = at.told ++ run.run ∷ [];
        far = subst (λ (l : List (List ℕ)). SoFar line image l (at.told ++ run.run ∷ []) new_runner old now) (sym taken) far;
        reports = more_lines at.told run.run middle reported at.reports run.lines;
      }

  -- one more is still to come
  pub serves_one : (number : ℕ) (left : List (List ℕ)) (walk : Walk) (runner : Runner R) (now : Outside) (reported : Report) → At number left walk runner now reported → number < length inputs
      → (runs : ℕ) × IsRunnerFor line (runs + 1) runner
  serves_one number left walk runner now reported at below =
      (at.runs - 1, subst (λ n. IsRunnerFor line n runner) (let to_come = at.to_come in let same : at.runs ≡ at.runs - 1 + 1 = omega (arith, to_come, below) in same) at.serves)

  -- all were run
  pub at_end : (number : ℕ) (left : List (List ℕ)) (walk : Walk) (runner : Runner R) (now : Outside) (reported : Report) → At number left walk runner now reported → length inputs ≤ number
      → EndsRuns line image inputs old now report reported
  at_end number left walk runner now reported at all = record {
    told = at.told;
    made = (subst (λ (l : List (List ℕ)). SoFar line image l at.told runner old now) (take_all number inputs all) at.far).made;
    reports = at.reports;
  }

  -- they were broken off
  pub at_break : (number : ℕ) (left : List (List ℕ)) (input : List ℕ) (walk : Walk) (runner new_runner : Runner R) (between now : Outside) (middle reported : Report) (answered : Answer)
      → At number left walk runner between middle → number < length inputs → get_or left number input ≡ input
      → BreaksOff line image number input runner new_runner between now middle reported answered → BreaksRuns line image inputs old now report reported answered
  at_break number left input walk runner new_runner between now middle reported answered at below is breaks = by breaks
    where
      item : get_or inputs number input ≡ input
      item = sym (at.rest number input (omega arith)) ∙ is

      split : inputs ≡ take number inputs ++ input ∷ drop (number + 1) inputs
      split = sym (take-append-drop number inputs) ∙ ap (λ (l : List (List ℕ)). take number inputs ++ l) (drop_more inputs number input below ∙ ap (λ (x : List ℕ). x ∷ drop (number + 1) inputs) item)

      by : BreaksOff line image number input runner new_runner between now middle reported answered → BreaksRuns line image inputs old now report reported answered
      by (inl (same, stops)) = record {
        told = at.told;
        how = inl (
          record {
            ran = take number inputs;
            input = input;
            rest = drop (number + 1) inputs;
            split = split;
            between = between;
            made = at.far.made;
            stops = stops;
          },
          same ∙ at.reports,
        );
      }
      by (inr cut) =
          let long : number ≡ length (take number inputs) = sym (length-take-le number inputs (omega (arith, below))) in
          let far = one-more line image (take number inputs) at.told runner new_runner old between now input cut.run at.far
          (subst (λ n. MakesRun line image n input cut.run between now) long cut.makes) cut.serial in
          record {
            told = at.told ++ cut.run ∷ [];
            how = inr (
              record {
                answer = cut.answer;
                ran = take number inputs ++ input ∷ [];
                rest = drop (number + 1) inputs;
                split = split ∙ sym (append_assoc (take number inputs) (input ∷ []) (drop (number + 1) inputs));
                made = far.made;
              },
              record {
                front = at.told;
                run = cut.run;
                told_are = refl;
                given = subst (λ (r : Report). PutsPart r.given reported.given (batch_text cut.run)) at.reports cut.given;
                faults = cut.faults ∙ ap (λ (r : Report). one_more r.faults) at.reports;
              },
            );
          }
