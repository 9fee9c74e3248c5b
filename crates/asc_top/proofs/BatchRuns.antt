-- What one run of a batch did.
use Rattle.std.proofs.Common.{◌≡◌, ◌∙◌, ◌↔◌, ℕ, ◌+◌, ◌-◌, ◌^◌, ◌≤◌, ◌||◌, Bool, true, false, Option, Some, None, List, [], ◌∷◌, ◌++◌, length, Ok, IsSome, IsTrue, IfSome, refl, sym, ap, subst, arith, append_assoc}
use Rattle.std.specs.Prelude.{if◌then◌else◌, nat_lt}
use Rattle.std.specs.Option.{is_some}
use Rattle.asc_model.specs.Entry.{Entry}
use Rattle.asc_model.specs.State.{State}
use Rattle.asc_elf.specs.Image as loader
use Rattle.asc_outside.specs.Outside.{given_after}
use Rattle.asc_calls.specs.GuestCall.{Device, Io}
use Rattle.asc_calls.specs.World.{Agrees, BlamesOnly, DoesIo, Outside}
use Rattle.asc_find.specs.Serial.{Serial, after_tasks, visited}
use Rattle.asc_run.specs.declared.recognised.Recognised.{Recognised}
use Rattle.asc_run.specs.declared.recognised.Recognised.TheVariants.{Nowhere}
use Rattle.asc_run.specs.Execution.{Off, On, Progress, Run, device_of}
use Rattle.asc_run.specs.Helped.{HasVisits, IsSerial, SerialAt}
use Rattle.asc_find.specs.Finder.{Aid}
use Rattle.asc_run.specs.Visits.{Course, Visit, visit_rule}
use Rattle.asc_run.specs.SerialRun.{IsSerialRun, serial_of}
use Rattle.asc_run.specs.SerialHelper.{SerialHelper, told_machine}
use Rattle.asc_run.specs.Walk.{GoesHelped, Walk, new_walk, world_of}
use Rattle.asc_run.proofs.Turn.{Agrees-before}
use Rattle.asc_words.specs.Line.{file_limit}
use Rattle.asc_words.specs.declared.line.RunLine.{RunLine}
use Rattle.asc_words.specs.declared.answer.BatchRun.{BatchRun}
use Rattle.asc_words.specs.declared.answer.Counts.{Counts}
use Rattle.asc_words.specs.declared.answer.Conclusion.{Conclusion}
use Rattle.asc_words.specs.declared.answer.RunEnd.{RunEnd}
use Rattle.asc_words.specs.declared.answer.RunEnd.TheVariants as run_ends
use Rattle.asc_top.specs.Program.{IsStopped, answer_at, image_alone, load_of, run_of_image}
use Rattle.asc_top.specs.Numbers.{AreCountsOf, WorkersAreTold, counts_of, course_of_image, guessing_of, has_workers, keeps_entries, numbers_of, recognised_by, settings_of}
use Rattle.asc_top.specs.Endings.{device_of_answer}
use Rattle.asc_top.specs.Ran.{HasCountedNothing, Walked}
use Rattle.asc_top.specs.Batch.{AreBatchCounts, IsRunTold, answer_of}
use Rattle.asc_top.specs.Runner.{IsHelpOf, IsSerialFrom, Keeps, MakesRun, IsRunnerFor, StopsRun}
use Rattle.asc_top.specs.declared.runner.Runner.{Runner}
use Rattle.asc_top.specs.declared.runner.Runner.TheVariants.{Plain, Alone, Beside}
use Rattle.asc_top.proofs.Alone.{keeps_none}
use Rattle.asc_top.proofs.Ends.{all_told, device_of_answer-answer_at}
use Rattle.asc_top.proofs.Serials.{few, goes as goes_so, no_kinds, plain_of_none, seen, serial_of_machine, serial_of_none}
use Rattle.asc_top.proofs.Walks.{rest_of}

-- a helper that tells a machine tells this one
machine_in : (is_told : Bool) (x y : Serial) → (if is_told then Some x else None) ≡ Some y → x ≡ y
machine_in true x y is = cc
machine_in false x y is = absurd (cc)

-- a machine keeps its shape and what it guesses
abbrev Stays : (old new : Serial) → Type 0
Stays old new = (new.shape ≡ old.shape) × (new.guessing ≡ old.guessing)

tasks-same : (m : Serial) (number : ℕ) (last : Option State) (now : State) → Stays m (after_tasks m number last now)
tasks-same m number None now = (refl, refl)
tasks-same m number (Some last) now = (refl, refl)

visited-same : (m : Serial) (number : ℕ) (now : State) → Stays m (visited number now m)
unfolding visited
visited-same m number now = tasks-same m number m.last now

at-same : (limit number : ℕ) (v : Visit) (p : Progress) (m after : Serial) → SerialAt limit number v p m after → Stays m after
at-same limit number v (On position) m after at = subst (λ (x : Serial). Stays m x) (sym at.0) (visited-same m number position.state)
at-same limit number v (Off count ended last) m after at = absurd at

serial-same : (limit : ℕ) (run : Course) (first : Serial) (visits : List Visit) (now : Serial) (made : ℕ) → IsSerial limit run first visits now made → Stays first now
serial-same limit run first [] now made serial = subst (λ (x : Serial). Stays first x) (sym serial.0) (refl, refl)
serial-same limit run first (v ∷ before) now made serial =
    let earlier = serial-same limit run first before serial.0 serial.1 serial.2 in
    let here = at-same limit (length before + 1) v (run v.at) serial.0 now serial.3.0 in
    (here.0 ∙ earlier.0, here.1 ∙ earlier.1)

-- the run of an image over an input, of which this was told
module _ (line : RunLine) (image : loader.Image) (input : List ℕ) (was now : Walk) (is : was ≡ new_walk image (settings_of line)) (old new : Outside) (told_input : old.left ≡ Some input)
    (first last : Aid) (conclusion : Conclusion) (w : Walked line.report was now old new first last conclusion.workers conclusion) (fresh : HasCountedNothing first) where
  abbrev recognised : Recognised
  recognised = (settings_of line).recognised

  abbrev pub goes : GoesHelped line.limit (visit_rule recognised) (world_of (new_walk image (settings_of line)) old) (world_of now new) first last now.count now.jumps.given w.ended
  goes = goes_so line image recognised line.report was now is old new first last conclusion.workers conclusion w fresh

  abbrev told : Counts
  told = counts_of w.counts last.plan.made last.plan.refused

  abbrev SaysVisits : (left : List ℕ) → Type 0
  SaysVisits left = HasVisits line.limit (visit_rule recognised) image.start goes.visits first last line.limit (course_of_image image left)

  -- its plain run, and what the walk did and says of it
  pub record IsMade : Type 0 where
    pub io : Io
    pub run_is : run_of_image line image input ≡ record { ended = w.ended; count = now.count; io = io }
    pub does : DoesIo old new io
    pub says : SaysVisits input
    pub steps : new.steps + now.jumps.given ≡ old.steps + now.count

  pub made : device_of w.ended ≡ None → IsMade
  made going =
      let f = goes.goes.follows going in
      let r = rest_of (world_of now new) f.known in
      let left = f.io.taken ++ r.rest in
      let agrees : Agrees (Some input) left = subst (λ l. Agrees l left) told_input (Agrees-before old.left new.left f.io.taken r.rest f.does.taken r.agrees) in
      record {
        io = f.io;
        run_is = ap (λ l. run_of_image line image l) agrees ∙ f.run r.rest r.may;
        does = f.does;
        says = subst SaysVisits (sym agrees) (f.says r.rest r.may);
        steps = f.steps;
      }

  same_address : line.report ≡ true → recognised ≡ recognised_by line
  same_address asked = ap (λ (b : Bool). if b || has_workers line || is_some line.load then recognised_by line else Nowhere) asked

  -- where no device failed, the numbers are told that are asked for
  counts_are : device_of w.ended ≡ None → conclusion.counts ≡ (if line.report then Some told else None)
  counts_are going = ap (λ (o : Conclusion). o.counts) w.conclusion_is ∙ all_told line.report w.ended told going

  answer_is : conclusion.answer ≡ answer_at w.ended now.count
  answer_is = ap (λ (o : Conclusion). o.answer) w.conclusion_is

  counts_so : (m : IsMade) → line.report ≡ true → AreCountsOf line image input told
  counts_so m asked =
      let count_is : (run_of_image line image input).count ≡ now.count = ap (λ (x : Run). x.count) m.run_is in
      record {
        total = w.executed ∙ sym count_is;
        visits = seen line image recognised line.report was now is old new first last conclusion.workers conclusion w fresh (same_address asked) input m.says;
        few = few line image recognised line.report was now is old new first last conclusion.workers conclusion w fresh;
      }

  -- nothing is jumped over where nobody sees it
  abbrev pub IsPlain : Type 0
  IsPlain = line.workers ≡ 0 → line.report ≡ false → now.jumps.given ≡ 0

  told_counts : (m : IsMade) → IsPlain → (report : Bool) → line.report ≡ report → AreBatchCounts line image input told.run.executed (if report then Some told else None)
  told_counts m plain true asked = (refl, counts_so m asked)
  told_counts m plain false unasked = λ alone.
      let count_is : (run_of_image line image input).count ≡ now.count = ap (λ (x : Run). x.count) m.run_is in
      omega (arith, w.executed, w.skipped, plain alone unasked, count_is)

  told_asked : (report : Bool) → line.report ≡ report → IsSome (if report then Some told else None) ↔ IsTrue line.report
  told_asked true asked = ((λ _. asked), (λ _. refl))
  told_asked false unasked = ((λ some. let no : false ≡ true = some in absurd (cc)), (λ asked. absurd (cc (asked, unasked))))

  -- what is told of it
  pub told_so : (number : ℕ) (run : BatchRun) → run.number ≡ number → run.steps ≡ now.count → run.counts ≡ conclusion.counts → run.workers ≡ conclusion.workers → answer_of run.end run.steps ≡ conclusion.answer
      → WorkersAreTold line conclusion.counts conclusion.workers → IsPlain → (going : device_of w.ended ≡ None) → IsRunTold line image number input run told.run.executed
  told_so number run number_is steps_is counts_is workers_is answers workers plain going =
      let m = made going in
      let count_is : (run_of_image line image input).count ≡ now.count = ap (λ (x : Run). x.count) m.run_is in
      let numbers : run.counts ≡ (if line.report then Some told else None) = counts_is ∙ counts_are going in
      record {
        number_is = number_is;
        steps = steps_is ∙ sym count_is;
        end_is = answers ∙ answer_is ∙ (λ i. answer_at (sym m.run_is i).ended (sym m.run_is i).count);
        most = omega (arith, w.executed, count_is);
        asked = subst (λ (c : Option Counts). IsSome c ↔ IsTrue line.report) (sym numbers) (told_asked line.report refl);
        counts = subst (λ (c : Option Counts). AreBatchCounts line image input told.run.executed c) (sym numbers) (told_counts m plain line.report refl);
        workers = subst (λ (c : Option Counts). WorkersAreTold line c run.workers) (sym counts_is) (subst (λ x. WorkersAreTold line conclusion.counts x) (sym workers_is) workers);
      }

  -- what it did
  pub makes_run : (number : ℕ) (run : BatchRun) → run.number ≡ number → run.steps ≡ now.count → run.counts ≡ conclusion.counts → run.workers ≡ conclusion.workers → answer_of run.end run.steps ≡ conclusion.answer
      → WorkersAreTold line conclusion.counts conclusion.workers → IsPlain → device_of w.ended ≡ None → MakesRun line image number input run (record old { left = None }) (record new { left = None })
  makes_run number run number_is steps_is counts_is workers_is answers workers plain going =
      let m = made going in
      let io_is : m.io ≡ (run_of_image line image input).io = ap (λ (x : Run). x.io) (sym m.run_is) in
      record {
        executed = told.run.executed;
        told = told_so number run number_is steps_is counts_is workers_is answers workers plain going;
        does = record {
          taken = tt;
          out = m.does.out ∙ ap (λ (x : Io). given_after old.out x.out) io_is;
          err = m.does.err ∙ ap (λ (x : Io). given_after old.err x.err) io_is;
        };
        steps = omega (arith, w.executed, w.skipped, m.steps);
        faults = subst (λ d. BlamesOnly d old.faults new.faults) going w.faults;
      }

  -- its serial numbers from a content on, and what holds of the content that it leaves
  abbrev SerialFrom : (content : List Entry) → (P : List Entry → Type 0) → Type 0
  SerialFrom content P = line.report ≡ true → device_of w.ended ≡ None → last.plan.refused ≡ 0
      → (serial : IsSerialRun line.limit (visit_rule (recognised_by line) (course_of_image image input)) (course_of_image image input) image.start.shape (guessing_of line) content (numbers_of told))
      × P serial.now.content

  -- the same of the numbers that are told
  abbrev ToldFrom : (content : List Entry) → (P : List Entry → Type 0) → Option Counts → Type 0
  ToldFrom content P c = IfSome c (λ counts. counts.refused ≡ 0
      → (serial : IsSerialRun line.limit (visit_rule (recognised_by line) (course_of_image image input)) (course_of_image image input) image.start.shape (guessing_of line) content (numbers_of counts))
      × P serial.now.content)

  told_from : (content : List Entry) (P : List Entry → Type 0) (report : Bool) → line.report ≡ report → device_of w.ended ≡ None → SerialFrom content P → ToldFrom content P (if report then Some told else None)
  told_from content P true asked going serial = λ refused. serial asked going refused
  told_from content P false unasked going serial = tt

  -- with the machine of a serial run
  serial_of_helper : (content : List Entry) (after : SerialHelper) → first.machine ≡ Some (serial_of image.start.shape (guessing_of line) content) → last.machine ≡ told_machine after
      → SerialFrom content (λ c. (after.machine.shape ≡ image.start.shape) × (after.machine.guessing ≡ guessing_of line) × (after.machine.content ≡ c))
  serial_of_helper content after machine tells asked going refused =
      let m = made going in
      let count_is : (run_of_image line image input).count ≡ now.count = ap (λ (x : Run). x.count) m.run_is in
      let by = serial_of_machine line image recognised line.report was now is old new first last conclusion.workers conclusion w fresh content machine (same_address asked) input count_is m.says refused in
      let same : after.machine ≡ by.run.now = machine_in (nat_lt after.refused (2 ^ 64 - 1)) after.machine by.run.now (sym tells ∙ by.machine) in
      let still = serial-same line.limit (course_of_image image input) (serial_of image.start.shape (guessing_of line) content) by.run.visits by.run.now _ by.run.serial in
      (by.run, (ap (λ (x : Serial). x.shape) same ∙ still.0, ap (λ (x : Serial). x.guessing) same ∙ still.1, ap (λ (x : Serial). x.content) same))

  -- with a helper that gives no jump
  serial_of_idle : keeps_entries line ≡ false → last.jumps.hits ≡ 0 → last.plan.made ≡ 0 → SerialFrom [] (λ c. c ≡ [])
  serial_of_idle none no_hit no_guess asked going refused =
      let m = made going in
      let count_is : (run_of_image line image input).count ≡ now.count = ap (λ (x : Run). x.count) m.run_is in
      let by = serial_of_none line image recognised line.report was now is old new first last conclusion.workers conclusion w fresh (no_kinds line none asked) no_hit no_guess (same_address asked) input count_is m.says in
      (by.run, by.empty)

  -- by what serves it
  pub plain_by : {R : Type 0} (before after : Runner R) (runs : ℕ) → IsRunnerFor line runs before → IsHelpOf before after first last → IsPlain
  plain_by Plain after runs serves help = λ _ _. plain_of_none line image recognised line.report was now is old new first last conclusion.workers conclusion w fresh help.1
  plain_by (Alone helper) after runs serves help = λ _ unasked. let none = keeps_none line serves.0 unasked in let keeps = serves.2 in absurd (cc (none, keeps))
  plain_by (Beside crew) after runs serves help = λ alone _. let some = serves.0 in absurd (let no : ⊥ = omega (arith, alone, some) in no)

  serial_by : {R : Type 0} (before after : Runner R) (runs : ℕ) (content : List Entry) → IsRunnerFor line runs before → IsHelpOf before after first last → Keeps line image.start.shape content before → line.workers ≡ 0
      → SerialFrom content (λ c. Keeps line image.start.shape c after)
  serial_by {R = R} Plain after runs content serves help keeps alone =
      subst (λ (r : Runner R). SerialFrom content (λ c. Keeps line image.start.shape c r)) (sym help.3)
      (subst (λ (x : List Entry). SerialFrom x (λ c. c ≡ [])) (sym keeps) (serial_of_idle serves.2 help.0 help.2))
  serial_by (Alone helper) (Alone a) runs content serves help keeps alone =
      serial_of_helper content a (help.0 ∙ (λ i. Some (serial_of (keeps.0 i) (keeps.1 i) (keeps.2 i)))) help.1
  serial_by (Alone helper) Plain runs content serves help keeps alone = absurd help
  serial_by (Alone helper) (Beside crew) runs content serves help keeps alone = absurd help
  serial_by (Beside crew) after runs content serves help keeps alone = let some = serves.0 in absurd (let no : ⊥ = omega (arith, alone, some) in no)

  pub serial_from : {R : Type 0} (before after : Runner R) (runs : ℕ) (run : BatchRun) → IsRunnerFor line runs before → IsHelpOf before after first last → run.counts ≡ conclusion.counts → device_of w.ended ≡ None
      → IsSerialFrom line image input run before after
  serial_from before after runs run serves help counts_is going = λ content keeps alone.
      subst (λ (c : Option Counts). ToldFrom content (λ x. Keeps line image.start.shape x after) c) (sym (counts_is ∙ counts_are going))
      (told_from content (λ x. Keeps line image.start.shape x after) line.report refl going (serial_by before after runs content serves help keeps alone))

  -- a device failed under it
  pub stops_run : (device : Device) → device_of w.ended ≡ Some device → StopsRun line image input (record old { left = None }) (record new { left = None }) conclusion.answer
  stops_run device failed = record {
    device = device;
    answer = ap device_of_answer answer_is ∙ device_of_answer-answer_at w.ended now.count ∙ failed;
    left = new.left;
    stopped = λ content within loads. stopped content within loads;
    faults = subst (λ d. BlamesOnly d old.faults new.faults) failed w.faults;
  }
    where
      stopped : (content : List ℕ) → length content ≤ file_limit → load_of line content ≡ Ok image → IsStopped (record old { left = Some input }) new device line (image_alone content)
      stopped content within loads =
          let s = goes.goes.stops device failed in
          let r = rest_of (world_of now new) s.known in
          let agrees = Agrees-before old.left new.left (s.io.taken ++ s.done.taken) r.rest s.does.taken r.agrees in
          let whole : IsStopped old new device line (image_alone content) = record {
            within = within;
            image = image;
            loads = loads;
            entries = [];
            taken = refl;
            left = s.io.taken ++ (s.done.taken ++ r.rest);
            agrees = subst (λ l. Agrees old.left l) (append_assoc s.io.taken s.done.taken r.rest) agrees;
            count = now.count;
            below = s.below;
            io = s.io;
            done = s.done;
            does = s.does;
            run = s.run r.rest r.may;
            call = s.call r.rest r.may;
            begins = s.begins r.rest r.may;
            executed = told.run.executed;
            most = omega (arith, w.executed);
            steps = omega (arith, w.executed, w.skipped, s.steps);
          } in
          subst (λ (o : Outside). IsStopped o new device line (image_alone content)) (λ i. record old { left = told_input i }) whole

  -- what its answer tells of its end
  ended_by : device_of_answer conclusion.answer ≡ device_of w.ended
  ended_by = ap device_of_answer answer_is ∙ device_of_answer-answer_at w.ended now.count

  pub answer_stops : (device : Device) → device_of_answer conclusion.answer ≡ Some device → StopsRun line image input (record old { left = None }) (record new { left = None }) conclusion.answer
  answer_stops device failed = stops_run device (sym ended_by ∙ failed)

  pub answer_going : (end : RunEnd) (steps : ℕ) → answer_of end steps ≡ conclusion.answer → device_of w.ended ≡ None
  answer_going end steps is = sym ended_by ∙ ap device_of_answer (sym is) ∙ no_device end
    where
      no_device : (end : RunEnd) → device_of_answer (answer_of end steps) ≡ None
      no_device (run_ends.Exit code) = refl
      no_device run_ends.Limit = refl
      no_device (run_ends.Fault fault) = refl

  -- a run that is served so, and of which this is told
  module _ (R : Type 0) (before after : Runner R) (runs : ℕ) (serves : IsRunnerFor line runs before) (help : IsHelpOf before after first last) (workers : WorkersAreTold line conclusion.counts conclusion.workers)
      (number steps : ℕ) (run : BatchRun) (run_is : run ≡ record { number = number; end = run.end; steps = steps; counts = conclusion.counts; workers = conclusion.workers })
      (answers_so : answer_of run.end steps ≡ conclusion.answer) (steps_are : steps ≡ now.count) where
    going : device_of w.ended ≡ None
    going = answer_going run.end steps answers_so

    pub made_run : MakesRun line image number input run (record old { left = None }) (record new { left = None })
    made_run =
        let steps_is : run.steps ≡ steps = ap (λ (r : BatchRun). r.steps) run_is in
        makes_run number run (ap (λ (r : BatchRun). r.number) run_is) (steps_is ∙ steps_are) (ap (λ (r : BatchRun). r.counts) run_is) (ap (λ (r : BatchRun). r.workers) run_is)
        (ap (λ n. answer_of run.end n) steps_is ∙ answers_so) workers (plain_by before after runs serves help) going

    pub made_serial : IsSerialFrom line image input run before after
    made_serial = serial_from before after runs run serves help (ap (λ (r : BatchRun). r.counts) run_is) going
