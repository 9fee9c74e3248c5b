-- What a walk did, as what its file means.
use Rattle.std.proofs.Common.{◌≡◌, ◌∙◌, ◌||◌, ℕ, ◌+◌, ◌≤◌, Bool, true, false, Option, Some, None, List, [], ◌++◌, IsTrue, MatchBool, Result, Ok, refl, sym, ap, subst, arith, append_assoc}
use Rattle.std.specs.Prelude.{if◌then◌else◌}
use Rattle.std.specs.Option.{is_some}
use Rattle.asc_model.specs.declared.limits.TheConstants.{MOST_ENTRIES}
use Rattle.asc_model.specs.Shape.{IsShape}
use Rattle.asc_model.specs.Entry.{Entry}
use Rattle.asc_outside.specs.Outside.{IsAtEnd}
use Rattle.asc_elf.specs.Image as loader
use Rattle.asc_calls.specs.GuestCall.{Device}
use Rattle.asc_calls.specs.World.{BlamesOnly, Outside, World, Agrees, MayCome, KnowsEnd}
use Rattle.asc_shard.specs.Content.{content_of}
use Rattle.asc_run.specs.declared.recognised.Recognised.{Recognised}
use Rattle.asc_run.specs.declared.recognised.Recognised.TheVariants.{Nowhere}
use Rattle.asc_run.specs.Execution.{Run, device_of}
use Rattle.asc_run.specs.Helped.{HasVisits}
use Rattle.asc_find.specs.Finder.{Aid}
use Rattle.asc_run.specs.Visits.{visit_rule}
use Rattle.asc_run.specs.SerialRun.{IsSerialRun}
use Rattle.asc_run.specs.Walk.{Walk, GoesHelped, new_walk, world_of}
use Rattle.asc_run.proofs.Turn.{Agrees-before}
use Rattle.asc_words.specs.declared.line.RunLine.{RunLine}
use Rattle.asc_words.specs.declared.answer.Counts.{Counts}
use Rattle.asc_words.specs.declared.answer.SavedFault.{SavedFault}
use Rattle.asc_words.specs.declared.answer.WorkerCounts.{WorkerCounts}
use Rattle.asc_words.specs.declared.answer.Conclusion.{Conclusion}
use Rattle.asc_top.specs.Program.{Files, load_of, answer_at, ProgramResult, result_of_entries, result_of_run, result_of_load, run_of_image, meaning, Gives, IsStopped}
use Rattle.asc_top.specs.Numbers.{AreNumbers, AreNumbersOf, AreTold, Means, counts_of, course_of_image, guessing_of, has_workers, numbers_of, recognised_by, reported_at, settings_of, taken_of, WorkersAreTold}
use Rattle.asc_top.specs.Ran.{AreOpened, HasCountedNothing, Ran, Walked}
use Rattle.asc_top.proofs.Causes.{meaning-within}
use Rattle.asc_top.proofs.Ends.{device_of_answer-answer_at, run-not_refused, counts-told, told_have, all_told}
use Rattle.asc_top.proofs.Serials.{few, goes as goes_so, seen}

-- an input that may come after a run: it agrees with what is told then
pub record Rest (w : World) : Type 0 where
  pub rest : List ℕ
  pub may : MayCome w rest
  pub agrees : Agrees w.left rest

rest_from : (w : World) (ended : Bool) (left : Option (List ℕ)) → w.calls.ended ≡ ended → w.left ≡ left → (IsTrue ended → IsAtEnd left) → Rest w
rest_from w true (Some told) is_ended is_left known = record {
  rest = told;
  may = subst (λ b. MatchBool b (told ≡ []) (Agrees w.left told)) (sym is_ended) (known refl);
  agrees = subst (λ l. Agrees l told) (sym is_left) refl;
}
rest_from w false (Some told) is_ended is_left known = record {
  rest = told;
  may = subst (λ b. MatchBool b (told ≡ []) (Agrees w.left told)) (sym is_ended) (subst (λ l. Agrees l told) (sym is_left) refl);
  agrees = subst (λ l. Agrees l told) (sym is_left) refl;
}
rest_from w true None is_ended is_left known = record {
  rest = [];
  may = subst (λ (b : Bool). let n : List ℕ = [] in MatchBool b (n ≡ []) (Agrees w.left [])) (sym is_ended) refl;
  agrees = subst (λ l. Agrees l []) (sym is_left) tt;
}
rest_from w false None is_ended is_left known = record {
  rest = [];
  may = subst (λ (b : Bool). let n : List ℕ = [] in MatchBool b (n ≡ []) (Agrees w.left [])) (sym is_ended) (subst (λ l. Agrees l []) (sym is_left) tt);
  agrees = subst (λ l. Agrees l []) (sym is_left) tt;
}

pub rest_of : (w : World) → KnowsEnd w → Rest w
rest_of w known = rest_from w w.calls.ended w.left refl refl known

-- a walk of a line's image, with its saved entries
module _ (line : RunLine) (files : Files) (was : Walk) (entries : List Entry) (opened : AreOpened line files was entries) (now : Walk) (old new : Outside) (first last : Aid)
    (workers : Option WorkerCounts) (conclusion : Conclusion) (w : Walked line.report was now old new first last workers conclusion) (fresh : HasCountedNothing first) where
  abbrev pub image : loader.Image
  image = opened.own.image

  abbrev pub recognised : Recognised
  recognised = (settings_of line).recognised

  abbrev pub goes : GoesHelped line.limit (visit_rule recognised) (world_of (new_walk image (settings_of line)) old) (world_of now new) first last now.count now.jumps.given w.ended
  goes = goes_so line image recognised line.report was now opened.own.walk_is old new first last workers conclusion w fresh

  abbrev told : Counts
  told = counts_of w.counts last.plan.made last.plan.refused

  abbrev own : Conclusion
  own = record { answer = answer_at w.ended now.count; counts = reported_at line.report w.ended told; workers = workers }

  abbrev pub SaysVisits : (left : List ℕ) → Type 0
  SaysVisits left = HasVisits line.limit (visit_rule recognised) image.start goes.visits first last line.limit (course_of_image image left)

  -- where the numbers are asked for, and there are no workers, they are a serial run's
  abbrev pub AreSerial : Type 0
  AreSerial = line.workers ≡ 0 → recognised ≡ recognised_by line → line.report ≡ true → (left : List ℕ) → (run_of_image line image left).count ≡ now.count
      → SaysVisits left → last.plan.refused ≡ 0
      → IsSerialRun line.limit (visit_rule (recognised_by line) (course_of_image image left)) (course_of_image image left) image.start.shape (guessing_of line) (content_of MOST_ENTRIES entries) (numbers_of told)

  -- where they are not, and there are neither workers nor saved entries, it was run plainly
  abbrev pub IsPlain : Type 0
  IsPlain = line.workers ≡ 0 → line.load ≡ None → line.report ≡ false → now.jumps.given ≡ 0

  same_address : line.report ≡ true → recognised ≡ recognised_by line
  same_address asked = ap (λ (b : Bool). if b || has_workers line || is_some line.load then recognised_by line else Nowhere) asked

  -- what its files mean, by its run
  means_run : (left : List ℕ) (run : Run) → run_of_image line image left ≡ run → meaning line files left ≡ result_of_run run
  means_run left run is = meaning-within line files left opened.within ∙ ap (λ i. result_of_load line files.saved i left) opened.own.loads
      ∙ ap (λ e. result_of_entries line image e left) opened.taken ∙ ap (λ (x : Run). result_of_run x) is

  -- the numbers that are asked for
  numbers : AreSerial → (left : List ℕ) → (run_of_image line image left).count ≡ now.count → SaysVisits left → line.report ≡ true → AreNumbers line files.saved (Ok image) left told
  numbers serial left count_is says asked =
      let same = same_address asked in
      let are : AreNumbersOf line image entries left told = record {
        of = record {
          total = w.executed ∙ sym count_is;
          visits = seen line image recognised line.report was now opened.own.walk_is old new first last workers conclusion w fresh same left says;
          few = few line image recognised line.report was now opened.own.walk_is old new first last workers conclusion w fresh;
        };
        serial = λ alone refused. serial alone same asked left count_is says refused;
      } in
      subst (λ (taken : Result (List Entry) SavedFault). AreNumbersOf line image (taken_of taken) left told) (sym opened.taken) are

  -- it did what its files mean
  means : AreSerial → IsPlain → device_of w.ended ≡ None → Means old new own line files
  means serial plain going =
      let f = goes.goes.follows going in
      let r = rest_of (world_of now new) f.known in
      let left = f.io.taken ++ r.rest in
      let run : Run = record { ended = w.ended; count = now.count; io = f.io } in
      let run_is : run_of_image line image left ≡ run = f.run r.rest r.may in
      let count_is : (run_of_image line image left).count ≡ now.count = ap (λ (x : Run). x.count) run_is in
      let means_so : meaning line files left ≡ result_of_run run = means_run left run run_is in
      let gives : Gives old new told.run.executed own.answer (result_of_run run) =
      record { answer = refl; does = f.does; most = omega (arith, w.executed); steps = omega (arith, w.executed, w.skipped, f.steps) } in
      let shown : (report : Bool) → line.report ≡ report → AreTold line files.saved (Ok image) left told.run.executed now.count (if report then Some told else None) =
      λ report. elim report as (λ b. line.report ≡ b → AreTold line files.saved (Ok image) left told.run.executed now.count (if b then Some told else None)) [
        | true ↦ λ asked. (refl, numbers serial left count_is (f.says r.rest r.may) asked)
        | false ↦ λ unasked. λ alone unloaded. omega (arith, w.executed, w.skipped, plain alone unloaded unasked)
      ] in
      let own_told : AreTold line files.saved (Ok image) left told.run.executed now.count own.counts =
      subst (λ (c : Option Counts). AreTold line files.saved (Ok image) left told.run.executed now.count c) (sym (all_told line.report w.ended told going)) (shown line.report refl) in
      record {
        left = left;
        agrees = Agrees-before old.left new.left f.io.taken r.rest f.does.taken r.agrees;
        executed = told.run.executed;
        gives = subst (λ (x : ProgramResult). Gives old new told.run.executed own.answer x) (sym means_so) gives;
        told = subst (λ (x : ProgramResult). AreTold line files.saved (load_of line files.image) left told.run.executed x.count own.counts) (sym means_so)
            (subst (λ l. AreTold line files.saved l left told.run.executed now.count own.counts) (sym opened.own.loads) own_told);
      }

  -- a device's failure stopped it
  stopped : (device : Device) → device_of w.ended ≡ Some device → IsStopped old new device line files
  stopped device failed =
      let s = goes.goes.stops device failed in
      let r = rest_of (world_of now new) s.known in
      let agrees = Agrees-before old.left new.left (s.io.taken ++ s.done.taken) r.rest s.does.taken r.agrees in
      record {
        within = opened.within;
        image = image;
        loads = opened.own.loads;
        entries = entries;
        taken = opened.taken;
        left = s.io.taken ++ (s.done.taken ++ r.rest);
        agrees = subst (λ l. Agrees old.left l) (append_assoc s.io.taken s.done.taken r.rest) agrees;
        count = now.count;
        below = s.below;
        io = s.io;
        done = s.done;
        does = s.does;
        run = s.run r.rest r.may;
        call = s.call r.rest r.may;
        begins = s.begins r.rest r.may;
        executed = told.run.executed;
        most = omega (arith, w.executed);
        steps = omega (arith, w.executed, w.skipped, s.steps);
      }

  pub ran : WorkersAreTold line own.counts workers → AreSerial → IsPlain → Ran old new line files conclusion
  ran beside serial plain =
      let device = device_of_answer-answer_at w.ended now.count in
      let limit : was.settings.limit ≡ line.limit = ap (λ (v : Walk). v.settings.limit) opened.own.walk_is in
      subst (λ (o : Conclusion). Ran old new line files o) (sym w.conclusion_is) (record {
        means = λ _ none. means serial plain (sym device ∙ none);
        stopped = λ which failed. stopped which (sym device ∙ failed);
        refused = λ refused. absurd (run-not_refused w.ended now.count refused);
        counts = counts-told Counts line.report w.ended now.count told;
        limit = told_have (λ c. c.run.executed + c.run.skipped ≤ line.limit) line.report w.ended told (omega (arith, w.executed, w.limit, limit));
        workers = beside;
        shape = λ other loaded. let same : image ≡ other = cc (opened.own.loads, loaded) in subst (λ (i : loader.Image). IsShape i.start.shape) same opened.own.good;
        faults = subst (λ d. BlamesOnly d old.faults new.faults) (sym device) w.faults;
      })
