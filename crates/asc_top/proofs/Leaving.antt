-- The entries that the run of a save leaves.
use Rattle.std.proofs.Common.{◌≡◌, ◌∙◌, ℕ, ◌+◌, ◌-◌, ◌^◌, ◌≤◌, false, nat_lt, Option, Some, None, List, [], ◌++◌, refl, sym, ap, subst, arith}
use Rattle.std.specs.Prelude.{if◌then◌else◌}
use Rattle.asc_model.specs.EntryFile.{AreSavable}
use Rattle.asc_model.specs.Number.{AreBytes}
use Rattle.asc_model.specs.State.{IsState}
use Rattle.asc_outside.specs.Lists.{given_number}
use Rattle.asc_elf.specs.Image as loader
use Rattle.asc_calls.specs.World.{Agrees, Outside, faults, outside}
use Rattle.asc_find.specs.Serial.{Serial}
use Rattle.asc_run.specs.Execution.{Run, device_of}
use Rattle.asc_find.specs.Finder.{Aid}
use Rattle.asc_run.specs.SerialHelper.{SerialHelper, aid_of, first_helper, told_machine}
use Rattle.asc_run.specs.SerialRun.{serial_of}
use Rattle.asc_run.specs.Walk.{Walk, world_of}
use Rattle.asc_run.proofs.Savable.{serial_runs_are_savable}
use Rattle.asc_run.proofs.Turn.{Agrees-before}
use Rattle.asc_words.specs.declared.line.RunLine.{RunLine}
use Rattle.asc_words.specs.declared.answer.Conclusion.{Conclusion}
use Rattle.asc_words.specs.declared.answer.WorkerCounts.{WorkerCounts}
use Rattle.asc_words.specs.Line.{IsRunWithin}
use Rattle.asc_top.specs.Program.{run_of_image}
use Rattle.asc_top.specs.Numbers.{counts_of, entries_of_save, guessing_of, numbers_of, recognised_by, visited_settings}
use Rattle.asc_top.specs.Ran.{HasCountedNothing, IsWalkOf, Walked}
use Rattle.asc_top.specs.Saves.{RunsToSave}
use Rattle.asc_top.specs.Answered.{RisesWithin}
use Rattle.asc_top.proofs.Serials.{IsByMachine, goes, serial_of_machine}
use Rattle.asc_top.proofs.Trials.{no_device}
use Rattle.asc_top.proofs.Walks.{rest_of}

-- what it left, and the machine that its helper tells at its end
pub record Left (line : RunLine) (image : loader.Image) (before after : ℕ) (last : Aid) : Type 0 where
  pub leaves : RunsToSave line image before after
  pub now : Serial
  pub machine : last.machine ≡ Some now
  pub content : now.content ≡ entries_of_save leaves.run

no_bytes : AreBytes []
no_bytes i = omega arith

-- what a run leaves may be written to a file
pub left_savable : (line : RunLine) (image : loader.Image) (before after : ℕ) (l : RunsToSave line image before after) → IsRunWithin line → IsState image.start → AreSavable image.start.shape (entries_of_save l.run)
left_savable line image before after l within state =
    serial_runs_are_savable line.limit image.low (loader.high_of image) image.start [] _ (guessing_of line) [] l.run.numbers state no_bytes within.span.1 (record { good = state.shape; count = omega arith; each = λ k d below. absurd (let no : ⊥ = omega (arith, below) in no) }) l.run.serial

module _ (line : RunLine) (content : List ℕ) (was : Walk) (own : IsWalkOf line (visited_settings line) content was) (now : Walk) (input : List ℕ) (output errors : ℕ) (remains : Option (List ℕ)) (put complained before after : ℕ)
    (first last : Aid) (workers : Option WorkerCounts) (conclusion : Conclusion)
    (w : Walked false was now (outside (Some input) (given_number output) (given_number errors) before (faults 0 0 0)) (outside remains (given_number put) (given_number complained) after (faults 0 0 0)) first last workers conclusion)
    (fresh : HasCountedNothing first) where
  abbrev old : Outside
  old = outside (Some input) (given_number output) (given_number errors) before (faults 0 0 0)

  abbrev new : Outside
  new = outside remains (given_number put) (given_number complained) after (faults 0 0 0)

  going : device_of w.ended ≡ None
  going = no_device (device_of w.ended) w.faults

  -- the counter rose by the steps that were executed
  steps_are : after ≡ before + w.counts.executed
  steps_are =
      let g = goes line own.image (recognised_by line) false was now own.walk_is old new first last workers conclusion w fresh in
      let f = g.goes.follows going in
      omega (arith, w.executed, w.skipped, f.steps)

  pub rises_by : RisesWithin line.limit before after
  rises_by =
      let limit : now.count ≤ line.limit = subst (λ (v : Walk). now.count ≤ v.settings.limit) own.walk_is w.limit in
      (w.counts.executed, omega (arith, w.executed, limit), steps_are)

  pub left_by : input ≡ [] → first.machine ≡ Some (serial_of own.image.start.shape (guessing_of line) []) → last.plan.refused ≡ 0 → Left line own.image before after last
  left_by none machine refused =
      let g = goes line own.image (recognised_by line) false was now own.walk_is old new first last workers conclusion w fresh in
      let f = g.goes.follows going in
      let r = rest_of (world_of now new) f.known in
      let left = f.io.taken ++ r.rest in
      let agrees : Agrees (Some input) left = Agrees-before old.left new.left f.io.taken r.rest f.does.taken r.agrees in
      let empty : left ≡ [] = sym agrees ∙ none in
      let run : Run = record { ended = w.ended; count = now.count; io = f.io } in
      let run_is : run_of_image line own.image left ≡ run = f.run r.rest r.may in
      let count_is : (run_of_image line own.image left).count ≡ now.count = ap (λ (x : Run). x.count) run_is in
      let some = serial_of_machine line own.image (recognised_by line) false was now own.walk_is old new first last workers conclusion w fresh [] machine refl left count_is (f.says r.rest r.may) refused in
      let by = subst (λ (l : List ℕ). IsByMachine line own.image (recognised_by line) false was now own.walk_is old new first last workers conclusion w fresh l []) empty some in
      record {
        leaves = record {
          run = record { numbers = numbers_of (counts_of w.counts last.plan.made last.plan.refused); serial = by.run };
          steps = steps_are;
        };
        now = by.run.now;
        machine = by.machine;
        content = refl;
      }

-- the same of a helper that is the machine of a run
module _ (line : RunLine) (content : List ℕ) (was : Walk) (own : IsWalkOf line (visited_settings line) content was) (now : Walk) (input : List ℕ) (output errors : ℕ) (remains : Option (List ℕ)) (put complained before after : ℕ)
    (helper last : SerialHelper) (conclusion : Conclusion)
    (w : Walked false was now (outside (Some input) (given_number output) (given_number errors) before (faults 0 0 0)) (outside remains (given_number put) (given_number complained) after (faults 0 0 0))
    (aid_of helper) (aid_of last) None conclusion)
    (new_is : helper ≡ first_helper own.image.start.shape (guessing_of line)) where
  new_aid : HasCountedNothing (aid_of helper)
  new_aid = record {
    jumps = ap (λ (h : SerialHelper). h.jumps) new_is;
    made = ap (λ (h : SerialHelper). h.made) new_is;
    refused = ap (λ (h : SerialHelper). h.refused) new_is;
    full = refl;
  }

  pub helper_rises : RisesWithin line.limit before after
  helper_rises = rises_by line content was own now input output errors remains put complained before after _ _ None conclusion w new_aid

  pub helper_left : input ≡ [] → last.refused ≡ 0 → (l : RunsToSave line own.image before after) × (last.machine.content ≡ entries_of_save l.run)
  helper_left none refused =
      let left = left_by line content was own now input output errors remains put complained before after _ _ None conclusion w new_aid none (ap told_machine new_is) refused in
      let told : told_machine last ≡ Some last.machine = ap (λ (n : ℕ). if nat_lt n (2 ^ 64 - 1) then Some last.machine else None) refused in
      let same : last.machine ≡ left.now = cc (told, left.machine) in
      (left.leaves, ap (λ (m : Serial). m.content) same ∙ left.content)
