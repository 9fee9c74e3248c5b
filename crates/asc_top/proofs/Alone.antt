-- What a walk without workers did, as a line asks.
use Rattle.std.proofs.Common.{◌≡◌, ◌&&◌, ◌||◌, true, false, Some, None, List, [], sym, ap, subst}
use Rattle.std.specs.Option.{is_some}
use Rattle.asc_model.specs.declared.limits.TheConstants.{MOST_ENTRIES}
use Rattle.asc_model.specs.Entry.{Entry}
use Rattle.asc_calls.specs.World.{Outside}
use Rattle.asc_shard.specs.Content.{content_of}
use Rattle.asc_find.specs.Finder.{Aid}
use Rattle.asc_run.specs.SerialRun.{IsSerialRun, serial_of}
use Rattle.asc_run.specs.Visits.{visit_rule}
use Rattle.asc_run.specs.Walk.{Walk}
use Rattle.asc_words.specs.declared.line.RunLine.{RunLine}
use Rattle.asc_words.specs.declared.answer.Conclusion.{Conclusion}
use Rattle.asc_top.specs.Program.{Files}
use Rattle.asc_top.specs.Numbers.{counts_of, course_of_image, guessing_of, keeps_entries, numbers_of, recognised_by, settings_of}
use Rattle.asc_top.specs.Ran.{AreOpened, HasCountedNothing, Ran, Walked}
use Rattle.asc_top.proofs.Ends.{no_workers-told}
use Rattle.asc_top.proofs.Walks.{ran}
use Rattle.asc_top.proofs.Serials.{no_kinds, unloaded, serial_of_machine, serial_of_none, plain_of_none}

-- where a line has neither saved entries nor numbers to be reported, nothing is kept
pub keeps_none : (line : RunLine) → line.load ≡ None → line.report ≡ false → keeps_entries line ≡ false
keeps_none line unnamed unasked = λ i. is_some (unnamed i) || (unasked i && (line.last || line.stride))

module _ (line : RunLine) (files : Files) (was : Walk) (entries : List Entry) (opened : AreOpened line files was entries) (now : Walk) (old new : Outside) (first last : Aid) (conclusion : Conclusion)
    (w : Walked line.report was now old new first last None conclusion) (fresh : HasCountedNothing first) (alone : line.workers ≡ 0) where
  -- with a helper that gives no jump
  pub ran_idle : keeps_entries line ≡ false → last.jumps.hits ≡ 0 → last.jumps.given ≡ 0 → last.plan.made ≡ 0 → Ran old new line files conclusion
  ran_idle none no_hit no_step no_guess =
      let empty : content_of MOST_ENTRIES [] ≡ content_of MOST_ENTRIES entries = ap (content_of MOST_ENTRIES) (sym (opened.none (unloaded line none))) in
      ran line files was entries opened now old new first last None conclusion w fresh (no_workers-told line _ alone)
      (λ _ same asked left count says refused. subst
      (λ (content : List Entry). IsSerialRun line.limit (visit_rule (recognised_by line) (course_of_image opened.own.image left)) (course_of_image opened.own.image left) opened.own.image.start.shape (guessing_of line) content
      (numbers_of (counts_of w.counts last.plan.made last.plan.refused))) empty
      (serial_of_none line opened.own.image (settings_of line).recognised line.report was now opened.own.walk_is old new first last None conclusion w fresh (no_kinds line none asked) no_hit no_guess same left count says).run)
      (λ _ _ _. plain_of_none line opened.own.image (settings_of line).recognised line.report was now opened.own.walk_is old new first last None conclusion w fresh no_step)

  -- with the machine of a serial run
  pub ran_serial : keeps_entries line ≡ true → first.machine ≡ Some (serial_of opened.own.image.start.shape (guessing_of line) (content_of MOST_ENTRIES entries)) → Ran old new line files conclusion
  ran_serial keeps machine =
      ran line files was entries opened now old new first last None conclusion w fresh (no_workers-told line _ alone)
      (λ _ same asked left count says refused.
      (serial_of_machine line opened.own.image (settings_of line).recognised line.report was now opened.own.walk_is old new first last None conclusion w fresh (content_of MOST_ENTRIES entries) machine same left count says refused).run)
      (λ _ unnamed unasked. let none = keeps_none line unnamed unasked in absurd (cc (keeps, none)))
