-- The numbers of a walk with a new helper are those of its visits, and of a serial run.
use Rattle.std.proofs.Common.{◌≡◌, ◌∙◌, ℕ, ◌+◌, ◌*◌, ◌≤◌, ◌&&◌, ◌||◌, Bool, true, false, Option, Some, None, List, [], refl, sym, ap, subst, arith}
use Rattle.std.specs.Option.{is_some}
use Rattle.asc_model.specs.declared.limits.TheConstants.{MOST_GUESSES}
use Rattle.asc_model.specs.Entry.{Entry}
use Rattle.asc_elf.specs.Image as loader
use Rattle.asc_calls.specs.World.{Outside}
use Rattle.asc_find.specs.Finder.{Aid, Jumps}
use Rattle.asc_run.specs.declared.recognised.Recognised.{Recognised}
use Rattle.asc_run.specs.declared.walk.Settings.{Settings}
use Rattle.asc_run.specs.Execution.{exec}
use Rattle.asc_run.specs.Helped.{HasVisits, IsSerial}
use Rattle.asc_run.specs.Visits.{AreVisits, visit_rule, jumps_of}
use Rattle.asc_find.specs.Serial.{kinds_of}
use Rattle.asc_run.specs.SerialRun.{IsSerialRun, serial_of}
use Rattle.asc_run.specs.Walk.{GoesHelped, Walk, new_walk, jumps, world_of}
use Rattle.asc_run.proofs.Seeings.{visits-asked}
use Rattle.asc_words.specs.declared.line.RunLine.{RunLine}
use Rattle.asc_words.specs.declared.answer.Counts.{Counts}
use Rattle.asc_words.specs.declared.answer.Conclusion.{Conclusion}
use Rattle.asc_words.specs.declared.answer.WorkerCounts.{WorkerCounts}
use Rattle.asc_top.specs.Program.{run_of_image}
use Rattle.asc_top.specs.Numbers.{AreOfVisits, counts_of, course_of_image, guessing_of, keeps_entries, numbers_of, recognised_by}
use Rattle.asc_top.specs.Ran.{HasCountedNothing, Walked}
use Rattle.asc_top.proofs.Unguessed.{idles, none_given}

-- where no entries are to be kept none are saved, and of numbers that are asked for no kind of guess is on
no_kind : (some report last stride : Bool) → (some || (report && (last || stride))) ≡ false → report ≡ true → (last ≡ false) × (stride ≡ false)
no_kind true report last stride none asked = absurd (cc)
no_kind false false last stride none asked = absurd (cc)
no_kind false true true stride none asked = absurd (cc)
no_kind false true false true none asked = absurd (cc)
no_kind false true false false none asked = (refl, refl)

pub no_kinds : (line : RunLine) → keeps_entries line ≡ false → line.report ≡ true → kinds_of (guessing_of line) ≡ []
no_kinds line none asked =
    let off = no_kind (is_some line.load) line.report line.last line.stride none asked in
    λ i. kinds_of (record (guessing_of line) { last = off.0 i; stride = off.1 i })

no_load : (load : Option (List ℕ)) (rest : Bool) → (is_some load || rest) ≡ false → load ≡ None
no_load None rest none = refl
no_load (Some name) rest none = absurd (cc)

pub unloaded : (line : RunLine) → keeps_entries line ≡ false → line.load ≡ None
unloaded line none = no_load line.load _ none

-- as far as a line says, with visits at these addresses
abbrev pub settings_at : RunLine → Recognised → Settings
settings_at line recognised = record { limit = line.limit; recognised = recognised }

-- a walk from an image's start
module _ (line : RunLine) (image : loader.Image) (recognised : Recognised) (is_asked : Bool) (was now : Walk) (is : was ≡ new_walk image (settings_at line recognised)) (old new : Outside) (first last : Aid)
    (workers : Option WorkerCounts) (conclusion : Conclusion) (w : Walked is_asked was now old new first last workers conclusion) (fresh : HasCountedNothing first) where
  pub goes : GoesHelped line.limit (visit_rule recognised) (world_of (new_walk image (settings_at line recognised)) old) (world_of now new) first last now.count now.jumps.given w.ended
  goes = subst (λ (v : Walk). GoesHelped v.settings.limit (visit_rule v.settings.recognised) (world_of v old) (world_of now new) first last now.count now.jumps.given w.ended) is w.goes

  abbrev pub told : Counts
  told = counts_of w.counts last.plan.made last.plan.refused

  -- what the walk says of its run over an input
  abbrev pub SaysVisits : (left : List ℕ) → Type 0
  SaysVisits left = HasVisits line.limit (visit_rule recognised) image.start goes.visits first last line.limit (course_of_image image left)

  counted : jumps_of goes.visits (jumps 0 0 0) ≡ jumps w.counts.asked w.counts.skipped w.counts.hits
  counted =
      let g = goes in
      let asked : first.jumps.asked + now.jumps.asked ≡ w.counts.asked = omega (arith, w.asked, ap (λ (t : Jumps). t.asked) fresh.jumps) in
      let given : first.jumps.given + now.jumps.given ≡ w.counts.skipped = omega (arith, w.skipped, ap (λ (t : Jumps). t.given) fresh.jumps) in
      let hits : first.jumps.hits + now.jumps.hits ≡ w.counts.hits = omega (arith, w.hits, ap (λ (t : Jumps). t.hits) fresh.jumps) in
      ap (λ (t : Jumps). jumps_of g.visits t) (sym fresh.jumps) ∙ sym g.helped.jumps ∙ w.raised ∙ (λ i. jumps (asked i) (given i) (hits i))

  visited_by_line : recognised ≡ recognised_by line → (left : List ℕ)
      → AreVisits line.limit (course_of_image image left) (visit_rule recognised (course_of_image image left)) goes.visits line.limit
      → AreVisits line.limit (course_of_image image left) (visit_rule (recognised_by line) (course_of_image image left)) goes.visits line.limit
  visited_by_line same left are =
      subst (λ (r : Recognised). AreVisits line.limit (course_of_image image left) (visit_rule r (course_of_image image left)) goes.visits line.limit) same are

  -- the numbers are those of the visits
  pub seen : recognised ≡ recognised_by line → (left : List ℕ) → SaysVisits left
      → AreOfVisits line.limit (visit_rule (recognised_by line) (course_of_image image left)) (course_of_image image left) told
  seen same left has = record { visits = goes.visits; are = visited_by_line same left has.are; jumps = counted }

  -- at most MOST_GUESSES guesses were made at each of them
  pub few : told.made ≤ MOST_GUESSES * told.run.asked
  few =
      let g = goes in
      let all = visits-asked g.visits now.jumps first.jumps last.jumps g.helped.jumps w.raised in
      omega (arith, g.helped.plans.few, fresh.made, fresh.full, all, w.asked)

  -- The numbers are those of a serial run from these entries on, and the helper tells the machine at its end.
  pub record IsByMachine (left : List ℕ) (content : List Entry) : Type 0 where
    pub run : IsSerialRun line.limit (visit_rule (recognised_by line) (course_of_image image left)) (course_of_image image left) image.start.shape (guessing_of line) content (numbers_of told)
    pub machine : last.machine ≡ Some run.now

  -- with the machine of a serial run
  pub serial_of_machine : (content : List Entry) → first.machine ≡ Some (serial_of image.start.shape (guessing_of line) content) → recognised ≡ recognised_by line → (left : List ℕ)
      → (run_of_image line image left).count ≡ now.count → SaysVisits left → last.plan.refused ≡ 0 → IsByMachine left content
  unfolding exec
  serial_of_machine content machine same left count has refused =
      let k = has.serial _ machine refl (refused ∙ sym fresh.refused) in
      let made : k.1 ≡ last.plan.made = omega (arith, k.4.1, fresh.made) in
      record {
        run = record {
          visits = goes.visits;
          are = visited_by_line same left has.are;
          now = k.0;
          serial = subst (λ (m : ℕ). IsSerial line.limit (course_of_image image left) (serial_of image.start.shape (guessing_of line) content) goes.visits k.0 m) made k.4.0;
          jumps = counted;
          executed = w.executed ∙ sym count;
        };
        machine = k.2;
      }

  -- The numbers are those of a serial run that keeps no entry.
  pub record IsByNone (left : List ℕ) : Type 0 where
    pub run : IsSerialRun line.limit (visit_rule (recognised_by line) (course_of_image image left)) (course_of_image image left) image.start.shape (guessing_of line) [] (numbers_of told)
    pub empty : run.now.content ≡ []

  -- with a helper that gives no jump, where no kind of guess is on
  pub serial_of_none : kinds_of (guessing_of line) ≡ [] → last.jumps.hits ≡ 0 → last.plan.made ≡ 0 → recognised ≡ recognised_by line → (left : List ℕ)
      → (run_of_image line image left).count ≡ now.count → SaysVisits left → IsByNone left
  unfolding exec
  serial_of_none none no_hit no_guess same left count has =
      let g = goes in
      let unhit : (jumps_of g.visits first.jumps).hits ≡ 0 = ap (λ (t : Jumps). t.hits) (sym g.helped.jumps) ∙ no_hit in
      let idle = idles line.limit (course_of_image image left) recognised (serial_of image.start.shape (guessing_of line) []) (record { kinds = none; content = refl })
      g.visits line.limit has.are (none_given g.visits first.jumps unhit) in
      record {
        run = record {
          visits = g.visits;
          are = visited_by_line same left has.are;
          now = idle.now;
          serial = subst (λ (m : ℕ). IsSerial line.limit (course_of_image image left) (serial_of image.start.shape (guessing_of line) []) g.visits idle.now m) (sym no_guess) idle.serial;
          jumps = counted;
          executed = w.executed ∙ sym count;
        };
        empty = idle.idle.content;
      }

  -- a helper that gives no jump runs it plainly
  pub plain_of_none : last.jumps.given ≡ 0 → now.jumps.given ≡ 0
  plain_of_none none = let raised : last.jumps.given ≡ first.jumps.given + now.jumps.given = ap (λ (t : Jumps). t.given) w.raised in omega (arith, none, raised)
