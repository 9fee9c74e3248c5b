-- What a walk beside workers did, as a line asks.
use Rattle.std.proofs.Common.{ℕ, ◌≡◌, ◌∙◌, ◌+◌, ◌<◌, Option, List, sym, ap, subst, arith, inl, inr}
use Rattle.asc_model.specs.Entry.{Entry}
use Rattle.asc_calls.specs.World.{Outside}
use Rattle.asc_model.specs.declared.run_counts.RunCounts.{RunCounts}
use Rattle.asc_run.specs.Guessed.{guesses_until}
use Rattle.asc_run.specs.Walk.{Walk}
use Rattle.asc_live.specs.Crew.{WentBeside}
use Rattle.asc_live.specs.declared.crew.Worked.{Worked}
use Rattle.asc_words.specs.declared.line.RunLine.{RunLine}
use Rattle.asc_words.specs.declared.answer.Answer.TheVariants as answers
use Rattle.asc_words.specs.declared.answer.Counts.{Counts}
use Rattle.asc_words.specs.declared.answer.Conclusion.{Conclusion}
use Rattle.asc_words.specs.Answer.{conclusion_of}
use Rattle.asc_top.specs.Program.{Files, answer_at}
use Rattle.asc_top.specs.Numbers.{AreWorkerNumbers, WorkersAreTold, counts_of, guessing_of, reported_at}
use Rattle.asc_top.specs.Workers.{crew_of, workers_of}
use Rattle.asc_top.specs.Ran.{AreOpened, HasCountedNothing, Ran, RanBeside, WalkedBeside}
use Rattle.asc_top.proofs.Ends.{workers-told}
use Rattle.asc_top.proofs.Refused.{ran_memory}
use Rattle.asc_top.proofs.Walks.{ran}

module _ (line : RunLine) (was now : Walk) (old new : Outside) (worked : Worked) (counts : RunCounts) (went : WentBeside (guessing_of line) (crew_of line) was now old new worked)
    {n : ℕ} (count : n ≡ now.count) (executed : counts.executed + counts.skipped ≡ now.count) (skipped : counts.skipped ≡ now.jumps.given)
    (asked : counts.asked ≡ now.jumps.asked) (hits : counts.hits ≡ now.jumps.hits) (some : 0 < line.workers) where
  -- their numbers
  are : AreWorkerNumbers (guessing_of line) line.queue (counts_of counts worked.made worked.refused) (workers_of worked)
  are = record {
    made = went.jobs;
    ran = worked.taken.tally.sums;
    guesses = λ refused. went.guesses refused ∙ ap (λ n. guesses_until (guessing_of line) n) (sym asked);
    room = went.room;
    few = let few = went.few in omega (arith, few, asked);
  }

  same : counts_of counts worked.made worked.refused ≡ counts_of counts went.last.plan.made went.last.plan.refused
  same = λ i. counts_of counts (went.made i) (went.refused i)

  pub walked_beside : WalkedBeside line was now old new (record {
    answer = answer_at worked.ended n;
    counts = reported_at line.report worked.ended (counts_of counts worked.made worked.refused);
    workers = reported_at line.report worked.ended (workers_of worked);
  })
  walked_beside = record {
    first = went.first;
    last = went.last;
    fresh = went.fresh;
    walked = record {
      ended = worked.ended;
      goes = went.goes.goes;
      raised = went.raised;
      limit = went.limit;
      settings = went.goes.settings;
      shape = went.shape;
      faults = went.faults;
      counts = counts;
      executed = executed;
      skipped = skipped;
      asked = asked;
      hits = hits;
      conclusion_is = λ i. record {
        answer = answer_at worked.ended (count i);
        counts = reported_at line.report worked.ended (same i);
        workers = reported_at line.report worked.ended (workers_of worked);
      };
    };
    workers = workers-told line worked.ended (counts_of counts worked.made worked.refused) (workers_of worked) some are line.report;
  }

-- a walk of a line's image beside workers
module _ (line : RunLine) (files : Files) (was : Walk) (entries : List Entry) (opened : AreOpened line files was entries) (now : Walk) (old new : Outside) (conclusion : Conclusion) (some : 0 < line.workers) where
  walked : WalkedBeside line was now old new conclusion → Ran old new line files conclusion
  walked b =
      let told : WorkersAreTold line (reported_at line.report b.walked.ended (counts_of b.walked.counts b.last.plan.made b.last.plan.refused)) conclusion.workers =
      subst (λ (c : Option Counts). WorkersAreTold line c conclusion.workers) (ap (λ (o : Conclusion). o.counts) b.walked.conclusion_is) b.workers in
      let fresh : HasCountedNothing b.first = record { jumps = b.fresh.jumps_are; made = b.fresh.made; refused = b.fresh.refused; full = b.fresh.full } in
      ran line files was entries opened now old new b.first b.last conclusion.workers conclusion b.walked fresh told
      (λ alone. absurd (let no : ⊥ = omega (arith, alone, some) in no)) (λ alone. absurd (let no : ⊥ = omega (arith, alone, some) in no))

  pub ran_beside : RanBeside line was now old new conclusion → Ran old new line files conclusion
  ran_beside (inl b) = walked b
  ran_beside (inr wanting) =
      subst (λ (o : Conclusion). Ran old new line files o) (sym wanting.0)
      (subst (λ (o : Outside). Ran old o line files (conclusion_of answers.Memory)) (sym wanting.1) (ran_memory line files opened.own.image old opened.own.loads opened.own.good))
