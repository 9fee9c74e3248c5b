-- The answer that is shown.
use Rattle.std.proofs.Common.{◌≡◌, ◌↔◌, List, [], ◌∷◌, Option, Some, None, Ok, Err, IsSome, refl, sym, ap, subst, inl, inr}
use Rattle.asc_outside.specs.Outside.{Blames, Given}
use Rattle.asc_outside.proofs.Streams.{given_after-nil}
use Rattle.asc_calls.specs.World.{BlamesOnly, Outside}
use Rattle.asc_words.specs.Batch.{BatchLine}
use Rattle.asc_words.specs.declared.line.Line.TheVariants as lines
use Rattle.asc_words.specs.declared.answer.Answer.{Answer}
use Rattle.asc_words.specs.declared.answer.Answer.TheVariants as answers
use Rattle.asc_words.specs.declared.answer.BatchRun.{BatchRun}
use Rattle.asc_words.specs.declared.answer.Counts.{Counts}
use Rattle.asc_words.specs.declared.answer.Conclusion.{Conclusion}
use Rattle.asc_words.specs.Answer.{conclusion_of}
use Rattle.asc_top.specs.Answered.{Asked, Surroundings, Headline, IsAnswerFor}
use Rattle.asc_top.specs.BatchAnswer.{IsBatchAnswer, IsBatchReported}
use Rattle.asc_top.specs.Endings.{Completes, Finished, IsRefusal, device_of_answer, ending_of}
use Rattle.asc_top.specs.Reported.{IsReported, Report, report_with}
use Rattle.asc_top.specs.Shown.{IsShownFor}
use Rattle.asc_top.proofs.Runs.{uncompleted}

no_counts : (counts : Option Counts) (answered : Answer) → IsSome counts ↔ (⊥ × (ending_of answered ≡ Finished)) → counts ≡ None
no_counts None answered iff = refl
no_counts (Some c) answered iff = absurd (iff.0 refl).0

-- memory was wanting before the files of a batch were asked for
unread_batch : (line : BatchLine) (old new : Surroundings) (before after : Report) (conclusion : Conclusion) (shown : Answer)
    → IsAnswerFor (Ok (lines.Batch line)) old new conclusion → IsReported before after conclusion shown → IsBatchAnswer line old new before after shown
unread_batch line old new before after conclusion shown is reported =
    let memory : conclusion.answer ≡ answers.Memory = is.names.1 in
    let refusal : IsRefusal conclusion.answer = inr (inr (ap ending_of memory)) in
    let same : conclusion ≡ conclusion_of answers.Memory = let counts = no_counts conclusion.counts conclusion.answer is.counts in let workers = is.workers in λ i. record { answer = memory i; counts = counts i; workers = workers i } in
    let still : new.guest ≡ old.guest = is.refused refusal in
    record {
      told = [];
      answered = answers.Memory;
      is = record {
        headline = λ completes. absurd (uncompleted answers.Memory refl completes);
        bad = λ kind. absurd (cc);
        ran = λ unrefused. absurd (unrefused (inr (inr refl)));
        refused = λ _. (refl, still);
        usage = λ kind. cc;
        left = ap (λ (o : Outside). o.left) still;
        input = ap (λ (o : Outside). o.faults.input) still;
        store_fault = subst (λ (a : Answer). Blames (a ≡ answers.StoreFault) old.store_faults new.store_faults) memory is.store_fault;
        faults = subst (λ (a : Answer). BlamesOnly (device_of_answer a) old.guest.faults new.guest.faults) memory is.faults;
        files = is.files;
        names = record { names = []; rest = line.run.image ∷ line.inputs; first = refl; asked = is.names.0; number = tt };
      };
      reported = subst (λ (g : Given). IsReported (report_with g before.faults) after (conclusion_of answers.Memory) shown) (sym (given_after-nil before.given))
          (subst (λ (o : Conclusion). IsReported before after o shown) same reported);
    }

-- a conclusion whose text was put is shown
pub shown_of : (asked : Asked) (old new : Surroundings) (before after : Report) (conclusion : Conclusion) (shown : Answer)
    → IsAnswerFor asked old new conclusion → IsReported before after conclusion shown → IsShownFor asked old new before after shown
shown_of (Ok (lines.Run line)) old new before after conclusion shown is reported = (conclusion, is, reported)
shown_of (Ok (lines.Save line)) old new before after conclusion shown is reported = (conclusion, is, reported)
shown_of (Ok (lines.Make n)) old new before after conclusion shown is reported = (conclusion, is, reported)
shown_of (Ok (lines.Trial n workers lanes)) old new before after conclusion shown is reported = (conclusion, is, reported)
shown_of (Ok (lines.Batch line)) old new before after conclusion shown is reported = unread_batch line old new before after conclusion shown is reported
shown_of (Err bad) old new before after conclusion shown is reported = (conclusion, is, reported)

-- where the report failed, something failed
unreported : Completes answers.ReportFault → ⊥
unreported (inl (inl is)) = cc
unreported (inl (inr is)) = cc
unreported (inr (inl is)) = cc
unreported (inr (inr is)) = cc

-- an answer other than ReportFault is the conclusion's
headline_of : (asked : Asked) (old new : Surroundings) (before after : Report) (conclusion : Conclusion) (shown : Answer)
    → Headline asked old new conclusion.answer → IsReported before after conclusion shown → Headline asked old new shown
headline_of asked old new before after conclusion shown headline (inl is) = subst (λ (a : Answer). Headline asked old new a) (sym is.shown_is) headline
headline_of asked old new before after conclusion shown headline (inr cut) = λ completes. absurd (unreported (subst (λ (a : Answer). Completes a) cut.shown_is completes))

-- an answer to a batch, by its own headline
shown_batch : (asked : Asked) (old new : Surroundings) (told : List BatchRun) (answered shown : Answer) (before after : Report)
    → Headline asked old new answered → IsBatchReported told answered before after shown → Headline asked old new shown
shown_batch asked old new told answers.ReportFault shown before after headline reported = λ completes. absurd (unreported (subst (λ (a : Answer). Completes a) reported.0 completes))
shown_batch asked old new told (answers.Exit code) shown before after headline reported = headline_of asked old new _ after (conclusion_of (answers.Exit code)) shown headline reported
shown_batch asked old new told (answers.Done refused) shown before after headline reported = headline_of asked old new _ after (conclusion_of (answers.Done refused)) shown headline reported
shown_batch asked old new told (answers.Limit count) shown before after headline reported = headline_of asked old new _ after (conclusion_of (answers.Limit count)) shown headline reported
shown_batch asked old new told (answers.Fault fault count) shown before after headline reported = headline_of asked old new _ after (conclusion_of (answers.Fault fault count)) shown headline reported
shown_batch asked old new told (answers.Usage bad) shown before after headline reported = headline_of asked old new _ after (conclusion_of (answers.Usage bad)) shown headline reported
shown_batch asked old new told (answers.Image fault) shown before after headline reported = headline_of asked old new _ after (conclusion_of (answers.Image fault)) shown headline reported
shown_batch asked old new told answers.TooLong shown before after headline reported = headline_of asked old new _ after (conclusion_of answers.TooLong) shown headline reported
shown_batch asked old new told (answers.InputTooLong input) shown before after headline reported = headline_of asked old new _ after (conclusion_of (answers.InputTooLong input)) shown headline reported
shown_batch asked old new told (answers.Saved fault) shown before after headline reported = headline_of asked old new _ after (conclusion_of (answers.Saved fault)) shown headline reported
shown_batch asked old new told answers.StoreFault shown before after headline reported = headline_of asked old new _ after (conclusion_of answers.StoreFault) shown headline reported
shown_batch asked old new told answers.Memory shown before after headline reported = headline_of asked old new _ after (conclusion_of answers.Memory) shown headline reported
shown_batch asked old new told answers.ReadFault shown before after headline reported = headline_of asked old new _ after (conclusion_of answers.ReadFault) shown headline reported
shown_batch asked old new told answers.WriteFault shown before after headline reported = headline_of asked old new _ after (conclusion_of answers.WriteFault) shown headline reported
shown_batch asked old new told answers.ErrFault shown before after headline reported = headline_of asked old new _ after (conclusion_of answers.ErrFault) shown headline reported

-- whatever was asked, what is shown is by the headline
pub headline_of_shown : (asked : Asked) (old new : Surroundings) (before after : Report) (shown : Answer)
    → IsShownFor asked old new before after shown → Headline asked old new shown
headline_of_shown (Ok (lines.Batch line)) old new before after shown is = shown_batch (Ok (lines.Batch line)) old new is.told is.answered shown before after is.is.headline is.reported
headline_of_shown (Ok (lines.Run line)) old new before after shown (conclusion, is, reported) = headline_of (Ok (lines.Run line)) old new before after conclusion shown is.headline reported
headline_of_shown (Ok (lines.Save line)) old new before after shown (conclusion, is, reported) = headline_of (Ok (lines.Save line)) old new before after conclusion shown is.headline reported
headline_of_shown (Ok (lines.Make n)) old new before after shown (conclusion, is, reported) = headline_of (Ok (lines.Make n)) old new before after conclusion shown is.headline reported
headline_of_shown (Ok (lines.Trial n workers lanes)) old new before after shown (conclusion, is, reported) = headline_of (Ok (lines.Trial n workers lanes)) old new before after conclusion shown is.headline reported
headline_of_shown (Err bad) old new before after shown (conclusion, is, reported) = headline_of (Err bad) old new before after conclusion shown is.headline reported
