use Rattle.std.proofs.Common.{◌≡◌, ℕ, ◌-◌, ◌≤◌, List, length, slice_index_or, Option, ap, subst, sym, ◌∙◌, arith}
use Rattle.asc_guess.specs.declared.choosing.Candidate.{Candidate}
use Rattle.asc_guess.specs.Choice.{chosen_address}
use Rattle.asc_guess.proofs.Best.{IsBest, Stands, address_of, chosen-best}
use Rattle.asc_guess.proofs.Runs.{run_is, run_rises, run_behind, run_takes, run_skips, better_counted}
use Rattle.asc_guess.proofs.choosing.choose_sorted.Goals as goal

-- behind the last run
chosen : (s : List (ℕ × ℕ)) (least from : ℕ) (best : Option Candidate) → 2 ≤ least → from ≤ length s → length s ≤ from → IsBest s least (Stands s from) best
    → address_of best ≡ chosen_address s least
chosen s least from best two within past h =
    let e : from ≡ length s = omega arith in
    chosen-best s least best two (subst (λ n. IsBest s least (Stands s n) best) e h)

pub run_candidate-requires-clause-rises : goal.run_candidate-requires-clause-rises
run_candidate-requires-clause-rises c =
    let s = c.args.visits.now in let from = c.loop-from.from in let to = c.run_end-to.result in
    let run = run_is s from to c.requires.order c.loop-from.invariant.1 c.run_end-to.ensures.some c.run_end-to.ensures.end c.run_end-to.ensures.run c.run_end-to.ensures.behind in
    λ d. run_rises s from to (slice_index_or s from (0, 0)).0 d c.requires.order run

pub loop-from-preserved-then-to-from : goal.loop-from-preserved-then-to-from
loop-from-preserved-then-to-from c =
    let s = c.args.visits.now in let from = c.loop-from.from in let to = c.run_end-to.result in
    let run = run_is s from to c.requires.order c.loop-from.invariant.1 c.run_end-to.ensures.some c.run_end-to.ensures.end c.run_end-to.ensures.run c.run_end-to.ensures.behind in
    let best = run_takes s c.args.least from to _ c.loop-from.best c.run_candidate.result c.requires.least run c.if-to-from.true c.run_candidate.ensures c.loop-from.invariant.2 in
    let counted = better_counted c.loop-from.best c.run_candidate.result c.loop-from.invariant.3
    (let times : c.run_candidate.result.times ≡ to - from = ap (λ (d : Candidate). d.times) c.run_candidate.ensures in (omega arith, omega arith)) in (
      c.run_end-to.ensures.end,
      run_behind s from to _ run,
      rw c.better_of-best.ensures best,
      rw c.better_of-best.ensures counted,
    )

pub loop-from-preserved : goal.loop-from-preserved
loop-from-preserved c =
    let s = c.args.visits.now in let from = c.loop-from.from in let to = c.run_end-to.result in
    let run = run_is s from to c.requires.order c.loop-from.invariant.1 c.run_end-to.ensures.some c.run_end-to.ensures.end c.run_end-to.ensures.run c.run_end-to.ensures.behind in
    (c.run_end-to.ensures.end, run_behind s from to _ run, run_skips s c.args.least from to _ c.loop-from.best run (omega arith) c.loop-from.invariant.2, c.loop-from.invariant.3)

pub returns-in_err-best : goal.returns-in_err-best
returns-in_err-best c =
    c.from_residual.ensures ∙ sym (ap address_of (c.in_err-best.was))
    ∙ chosen c.args.visits.now c.args.least c.loop-from.from c.loop-from.best c.requires.least c.loop-from.invariant.0 c.loop-from-test.false c.loop-from.invariant.2

pub returns : goal.returns
returns c =
    sym (ap address_of (c.in_ok-best.was))
    ∙ chosen c.args.visits.now c.args.least c.loop-from.from c.loop-from.best c.requires.least c.loop-from.invariant.0 c.loop-from-test.false c.loop-from.invariant.2
