-- The trace is on its way at each turn, and ends as its reach says.
use Rattle.std.proofs.Common.{◌≡◌, ◌-◌, ◌==◌, ℕ, Some, refl, sym, ap, subst, ◌∙◌, arith}
use Rattle.std.proofs.lemmas.Bool.{eqb-true}
use Rattle.std.proofs.lemmas.Bool.Decides.{nat_tests}
use Rattle.std.proofs.lemmas.Grind.{common_steps}
use Rattle.asc_model.specs.State.{State}
use Rattle.asc_model.specs.declared.why.Why.TheVariants as whys
use Rattle.asc_model.specs.Machine.{view_of}
use Rattle.asc_traj.specs.Inside.{counted}
use Rattle.asc_traj.specs.Trace.{LosesPatience, bounds_of}
use Rattle.asc_traj.proofs.Attempts.{ended, went_on}
use Rattle.asc_traj.proofs.Traces.{IsOnWay, begins, lapped, turn, room_for_step, some_left, ends-bound, ends-step, counted-start, few-start, counted-more, goes_on, sure-next, left-first, left-next, asked-none, asked-next, asked-bound, asked-step}
use Rattle.asc_traj.proofs.tracing.trace.Goals as goal

pub loop-shape-init : goal.loop-shape-init
loop-shape-init g c =
    let bounds = bounds_of c.args.stop.now c.args.tracer.now.cap in
    let t = c.args.tracer.now in
    let first = c.laps_at_start-laps.ensures in
    let there = (view_of t.state).pc == c.args.stop.now.pc in
    record {
      way = subst (λ (k : ℕ). IsOnWay bounds t.state 0 k t) (sym (counted-start c.laps_at_start-laps.result there first))
          (begins bounds t c.requires.untouched c.requires.own_shape refl c.known.ensures.state c.known.ensures.marks);
      few = few-start c.laps_at_start-laps.result c.args.stop.now.laps there first c.requires.laps;
      sure = record { least = omega arith; most = omega arith; room = omega arith };
      count = refl;
      asks = asked-none (g.H.Halt.asks c.args.halt.now);
      patience = left-first (g.H.Halt.patience c.args.halt.now);
      most = λ n told. omega arith;
    }

pub is_within-requires-clause-own : goal.is_within-requires-clause-own
is_within-requires-clause-own g c = ap (λ (s : State). s.shape) c.loop-shape.invariant.way.began ∙ sym c.loop-shape.invariant.way.own

pub attempt-requires-clause-own : goal.attempt-requires-clause-own
attempt-requires-clause-own g c =
    c.shape-shape.ensures.shape ∙ sym (ap (λ (s : State). s.shape) c.loop-shape.invariant.way.began)

pub attempt-requires-clause-room : goal.attempt-requires-clause-room
attempt-requires-clause-room g c = room_for_step _ c.loop-shape.tracer (sym (went_on _ _ _ c.is_within.ensures.met c.if-not-is_within.false))

pub returns-then-has_all_laps-clause-reach : goal.returns-then-has_all_laps-clause-reach
returns-then-has_all_laps-clause-reach g c = grind (arith, common_steps, nat_tests, ends-bound, lapped)

pub returns-then-not-is_within-clause-reach : goal.returns-then-not-is_within-clause-reach
returns-then-not-is_within-clause-reach g c =
    let way = c.loop-shape.invariant.way in
    let bound = turn way c.has_all_laps.ensures.counts c.has_all_laps.ensures.all c.if-has_all_laps.false c.known-in-loop-shape.ensures.tracer c.known-in-loop-shape.ensures.marks in
    λ _. ends-bound _ _ _ _ _ c.is_within.new.why way (bound ∙ sym (ended _ _ _ c.is_within.ensures.met c.if-not-is_within.true))

pub returns-then-asked-clause-stopped : goal.returns-then-asked-clause-stopped
returns-then-asked-clause-stopped g c =
    let way = c.loop-shape.invariant.way in
    let bound = turn way c.has_all_laps.ensures.counts c.has_all_laps.ensures.all c.if-has_all_laps.false c.known-in-loop-shape.ensures.tracer c.known-in-loop-shape.ensures.marks in
    λ _. record { least = way.least; unmet = bound ∙ sym (went_on _ _ _ c.is_within.ensures.met c.if-not-is_within.false) }

pub returns-then-not-attempt-clause-reach : goal.returns-then-not-attempt-clause-reach
returns-then-not-attempt-clause-reach g c =
    let way = c.loop-shape.invariant.way in
    let bound = turn way c.has_all_laps.ensures.counts c.has_all_laps.ensures.all c.if-has_all_laps.false c.known-in-loop-shape.ensures.tracer c.known-in-loop-shape.ensures.marks in
    λ _. ends-step _ _ _ _ _ c.attempt.new.why way (bound ∙ sym (went_on _ _ _ c.is_within.ensures.met c.if-not-is_within.false))
    (sym (ended _ _ _ c.attempt.ensures.ends c.if-not-attempt.true))

pub loop-shape-preserved : goal.loop-shape-preserved
loop-shape-preserved g c =
    let bounds = bounds_of c.args.stop.now c.args.tracer.now.cap in
    let n = c.loop-shape.steps in
    let laps = c.has_all_laps.new.laps in
    let t = c.loop-shape.tracer in
    let inv = c.loop-shape.invariant in
    let known = c.known-in-loop-shape.ensures in
    let way = subst (λ (k : ℕ). IsOnWay bounds c.args.tracer.now.state n k t) (sym c.has_all_laps.ensures.counts) inv.way in
    let bound = turn inv.way c.has_all_laps.ensures.counts c.has_all_laps.ensures.all c.if-has_all_laps.false known.tracer known.marks in
    let unmet = sym (went_on _ _ _ c.is_within.ensures.met c.if-not-is_within.false) in
    let later = c.attempt.new.tracer in
    let there = (view_of later.state).pc == c.args.stop.now.pc in
    let face = c.attempt.ensures.goes c.if-not-attempt.false in
    let some = some_left (bounds.span - n) t unmet in
    let patience = λ (k : ℕ) (told : g.H.Halt.patience c.args.halt.now ≡ Some k).
    left-next (g.H.Halt.patience c.loop-shape.halt) (g.H.Halt.patience c.asked.new.self) n k (inv.patience k told)
    (subst (LosesPatience (g.H.Halt.patience c.loop-shape.halt) (g.H.Halt.patience c.asked.new.self)) c.if-asked.false c.asked.ensures.patience) in
    record {
      way = goes_on bounds _ n laps t later way known.state known.marks (bound ∙ unmet) (sym (went_on _ _ _ c.attempt.ensures.ends c.if-not-attempt.false)) face
          c.attempt.ensures.shape c.attempt.ensures.cap (counted laps there) (counted-more laps there (omega (arith, way.most, some)));
      few = λ _. sym c.has_all_laps.ensures.all ∙ c.if-has_all_laps.false;
      sure = sure-next bounds.span n c.is_within.new.sure t later (c.is_within.ensures.sure c.if-not-is_within.false) (c.is_within.ensures.more c.if-not-is_within.false) known.state known.marks face;
      count = c.asked.ensures.count.stays c.if-asked.false ∙ inv.count;
      asks = asked-next _ _ _ n inv.asks c.asked.ensures.asks;
      patience = patience;
      most = λ k told. omega (arith, (patience k told).sum);
    }

pub returns-then-not-is_within-clause-asks : goal.returns-then-not-is_within-clause-asks
returns-then-not-is_within-clause-asks g c =
    asked-bound _ _ c.is_within.new.why _ _ c.loop-shape.steps c.loop-shape.invariant.asks (sym (ended _ _ _ c.is_within.ensures.met c.if-not-is_within.true))

pub returns-then-asked-clause-asks : goal.returns-then-asked-clause-asks
returns-then-asked-clause-asks g c = asked-next _ _ _ c.loop-shape.steps c.loop-shape.invariant.asks c.asked.ensures.asks

pub returns-then-not-attempt-clause-asks : goal.returns-then-not-attempt-clause-asks
returns-then-not-attempt-clause-asks g c = grind (arith, common_steps, nat_tests, asked-next, asked-step, ended)
