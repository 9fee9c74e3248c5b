-- The program comes as far as plain execution, landing by landing and turn by turn, and ends where it does.
use Rattle.std.proofs.Common.{◌+◌, Some, refl, sym, ap, ◌∙◌, arith}
use Rattle.asc_run.specs.Visits.{is_at}
use Rattle.asc_inspect.specs.Standing.{WasInAll}
use Rattle.asc_inspect.proofs.Visits.{one-most, visit-lands, visit-there, visit-plain, visit-still, visit-turn, visit-end, visit-limit}
use Rattle.asc_inspect.proofs.visit.Visitor.come_on.Goals as goal

pub returns-then-self-limit-clause-ended : goal.returns-then-self-limit-clause-ended
returns-then-self-limit-clause-ended g c = λ start seen was.
    visit-limit (WasInAll c.args.pc seen) c.args.pc start c.args.limit _ _ _ (c.loop-self.invariant.way start seen was) c.if-self-limit.true

pub returns-then-is_there-clause-there : goal.returns-then-is_there-clause-there
returns-then-is_there-clause-there g c = λ _ start seen was.
    let e = c.is_there.ensures in
    visit-there (WasInAll c.args.pc seen) c.args.pc start _ _ _ _ _ _ _ _ _ _ _ _ _ (ap (λ p. p.process.state) e.kept) (ap (λ p. p.process.calls) e.kept) (ap (λ p. p.process.count) e.kept)
    (c.loop-self.invariant.way start seen was) (e.is c.if-is_there.true) (ap (λ v. v + 1) (sym (e.stays c.if-is_there.true)) ∙ e.last c.if-is_there.true)

pub returns-in-Some-clause-ended : goal.returns-in-Some-clause-ended
returns-in-Some-clause-ended g c = λ start seen was.
    let v = c.loop-self.invariant in let e = c.is_there.ensures in let s = c.go_on-stopped.ensures in let t = c.in-Some.ensures in
    let within = v.within in let not_limit = c.if-self-limit.false in let count = ap (λ p. p.process.count) e.kept in let landed = c.if-self-landed.true in
    visit-end (WasInAll c.args.pc seen) c.args.pc start c.args.limit _ _ _ _ _ _ c.in-Some.ended refl
    (visit-still (WasInAll c.args.pc seen) c.args.pc start _ _ _ _ _ _ _ _ _ _ _ _ _ _ (ap (λ p. p.calls) s.kept) refl s.counter s.goes landed
    (visit-lands (WasInAll c.args.pc seen) c.args.pc start _ _ _ _ _ _ _ _ _ _ _ _ _ (ap (λ p. p.process.state) e.kept) (ap (λ p. p.process.calls) e.kept) count (v.way start seen was) (e.counts c.if-is_there.false)))
    (omega (arith, within, not_limit, count, landed)) t.turn t.fails t.count

pub loop-self-preserved-in_default : goal.loop-self-preserved-in_default
loop-self-preserved-in_default g c =
    let v = c.loop-self.invariant in let e = c.is_there.ensures in let s = c.go_on-stopped.ensures in let t = c.in_default.ensures in
    let turn = t.turn refl in let one = turn.one refl in
    let within = v.within in let not_limit = c.if-self-limit.false in let count = ap (λ p. p.process.count) e.kept in let landed = c.if-self-landed.true in
    let more = e.counts c.if-is_there.false in let few = v.few in let small = one-most (is_at (Some c.args.pc) c.loop-self.self.process.state) in
    record {
      way = λ start seen was. visit-turn (WasInAll c.args.pc seen) c.args.pc start _ _ _ _ _ _ refl turn
          (visit-still (WasInAll c.args.pc seen) c.args.pc start _ _ _ _ _ _ _ _ _ _ _ _ _ _ (ap (λ p. p.calls) s.kept) refl s.counter s.goes landed
          (visit-lands (WasInAll c.args.pc seen) c.args.pc start _ _ _ _ _ _ _ _ _ _ _ _ _ (ap (λ p. p.process.state) e.kept) (ap (λ p. p.process.calls) e.kept) count (v.way start seen was) more));
      within = omega (arith, within, not_limit, one, count, landed);
      few = omega (arith, more, few, small, one, count, landed);
      before = e.before;
      faults = t.faults ∙ v.faults;
    }

pub loop-self-preserved : goal.loop-self-preserved
loop-self-preserved g c =
    let v = c.loop-self.invariant in let e = c.is_there.ensures in let s = c.go_on-stopped.ensures in
    let within = v.within in let not_limit = c.if-self-limit.false in let count = ap (λ p. p.process.count) e.kept in let moved = c.if-self-landed.false in
    let grows = s.grows in let most = s.most in
    let more = e.counts c.if-is_there.false in let few = v.few in let small = one-most (is_at (Some c.args.pc) c.loop-self.self.process.state) in
    record {
      way = λ start seen was. visit-plain (WasInAll c.args.pc seen) c.args.pc start _ _ _ _ _ _ _ _ _ _ _ _ _ _ (ap (λ p. p.calls) s.kept) refl s.counter s.goes (omega (arith, grows, moved)) s.passes
          (visit-lands (WasInAll c.args.pc seen) c.args.pc start _ _ _ _ _ _ _ _ _ _ _ _ _ (ap (λ p. p.process.state) e.kept) (ap (λ p. p.process.calls) e.kept) count (v.way start seen was) more);
      within = omega (arith, within, count, most, grows);
      few = omega (arith, more, few, small, count, grows, moved);
      before = e.before;
      faults = v.faults;
    }
