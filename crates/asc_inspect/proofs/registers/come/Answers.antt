-- The program comes as far as plain execution, turn by turn, and ends where it does.
use Rattle.std.proofs.Common.{refl, ap, ◌∙◌, arith}
use Rattle.asc_inspect.proofs.Counts.{comes-first, comes-plain, comes-turn, comes-end, comes-limit}
use Rattle.asc_inspect.proofs.registers.come.Goals as goal

pub loop-process-init : goal.loop-process-init
loop-process-init g c =
    let start = c.requires.start in
    record {
      way = comes-first _ c.args.process.now.count start;
      within = omega (arith, start.none);
      faults = refl;
    }

pub loop-process-preserved-in_default : goal.loop-process-preserved-in_default
loop-process-preserved-in_default g c =
    let v = c.loop-process.invariant in let s = c.go_on-stopped.ensures in let t = c.in_default.ensures in
    let turn = t.turn refl in let one = turn.one refl in
    let below = c.loop-process-test.true in let here = c.if-process-landed.true in
    record {
      way = comes-turn _ _ _ _ _ turn (comes-plain _ _ _ _ _ _ _ _ _ _ _ _ _ (ap (λ p. p.calls) s.kept) s.counter s.grows s.goes v.way);
      within = omega (arith, one, here, below);
      faults = t.faults ∙ v.faults;
    }

pub loop-process-preserved : goal.loop-process-preserved
loop-process-preserved g c =
    let v = c.loop-process.invariant in let s = c.go_on-stopped.ensures in
    let below = c.loop-process-test.true in let most = s.most in
    record {
      way = comes-plain _ _ _ _ _ _ _ _ _ _ _ _ _ (ap (λ p. p.calls) s.kept) s.counter s.grows s.goes v.way;
      within = omega (arith, most, below);
      faults = v.faults;
    }

pub returns-in-Some-clause-ended : goal.returns-in-Some-clause-ended
returns-in-Some-clause-ended g c =
    let v = c.loop-process.invariant in let s = c.go_on-stopped.ensures in let t = c.in-Some.ensures in
    let below = c.loop-process-test.true in let here = c.if-process-landed.true in
    comes-end _ _ _ _ _ c.go_on-stopped.new.self.count _ c.in-Some.ended (omega (arith, below, here)) (omega (arith, below, here))
    (comes-plain _ _ _ _ _ _ _ _ _ _ _ _ _ (ap (λ p. p.calls) s.kept) s.counter s.grows s.goes v.way) t.turn t.fails t.count

pub returns-then-limit-count-clause-ended : goal.returns-then-limit-count-clause-ended
returns-then-limit-count-clause-ended g c =
    let v = c.loop-process.invariant in let within = v.within in let past = c.loop-process-test.false in let less = c.if-limit-count.true in
    comes-limit _ _ _ _ c.loop-process.process.count (omega (arith, within, past, less)) less v.way
