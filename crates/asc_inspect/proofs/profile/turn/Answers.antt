-- A step, or what stands where there was none.
use Rattle.std.proofs.Common.{ap, arith}
use Rattle.asc_inspect.proofs.Profiling.{Turns-step, Turns-still, TurnFails-still}
use Rattle.asc_inspect.proofs.profile.turn.Goals as goal

pub returns-then-process-count-clause-turn : goal.returns-then-process-count-clause-turn
returns-then-process-count-clause-turn g c = λ h. let s = c.go_on-stopped.ensures in
    Turns-still _ _ _ _ _ _ _ _ _ _ _ _ c.if-process-count.true (ap (λ p. p.calls) s.kept) s.counter s.goes _ _ _ (c.stop.ensures.turn h)

pub returns-then-process-count-clause-fails : goal.returns-then-process-count-clause-fails
returns-then-process-count-clause-fails g c = λ device h. let s = c.go_on-stopped.ensures in
    TurnFails-still _ _ _ _ _ _ _ _ _ _ c.args.process.now.count c.go_on-stopped.new.self.count c.if-process-count.true (ap (λ p. p.calls) s.kept) s.counter s.goes _ device (c.stop.ensures.fails device h)

pub returns-else-process-count-clause-turn : goal.returns-else-process-count-clause-turn
returns-else-process-count-clause-turn g c = λ _. let s = c.go_on-stopped.ensures in
    let moved = c.if-process-count.false in let grows = s.grows in let most = s.most in
    Turns-step _ _ _ _ _ _ _ _ _ _ _ _ (ap (λ p. p.calls) s.kept) s.counter (omega (arith, moved, grows, most)) s.goes
