-- The trace began at the guess, and was not stopped.
use Rattle.std.proofs.Common.{ap, ◌∙◌, arith}
use Rattle.asc_inspect.proofs.Laps.{lap-reach, lap-entry}
use Rattle.asc_inspect.proofs.lap.trace_guess.Goals.{then-traced-eq0, else-traced-eq0+in_ok-of}
use Rattle.asc_inspect.proofs.lap.trace_guess.Goals as goal

pub returns : goal.returns
returns c =
    let n = c.trace-traced.result.steps in
    let guess = c.args.guess in
    let traced = c.trace-traced.ensures in
    let began = ap (λ t. t.state) c.start.ensures in
    let reach = lap-reach c.args.pc c.args.laps c.args.span _ n _ guess c.trace-traced.result.why traced.reach traced.halt
    (ap (λ t. t.cap) c.start.ensures ∙ ap (λ t. t.cap) c.in_ok-tracer.ensures) began in
    elim c.if-traced-eq0.branch [
      | then-traced-eq0 w ↦ record { steps = n; reach = reach; entry = rw w.entry-is w.if-traced-eq0.true }
      | else-traced-eq0+in_ok-of w ↦ record {
        steps = n;
        reach = reach;
        entry = rw w.entry-is (let some = w.if-traced-eq0.false in omega (arith, some), lap-entry n _ guess _ (traced.start ∙ began) w.in_ok-of.ensures.entry);
      }
    ]
