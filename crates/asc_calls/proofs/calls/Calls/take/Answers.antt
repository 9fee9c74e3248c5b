-- A read after the end of the input was found takes nothing.
use Rattle.std.proofs.Common.{◌≡◌, true, sym, ap, ◌∙◌}
use Rattle.asc_calls.specs.World.{CallState}
use Rattle.asc_calls.proofs.Taken.{Reads-none}
use Rattle.asc_calls.proofs.calls.Calls.take.Goals as goal

pub returns-then-self-clause-reads : goal.returns-then-self-clause-reads
returns-then-self-clause-reads g c =
    let found : c.args.self.now.ended ≡ true = sym (ap (λ (k : CallState). k.ended) c.self.view_is) ∙ c.if-self.true in
    Reads-none c.args.state.now c.args.buffer c.args.n c.args.self.now _ c.shape.ensures.state c.requires found
