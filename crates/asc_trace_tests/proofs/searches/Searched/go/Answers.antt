-- What is advanced keeps the heads, or takes all out.
use Rattle.std.proofs.Common.{arith}
use Rattle.asc_trace_tests.proofs.Searched.{IsSearched-advanced}
use Rattle.asc_trace_tests.proofs.searches.Searched.go.Goals as goal

pub invariant_of-self : goal.invariant_of-self
invariant_of-self g c =
    IsSearched-advanced c.self.inside.count c.args.count c.self.inside.seeker c.advance.new.self c.advance.ensures.seek
    c.self.invariant.2 (omega arith) (omega arith) c.advance.ensures.behind c.advance.ensures.going
