-- What is visited and advanced keeps the heads, or takes all out.
use Rattle.std.proofs.Common.{◌+◌, arith}
use Rattle.asc_trace_tests.proofs.Searched.{AreEarlier-seek_visit, IsSearched-advanced}
use Rattle.asc_trace_tests.proofs.searches.Searched.visit.Goals as goal

pub invariant_of-self : goal.invariant_of-self
invariant_of-self g c =
    let at = c.self.inside.count in
    let count = at + c.unwrap_or-steps.result in
    let early = AreEarlier-seek_visit (at + 1) at c.args.jumped c.self.inside.seeker c.visit.new.self c.visit.ensures.seek c.self.invariant.2 in
    IsSearched-advanced at count c.visit.new.self c.advance.new.self c.advance.ensures.seek
    early (omega arith) (omega arith) c.advance.ensures.behind c.advance.ensures.going
