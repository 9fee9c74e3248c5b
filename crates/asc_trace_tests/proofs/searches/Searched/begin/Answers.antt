-- A new search has no heads.
use Rattle.asc_trace_tests.proofs.Searched.{IsSearched-new_seek}
use Rattle.asc_trace_tests.proofs.searches.Searched.begin.Goals as goal

pub invariant_of-self : goal.invariant_of-self
invariant_of-self c = IsSearched-new_seek _ c.begin.new.self c.begin.ensures
