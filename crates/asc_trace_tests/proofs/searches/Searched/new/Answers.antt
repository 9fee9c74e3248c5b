-- A new search has no heads.
use Rattle.std.proofs.Common.{◌≡◌, IfOk, subst}
use Rattle.asc_seek.specs.Seek.{Seek, new_seek}
use Rattle.asc_trace_tests.proofs.Searched.{IsSearched-new_seek}
use Rattle.asc_trace_tests.proofs.searches.Searched.new.Goals as goal

pub invariant_of-result : goal.invariant_of-result
invariant_of-result g c =
    let is : c.expect.result ≡ new_seek c.args.seeking =
    subst (λ r. IfOk r (λ (m : Seek). m ≡ new_seek c.args.seeking)) c.expect.ensures c.new.ensures in
    IsSearched-new_seek c.args.seeking c.expect.result is
