-- The candidate is a head of the table.
use Rattle.std.proofs.Common.{◌+◌, ◌^◌, subst}
use Rattle.asc_seek.specs.Heads.{AreEarlier}
use Rattle.asc_seek.specs.Seek.{Seek}
use Rattle.asc_seek.proofs.Candidates.{MayFollow-candidate_behind}
use Rattle.asc_seek.proofs.seeker.Seeker.next_candidate.Goals as goal

pub returns-then-count-self-clause-fit : goal.returns-then-count-self-clause-fit
returns-then-count-self-clause-fit c =
    let early = subst (λ (m : Seek). AreEarlier (2 ^ 41 + 1) m.table) c.self.view_is c.self.invariant.early in
    MayFollow-candidate_behind c.args.self.now c.args.tried c.candidate_behind.result early c.candidate_behind.ensures.first
