-- The parts of both make the entry of both, which is true.
use Rattle.std.proofs.Common.{◌≡◌, ◌+◌, Some, true, sym, ap, subst, ◌∙◌}
use Rattle.asc_model.specs.Entry.{Entry, IsTrueEntry}
use Rattle.asc_model.specs.Join.{can_join}
use Rattle.asc_model.proofs.Joins.{join_true, joined}
use Rattle.asc_traj.specs.Parts.{all_cells}
use Rattle.asc_traj.proofs.Merging.{join-is, made-is, unjoined}
use Rattle.asc_traj.proofs.entry.Entry.join.Goals.{After-steps-2}
use Rattle.asc_traj.proofs.entry.Entry.join.Goals as goal

pub returns-then-not-can_join-clause-joined : goal.returns-then-not-can_join-clause-joined
returns-then-not-can_join-clause-joined c = sym (unjoined c.args.first.now c.args.second.now (sym c.can_join.ensures ∙ c.if-not-can_join.true))

can : (c : After-steps-2) → can_join c.args.first.now c.args.second.now ≡ true
can c = sym c.can_join.ensures ∙ c.if-not-can_join.false

-- what is made is the entry of both
made : (c : After-steps-2) → let halves = c.in_ok-halves.halves in
    let e : Entry = record { shape = c.shape.result; reads = all_cells halves.reads.items; writes = all_cells halves.writes.items; steps = c.steps.result + c.steps-2.result } in
    e ≡ joined c.args.first.now c.args.second.now
made c =
    made-is c.args.first.now c.args.second.now c.in_ok-halves.halves c.shape.result (c.steps.result + c.steps-2.result) c.in_ok-halves.ensures c.shape.ensures (λ i. c.steps.ensures i + c.steps-2.ensures i)

pub invariant_of-entry : goal.invariant_of-entry
invariant_of-entry c =
    let here = (goal.at.invariant_of-entry c).After-steps-2 in
    let parts = c.in_ok-halves.ensures.parts in
    (subst IsTrueEntry (sym (made here)) (join_true c.args.first.now c.args.second.now c.truth.ensures c.truth-2.ensures (can here)), parts.reads, parts.writes)

pub returns-clause-joined : goal.returns-clause-joined
returns-clause-joined c =
    let here = (goal.at.returns-clause-joined c).After-steps-2 in
    ap Some (c.in_ok-new.ensures.ok ∙ made here) ∙ sym (join-is c.args.first.now c.args.second.now (can here))
