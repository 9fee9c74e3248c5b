-- The lanes that have jobs have run them, and so have the others, which have none.
use Rattle.asc_work.specs.Lanes.{HasRunAll, HasRunOnly}
use Rattle.asc_work.proofs.Rounds.{over_parts}
use Rattle.asc_work.proofs.lanes.run_all.Goals as goal

pub returns-clause-done : goal.returns-clause-done
returns-clause-done g c =
    let parts = c.split_at_mut-working.ensures in
    over_parts (λ k lane. HasRunAll c.args.round.now k lane) c.busy_lanes-busy.result _ _ _ c.run_from.new.lanes c.run_from-2.new.lanes
    parts.front_len parts.back_len c.run_from.ensures.count c.run_from-2.ensures.count c.run_from.ensures.done c.run_from-2.ensures.done

pub returns-clause-only : goal.returns-clause-only
returns-clause-only g c =
    let parts = c.split_at_mut-working.ensures in
    over_parts (λ k lane. HasRunOnly c.args.round.now k lane) c.busy_lanes-busy.result _ _ _ c.run_from.new.lanes c.run_from-2.new.lanes
    parts.front_len parts.back_len c.run_from.ensures.count c.run_from-2.ensures.count c.run_from.ensures.only c.run_from-2.ensures.only
