-- What became of the guess, by how its trace ended.
use Rattle.std.proofs.Common.{sym, ◌∙◌, arith}
use Rattle.std.specs.Arc.{arc_value}
use Rattle.std.proofs.lemmas.Bool.Decides.{nat_tests}
use Rattle.std.proofs.lemmas.Grind.{common_steps}
use Rattle.asc_traj.proofs.Reaching.{room-for_one, none-made, stopped-later, ended-later, entry-is, empty-is}
use Rattle.asc_traj.proofs.entry.Entry.traced.Goals as goal

pub unstarted-requires : goal.unstarted-requires
unstarted-requires g c = room-for_one c.trace_guess-traced.ensures.ended c.trace_guess-traced.ensures.tracer c.if-traced-eq0.true

pub returns-then-traced-eq0-clause-made : goal.returns-then-traced-eq0-clause-made
returns-then-traced-eq0-clause-made g c =
    none-made _ _ _ _ _ _ _ c.trace_guess-traced.ensures.ended c.requires.span c.if-traced-eq0.true c.unstarted.result c.unstarted.ensures.made

pub returns-then-traced-eq0-clause-empty : goal.returns-then-traced-eq0-clause-empty
returns-then-traced-eq0-clause-empty g c =
    empty-is _ _ (g.H.Halt.count c.args.halt.now) (g.H.Halt.count c.trace_guess-traced.new.halt) c.unstarted.result
    (returns-then-traced-eq0-clause-made g c)

pub returns-then-is_stopped-clause-made : goal.returns-then-is_stopped-clause-made
returns-then-is_stopped-clause-made g c =
    let ended = c.trace_guess-traced.ensures.ended in
    let stopped = sym c.is_stopped.ensures ∙ c.if-is_stopped.true in
    (stopped-later ended c.requires.span (omega arith) stopped, ended.halt.rose stopped)

pub returns-then-is_stopped-clause-empty : goal.returns-then-is_stopped-clause-empty
returns-then-is_stopped-clause-empty g c = λ none. absurd (omega (arith, none, (returns-then-is_stopped-clause-made g c).0))

pub returns-in-Ok-clause-made : goal.returns-in-Ok-clause-made
returns-in-Ok-clause-made g c =
    let ended = c.trace_guess-traced.ensures.ended in
    let going = sym c.is_stopped.ensures ∙ c.if-is_stopped.false in
    (ended-later ended (omega arith) going, entry-is ended going (arc_value c.in-Ok.entry) c.in-Ok.ensures.entry, ended.halt.stays going)

pub returns-in-Ok-clause-empty : goal.returns-in-Ok-clause-empty
returns-in-Ok-clause-empty g c = λ none. absurd (omega (arith, none, (returns-in-Ok-clause-made g c).0))

pub returns-in-Err-clause-made : goal.returns-in-Err-clause-made
returns-in-Err-clause-made g c =
    let ended = c.trace_guess-traced.ensures.ended in
    let going = sym c.is_stopped.ensures ∙ c.if-is_stopped.false in
    (ended-later ended (omega arith) going, ended.halt.stays going)

pub returns-in-Err-clause-empty : goal.returns-in-Err-clause-empty
returns-in-Err-clause-empty g c = λ none. absurd (omega (arith, none, (returns-in-Err-clause-made g c).0))
