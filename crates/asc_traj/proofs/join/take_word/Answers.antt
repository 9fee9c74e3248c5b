-- Each part of the word is laid over, and the first one of a later word is left.
use Rattle.std.proofs.Common.{subst, arith}
use Rattle.std.proofs.lemmas.Bool.Decides.{nat_tests}
use Rattle.std.proofs.lemmas.Grind.{common_steps}
use Rattle.asc_traj.proofs.Taking.{IsTaking, later-first, later-none, takes-all, takes-more, takes-none}
use Rattle.asc_traj.proofs.join.take_word.Goals as goal

pub loop-part-init : goal.loop-part-init
loop-part-init c = takes-none c.args.index c.args.parts.now c.requires.first c.requires.rises

pub loop-part-preserved : goal.loop-part-preserved
loop-part-preserved c =
    let index = c.args.index in
    let parts = c.args.parts.now in
    let here = subst (IsTaking index parts c.loop-part.found) c.in-Some.ensures.cases.0 c.loop-part.invariant in
    takes-more index parts c.loop-part.found c.overlay-found.result c.in-Some.part.now c.in-Some.behind.now here c.requires.low c.if-not-is_same.false c.overlay-found.ensures.low
    c.overlay-found.ensures.bytes

pub returns-then-not-is_same : goal.returns-then-not-is_same
returns-then-not-is_same c =
    let inv = c.loop-part.invariant in
    takes-all c.args.index c.args.parts.now c.loop-part.found c.loop-part.rest.now inv
    (later-first c.args.index c.loop-part.rest.now c.in-Some.part.now c.in-Some.behind.now c.in-Some.ensures.cases.0 inv.first
    c.if-not-is_same.true)

pub returns : goal.returns
returns c = grind (arith, common_steps, nat_tests, later-none, takes-all)
