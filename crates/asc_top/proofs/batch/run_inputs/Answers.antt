-- The runs of a batch, to the last or to where they are broken off.
use Rattle.std.proofs.Common.{◌<◌, ℕ, List, get_or, length, arith}
use Rattle.std.proofs.lemmas.List.{get_or-set_other, get_or_default, length-set}
use Rattle.asc_top.proofs.BatchLoops.{at_break, at_first, at_next}
use Rattle.asc_top.proofs.ReadFiles.{answered_as}
use Rattle.asc_top.proofs.batch.run_inputs.Goals as goal

pub loop-number-init : goal.loop-number-init
loop-number-init g c = at_first g.row.T.Denot c.args.line.now c.args.image.now c.args.inputs.now _ _ c.args.walk.now c.args.runner.now c.requires.shape c.requires.settings c.requires.serves c.requires.empty

pub loop-number-preserved : goal.loop-number-preserved
loop-number-preserved g c =
    let left : List (List ℕ) = c.loop-number.inputs in
    let n = c.loop-number.number in
    let at = c.loop-number.invariant in
    let below : n < length c.args.inputs.now = c.loop-number-test.true in
    let item = get_or left n c.index-inputs-number.result in
    let in_left : n < length left = let count = at.count in omega (arith, below, count) in
    at_next g.row.T.Denot c.args.line.now c.args.image.now c.args.inputs.now _ _ n left _ item c.loop-number.walk c.run_input.new.walk c.loop-number.runner c.run_input.new.runner _ _ _ _
    at below (get_or_default left n item c.index-inputs-number.result in_left) (length-set left n c.run_input.new.input)
    (λ k d least. get_or-set_other left n k c.run_input.new.input d (λ same. omega (arith, least, same)))
    c.in_ok-run_input.ensures.shape c.in_ok-run_input.ensures.settings c.in_ok-run_input.ensures.serves c.in_ok-run_input.ensures.ended

pub returns-in_err-run_input-clause-broken : goal.returns-in_err-run_input-clause-broken
returns-in_err-run_input-clause-broken g c =
    let left : List (List ℕ) = c.loop-number.inputs in
    let n = c.loop-number.number in
    let at = c.loop-number.invariant in
    let below : n < length c.args.inputs.now = c.loop-number-test.true in
    let item = get_or left n c.index-inputs-number.result in
    let in_left : n < length left = let count = at.count in omega (arith, below, count) in
    answered_as c.from_residual.result c.in_err-run_input.field-0.0 _ c.from_residual.ensures.1
    (at_break g.row.T.Denot c.args.line.now c.args.image.now c.args.inputs.now _ _ n left item c.loop-number.walk c.loop-number.runner c.run_input.new.runner _ _ _ _ c.in_err-run_input.field-0.0
    at below (get_or_default left n item c.index-inputs-number.result in_left) c.in_err-run_input.ensures.broken)
