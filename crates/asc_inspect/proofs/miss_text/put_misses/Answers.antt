-- One line more, and no cell left.
use Rattle.std.proofs.Common.{length, refl, ap, ◌∙◌, arith}
use Rattle.std.proofs.lemmas.List.{length-drop, take_rest}
use Rattle.asc_inspect.specs.Missed.{line_length}
use Rattle.asc_inspect.proofs.MissTexts.{line-put, misses-put}
use Rattle.asc_inspect.proofs.miss_text.put_misses.Goals as goal

pub loop-from-preserved : goal.loop-from-preserved
loop-from-preserved c =
    let rest = take_rest c.args.cells.now c.loop-from.from in
    let most = c.line_length.ensures.most in let left = length-drop c.loop-from.from c.args.cells.now in
    record {
      whole = line-put c.args.now.now c.args.cells.now c.loop-from.from c.line_length.result _ c.loop-from.text.items c.put_miss.new.text.items c.loop-from-test.true (c.line_length.ensures.length ∙ ap line_length rest) refl
          (c.in_ok-put_miss.ensures) ∙ c.loop-from.invariant.whole;
      within = omega (arith, most, ap length rest, left, c.loop-from-test.true);
    }

pub returns : goal.returns
returns c = misses-put c.args.now.now c.args.cells.now c.loop-from.from _ _ c.loop-from-test.false c.loop-from.invariant.whole
