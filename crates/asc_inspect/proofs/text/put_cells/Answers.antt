-- No cell is left.
use Rattle.asc_inspect.proofs.Texts.{all-put}
use Rattle.asc_inspect.proofs.text.put_cells.Goals as goal

pub returns : goal.returns
returns c = all-put c.args.shape c.args.cells.now c.loop-from.from _ _ c.loop-from-test.false c.loop-from.invariant.whole
