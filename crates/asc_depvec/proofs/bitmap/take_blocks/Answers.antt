use Rattle.std.proofs.Common.{◌*◌, ◌/◌, ◌<◌, ◌∙◌, length, arith}
use Rattle.asc_depvec.specs.Bits.{block_at, has_word}
use Rattle.asc_depvec.proofs.Bits.{found-all, found-listed}
use Rattle.asc_depvec.proofs.bitmap.take_blocks.Goals as goal

pub clear_blocks-requires-clause-listed : goal.clear_blocks-requires-clause-listed
clear_blocks-requires-clause-listed c =
    found-listed c.args.blocks.now c.args.groups.now c.deref.result.now c.requires.groups c.requires.noted.marked (c.deref.ensures.value ∙ c.in-Ok.ensures)

pub clear_blocks-requires-clause-used : goal.clear_blocks-requires-clause-used
clear_blocks-requires-clause-used c =
    let blocks = c.args.blocks.now in
    let groups = c.args.groups.now in
    rw (c.deref.ensures.value, c.in-Ok.ensures)
    (found-all (λ block. block.first / 64 < length blocks) (block_at blocks) (has_word groups) (64 * length groups) 0 (λ p lt. omega (arith, lt, c.requires.groups)))
