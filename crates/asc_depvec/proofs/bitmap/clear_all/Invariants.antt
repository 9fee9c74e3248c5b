-- So many blocks are 0.
use Rattle.std.proofs.Common.{◌≡◌, ℕ, ◌<◌, slice_index}
use Rattle.asc_depvec.proofs.bitmap.clear_all.Given as goal

abbrev pub invariant-loop-block : goal.invariant-loop-block
invariant-loop-block l = (block : ℕ) → block < l.block-index → slice_index l.blocks block ≡ 0
