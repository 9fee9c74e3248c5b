use Rattle.asc_shape.proofs.Eights.{word_read}
use Rattle.asc_shape.proofs.lanes.eight_at.Goals as goal

pub returns : goal.returns
returns c j within = word_read c.args.bytes.now c.args.at j c.type_inv.bytes within
