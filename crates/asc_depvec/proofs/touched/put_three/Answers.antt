use Rattle.asc_depvec.proofs.Listed.{put-three}
use Rattle.asc_depvec.proofs.touched.put_three.Goals as goal

pub returns : goal.returns
returns c = put-three c.args.items.now c.args.at _ _ _ c.requires.room
