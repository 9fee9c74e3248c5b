use Rattle.asc_shape.proofs.Eights.{eight_strided}
use Rattle.asc_shape.proofs.lanes.stride_eight.Goals as goal

pub returns-clause-eight : goal.returns-clause-eight
returns-clause-eight c i least most =
    eight_strided c.args.ahead c.args.words.now c.args.prev.now c.put_eight.new.bytes c.eight_at.result c.eight_at-2.result c.strided_eight-next.result c.args.at i c.requires.aligned least most
    c.eight_at.ensures c.eight_at-2.ensures c.strided_eight-next.ensures c.put_eight.ensures.eight
