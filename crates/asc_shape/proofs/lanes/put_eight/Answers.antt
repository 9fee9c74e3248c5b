use Rattle.asc_shape.proofs.Eights.{byte_put, byte_beside}
use Rattle.asc_shape.proofs.lanes.put_eight.Goals as goal

pub returns : goal.returns
returns c = record {
  eight = λ i within. byte_put c.args.bytes.now c.args.eight c.args.at i c.fits-eight.1 c.requires within;
  others = λ i outside. byte_beside c.args.bytes.now c.args.eight c.args.at i outside;
}
