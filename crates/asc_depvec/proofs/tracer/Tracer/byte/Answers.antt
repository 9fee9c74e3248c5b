use Rattle.std.proofs.Common.{◌<◌, ap, arith}
use Rattle.asc_model.specs.Shape.{length_of}
use Rattle.asc_depvec.proofs.Insides.{byte_first, byte_touched, shape_told, untouched_told}
use Rattle.asc_depvec.proofs.tracer.Tracer.byte.Goals as goal

pub returns-then-index-eq-UNTOUCHED : goal.returns-then-index-eq-UNTOUCHED
returns-then-index-eq-UNTOUCHED c =
    let t = c.self.inside in
    let within : c.args.place < length_of t.shape = omega (arith, c.requires, ap length_of (shape_told t _ c.self.view_is)) in
    byte_first t _ c.args.place c.byte.result c.self.view_is c.self.invariant (untouched_told t _ c.args.place c.index.result.now c.self.view_is c.self.invariant within c.index.ensures c.if-index-eq-UNTOUCHED.true) c.byte.ensures

pub returns-else-index-eq-UNTOUCHED : goal.returns-else-index-eq-UNTOUCHED
returns-else-index-eq-UNTOUCHED c =
    let t = c.self.inside in
    let within : c.args.place < length_of t.shape = omega (arith, c.requires, ap length_of (shape_told t _ c.self.view_is)) in
    byte_touched t _ c.args.place c.index.result.now c.index-else-index-eq-UNTOUCHED.result.now c.self.view_is c.self.invariant within c.index.ensures c.if-index-eq-UNTOUCHED.false c.index-else-index-eq-UNTOUCHED.ensures
