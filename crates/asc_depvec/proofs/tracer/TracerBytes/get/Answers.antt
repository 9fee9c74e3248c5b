use Rattle.asc_depvec.proofs.Insides.{IsPlace-from, byte_touched, face-touched, of_bytes, of_marks, untouched_told}
use Rattle.asc_depvec.proofs.tracer.TracerBytes.get.Goals as goal

pub index-requires : goal.index-requires
index-requires c = of_marks c.self.inside c.args.place c.self.invariant (IsPlace-from c.self.inside _ c.args.place c.self.view_is c.self.invariant c.requires.place)

pub get_first-requires-clause-untouched : goal.get_first-requires-clause-untouched
get_first-requires-clause-untouched c =
    let within = IsPlace-from c.self.inside _ c.args.place c.self.view_is c.self.invariant c.requires.place in
    untouched_told c.self.inside _ c.args.place c.index.result.now c.self.view_is c.self.invariant within c.index.ensures c.if-index-eq-UNTOUCHED.true

pub index-requires-else-index-eq-UNTOUCHED : goal.index-requires-else-index-eq-UNTOUCHED
index-requires-else-index-eq-UNTOUCHED c = of_bytes c.self.inside c.args.place c.self.invariant (IsPlace-from c.self.inside _ c.args.place c.self.view_is c.self.invariant c.requires.place)

pub returns-else-index-eq-UNTOUCHED : goal.returns-else-index-eq-UNTOUCHED
returns-else-index-eq-UNTOUCHED c =
    let t = c.self.inside in
    let within = IsPlace-from t _ c.args.place c.self.view_is c.self.invariant c.requires.place in
    record {
      byte = byte_touched t _ c.args.place c.index.result.now c.index-else-index-eq-UNTOUCHED.result.now c.self.view_is c.self.invariant within c.index.ensures c.if-index-eq-UNTOUCHED.false c.index-else-index-eq-UNTOUCHED.ensures;
      face = face-touched t _ c.args.place c.index.result.now c.self.view_is c.self.invariant within c.index.ensures c.if-index-eq-UNTOUCHED.false;
    }
