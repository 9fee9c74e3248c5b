use Rattle.std.proofs.Common.{refl}
use Rattle.asc_model.specs.Places.{places_from}
use Rattle.asc_depvec.proofs.Insides.{face-same, marks_touched, word_told}
use Rattle.asc_depvec.proofs.tracer.TracerWords.get_touched.Goals as goal

pub returns-clause-word : goal.returns-clause-word
returns-clause-word c =
    let t = c.self.inside in
    word_told t _ t.marks.items c.deref.result.now c.args.place c.word_of.result c.self.view_is c.self.invariant refl c.deref.ensures.value
    (marks_touched t _ (places_from c.args.place 4) c.self.view_is c.requires.touched) c.word_of.ensures

pub returns-clause-face : goal.returns-clause-face
returns-clause-face c =
    let t = c.self.inside in
    face-same t _ t.marks.items (places_from c.args.place 4) c.self.view_is refl (marks_touched t _ (places_from c.args.place 4) c.self.view_is c.requires.touched)
