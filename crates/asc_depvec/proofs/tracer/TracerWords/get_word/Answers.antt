use Rattle.asc_model.specs.Places.{places_from}
use Rattle.asc_depvec.proofs.Insides.{face-same, word_told}
use Rattle.asc_depvec.proofs.tracer.TracerWords.get_word.Goals as goal

pub returns-then-are_touched-clause-word : goal.returns-then-are_touched-clause-word
returns-then-are_touched-clause-word c =
    word_told c.self.inside _ _ _ c.args.place c.word_of.result c.self.view_is c.self.invariant c.deref.ensures.value c.deref-then-are_touched.ensures.value
    (c.are_touched.ensures c.if-are_touched.true) c.word_of.ensures

pub returns-then-are_touched-clause-face : goal.returns-then-are_touched-clause-face
returns-then-are_touched-clause-face c =
    face-same c.self.inside _ _ (places_from c.args.place 4) c.self.view_is c.deref.ensures.value (c.are_touched.ensures c.if-are_touched.true)
