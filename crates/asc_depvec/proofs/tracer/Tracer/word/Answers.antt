use Rattle.asc_depvec.proofs.Insides.{word_told}
use Rattle.asc_depvec.proofs.tracer.Tracer.word.Goals as goal

pub returns-then-are_touched : goal.returns-then-are_touched
returns-then-are_touched c =
    word_told c.self.inside _ _ _ c.args.place c.word_of.result c.self.view_is c.self.invariant c.deref.ensures.value c.deref-then-are_touched.ensures.value
    (c.are_touched.ensures c.if-are_touched.true) c.word_of.ensures
