use Rattle.asc_depvec.proofs.Insides.{pc_told}
use Rattle.asc_depvec.proofs.tracer.TracerWords.peek_pc.Goals as goal

pub returns : goal.returns
returns c = pc_told c.self.inside _ c.deref.result.now c.word_of.result c.self.view_is c.self.invariant c.deref.ensures.value c.word_of.ensures
