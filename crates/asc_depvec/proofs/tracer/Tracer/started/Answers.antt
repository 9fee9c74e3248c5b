use Rattle.asc_depvec.proofs.Insides.{started}
use Rattle.asc_depvec.proofs.tracer.Tracer.started.Goals as goal

pub returns : goal.returns
returns c = started c.self.inside _ c.self.view_is c.self.invariant
