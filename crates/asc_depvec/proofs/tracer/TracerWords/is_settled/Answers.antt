use Rattle.std.proofs.Common.{subst}
use Rattle.asc_shape.specs.Settled.{IsSettled}
use Rattle.asc_depvec.specs.Tracer.{Tracing, face_of}
use Rattle.asc_depvec.proofs.tracer.TracerWords.is_settled.Goals as goal

pub returns : goal.returns
returns c h =
    subst (λ (v : Tracing). IsSettled (face_of v) c.args.place) c.self.view_is
    (c.self.invariant.settled c.args.place c.requires.aligned (rw c.deref.ensures.value at (c.have_mark.ensures.mark h)))
