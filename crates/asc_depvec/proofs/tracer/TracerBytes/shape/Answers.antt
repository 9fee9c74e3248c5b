use Rattle.std.proofs.Common.{ap, subst}
use Rattle.asc_model.specs.Number.{AreBytes}
use Rattle.asc_depvec.specs.Tracer.{Tracing}
use Rattle.asc_depvec.proofs.Insides.{Fits-view, IsState-view}
use Rattle.asc_depvec.proofs.tracer.TracerBytes.shape.Goals as goal

pub returns : goal.returns
returns c =
    let t = c.self.inside in
    record {
      shape = ap (λ (v : Tracing). v.state.shape) c.self.view_is;
      state = IsState-view t _ c.self.view_is c.self.invariant (subst AreBytes c.deref.ensures.value c.are_bytes.ensures);
      marks = Fits-view t _ c.self.view_is c.self.invariant;
    }
