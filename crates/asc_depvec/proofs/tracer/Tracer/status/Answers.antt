use Rattle.std.proofs.Common.{◌≡◌, ◌∙◌, ap, arith}
use Rattle.std.proofs.lemmas.Grind.{common_steps}
use Rattle.std.proofs.lemmas.Option.{gets}
use Rattle.std.specs.Prelude.{slice_index_or}
use Rattle.asc_shape.specs.Face.{status_at}
use Rattle.asc_depvec.specs.Tracer.{Tracing}
use Rattle.asc_depvec.specs.Inside.{status_of}
use Rattle.asc_depvec.proofs.Fresh.{status_told}
use Rattle.asc_depvec.proofs.tracer.Tracer.status.Goals as goal

pub returns : goal.returns
returns c =
    let read : c.unwrap_or.result ≡ slice_index_or c.self.inside.marks.items c.args.place 3 = grind (arith, gets, common_steps) in
    c.status_of.ensures ∙ ap status_of read ∙ status_told c.self.inside.marks.items c.args.place ∙ ap (λ (v : Tracing). status_at v.statuses c.args.place) c.self.view_is
