use Rattle.std.proofs.Common.{ℕ, map, ap, sym, ◌∙◌}
use Rattle.asc_depvec.specs.Tracer.{Tracing, places_of}
use Rattle.asc_depvec.proofs.Mixed.{places-noted}
use Rattle.asc_depvec.proofs.tracer.Tracer.items.Goals as goal

pub returns : goal.returns
returns c =
    let t = c.self.inside in
    ap places_of c.all.ensures ∙ sym (places-noted t.start.bytes (places_of t.touched.items)) ∙ ap (λ (v : Tracing). map {A = ℕ × ℕ} {B = ℕ} (λ cell. cell.0) v.touched) c.self.view_is
