use Rattle.std.proofs.Common.{ℕ, ◌-◌, length, ap, ◌∙◌}
use Rattle.asc_depvec.specs.Tracer.{places_of}
use Rattle.asc_depvec.proofs.Insides.{room_told}
use Rattle.asc_depvec.proofs.tracer.Tracer.room.Goals as goal

pub returns : goal.returns
returns c =
    c.room.ensures ∙ ap (λ (cap : ℕ). cap - length (places_of c.self.inside.touched.items)) c.self.invariant.filled
    ∙ room_told c.self.inside _ c.self.view_is
