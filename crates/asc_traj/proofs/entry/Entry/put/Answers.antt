use Rattle.std.proofs.Common.{◌≡◌, ◌+◌, ◌≤◌, List, sym, ap, subst, ◌∙◌, arith}
use Rattle.std.specs.Prelude.{All}
use Rattle.std.proofs.lemmas.Bool.Decides.{nat_tests}
use Rattle.std.proofs.lemmas.Grind.{common_steps}
use Rattle.asc_model.specs.Entry.{Entry}
use Rattle.asc_model.specs.Shape.{Shape, length_of}
use Rattle.asc_traj.specs.declared.part.Part.{Part}
use Rattle.asc_traj.specs.Parts.{word_place}
use Rattle.asc_traj.proofs.Matching.{length_whole}
use Rattle.asc_traj.proofs.Parts.{parts-within}
use Rattle.asc_traj.proofs.entry.Entry.put.Goals as goal

pub put_parts-requires : goal.put_parts-requires
put_parts-requires c =
    let e = c.self.inside in
    let shape : e.shape ≡ c.args.state.now.shape = sym (c.requires ∙ sym (ap (λ (entry : Entry). entry.shape) c.self.view_is)) in
    let within = λ (shape : Shape) (parts : List Part). All (λ p. word_place p + 4 ≤ length_of shape) parts in
    subst (λ (shape : Shape). within shape c.deref.result.now) shape
    (subst (within e.shape) (sym c.deref.ensures.value)
    (parts-within (length_of e.shape) e.halves.writes.items (length_whole e.shape c.self.invariant.0.entry.shape) c.self.invariant.2 c.self.invariant.0.entry.writes.places))
