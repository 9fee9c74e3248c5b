use Rattle.std.proofs.Common.{◌≡◌, ◌+◌, ◌-◌, ℕ, subst, sym, ap, ◌∙◌, arith}
use Rattle.std.specs.List.{All, flat_map}
use Rattle.asc_model.specs.Shape.{Shape}
use Rattle.asc_model.specs.State.{State}
use Rattle.asc_model.specs.Machine.{Pc, Register}
use Rattle.asc_shape.specs.State.{zero_state, state_after, state_after_all}
use Rattle.asc_elf.specs.File.{segments}
use Rattle.asc_elf.specs.Image.{Image, segment_changes, stack_of}
use Rattle.asc_elf.specs.Checked.{HasPlace}
use Rattle.asc_elf.proofs.Accepted.{IsWhole-cases, HasTable-IsWhole, places-cases}
use Rattle.asc_elf.proofs.Starts.{shape-start_state, start_state-steps}
use Rattle.asc_elf.proofs.image.Image.put.Goals as goal

pub put_segments-requires-clause-table : goal.put_segments-requires-clause-table
put_segments-requires-clause-table c = HasTable-IsWhole c.self.inside.file.now (IsWhole-cases c.self.inside.file.now c.self.inside.shape c.self.invariant.no_fault)

pub put_segments-requires-clause-place : goal.put_segments-requires-clause-place
put_segments-requires-clause-place c =
    let file = c.self.inside.file.now in
    let shape = c.self.inside.shape in
    let same : c.fill.new.self.shape ≡ shape =
    ap (λ (s : State). s.shape) c.fill.ensures ∙ c.requires ∙ sym (ap (λ (i : Image). i.start.shape) c.self.view_is) ∙ shape-start_state file shape in
    subst (λ (s : Shape). All (HasPlace file s) (segments file)) (sym same) (places-cases file shape c.self.invariant.laid_out c.self.invariant.no_fault)

pub returns : goal.returns
returns c =
    let file = c.self.inside.file.now in
    let shape = c.self.inside.shape in
    let filled = c.fill.ensures ∙ ap zero_state (c.requires ∙ sym (ap (λ (i : Image). i.start.shape) c.self.view_is) ∙ shape-start_state file shape) in
    let placed_is = c.put_segments.ensures ∙ ap (λ (s : State). state_after_all s (flat_map (segment_changes file) (segments file))) filled in
    let stack : c.base.result + (c.size.result - 64) ≡ stack_of shape = omega (arith, c.base.ensures.good.size.least) in
    c.set_reg.ensures
    ∙ ap (λ (n : ℕ). state_after c.set_pc.new.self (Register 2 n)) stack
    ∙ ap (λ (s : State). state_after s (Register 2 (stack_of shape))) (c.set_pc.ensures ∙ ap (λ (n : ℕ). state_after c.put_segments.new.s (Pc n)) c.self.invariant.begins)
    ∙ start_state-steps file shape c.put_segments.new.s placed_is
    ∙ ap (λ (i : Image). i.start) c.self.view_is
