use Rattle.std.proofs.Common.{sym, ap, ◌∙◌, arith, List, ℕ}
use Rattle.asc_model.specs.Machine.{Register}
use Rattle.asc_model.specs.Places.{bytes_after}
use Rattle.asc_shape.proofs.States.{changed_is, state_after-register_0, cells_of-register}
use Rattle.asc_shape.proofs.state.State.set_reg.Goals as goal

pub returns-then-k-ne0 : goal.returns-then-k-ne0
returns-then-k-ne0 c =
    let s = c.args.self.now in
    c.set_word.ensures
    ∙ ap (λ (list : List (ℕ × ℕ)). record s { bytes = bytes_after s.bytes list }) (sym (cells_of-register s.shape c.args.k c.args.value c.if-k-ne0.true))
    ∙ sym (changed_is s (Register c.args.k c.args.value) c.shape.ensures.state (omega arith, omega arith))

pub returns-else-k-ne0 : goal.returns-else-k-ne0
returns-else-k-ne0 c = sym (state_after-register_0 c.args.self.now c.args.k c.args.value (omega arith) (omega arith) c.shape.ensures.state)
