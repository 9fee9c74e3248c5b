use Rattle.std.proofs.Common.{◌≡◌, ◌∙◌, ◌*◌, ◌/◌, inl, inr, length, arith}
use Rattle.std.proofs.lemmas.Bool.{cases_lt}
use Rattle.asc_shape.proofs.Eights.{strided_after}
use Rattle.asc_shape.proofs.page.stride.Goals as goal

pub returns : goal.returns
returns c i within =
    let n = length c.args.words.now / 32 * 32 in
    let size : length c.stride_by_eights.new.words ≡ length c.args.words.now = c.stride_by_eights.auto.words in
    elim (cases_lt i n) [
      | inl below ↦ c.stride_rest.ensures.done i (omega arith) ∙ c.stride_by_eights.ensures.done i below
      | inr above ↦ c.stride_rest.ensures.rest i (omega arith) (omega arith)
          ∙ strided_after c.args.ahead c.args.words.now c.args.prev.now c.stride_by_eights.new.words n i (omega arith) above c.stride_by_eights.ensures.left
    ]
