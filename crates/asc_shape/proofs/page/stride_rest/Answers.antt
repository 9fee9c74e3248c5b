use Rattle.std.proofs.Common.{◌+◌, ◌*◌, ◌/◌, List, ℕ, length, sym, ap, ◌∙◌, ◌≤◌, arith, refl, inl}
use Rattle.asc_model.specs.Number.{word_at}
use Rattle.asc_model.proofs.Numbers.{bytes_of-to_le_bytes}
use Rattle.asc_shape.specs.Stride.{strided_word}
use Rattle.asc_shape.proofs.Strides.{stride_more}
use Rattle.asc_shape.proofs.page.stride_rest.Goals as goal

pub loop-k-init : goal.loop-k-init
loop-k-init c = record { low = omega arith; done = λ i least below. absurd (omega arith); left = λ i outside. refl }

pub loop-k-preserved : goal.loop-k-preserved
loop-k-preserved c =
    let at = 4 * c.loop-k.k in
    let bytes = c.copy_from_slice.ensures.after ∙ c.to_le_bytes.ensures in
    let low : length c.args.words.now / 32 * 32 ≤ at = c.loop-k.invariant.low in
    let more = stride_more c.args.ahead c.args.words.now c.args.prev.now c.loop-k.words c.copy_from_slice.new.self (length c.args.words.now / 32 * 32) c.loop-k.k at (at + 4) c.strided-word.result
    c.loop-k.auto.words low c.loop-k.invariant.done c.loop-k.invariant.left refl refl (omega arith) (ap (λ (l : List ℕ). length l) bytes ∙ omega arith)
    (c.strided-word.ensures ∙ ap (λ w. strided_word c.args.ahead w c.word_in-in-loop-k.result) c.word_in.ensures ∙ ap (λ w. strided_word c.args.ahead (word_at c.loop-k.words at) w) c.word_in-in-loop-k.ensures)
    (bytes ∙ sym (bytes_of-to_le_bytes c.strided-word.result)) in
    record { low = omega arith; done = more.0; left = more.1 }

pub returns : goal.returns
returns c = record {
  done = λ i below. c.loop-k.invariant.left i (inl below);
  rest = λ i least below. c.loop-k.invariant.done i least (omega arith);
}
