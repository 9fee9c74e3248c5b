use Rattle.std.proofs.Common.{◌+◌, ◌-◌, List, ℕ, length, sym, ap, ◌∙◌, arith}
use Rattle.asc_model.specs.Machine.{splice}
use Rattle.asc_model.specs.Number.{bytes_of}
use Rattle.asc_model.proofs.Numbers.{bytes_of-to_le_bytes, bytes_after-cells}
use Rattle.asc_shape.proofs.States.{put_mid-splice}
use Rattle.asc_depvec.proofs.tracer.put_word.Goals as goal

pub returns : goal.returns
returns c =
    let at = c.args.place in
    let bytes = c.args.bytes.now in
    let spelled = c.copy_from_slice.ensures.after ∙ c.to_le_bytes.ensures ∙ sym (bytes_of-to_le_bytes c.args.word) in
    put_mid-splice at (at + 4 - at) bytes c.copy_from_slice.new.self (ap (λ (l : List ℕ). length l) spelled ∙ omega arith)
    ∙ ap (splice bytes at) spelled
    ∙ sym (bytes_after-cells bytes at (bytes_of 4 c.args.word) (omega (arith, c.requires)))
