use Rattle.std.proofs.Common.{◌-◌, ◌%◌, sym, ◌∙◌, arith}
use Rattle.asc_model.proofs.Numbers.{bytes_of-to_le_bytes}
use Rattle.asc_shape.proofs.Guesses.{byte_of_word}
use Rattle.asc_shape.proofs.guess.Guess.byte.Goals as goal

pub returns : goal.returns
returns c =
    byte_of_word c.args.self.now.bytes c.to_le_bytes-bytes.result c.aligned.result (c.args.place - c.args.place % 4) c.args.place c.shape.ensures.state.bytes c.aligned.ensures
    (c.to_le_bytes-bytes.ensures ∙ sym (bytes_of-to_le_bytes c.aligned.result)) (omega arith)
