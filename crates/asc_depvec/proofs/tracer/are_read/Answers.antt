use Rattle.asc_depvec.proofs.Words.{read_of_word}
use Rattle.asc_depvec.proofs.tracer.are_read.Goals as goal
use Rattle.std.proofs.Common.{ℕ, bit_and, ap, sym, ◌∙◌}
use Rattle.std.proofs.lemmas.Bool.{eqb-true}

pub returns : goal.returns
returns c h =
    read_of_word c.args.marks.now c.args.place c.are_bytes.ensures c.requires
    (sym (ap (λ (w : ℕ). bit_and w 2139062143) c.word_of.ensures) ∙ eqb-true _ 33686018 h)
