use Rattle.std.proofs.Common.{◌∙◌}
use Rattle.asc_isa.proofs.Words.{sign_extend-code}
use Rattle.asc_isa.proofs.fields.sign_extend.Goals as goal

pub returns : goal.returns
returns c =
    c.cast_unsigned.ensures ∙ sign_extend-code _ _ _ c.requires.number c.requires.some c.requires.n c.cast_signed.ensures
