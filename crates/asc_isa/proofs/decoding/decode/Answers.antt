use Rattle.std.proofs.Common.{IfSome, subst, sym}
use Rattle.asc_isa.specs.Decode.{HasRegisters}
use Rattle.asc_isa.proofs.Rows.{decode-registers}
use Rattle.asc_isa.proofs.decoding.decode.Goals as goal

pub returns-clause-registers : goal.returns-clause-registers
returns-clause-registers g c =
    subst (λ i. IfSome i HasRegisters) (sym c.instruction.ensures) (decode-registers _ c.args.word)
