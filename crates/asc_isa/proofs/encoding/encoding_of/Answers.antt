use Rattle.std.proofs.Common.{refl}
use Rattle.asc_isa.specs.declared.encoding.TheConstants.{ENCODINGS}
use Rattle.asc_isa.specs.declared.encoding.Encoding.TheVariants.{Lui}
use Rattle.asc_isa.proofs.ByEncoding.{table-encoding}
use Rattle.asc_isa.proofs.encoding.encoding_of.Goals as goal

pub returns : goal.returns
returns c = rw c.opcode.ensures (rw c.funct3.ensures (table-encoding ENCODINGS c.args.word Lui refl refl))
