-- The operations that programs do most.
use Rattle.std.specs.Prelude.{Bool, true, false, Option, Some, None, if◌then◌else◌}
use Rattle.asc_model.specs.declared.instruction.Op.{Op}
use Rattle.asc_model.specs.declared.instruction.Op.TheVariants.{Lui, Auipc, Jal, Jalr, Beq, Bne, Blt, Bge, Bltu, Bgeu, Lb, Lh, Lw, Lbu, Lhu, Sb, Sh, Sw, Addi, Slti, Sltiu, Xori, Ori, Andi, Slli, Srli, Srai, Add, Sub, Sll, Slt, Sltu, Xor, Srl, Sra, Or, And, Fence, FenceI, Ecall, Ebreak, Mul, Mulh, Mulhsu, Mulhu, Div, Divu, Rem, Remu, LrW, ScW, AmoswapW, AmoaddW, AmoxorW, AmoandW, AmoorW, AmominW, AmomaxW, AmominuW, AmomaxuW}
use Rattle.asc_model.specs.declared.instruction.Instr.{Instr}
use Rattle.asc_model.specs.Instruction.{op_of}

abbrev pub is_likely : Op → Bool
is_likely Lui = true
is_likely Auipc = false
is_likely Jal = true
is_likely Jalr = true
is_likely Beq = true
is_likely Bne = true
is_likely Blt = true
is_likely Bge = true
is_likely Bltu = true
is_likely Bgeu = true
is_likely Lb = true
is_likely Lh = false
is_likely Lw = true
is_likely Lbu = true
is_likely Lhu = false
is_likely Sb = true
is_likely Sh = false
is_likely Sw = true
is_likely Addi = true
is_likely Slti = false
is_likely Sltiu = false
is_likely Xori = true
is_likely Ori = true
is_likely Andi = true
is_likely Slli = true
is_likely Srli = true
is_likely Srai = true
is_likely Add = true
is_likely Sub = true
is_likely Sll = false
is_likely Slt = false
is_likely Sltu = true
is_likely Xor = true
is_likely Srl = false
is_likely Sra = false
is_likely Or = true
is_likely And = true
is_likely Fence = false
is_likely FenceI = false
is_likely Ecall = false
is_likely Ebreak = false
is_likely Mul = true
is_likely Mulh = false
is_likely Mulhsu = false
is_likely Mulhu = false
is_likely Div = false
is_likely Divu = false
is_likely Rem = false
is_likely Remu = false
is_likely LrW = false
is_likely ScW = false
is_likely AmoswapW = false
is_likely AmoaddW = false
is_likely AmoxorW = false
is_likely AmoandW = false
is_likely AmoorW = false
is_likely AmominW = false
is_likely AmomaxW = false
is_likely AmominuW = false
is_likely AmomaxuW = false

-- an instruction, where its operation is one of these
abbrev pub likely : Option Instr → Option Instr
likely None = None
likely (Some instruction) = if is_likely (op_of instruction) then Some instruction else None
