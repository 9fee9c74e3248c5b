-- The instruction table, and which instruction a word is (RISC-V unprivileged manual 20191213, sections 2.2 and 2.3 and
-- chapter 24).
use Rattle.std.specs.Prelude.{ℕ, ◌+◌, ◌*◌, ◌^◌, Bool, ◌==◌, ◌&&◌, List, [], ◌∷◌, ◌++◌, Option, Some, None, if◌then◌else◌}
use Rattle.asc_model.specs.declared.version.Version.{Version}
use Rattle.asc_model.specs.declared.version.Version.TheVariants.{One, Two}
use Rattle.asc_model.specs.declared.instruction.Op.{Op}
use Rattle.asc_model.specs.declared.instruction.Op.TheVariants.{Lui, Auipc, Jal, Jalr, Beq, Bne, Blt, Bge, Bltu, Bgeu, Lb, Lh, Lw, Lbu, Lhu, Sb, Sh, Sw, Addi, Slti, Sltiu, Xori, Ori, Andi, Slli, Srli, Srai, Add, Sub, Sll, Slt, Sltu, Xor, Srl, Sra, Or, And, Fence, FenceI, Ecall, Ebreak, Mul, Mulh, Mulhsu, Mulhu, Div, Divu, Rem, Remu, LrW, ScW, AmoswapW, AmoaddW, AmoxorW, AmoandW, AmoorW, AmominW, AmomaxW, AmominuW, AmomaxuW}
use Rattle.asc_model.specs.declared.instruction.Instr.{Instr}
use Rattle.asc_model.specs.declared.instruction.Instr.TheVariants as instrs
use Rattle.asc_model.specs.Number.{bits, sign_extend}

-- ---- the fields of a word

abbrev pub opcode : ℕ → ℕ
opcode word = bits word 0 7

abbrev pub rd : ℕ → ℕ
rd word = bits word 7 5

abbrev pub funct3 : ℕ → ℕ
funct3 word = bits word 12 3

abbrev pub rs1 : ℕ → ℕ
rs1 word = bits word 15 5

abbrev pub rs2 : ℕ → ℕ
rs2 word = bits word 20 5

abbrev pub funct7 : ℕ → ℕ
funct7 word = bits word 25 7

-- of an atomic. The word's bits 26 and 25, aq and rl, order nothing here
abbrev pub funct5 : ℕ → ℕ
funct5 word = bits word 27 5

-- ---- immediates, by format

abbrev pub immediate_U : ℕ → ℕ
immediate_U word = bits word 12 20 * 2 ^ 12

abbrev pub immediate_J : ℕ → ℕ
immediate_J word = sign_extend 21
    (bits word 31 1 * 2 ^ 20 + bits word 12 8 * 2 ^ 12 + bits word 20 1 * 2 ^ 11 + bits word 21 10 * 2)

abbrev pub immediate_I : ℕ → ℕ
immediate_I word = sign_extend 12 (bits word 20 12)

abbrev pub immediate_S : ℕ → ℕ
immediate_S word = sign_extend 12 (bits word 25 7 * 2 ^ 5 + bits word 7 5)

abbrev pub immediate_B : ℕ → ℕ
immediate_B word = sign_extend 13
    (bits word 31 1 * 2 ^ 12 + bits word 7 1 * 2 ^ 11 + bits word 25 6 * 2 ^ 5 + bits word 8 4 * 2)

-- the shift amount of a shift by an immediate
abbrev pub shamt : ℕ → ℕ
shamt word = bits word 20 5

-- ---- the table

-- which words a row of the table is for
pub data Pattern : Type 0 where
  -- by opcode
  Major : (opcode : ℕ) → Pattern
  -- by opcode and funct3
  Minor : (opcode funct3 : ℕ) → Pattern
  -- by opcode, funct3 and funct7
  Full : (opcode funct3 funct7 : ℕ) → Pattern
  -- an atomic on words, by funct5
  Atomic : (funct5 : ℕ) → Pattern
  -- an atomic on words without a second source, by funct5
  AtomicLoad : (funct5 : ℕ) → Pattern
  -- one word
  Whole : (word : ℕ) → Pattern

-- AMO, and the width of its word
abbrev pub atomic_opcode : ℕ
atomic_opcode = 0b0101111

abbrev pub word_width : ℕ
word_width = 0b010

abbrev pub fits : Pattern → ℕ → Bool
fits (Major major) word = opcode word == major
fits (Minor major minor) word = (opcode word == major) && (funct3 word == minor)
fits (Full major minor funct) word =
    (opcode word == major) && (funct3 word == minor) && (funct7 word == funct)
fits (Atomic funct) word =
    (opcode word == atomic_opcode) && (funct3 word == word_width) && (funct5 word == funct)
fits (AtomicLoad funct) word =
    (opcode word == atomic_opcode) && (funct3 word == word_width) && (funct5 word == funct) && (rs2 word == 0)
fits (Whole whole) word = word == whole

-- how a word spells its operands, by format; Plain spells none
-- R: funct7 31..25 | rs2 24..20 | rs1 19..15 | funct3 14..12 | rd 11..7 | opcode 6..0
-- I: imm[11:0] 31..20 | rs1 19..15 | funct3 14..12 | rd 11..7 | opcode 6..0
-- Shift: funct7 31..25 | shamt 24..20 | rs1 19..15 | funct3 14..12 | rd 11..7 | opcode 6..0
-- S: imm[11:5] 31..25 | rs2 24..20 | rs1 19..15 | funct3 14..12 | imm[4:0] 11..7 | opcode 6..0
-- B: imm[12] 31 | imm[10:5] 30..25 | rs2 24..20 | rs1 19..15 | funct3 14..12 | imm[4:1] 11..8 | imm[11] 7 | opcode 6..0
-- U: imm[31:12] 31..12 | rd 11..7 | opcode 6..0
-- J: imm[20] 31 | imm[10:1] 30..21 | imm[11] 20 | imm[19:12] 19..12 | rd 11..7 | opcode 6..0
pub data Format : Type 0 where
  U J I Shift S B R Plain : Format

abbrev pub operands : Format → Op → ℕ → Instr
operands U op word = instrs.U op (rd word) (immediate_U word)
operands J op word = instrs.J op (rd word) (immediate_J word)
operands I op word = instrs.I op (rd word) (rs1 word) (immediate_I word)
operands Shift op word = instrs.I op (rd word) (rs1 word) (shamt word)
operands S op word = instrs.S op (rs1 word) (rs2 word) (immediate_S word)
operands B op word = instrs.B op (rs1 word) (rs2 word) (immediate_B word)
operands R op word = instrs.R op (rd word) (rs1 word) (rs2 word)
operands Plain op word = instrs.Plain op

pub record Row : Type 0 where
  pub pattern : Pattern
  pub format : Format
  pub op : Op

abbrev row : Pattern → Format → Op → Row
row key format op = record { pattern = key; format = format; op = op }

-- RV32I, Zifencei and RV32M
abbrev pub base_table : List Row
base_table =
    row (Major 0b0110111) U Lui
    ∷ row (Major 0b0010111) U Auipc
    ∷ row (Major 0b1101111) J Jal
    ∷ row (Minor 0b1100111 0b000) I Jalr
    ∷ row (Minor 0b1100011 0b000) B Beq
    ∷ row (Minor 0b1100011 0b001) B Bne
    ∷ row (Minor 0b1100011 0b100) B Blt
    ∷ row (Minor 0b1100011 0b101) B Bge
    ∷ row (Minor 0b1100011 0b110) B Bltu
    ∷ row (Minor 0b1100011 0b111) B Bgeu
    ∷ row (Minor 0b0000011 0b000) I Lb
    ∷ row (Minor 0b0000011 0b001) I Lh
    ∷ row (Minor 0b0000011 0b010) I Lw
    ∷ row (Minor 0b0000011 0b100) I Lbu
    ∷ row (Minor 0b0000011 0b101) I Lhu
    ∷ row (Minor 0b0100011 0b000) S Sb
    ∷ row (Minor 0b0100011 0b001) S Sh
    ∷ row (Minor 0b0100011 0b010) S Sw
    ∷ row (Minor 0b0010011 0b000) I Addi
    ∷ row (Minor 0b0010011 0b010) I Slti
    ∷ row (Minor 0b0010011 0b011) I Sltiu
    ∷ row (Minor 0b0010011 0b100) I Xori
    ∷ row (Minor 0b0010011 0b110) I Ori
    ∷ row (Minor 0b0010011 0b111) I Andi
    ∷ row (Full 0b0010011 0b001 0b0000000) Shift Slli
    ∷ row (Full 0b0010011 0b101 0b0000000) Shift Srli
    ∷ row (Full 0b0010011 0b101 0b0100000) Shift Srai
    ∷ row (Full 0b0110011 0b000 0b0000000) R Add
    ∷ row (Full 0b0110011 0b000 0b0100000) R Sub
    ∷ row (Full 0b0110011 0b001 0b0000000) R Sll
    ∷ row (Full 0b0110011 0b010 0b0000000) R Slt
    ∷ row (Full 0b0110011 0b011 0b0000000) R Sltu
    ∷ row (Full 0b0110011 0b100 0b0000000) R Xor
    ∷ row (Full 0b0110011 0b101 0b0000000) R Srl
    ∷ row (Full 0b0110011 0b101 0b0100000) R Sra
    ∷ row (Full 0b0110011 0b110 0b0000000) R Or
    ∷ row (Full 0b0110011 0b111 0b0000000) R And
    ∷ row (Minor 0b0001111 0b000) Plain Fence
    ∷ row (Minor 0b0001111 0b001) Plain FenceI
    ∷ row (Whole 0x00000073) Plain Ecall
    ∷ row (Whole 0x00100073) Plain Ebreak
    ∷ row (Full 0b0110011 0b000 0b0000001) R Mul
    ∷ row (Full 0b0110011 0b001 0b0000001) R Mulh
    ∷ row (Full 0b0110011 0b010 0b0000001) R Mulhsu
    ∷ row (Full 0b0110011 0b011 0b0000001) R Mulhu
    ∷ row (Full 0b0110011 0b100 0b0000001) R Div
    ∷ row (Full 0b0110011 0b101 0b0000001) R Divu
    ∷ row (Full 0b0110011 0b110 0b0000001) R Rem
    ∷ row (Full 0b0110011 0b111 0b0000001) R Remu
    ∷ []

-- RV32A
abbrev pub atomic_table : List Row
atomic_table =
    row (AtomicLoad 0b00010) R LrW
    ∷ row (Atomic 0b00011) R ScW
    ∷ row (Atomic 0b00001) R AmoswapW
    ∷ row (Atomic 0b00000) R AmoaddW
    ∷ row (Atomic 0b00100) R AmoxorW
    ∷ row (Atomic 0b01100) R AmoandW
    ∷ row (Atomic 0b01000) R AmoorW
    ∷ row (Atomic 0b10000) R AmominW
    ∷ row (Atomic 0b10100) R AmomaxW
    ∷ row (Atomic 0b11000) R AmominuW
    ∷ row (Atomic 0b11100) R AmomaxuW
    ∷ []

-- the instructions of a version
abbrev pub table : Version → List Row
table One = base_table
table Two = base_table ++ atomic_table

-- the instruction of the first row that is for the word
abbrev pub find : List Row → ℕ → Option Instr
find [] word = None
find (first ∷ rows) word =
    if fits first.pattern word then Some (operands first.format first.op word) else find rows word

unfoldable pub decode : Version → ℕ → Option Instr
decode version word = find (table version) word

-- the parts of an instruction
pub record Parts : Type 0 where
  pub op : Op
  pub rd : ℕ
  pub rs1 : ℕ
  pub rs2 : ℕ
  pub imm : ℕ

-- a part that the format lacks is 0
abbrev pub parts_of : Instr → Parts
parts_of (instrs.U op rd imm) = record { op = op; rd = rd; rs1 = 0; rs2 = 0; imm = imm }
parts_of (instrs.J op rd imm) = record { op = op; rd = rd; rs1 = 0; rs2 = 0; imm = imm }
parts_of (instrs.I op rd rs1 imm) = record { op = op; rd = rd; rs1 = rs1; rs2 = 0; imm = imm }
parts_of (instrs.S op rs1 rs2 imm) = record { op = op; rd = 0; rs1 = rs1; rs2 = rs2; imm = imm }
parts_of (instrs.B op rs1 rs2 imm) = record { op = op; rd = 0; rs1 = rs1; rs2 = rs2; imm = imm }
parts_of (instrs.R op rd rs1 rs2) = record { op = op; rd = rd; rs1 = rs1; rs2 = rs2; imm = 0 }
parts_of (instrs.Plain op) = record { op = op; rd = 0; rs1 = 0; rs2 = 0; imm = 0 }

abbrev pub op_of : Instr → Op
op_of i = (parts_of i).op

abbrev pub rd_of : Instr → ℕ
rd_of i = (parts_of i).rd

abbrev pub rs1_of : Instr → ℕ
rs1_of i = (parts_of i).rs1

abbrev pub rs2_of : Instr → ℕ
rs2_of i = (parts_of i).rs2

abbrev pub imm_of : Instr → ℕ
imm_of i = (parts_of i).imm
