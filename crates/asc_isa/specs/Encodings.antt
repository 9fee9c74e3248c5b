-- The encodings of words, by opcode and funct3.
use Rattle.std.specs.Prelude.{ℕ, ◌≡◌, true, Option, Some, None}
use Rattle.asc_model.specs.declared.version.Version.TheVariants.{Two}
use Rattle.asc_model.specs.Instruction.{Pattern, Major, Minor, fits, decode, atomic_opcode, word_width}
use Rattle.asc_isa.specs.declared.encoding.Encoding.{Encoding}
use Rattle.asc_isa.specs.declared.encoding.Encoding.TheVariants.{Lui, Jal, Jalr, Beq, Bne, Blt, Bge, Bltu, Bgeu, Lw, Lbu, Sb, Sw, Addi, Andi, Slli, Srli, Add, Sltu, Xor, Or, And, Auipc, Lb, Lh, Lhu, Sh, Slti, Sltiu, Xori, Ori, Sll, Slt, Srl, Fence, FenceI, System, Atomic, Other}

-- the opcode of an encoding's words, and their funct3 where it counts
abbrev pub pattern_of : Encoding → Option Pattern
pattern_of Lui = Some (Major 0b0110111)
pattern_of Auipc = Some (Major 0b0010111)
pattern_of Jal = Some (Major 0b1101111)
pattern_of Jalr = Some (Minor 0b1100111 0b000)
pattern_of Beq = Some (Minor 0b1100011 0b000)
pattern_of Bne = Some (Minor 0b1100011 0b001)
pattern_of Blt = Some (Minor 0b1100011 0b100)
pattern_of Bge = Some (Minor 0b1100011 0b101)
pattern_of Bltu = Some (Minor 0b1100011 0b110)
pattern_of Bgeu = Some (Minor 0b1100011 0b111)
pattern_of Lb = Some (Minor 0b0000011 0b000)
pattern_of Lh = Some (Minor 0b0000011 0b001)
pattern_of Lw = Some (Minor 0b0000011 0b010)
pattern_of Lbu = Some (Minor 0b0000011 0b100)
pattern_of Lhu = Some (Minor 0b0000011 0b101)
pattern_of Sb = Some (Minor 0b0100011 0b000)
pattern_of Sh = Some (Minor 0b0100011 0b001)
pattern_of Sw = Some (Minor 0b0100011 0b010)
pattern_of Addi = Some (Minor 0b0010011 0b000)
pattern_of Slti = Some (Minor 0b0010011 0b010)
pattern_of Sltiu = Some (Minor 0b0010011 0b011)
pattern_of Xori = Some (Minor 0b0010011 0b100)
pattern_of Ori = Some (Minor 0b0010011 0b110)
pattern_of Andi = Some (Minor 0b0010011 0b111)
pattern_of Slli = Some (Minor 0b0010011 0b001)
pattern_of Srli = Some (Minor 0b0010011 0b101)
pattern_of Add = Some (Minor 0b0110011 0b000)
pattern_of Sll = Some (Minor 0b0110011 0b001)
pattern_of Slt = Some (Minor 0b0110011 0b010)
pattern_of Sltu = Some (Minor 0b0110011 0b011)
pattern_of Xor = Some (Minor 0b0110011 0b100)
pattern_of Srl = Some (Minor 0b0110011 0b101)
pattern_of Or = Some (Minor 0b0110011 0b110)
pattern_of And = Some (Minor 0b0110011 0b111)
pattern_of Fence = Some (Minor 0b0001111 0b000)
pattern_of FenceI = Some (Minor 0b0001111 0b001)
pattern_of System = Some (Minor 0b1110011 0b000)
pattern_of Atomic = Some (Minor atomic_opcode word_width)
pattern_of Other = None

-- a word that a key is for; without a key, one that is no instruction in either version
abbrev pub IsFor : Option Pattern → ℕ → Type 0
IsFor (Some key) word = fits key word ≡ true
IsFor None word = None ≡ decode Two word

-- a word of an encoding
abbrev pub IsOfEncoding : Encoding → ℕ → Type 0
IsOfEncoding encoding word = IsFor (pattern_of encoding) word
