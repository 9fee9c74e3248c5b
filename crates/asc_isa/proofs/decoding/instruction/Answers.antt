use Rattle.std.proofs.Common.{Some, [], ◌∷◌, ap, ◌∙◌, refl}
use Rattle.std.proofs.lemmas.Bool.{and_parts, eqb-true}
use Rattle.asc_model.specs.declared.instruction.Op.TheVariants.{Add, Addi, And, Andi, Auipc, Beq, Bge, Bgeu, Blt, Bltu, Bne, Div, Divu, Fence, FenceI, Jal, Jalr, Lb, Lbu, Lh, Lhu, Lui, Lw, Mul, Mulh, Mulhsu, Mulhu, Or, Ori, Rem, Remu, Sb, Sh, Sll, Slt, Slti, Sltiu, Sltu, Sra, Srl, Sub, Sw, Xor, Xori}
use Rattle.asc_model.specs.Instruction.{Major, Minor, U, J, I, S, B, R, Plain}
use Rattle.asc_isa.proofs.Rows.{decode-for, decode-atomic, decode-no_atomic}
use Rattle.asc_isa.proofs.ByEncoding.{decode-only, decode-chosen, decode-none}
use Rattle.asc_isa.proofs.decoding.instruction.Goals as goal

pub returns-in-Lui : goal.returns-in-Lui
returns-in-Lui g c = ap Some c.u_type.ensures ∙ decode-only c.args.atomics (Major 0b0110111) U Lui c.args.word refl refl c.in-Lui.ensures

pub returns-in-Auipc : goal.returns-in-Auipc
returns-in-Auipc g c = ap Some c.u_type-in-Auipc.ensures ∙ decode-only c.args.atomics (Major 0b0010111) U Auipc c.args.word refl refl c.in-Auipc.ensures

pub returns-in-Jal : goal.returns-in-Jal
returns-in-Jal g c = ap Some c.j_type.ensures ∙ decode-only c.args.atomics (Major 0b1101111) J Jal c.args.word refl refl c.in-Jal.ensures

pub returns-in-Jalr : goal.returns-in-Jalr
returns-in-Jalr g c = ap Some c.i_type.ensures ∙ decode-only c.args.atomics (Minor 0b1100111 0b000) I Jalr c.args.word refl refl c.in-Jalr.ensures

pub returns-in-Beq : goal.returns-in-Beq
returns-in-Beq g c = ap Some c.b_type.ensures ∙ decode-only c.args.atomics (Minor 0b1100011 0b000) B Beq c.args.word refl refl c.in-Beq.ensures

pub returns-in-Bne : goal.returns-in-Bne
returns-in-Bne g c = ap Some c.b_type-in-Bne.ensures ∙ decode-only c.args.atomics (Minor 0b1100011 0b001) B Bne c.args.word refl refl c.in-Bne.ensures

pub returns-in-Blt : goal.returns-in-Blt
returns-in-Blt g c = ap Some c.b_type-in-Blt.ensures ∙ decode-only c.args.atomics (Minor 0b1100011 0b100) B Blt c.args.word refl refl c.in-Blt.ensures

pub returns-in-Bge : goal.returns-in-Bge
returns-in-Bge g c = ap Some c.b_type-in-Bge.ensures ∙ decode-only c.args.atomics (Minor 0b1100011 0b101) B Bge c.args.word refl refl c.in-Bge.ensures

pub returns-in-Bltu : goal.returns-in-Bltu
returns-in-Bltu g c = ap Some c.b_type-in-Bltu.ensures ∙ decode-only c.args.atomics (Minor 0b1100011 0b110) B Bltu c.args.word refl refl c.in-Bltu.ensures

pub returns-in-Bgeu : goal.returns-in-Bgeu
returns-in-Bgeu g c = ap Some c.b_type-in-Bgeu.ensures ∙ decode-only c.args.atomics (Minor 0b1100011 0b111) B Bgeu c.args.word refl refl c.in-Bgeu.ensures

pub returns-in-Lb : goal.returns-in-Lb
returns-in-Lb g c = ap Some c.i_type-in-Lb.ensures ∙ decode-only c.args.atomics (Minor 0b0000011 0b000) I Lb c.args.word refl refl c.in-Lb.ensures

pub returns-in-Lh : goal.returns-in-Lh
returns-in-Lh g c = ap Some c.i_type-in-Lh.ensures ∙ decode-only c.args.atomics (Minor 0b0000011 0b001) I Lh c.args.word refl refl c.in-Lh.ensures

pub returns-in-Lw : goal.returns-in-Lw
returns-in-Lw g c = ap Some c.i_type-in-Lw.ensures ∙ decode-only c.args.atomics (Minor 0b0000011 0b010) I Lw c.args.word refl refl c.in-Lw.ensures

pub returns-in-Lbu : goal.returns-in-Lbu
returns-in-Lbu g c = ap Some c.i_type-in-Lbu.ensures ∙ decode-only c.args.atomics (Minor 0b0000011 0b100) I Lbu c.args.word refl refl c.in-Lbu.ensures

pub returns-in-Lhu : goal.returns-in-Lhu
returns-in-Lhu g c = ap Some c.i_type-in-Lhu.ensures ∙ decode-only c.args.atomics (Minor 0b0000011 0b101) I Lhu c.args.word refl refl c.in-Lhu.ensures

pub returns-in-Sb : goal.returns-in-Sb
returns-in-Sb g c = ap Some c.s_type.ensures ∙ decode-only c.args.atomics (Minor 0b0100011 0b000) S Sb c.args.word refl refl c.in-Sb.ensures

pub returns-in-Sh : goal.returns-in-Sh
returns-in-Sh g c = ap Some c.s_type-in-Sh.ensures ∙ decode-only c.args.atomics (Minor 0b0100011 0b001) S Sh c.args.word refl refl c.in-Sh.ensures

pub returns-in-Sw : goal.returns-in-Sw
returns-in-Sw g c = ap Some c.s_type-in-Sw.ensures ∙ decode-only c.args.atomics (Minor 0b0100011 0b010) S Sw c.args.word refl refl c.in-Sw.ensures

pub returns-in-Addi : goal.returns-in-Addi
returns-in-Addi g c = ap Some c.i_type-in-Addi.ensures ∙ decode-only c.args.atomics (Minor 0b0010011 0b000) I Addi c.args.word refl refl c.in-Addi.ensures

pub returns-in-Slti : goal.returns-in-Slti
returns-in-Slti g c = ap Some c.i_type-in-Slti.ensures ∙ decode-only c.args.atomics (Minor 0b0010011 0b010) I Slti c.args.word refl refl c.in-Slti.ensures

pub returns-in-Sltiu : goal.returns-in-Sltiu
returns-in-Sltiu g c = ap Some c.i_type-in-Sltiu.ensures ∙ decode-only c.args.atomics (Minor 0b0010011 0b011) I Sltiu c.args.word refl refl c.in-Sltiu.ensures

pub returns-in-Xori : goal.returns-in-Xori
returns-in-Xori g c = ap Some c.i_type-in-Xori.ensures ∙ decode-only c.args.atomics (Minor 0b0010011 0b100) I Xori c.args.word refl refl c.in-Xori.ensures

pub returns-in-Ori : goal.returns-in-Ori
returns-in-Ori g c = ap Some c.i_type-in-Ori.ensures ∙ decode-only c.args.atomics (Minor 0b0010011 0b110) I Ori c.args.word refl refl c.in-Ori.ensures

pub returns-in-Andi : goal.returns-in-Andi
returns-in-Andi g c = ap Some c.i_type-in-Andi.ensures ∙ decode-only c.args.atomics (Minor 0b0010011 0b111) I Andi c.args.word refl refl c.in-Andi.ensures

pub returns-in-Slli : goal.returns-in-Slli
returns-in-Slli g c = c.slli.ensures ∙ decode-for c.args.atomics (Minor 0b0010011 0b001) c.args.word refl c.in-Slli.ensures

pub returns-in-Srli : goal.returns-in-Srli
returns-in-Srli g c = c.srli_or_srai.ensures ∙ decode-for c.args.atomics (Minor 0b0010011 0b101) c.args.word refl c.in-Srli.ensures

pub returns-in-Add : goal.returns-in-Add
returns-in-Add g c =
    c.op_or.ensures ∙ decode-chosen c.args.atomics R 0b0110011 0b000 c.args.word ((0b0000000, Add) ∷ (0b0100000, Sub) ∷ (0b0000001, Mul) ∷ []) refl refl c.in-Add.ensures

pub returns-in-Sll : goal.returns-in-Sll
returns-in-Sll g c =
    c.op.ensures ∙ decode-chosen c.args.atomics R 0b0110011 0b001 c.args.word ((0b0000000, Sll) ∷ (0b0000001, Mulh) ∷ []) refl refl c.in-Sll.ensures

pub returns-in-Slt : goal.returns-in-Slt
returns-in-Slt g c =
    c.op-in-Slt.ensures ∙ decode-chosen c.args.atomics R 0b0110011 0b010 c.args.word ((0b0000000, Slt) ∷ (0b0000001, Mulhsu) ∷ []) refl refl c.in-Slt.ensures

pub returns-in-Sltu : goal.returns-in-Sltu
returns-in-Sltu g c =
    c.op-in-Sltu.ensures ∙ decode-chosen c.args.atomics R 0b0110011 0b011 c.args.word ((0b0000000, Sltu) ∷ (0b0000001, Mulhu) ∷ []) refl refl c.in-Sltu.ensures

pub returns-in-Xor : goal.returns-in-Xor
returns-in-Xor g c =
    c.op-in-Xor.ensures ∙ decode-chosen c.args.atomics R 0b0110011 0b100 c.args.word ((0b0000000, Xor) ∷ (0b0000001, Div) ∷ []) refl refl c.in-Xor.ensures

pub returns-in-Srl : goal.returns-in-Srl
returns-in-Srl g c =
    c.op_or-in-Srl.ensures ∙ decode-chosen c.args.atomics R 0b0110011 0b101 c.args.word ((0b0000000, Srl) ∷ (0b0100000, Sra) ∷ (0b0000001, Divu) ∷ []) refl refl c.in-Srl.ensures

pub returns-in-Or : goal.returns-in-Or
returns-in-Or g c =
    c.op-in-Or.ensures ∙ decode-chosen c.args.atomics R 0b0110011 0b110 c.args.word ((0b0000000, Or) ∷ (0b0000001, Rem) ∷ []) refl refl c.in-Or.ensures

pub returns-in-And : goal.returns-in-And
returns-in-And g c =
    c.op-in-And.ensures ∙ decode-chosen c.args.atomics R 0b0110011 0b111 c.args.word ((0b0000000, And) ∷ (0b0000001, Remu) ∷ []) refl refl c.in-And.ensures

pub returns-in-Fence : goal.returns-in-Fence
returns-in-Fence g c = decode-only c.args.atomics (Minor 0b0001111 0b000) Plain Fence c.args.word refl refl c.in-Fence.ensures

pub returns-in-FenceI : goal.returns-in-FenceI
returns-in-FenceI g c = decode-only c.args.atomics (Minor 0b0001111 0b001) Plain FenceI c.args.word refl refl c.in-FenceI.ensures

pub returns-in-System : goal.returns-in-System
returns-in-System g c =
    c.system.ensures ∙ decode-for c.args.atomics (Major 0b1110011) c.args.word refl (and_parts _ _ c.in-System.ensures).0

pub returns-then-atomics : goal.returns-then-atomics
returns-then-atomics g c =
    c.amo.ensures ∙ decode-atomic c.args.atomics (Minor 0b0101111 0b010) c.args.word refl c.if-atomics.true c.in-Atomic.ensures

pub returns-else-atomics : goal.returns-else-atomics
returns-else-atomics g c =
    decode-no_atomic c.args.atomics c.args.word c.if-atomics.false (eqb-true _ _ (and_parts _ _ c.in-Atomic.ensures).0)

pub returns-in-Other : goal.returns-in-Other
returns-in-Other g c = decode-none c.args.atomics c.args.word c.in-Other.ensures
