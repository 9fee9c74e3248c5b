-- One of the operations that are listed is likely.
use Rattle.std.proofs.Common.{◌≡◌, true, ◌⊎◌, ◌&&◌, Bool, List, [], ◌∷◌, ap, ◌∙◌, sym, refl, inl, inr}
use Rattle.std.proofs.lemmas.Bool.{and_parts}
use Rattle.asc_model.specs.declared.instruction.Op.{Op}
use Rattle.asc_model.specs.declared.instruction.Op.TheVariants.{Lui, Jal, Jalr, Beq, Bne, Blt, Bge, Bltu, Bgeu, Lb, Lw, Lbu, Sb, Sw, Addi, Xori, Ori, Andi, Slli, Srli, Srai, Add, Sub, Sltu, Xor, Or, And, Mul}
use Rattle.asc_isa.specs.Likely.{is_likely}
use Rattle.asc_isa.proofs.likely.is_likely.Goals as goal

-- an operation is the first or one of the others
abbrev IsAmong : Op → Op → List Op → Type 0
IsAmong op first [] = op ≡ first
IsAmong op first (next ∷ others) = (op ≡ first) ⊎ IsAmong op next others

abbrev are_likely : Op → List Op → Bool
are_likely first [] = is_likely first
are_likely first (next ∷ others) = is_likely first && are_likely next others

among-likely : (op first : Op) (others : List Op) → are_likely first others ≡ true → IsAmong op first others → true ≡ is_likely op
among-likely op first [] all is = sym (ap is_likely is ∙ all)
among-likely op first (next ∷ others) all (inl is) = sym (ap is_likely is ∙ (and_parts _ _ all).0)
among-likely op first (next ∷ others) all (inr later) = among-likely op next others (and_parts _ _ all).1 later

pub returns-in-Lui : goal.returns-in-Lui
returns-in-Lui c =
    among-likely c.args.op Lui (Jal ∷ Jalr ∷ Beq ∷ Bne ∷ Blt ∷ Bge ∷ Bltu ∷ Bgeu ∷ Lb ∷ Lw ∷ Lbu ∷ Sb ∷ Sw ∷ Addi ∷ Xori ∷ Ori ∷ Andi ∷ Slli ∷ Srli ∷ Srai ∷ Add ∷ Sub ∷ Sltu ∷ Xor ∷ Or ∷ And ∷ Mul ∷ []) refl c.in-Lui.is
