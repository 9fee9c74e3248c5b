-- What each instruction does, in the manual's terms (RISC-V unprivileged manual 20191213, chapters 2, 3, 7 and 8).
use Rattle.std.specs.Prelude.{ℕ, ◌*◌, ◌/◌, ◌^◌, ◌==◌, not, Bool, true, false, nat_lt, min, max, pos, ◌*ℤ◌, int_lt, bit_and, bit_or, bit_xor, if◌then◌else◌}
use Rattle.asc_model.specs.declared.instruction.Op.{Op}
use Rattle.asc_model.specs.declared.instruction.Op.TheVariants.{Lui, Auipc, Jal, Jalr, Beq, Bne, Blt, Bge, Bltu, Bgeu, Lb, Lh, Lw, Lbu, Lhu, Sb, Sh, Sw, Addi, Slti, Sltiu, Xori, Ori, Andi, Slli, Srli, Srai, Add, Sub, Sll, Slt, Sltu, Xor, Srl, Sra, Or, And, Fence, FenceI, Ecall, Ebreak, Mul, Mulh, Mulhsu, Mulhu, Div, Divu, Rem, Remu, LrW, ScW, AmoswapW, AmoaddW, AmoxorW, AmoandW, AmoorW, AmominW, AmomaxW, AmominuW, AmomaxuW}
use Rattle.asc_model.specs.Arithmetic.{signed, ◌+w◌, ◌-w◌, one_if, even_part, shift_left, shift_right, shift_right_signed, shift_amount, product, high_word, quotient, quotient_unsigned, remainder, remainder_unsigned, lesser, greater}

-- What an instruction does. The program goes on behind it, at pc + 4, unless a target is said.
pub data Effect : Type 0 where
  -- x[rd] = value
  Set : (value : ℕ) → Effect
  -- x[rd] = M[address], n bytes, extended by the sign or by zeros
  Load : (n : ℕ) (signed : Bool) (address : ℕ) → Effect
  -- M[address] = value, its lowest n bytes
  Store : (n address value : ℕ) → Effect
  -- x[rd] = pc + 4; pc = target. A branch has no rd, which is x0 then
  Jump : (target : ℕ) → Effect
  -- x[rd] = M[address], a word; the address is reserved
  LoadReserved : (address : ℕ) → Effect
  -- where the address is reserved M[address] = value and x[rd] = 0, else x[rd] = 1; afterwards nothing is reserved
  StoreConditional : (address value : ℕ) → Effect
  -- x[rd] = M[address], a word; M[address] = change of it
  Modify : (address : ℕ) (change : ℕ → ℕ) → Effect
  -- the execution environment serves the program
  GuestCall : Effect
  -- control goes to a debugger, of which there is none
  Breakpoint : Effect

-- Nothing is done. The instruction has no rd, which is x0 then, and setting x0 changes nothing.
abbrev pub nothing : Effect
nothing = Set 0

-- pc = target where the test holds
abbrev pub branch : Bool → (target : ℕ) → Effect
branch test target = if test then Jump target else nothing

-- The effect of an operation at this pc; a is x[rs1], b is x[rs2], i the immediate.
abbrev pub effect : Op → (pc a b i : ℕ) → Effect
effect Lui pc a b i = Set i
effect Auipc pc a b i = Set (pc +w i)
effect Jal pc a b i = Jump (pc +w i)
effect Jalr pc a b i = Jump (even_part (a +w i))
effect Beq pc a b i = branch (a == b) (pc +w i)
effect Bne pc a b i = branch (not (a == b)) (pc +w i)
effect Blt pc a b i = branch (int_lt (signed a) (signed b)) (pc +w i)
effect Bge pc a b i = branch (not (int_lt (signed a) (signed b))) (pc +w i)
effect Bltu pc a b i = branch (nat_lt a b) (pc +w i)
effect Bgeu pc a b i = branch (not (nat_lt a b)) (pc +w i)
effect Lb pc a b i = Load 1 true (a +w i)
effect Lh pc a b i = Load 2 true (a +w i)
effect Lw pc a b i = Load 4 true (a +w i)
effect Lbu pc a b i = Load 1 false (a +w i)
effect Lhu pc a b i = Load 2 false (a +w i)
effect Sb pc a b i = Store 1 (a +w i) b
effect Sh pc a b i = Store 2 (a +w i) b
effect Sw pc a b i = Store 4 (a +w i) b
effect Addi pc a b i = Set (a +w i)
effect Slti pc a b i = Set (one_if (int_lt (signed a) (signed i)))
effect Sltiu pc a b i = Set (one_if (nat_lt a i))
effect Xori pc a b i = Set (bit_xor a i)
effect Ori pc a b i = Set (bit_or a i)
effect Andi pc a b i = Set (bit_and a i)
effect Slli pc a b i = Set (shift_left a (shift_amount i))
effect Srli pc a b i = Set (shift_right a (shift_amount i))
effect Srai pc a b i = Set (shift_right_signed a (shift_amount i))
effect Add pc a b i = Set (a +w b)
effect Sub pc a b i = Set (a -w b)
effect Sll pc a b i = Set (shift_left a (shift_amount b))
effect Slt pc a b i = Set (one_if (int_lt (signed a) (signed b)))
effect Sltu pc a b i = Set (one_if (nat_lt a b))
effect Xor pc a b i = Set (bit_xor a b)
effect Srl pc a b i = Set (shift_right a (shift_amount b))
effect Sra pc a b i = Set (shift_right_signed a (shift_amount b))
effect Or pc a b i = Set (bit_or a b)
effect And pc a b i = Set (bit_and a b)
effect Fence pc a b i = nothing
effect FenceI pc a b i = nothing
effect Ecall pc a b i = GuestCall
effect Ebreak pc a b i = Breakpoint
effect Mul pc a b i = Set (product a b)
effect Mulh pc a b i = Set (high_word (signed a *ℤ signed b))
effect Mulhsu pc a b i = Set (high_word (signed a *ℤ pos b))
effect Mulhu pc a b i = Set (a * b / 2 ^ 32)
effect Div pc a b i = Set (quotient a b)
effect Divu pc a b i = Set (quotient_unsigned a b)
effect Rem pc a b i = Set (remainder a b)
effect Remu pc a b i = Set (remainder_unsigned a b)
effect LrW pc a b i = LoadReserved a
effect ScW pc a b i = StoreConditional a b
effect AmoswapW pc a b i = Modify a (λ t. b)
effect AmoaddW pc a b i = Modify a (λ t. t +w b)
effect AmoxorW pc a b i = Modify a (λ t. bit_xor t b)
effect AmoandW pc a b i = Modify a (λ t. bit_and t b)
effect AmoorW pc a b i = Modify a (λ t. bit_or t b)
effect AmominW pc a b i = Modify a (λ t. lesser t b)
effect AmomaxW pc a b i = Modify a (λ t. greater t b)
effect AmominuW pc a b i = Modify a (λ t. min t b)
effect AmomaxuW pc a b i = Modify a (λ t. max t b)
