-- Lemmas on the operations that programs do most.
use Rattle.std.proofs.Common.{◌≡◌, ℕ, false, List, [], ◌∷◌, ◌++◌, Option, Some, None, ◌∙◌, sym, inl, inr}
use Rattle.std.proofs.lemmas.Bool.{cases_Bool, cond-true, cond-false}
use Rattle.asc_model.specs.declared.version.Version.{Version}
use Rattle.asc_model.specs.declared.version.Version.TheVariants.{One, Two}
use Rattle.asc_model.specs.declared.instruction.Instr.{Instr}
use Rattle.asc_model.specs.Instruction.{Row, decode, find, base_table, atomic_table, fits, operands, op_of}
use Rattle.asc_isa.specs.Decode.{version_of}
use Rattle.asc_isa.specs.Likely.{is_likely, likely}

none-some : (i : Instr) → Some i ≡ None → ⊥
none-some i h = cc

-- ---- an instruction that is one of them is the word's in both versions

find-more : (rows more : List Row) (word : ℕ) (i : Instr) → find rows word ≡ Some i → find (rows ++ more) word ≡ Some i
find-more [] more word i h = cc
find-more (row ∷ rows) more word i h = elim (cases_Bool (fits row.pattern word)) [
  | inl f ↦ cond-true _ (Some (operands row.format row.op word)) (find (rows ++ more) word) f ∙ sym (cond-true _ (Some (operands row.format row.op word)) (find rows word) f) ∙ h
  | inr f ↦ cond-false _ (Some (operands row.format row.op word)) (find (rows ++ more) word) f
      ∙ find-more rows more word i (sym (cond-false _ (Some (operands row.format row.op word)) (find rows word) f) ∙ h)
]

in-both : (version : Version) (word : ℕ) (i : Instr) → decode One word ≡ Some i → decode version word ≡ Some i
unfolding decode
in-both One word i h = h
in-both Two word i h = find-more base_table atomic_table word i h

some-likely : (found : Option Instr) (i : Instr) → Some i ≡ likely found → found ≡ Some i
some-likely None i h = cc
some-likely (Some j) i h = elim (cases_Bool (is_likely (op_of j))) [
  | inl l ↦ sym (h ∙ cond-true _ (Some j) None l)
  | inr l ↦ absurd (none-some i (h ∙ cond-false _ (Some j) None l))
]

pub likely-decode : (version : Version) (word : ℕ) (i : Instr) → Some i ≡ likely (decode (version_of false) word) → Some i ≡ decode version word
likely-decode version word i h = sym (in-both version word i (some-likely (decode One word) i h))
