-- A word decodes to the instruction of the one row that is for it.
use Rattle.std.proofs.Common.{◌≡◌, ℕ, suc, true, false, List, [], ◌∷◌, Some, None, refl, ◌∙◌, inl, inr, arith}
use Rattle.std.specs.Prelude.{All, AllPairs}
use Rattle.std.proofs.lemmas.Bool.{cases_Bool, cond-true, cond-false}
use Rattle.std.proofs.lemmas.List.Elements.{All-nil, All-cons, All-head, All-tail}
use Rattle.asc_model.specs.Instruction.{Row, fits, operands, find, table, decode}
use Rattle.asc_model.specs.Laws.{ShareNoWord, DecodeIsTheTable}
use Rattle.asc_model.proofs.Rows.{rows_differ}

-- the instruction of a row, found for each word of that row
abbrev IsFound : List Row → Row → Type 0
IsFound rows row = (word : ℕ) → fits row.pattern word ≡ true → find rows word ≡ Some (operands row.format row.op word)

-- rows that share no word are each found
find-some : (rows : List Row) → AllPairs ShareNoWord rows → All (IsFound rows) rows
find-some [] apart = All-nil (IsFound [])
find-some (first ∷ rows) apart =
    let rest = find-some rows (λ i j d lt within. apart (suc i) (suc j) d (omega arith) (omega arith)) in
    All-cons (IsFound (first ∷ rows)) first rows (λ word h. cond-true _ (Some (operands first.format first.op word)) (find rows word) h)
    (λ k d lt word h. elim (cases_Bool (fits first.pattern word)) [
      | inl e ↦ absurd (apart 0 (suc k) d (omega arith) (omega arith) word e h)
      | inr e ↦ cond-false _ (Some (operands first.format first.op word)) (find rows word) e ∙ rest k d lt word h
    ])

-- no row is found for a word of none
find-none : (rows : List Row) (word : ℕ) → All (λ row. fits row.pattern word ≡ false) rows → find rows word ≡ None
find-none [] word h = refl
find-none (first ∷ rows) word h =
    let other = λ (row : Row). fits row.pattern word ≡ false in
    cond-false _ (Some (operands first.format first.op word)) (find rows word) (All-head other first rows h) ∙ find-none rows word (All-tail other first rows h)

pub decode_is_the_table : DecodeIsTheTable
unfolding decode
decode_is_the_table version = record {
  some = find-some (table version) (rows_differ version);
  none = λ word h. find-none (table version) word h;
}
