-- The lines of cells, one line more.
use Rattle.std.proofs.Common.{◌≡◌, ◌≤◌, ℕ, List, [], ◌∷◌, ◌++◌, drop, length, slice_index_or, append_assoc, append-nil, Some, None, sym, ap, ◌∙◌, arith}
use Rattle.std.proofs.lemmas.List.{drop_all}
use Rattle.asc_model.specs.Shape.{Shape}
use Rattle.asc_inspect.specs.Text.{cells_text, line_text, word_of}

-- the first cells are a word
cells-word : (shape : Shape) (cells : List (ℕ × ℕ)) (bytes : List ℕ) → word_of cells ≡ Some bytes
    → cells_text shape 0 cells ≡ line_text shape (slice_index_or cells 0 (0, 0)).0 bytes ++ cells_text shape 0 (drop 4 cells)
unfolding cells_text
cells-word shape [] bytes h = cc
cells-word shape (a ∷ []) bytes h = cc
cells-word shape (a ∷ b ∷ []) bytes h = cc
cells-word shape (a ∷ b ∷ c ∷ []) bytes h = cc
cells-word shape (a ∷ b ∷ c ∷ d ∷ rest) bytes h = ap (λ w. elim w [
  | Some bytes ↦ line_text shape a.0 bytes ++ cells_text shape 3 (b ∷ c ∷ d ∷ rest)
  | None ↦ line_text shape a.0 (a.1 ∷ []) ++ cells_text shape 0 (b ∷ c ∷ d ∷ rest)
]) h

-- the first cell stands for itself
cells-byte : (shape : Shape) (cells : List (ℕ × ℕ)) → 1 ≤ length cells → word_of cells ≡ None
    → cells_text shape 0 cells ≡ line_text shape (slice_index_or cells 0 (0, 0)).0 ((slice_index_or cells 0 (0, 0)).1 ∷ []) ++ cells_text shape 0 (drop 1 cells)
unfolding cells_text
cells-byte shape [] some h = absurd (let x : ⊥ = omega (arith, some) in x)
cells-byte shape (a ∷ rest) some h = ap (λ w. elim w [
  | Some bytes ↦ line_text shape a.0 bytes ++ cells_text shape 3 rest
  | None ↦ line_text shape a.0 (a.1 ∷ []) ++ cells_text shape 0 rest
]) h

-- a line is put, and the others are left
joined : (text text' line rest whole : List ℕ) → text' ≡ text ++ line → whole ≡ line ++ rest → text' ++ rest ≡ text ++ whole
joined text text' line rest whole put is = ap (λ t. t ++ rest) put ∙ append_assoc text line rest ∙ ap (λ w. text ++ w) (sym is)

pub word-put : (shape : Shape) (cells : List (ℕ × ℕ)) (bytes text text' : List ℕ) → word_of cells ≡ Some bytes
    → text' ≡ text ++ line_text shape (slice_index_or cells 0 (0, 0)).0 bytes
    → text' ++ cells_text shape 0 (drop 4 cells) ≡ text ++ cells_text shape 0 cells
word-put shape cells bytes text text' h put = joined text text' _ _ _ put (cells-word shape cells bytes h)

pub byte-put : (shape : Shape) (cells : List (ℕ × ℕ)) (text text' : List ℕ) → 1 ≤ length cells → word_of cells ≡ None
    → text' ≡ text ++ line_text shape (slice_index_or cells 0 (0, 0)).0 ((slice_index_or cells 0 (0, 0)).1 ∷ [])
    → text' ++ cells_text shape 0 (drop 1 cells) ≡ text ++ cells_text shape 0 cells
byte-put shape cells text text' some h put = joined text text' _ _ _ put (cells-byte shape cells some h)

-- all lines are put
pub all-put : (shape : Shape) (cells : List (ℕ × ℕ)) (n : ℕ) (text whole : List ℕ) → length cells ≤ n
    → text ++ cells_text shape 0 (drop n cells) ≡ whole → text ≡ whole
unfolding cells_text
all-put shape cells n text whole past h =
    sym (append-nil text) ∙ ap (λ rest. text ++ cells_text shape 0 rest) (sym (drop_all n cells past)) ∙ h
