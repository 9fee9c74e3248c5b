-- The lines of what a guess has wrong, one line more.
use Rattle.std.proofs.Common.{◌≡◌, ◌≤◌, ◌<◌, ◌+◌, ◌-◌, ℕ, zero, suc, List, [], ◌∷◌, ◌++◌, take, drop, length, append_assoc, append-nil, Option, Some, None, if◌then◌else◌, refl, sym, ap, ◌∙◌, arith}
use Rattle.std.specs.Option.{is_some}
use Rattle.std.proofs.lemmas.List.{drop_all, drop-drop, length-drop}
use Rattle.asc_model.specs.State.{State}
use Rattle.asc_inspect.specs.Text.{word_of}
use Rattle.asc_inspect.specs.Missed.{line_length, miss_line, misses_text}

-- cells that are skipped are left out
skip : (now : State) (k : ℕ) (cells : List (ℕ × ℕ)) → misses_text now k cells ≡ misses_text now 0 (drop k cells)
unfolding misses_text
skip now zero cells = refl
skip now (suc k) [] = refl
skip now (suc k) (a ∷ rest) = skip now k rest

behind : (now : State) (a : ℕ × ℕ) (rest : List (ℕ × ℕ)) (word : Option (List ℕ))
    → misses_text now ((if is_some word then 4 else 1) - 1) rest ≡ misses_text now 0 (drop (if is_some word then 4 else 1) (a ∷ rest))
behind now a rest (Some bytes) = skip now 3 rest
behind now a rest None = skip now 0 rest

-- the first line, and those behind it
first : (now : State) (cells : List (ℕ × ℕ)) → 1 ≤ length cells
    → misses_text now 0 cells ≡ miss_line now (take (line_length cells) cells) ++ misses_text now 0 (drop (line_length cells) cells)
unfolding misses_text
first now [] some = absurd (let x : ⊥ = omega (arith, some) in x)
first now (a ∷ rest) some =
    ap (λ t. miss_line now (take (line_length (a ∷ rest)) (a ∷ rest)) ++ t) (behind now a rest (word_of (a ∷ rest)))

-- a line is put, and the others are left
joined : (text text' line rest whole : List ℕ) → text' ≡ text ++ line → whole ≡ line ++ rest → text' ++ rest ≡ text ++ whole
joined text text' line rest whole put is = ap (λ t. t ++ rest) put ∙ append_assoc text line rest ∙ ap (λ w. text ++ w) (sym is)

pub line-put : (now : State) (cells : List (ℕ × ℕ)) (from n to : ℕ) (text text' : List ℕ) → from < length cells → n ≡ line_length (drop from cells) → to ≡ from + n
    → text' ≡ text ++ miss_line now (take (to - from) (drop from cells))
    → text' ++ misses_text now 0 (drop to cells) ≡ text ++ misses_text now 0 (drop from cells)
line-put now cells from n to text text' below is end put =
    let some : 1 ≤ length (drop from cells) = omega (arith, length-drop from cells, below) in
    let part : to - from ≡ n = omega (arith, end) in
    let line = ap (λ k. miss_line now (take k (drop from cells))) (part ∙ is) in
    let left = drop-drop n from cells ∙ ap (λ k. drop k cells) (sym end) in
    let here = first now (drop from cells) some in
    let behind = ap (λ k. misses_text now 0 (drop k (drop from cells))) (sym is) ∙ ap (misses_text now 0) left in
    joined text text' (miss_line now (take (line_length (drop from cells)) (drop from cells))) _ _ (put ∙ ap (λ t. text ++ t) line)
    (here ∙ ap (λ t. miss_line now (take (line_length (drop from cells)) (drop from cells)) ++ t) behind)

-- all lines are put
pub misses-put : (now : State) (cells : List (ℕ × ℕ)) (n : ℕ) (text whole : List ℕ) → length cells ≤ n
    → text ++ misses_text now 0 (drop n cells) ≡ whole → text ≡ whole
unfolding misses_text
misses-put now cells n text whole past h =
    sym (append-nil text) ∙ ap (λ rest. text ++ misses_text now 0 rest) (sym (drop_all n cells past)) ∙ h
