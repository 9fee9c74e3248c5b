-- What holds of all words that were taken holds of those that the system gave.
use Rattle.std.proofs.Common.{◌≡◌, inl, ℕ, List, map, Result, Ok, Err, IsOkAnd, ◌∙◌, subst}
use Rattle.std.specs.String.{string_bytes}
use Rattle.std.specs.Vec.Iter.{into_iter_items}
use Rattle.std.specs.declared.io.Error.{Error}
use Rattle.std.specs.declared.string.String.{String}
use Rattle.std.specs.declared.vec.IntoIter.{IntoIter}
use Rattle.asc_words.specs.declared.line.LineFault.{LineFault}
use Rattle.asc_words.specs.Given.{HoldsOf}

pub of-given : {A : Type 0} (given : Result (IntoIter (String A) A) Error) (words : List (List ℕ) → Type 0) (refused : LineFault → Type 0)
    (items taken : List (String A)) → taken ≡ items
    → IsOkAnd given (λ words. items ≡ into_iter_items words) → words (map string_bytes taken) → HoldsOf given words refused
of-given (Ok args) words refused items taken same all holds = inl (subst (λ items. words (map string_bytes items)) (same ∙ all) holds)
of-given (Err error) words refused items taken same all holds = absurd all
