-- Cells of a state, one more, and where they are.
use Rattle.std.proofs.Common.{◌≡◌, ◌≤◌, ◌<◌, ◌+◌, ◌-◌, ℕ, zero, suc, List, [], ◌∷◌, ◌++◌, map, slice_index, sym, ap, ◌∙◌, arith}
use Rattle.std.specs.Prelude.{All}
use Rattle.std.proofs.lemmas.List.{map-append}
use Rattle.std.proofs.lemmas.List.Elements.{All-cons}
use Rattle.asc_model.specs.Places.{places_from}
use Rattle.asc_model.specs.State.{State}
use Rattle.asc_depvec.proofs.Bits.{places_from-append}
use Rattle.asc_inspect.specs.Registers.{cells_from}

pub cells-more : (s : State) (place at m byte : ℕ) (cells after : List (ℕ × ℕ)) → cells ≡ cells_from s place (at - place) → place ≤ at → byte ≡ slice_index s.bytes at → m ≡ at + 1 → after ≡ cells ++ (at, byte) ∷ []
    → after ≡ cells_from s place (m - place)
cells-more s place at m byte cells after so_far past is one more =
    let f = λ (p : ℕ). let cell : ℕ × ℕ = (p, slice_index s.bytes p) in cell in
    let there : place + (at - place) ≡ at = omega arith in
    let sum : m - place ≡ (at - place) + 1 = omega arith in
    more ∙ ap (λ c. c ++ (at, byte) ∷ []) so_far ∙ ap (λ (b : ℕ). cells_from s place (at - place) ++ (at, b) ∷ []) is
    ∙ ap (λ (p : ℕ). cells_from s place (at - place) ++ (p, slice_index s.bytes p) ∷ []) (sym there)
    ∙ sym (map-append f (places_from place (at - place)) ((place + (at - place)) ∷ []))
    ∙ ap (map f) (sym (places_from-append (at - place) 1 place)) ∙ ap (cells_from s place) (sym sum)

pub cells-within : (s : State) (bound place n : ℕ) → place + n ≤ bound → All (λ cell. cell.0 < bound) (cells_from s place n)
cells-within s bound place zero h = λ k d below. absurd (let x : ⊥ = omega (arith, below) in x)
cells-within s bound place (suc n) h =
    All-cons (λ cell. cell.0 < bound) (place, slice_index s.bytes place) (cells_from s (place + 1) n) (omega arith) (cells-within s bound (place + 1) n (omega arith))
