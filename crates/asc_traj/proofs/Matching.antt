-- An entry matches a state exactly where the test says so.
use Rattle.std.proofs.Common.{◌≡◌, ◌%◌, ◌==◌, ◌&&◌, ℕ, Bool, true, false, List, slice_index, sym, ap, ◌∙◌, arith}
use Rattle.std.specs.Prelude.{All}
use Rattle.std.specs.List.{list_all}
use Rattle.std.proofs.lemmas.Bool.{and_parts, false_from_ne_true, false≢true}
use Rattle.std.proofs.lemmas.List.Elements.{All-weaker}
use Rattle.std.proofs.lemmas.List.Sums.{AllPass-from_list_all, list_all-from_AllPass}
use Rattle.std.proofs.lemmas.Bool.Decides.{nat_tests}
use Rattle.asc_model.specs.State.{State}
use Rattle.asc_model.specs.Entry.{Entry, Matches}
use Rattle.asc_model.specs.Shape.{IsShape, Shape, length_of}
use Rattle.asc_model.proofs.Shapes.{is_same_shape-true, is_same_shape-same}
use Rattle.asc_traj.specs.Content.{matches}

-- a state that has each of these bytes passes the test of each
has_all : (bytes : List ℕ) (cells : List (ℕ × ℕ)) → All (λ cell. slice_index bytes cell.0 ≡ cell.1) cells → list_all (λ cell. slice_index bytes cell.0 == cell.1) cells ≡ true
has_all bytes cells h = grind (arith, nat_tests, All-weaker, list_all-from_AllPass)

-- and one that passes has them
all_has : (bytes : List ℕ) (cells : List (ℕ × ℕ)) → list_all (λ cell. slice_index bytes cell.0 == cell.1) cells ≡ true → All (λ cell. slice_index bytes cell.0 ≡ cell.1) cells
all_has bytes cells h = grind (arith, nat_tests, All-weaker, AllPass-from_list_all)

-- an entry that matches passes the test
matches-of : (s : State) (e : Entry) → Matches e s → matches s e ≡ true
matches-of s e matched =
    ap (λ (b : Bool). b && list_all (λ cell. slice_index s.bytes cell.0 == cell.1) e.reads) (is_same_shape-same s.shape e.shape matched.shape)
    ∙ has_all s.bytes e.reads matched.reads

pub matches-yes : (s : State) (e : Entry) → matches s e ≡ true → Matches e s
matches-yes s e h =
    let parts = and_parts _ _ h in
    record { shape = is_same_shape-true s.shape e.shape parts.0; reads = all_has s.bytes e.reads parts.1 }

pub matches-no : (s : State) (e : Entry) → matches s e ≡ false → Matches e s → ⊥
matches-no s e h matched = false≢true (sym h ∙ matches-of s e matched)

-- an answer by shape, and then by bytes, is that of the test
pub matches-by : (s : State) (e : Entry) (b : Bool) → s.shape ≡ e.shape → b ≡ list_all (λ cell. slice_index s.bytes cell.0 == cell.1) e.reads → b ≡ matches s e
matches-by s e b shape is = grind (arith, nat_tests, is_same_shape-same)

pub matches-unlike : (s : State) (e : Entry) → (s.shape ≡ e.shape → ⊥) → false ≡ matches s e
matches-unlike s e unlike = grind (arith, nat_tests, and_parts, false_from_ne_true, is_same_shape-true)

-- a state has a multiple of four bytes
pub length_whole : (shape : Shape) → IsShape shape → length_of shape % 4 ≡ 0
length_whole shape is = grind (arith, nat_tests)
