-- Lemmas on the state in which a program begins.
use Rattle.std.proofs.Common.{◌≡◌, ℕ, List, [], ◌∷◌, ◌++◌, refl, sym, ap, ◌∙◌}
use Rattle.std.specs.List.{flat_map}
use Rattle.std.proofs.lemmas.Grind.{flat_map-append}
use Rattle.asc_model.specs.Shape.{Shape}
use Rattle.asc_model.specs.State.{State}
use Rattle.asc_model.specs.Machine.{Change, Pc, Register}
use Rattle.asc_shape.specs.State.{zero_state, state_after, state_after_all}
use Rattle.asc_elf.specs.Image.{segment_changes, stack_of, start_state}
use Rattle.asc_shape.proofs.States.{shape-state_after}
use Rattle.asc_elf.specs.File.{e_entry, Header, segments}

-- what changes keep
pub ruleset kept = (shape-state_after)

-- changes leave the shape
pub shape-state_after_all : (s : State) (list : List Change) → (state_after_all s list).shape ≡ s.shape
shape-state_after_all s [] = refl
shape-state_after_all s (c ∷ list) = shape-state_after_all (state_after s c) list ∙ shape-state_after s c

-- a program begins in the shape of its machine
pub shape-start_state : (file : List ℕ) (shape : Shape) → (start_state file shape).shape ≡ shape
unfolding start_state
shape-start_state file shape =
    shape-state_after_all (zero_state shape) (flat_map (segment_changes file) (segments file) ++ Pc (e_entry file) ∷ Register 2 (stack_of shape) ∷ [])

-- changes in two parts
pub state_after_all-append : (s : State) (a b : List Change) → state_after_all s (a ++ b) ≡ state_after_all (state_after_all s a) b
state_after_all-append s [] b = refl
state_after_all-append s (c ∷ a) b = state_after_all-append (state_after s c) a b

-- one more segment is put
pub placed_more : (file : List ℕ) (s : State) (list : List Header) (h : Header)
    → state_after_all (state_after_all s (flat_map (segment_changes file) list)) (segment_changes file h) ≡ state_after_all s (flat_map (segment_changes file) (list ++ h ∷ []))
placed_more file s list h =
    sym (state_after_all-append s (flat_map (segment_changes file) list) (segment_changes file h))
    ∙ ap (state_after_all s) (sym (flat_map-append (segment_changes file) list (h ∷ [])))

-- the pc and the stack pointer are set behind the segments
pub start_state-steps : (file : List ℕ) (shape : Shape) (s : State) → s ≡ state_after_all (zero_state shape) (flat_map (segment_changes file) (segments file))
    → state_after (state_after s (Pc (e_entry file))) (Register 2 (stack_of shape)) ≡ start_state file shape
unfolding start_state
start_state-steps file shape s e =
    ap (λ (t : State). state_after (state_after t (Pc (e_entry file))) (Register 2 (stack_of shape))) e
    ∙ sym (state_after_all-append (zero_state shape) (flat_map (segment_changes file) (segments file)) (Pc (e_entry file) ∷ Register 2 (stack_of shape) ∷ []))
