use Rattle.std.proofs.Common.{◌≡◌, ◌==◌, ◌&&◌, ◌+◌, ◌-◌, ◌≤◌, ◌∙◌, ℕ, Bool, true, false, List, length, slice_index, take, drop, sym, ap, arith}
use Rattle.std.specs.Prelude.{All}
use Rattle.std.specs.List.{list_all}
use Rattle.std.proofs.Math.Bool.{and_comm}
use Rattle.std.proofs.lemmas.List.Folds.{list_all-append}
use Rattle.std.proofs.lemmas.List.{length-drop, take-append-drop, take_all}
use Rattle.std.proofs.lemmas.List.Elements.{All-drop, All-take}
use Rattle.asc_model.specs.State.{State}
use Rattle.asc_model.specs.Shape.{length_of}
use Rattle.asc_traj.specs.declared.part.Part.{Part}
use Rattle.asc_traj.specs.Parts.{part_cells, word_place}
use Rattle.asc_traj.specs.Content.{matches}
use Rattle.asc_traj.proofs.Matching.{matches-by}
use Rattle.asc_traj.proofs.Parts.{list_all-cells}
use Rattle.asc_shard.proofs.Orders.{reads-within}
use Rattle.asc_shard.proofs.order.has_reads.Goals.{After-reads-parts}
use Rattle.asc_shard.proofs.order.has_reads.Goals as goal

-- what all parts pass, those from one on pass and those before it
all-split : (f : Part → Bool) (m : ℕ) (parts : List Part) → (list_all f (drop m parts) && list_all f (take m parts)) ≡ list_all f parts
all-split f m parts =
    and_comm (list_all f (drop m parts)) (list_all f (take m parts)) ∙ sym (list_all-append f (take m parts) (drop m parts)) ∙ ap (list_all f) (take-append-drop m parts)

behind : (m : ℕ) (parts : List Part) → take (length parts - m) (drop m parts) ≡ drop m parts
behind m parts = take_all (length parts - m) (drop m parts) (omega (arith, length-drop m parts))

-- the words of the parts are within the state
fits : (c : After-reads-parts) → All (λ p. word_place p + 4 ≤ length_of c.args.state.now.shape) c.reads-parts.result.now
fits c = reads-within c.args.entry.now c.reads-parts.result.now c.requires c.truth.ensures c.reads-parts.ensures.parts c.reads-parts.ensures.cells

pub has_parts-requires-clause-within : goal.has_parts-requires-clause-within
has_parts-requires-clause-within c =
    All-take (λ p. word_place p + 4 ≤ length_of c.args.state.now.shape) _ _
    (All-drop (λ p. word_place p + 4 ≤ length_of c.args.state.now.shape) c.if-from-parts.middle _ (fits (goal.at.has_parts-requires-clause-within c).After-reads-parts))

pub has_parts-requires-then-has_parts-clause-within : goal.has_parts-requires-then-has_parts-clause-within
has_parts-requires-then-has_parts-clause-within c =
    All-take (λ p. word_place p + 4 ≤ length_of c.args.state.now.shape) c.if-from-parts.middle _ (fits (goal.at.has_parts-requires-then-has_parts-clause-within c).After-reads-parts)

-- what is answered of the parts is so of the entry
abbrev has : State → List Part → Bool
has s parts = list_all (λ part. list_all (λ cell. slice_index s.bytes cell.0 == cell.1) (part_cells part)) parts

answered : (c : After-reads-parts) (m : ℕ) (rest answer : Bool) → let s = c.args.state.now in let parts = c.reads-parts.result.now in
    rest ≡ has s (take (length parts - m) (drop m parts)) → answer ≡ (rest && has s (take m parts)) → answer ≡ matches s c.args.entry.now
answered c m rest answer is all =
    let s = c.args.state.now in
    let parts = c.reads-parts.result.now in
    let f : ℕ × ℕ → Bool = λ cell. slice_index s.bytes cell.0 == cell.1 in
    matches-by s c.args.entry.now answer (sym c.requires) (all ∙ ap (λ b. b && has s (take m parts)) (is ∙ ap (has s) (behind m parts))
    ∙ all-split (λ part. list_all f (part_cells part)) m parts ∙ list_all-cells f parts ∙ ap (list_all f) c.reads-parts.ensures.cells)

pub returns-then-has_parts : goal.returns-then-has_parts
returns-then-has_parts c =
    answered (goal.at.returns-then-has_parts c).After-reads-parts c.if-from-parts.middle true _ (sym c.if-has_parts.true ∙ c.has_parts.ensures) c.has_parts-then-has_parts.ensures

pub returns-else-has_parts : goal.returns-else-has_parts
returns-else-has_parts c =
    answered (goal.at.returns-else-has_parts c).After-reads-parts c.if-from-parts.middle false _ (sym c.if-has_parts.false ∙ c.has_parts.ensures) c.if-has_parts.false
