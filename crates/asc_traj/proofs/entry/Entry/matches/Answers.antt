use Rattle.std.proofs.Common.{rules, ◌≡◌, ◌==◌, ◌+◌, ◌≤◌, ℕ, Bool, List, slice_index, sym, ap, subst, ◌∙◌, arith}
use Rattle.std.specs.Prelude.{All}
use Rattle.std.specs.List.{list_all}
use Rattle.std.proofs.lemmas.Bool.Decides.{nat_tests}
use Rattle.std.proofs.lemmas.Grind.{common_steps}
use Rattle.asc_model.specs.Entry.{Entry}
use Rattle.asc_model.specs.Shape.{Shape, length_of}
use Rattle.asc_traj.specs.declared.part.Part.{Part}
use Rattle.asc_traj.specs.Content.{matches}
use Rattle.asc_traj.specs.Parts.{all_cells, word_place}
use Rattle.asc_traj.proofs.Matching.{length_whole, matches-by, matches-no, matches-unlike, matches-yes}
use Rattle.asc_traj.proofs.Parts.{list_all-cells, parts-within}
use Rattle.asc_traj.proofs.entry.Entry.matches.Goals.{After-has_parts}
use Rattle.asc_traj.proofs.entry.Entry.matches.Goals as goal

pub has_parts-requires-clause-within : goal.has_parts-requires-clause-within
has_parts-requires-clause-within c =
    let e = c.self.inside in
    let shape : e.shape ≡ c.args.state.now.shape = search rules in
    let within = λ (shape : Shape) (parts : List Part). All (λ p. word_place p + 4 ≤ length_of shape) parts in
    subst (λ (shape : Shape). within shape c.deref.result.now) shape
    (subst (within e.shape) (sym c.deref.ensures.value)
    (parts-within (length_of e.shape) e.halves.reads.items (length_whole e.shape c.self.invariant.0.entry.shape) c.self.invariant.1 c.self.invariant.0.entry.reads.places))

-- the answer of its parts is that of the test
by_parts : (c : After-has_parts) → c.has_parts.result ≡ matches c.args.state.now c.args.self.now
by_parts c =
    let e = c.args.self.now in
    let s = c.args.state.now in
    let f : ℕ × ℕ → Bool = λ cell. slice_index s.bytes cell.0 == cell.1 in
    let shape : s.shape ≡ e.shape = search rules in
    matches-by s e c.has_parts.result shape
    (c.has_parts.ensures ∙ list_all-cells f c.deref.result.now ∙ ap (list_all f) (ap all_cells c.deref.ensures.value ∙ ap (λ (entry : Entry). entry.reads) c.self.view_is))

pub returns-then-eq-clause-yes : goal.returns-then-eq-clause-yes
returns-then-eq-clause-yes c = λ yes. matches-yes c.args.state.now c.args.self.now (sym (by_parts (goal.at.returns-then-eq-clause-yes c).After-has_parts) ∙ yes)

pub returns-then-eq-clause-no : goal.returns-then-eq-clause-no
returns-then-eq-clause-no c = λ no. matches-no c.args.state.now c.args.self.now (sym (by_parts (goal.at.returns-then-eq-clause-no c).After-has_parts) ∙ no)

pub returns-then-eq-clause-test : goal.returns-then-eq-clause-test
returns-then-eq-clause-test c = by_parts (goal.at.returns-then-eq-clause-test c).After-has_parts

pub returns-else-eq-clause-test : goal.returns-else-eq-clause-test
returns-else-eq-clause-test c = c.if-eq.false ∙ matches-unlike c.args.state.now c.args.self.now (λ same. search rules)
