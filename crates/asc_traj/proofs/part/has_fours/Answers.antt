use Rattle.std.proofs.Common.{◌≡◌, ◌==◌, ◌+◌, ◌≤◌, All, Bool, List, take, true, slice_index, sym, ap, ◌∙◌, subst, arith}
use Rattle.std.specs.List.{list_all}
use Rattle.std.proofs.lemmas.List.Elements.{All-drop}
use Rattle.std.proofs.lemmas.Bool.Decides.{nat_tests}
use Rattle.std.proofs.lemmas.Grind.{common_steps}
use Rattle.asc_model.specs.Shape.{length_of}
use Rattle.asc_traj.specs.declared.part.Part.{Part}
use Rattle.asc_traj.specs.Parts.{IsPart, part_cells, word_place}
use Rattle.asc_traj.proofs.Parts.{list_all-drop}
use Rattle.asc_traj.proofs.part.has_fours.Goals as goal

pub loop-four-preserved : goal.loop-four-preserved
loop-four-preserved c =
    let rest = c.loop-four.rest.now in
    let parts = c.in-Some.ensures.cases in
    let has : Part → Bool = λ part. list_all (λ cell. slice_index c.args.state.now.bytes cell.0 == cell.1) (part_cells part) in
    let within : Part → Type 0 = λ part. word_place part + 4 ≤ length_of c.args.state.now.shape in
    let four : list_all has (take 4 rest) ≡ true = subst (λ (l : List Part). list_all has l ≡ true) parts.0 (sym c.has_four.ensures ∙ c.if-not-has_four.false) in (
      c.loop-four.invariant.0 ∙ list_all-drop has 4 rest four ∙ ap (list_all has) (sym parts.1),
      subst (λ (l : List Part). All IsPart l) (sym parts.1) (All-drop IsPart 4 rest c.loop-four.invariant.1),
      subst (λ (l : List Part). All within l) (sym parts.1) (All-drop within 4 rest c.loop-four.invariant.2),
    )
