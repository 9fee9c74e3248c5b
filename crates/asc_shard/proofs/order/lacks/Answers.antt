use Rattle.std.proofs.Common.{◌≡◌, ◌==◌, ◌∙◌, ℕ, Bool, false, rules, slice_index, sym, ap}
use Rattle.std.specs.List.{list_all}
use Rattle.std.proofs.lemmas.List.Folds.{list_all_at}
use Rattle.asc_traj.specs.Parts.{part_cells}
use Rattle.asc_traj.proofs.Matching.{matches-by}
use Rattle.asc_traj.proofs.Parts.{list_all-cells}
use Rattle.asc_shard.proofs.Orders.{reads-within}
use Rattle.asc_shard.proofs.order.lacks.Goals.{After-reads-parts}
use Rattle.asc_shard.proofs.order.lacks.Goals as goal

same : (c : After-reads-parts) → c.args.entry.now.shape ≡ c.args.state.now.shape
same c = let e : c.shape.result ≡ c.shape-2.result = search rules in sym c.shape.ensures ∙ e ∙ c.shape-2.ensures.shape

pub is_in-requires-clause-within : goal.is_in-requires-clause-within
is_in-requires-clause-within c =
    let k = (goal.at.is_in-requires-clause-within c).After-reads-parts in
    reads-within c.args.entry.now c.reads-parts.result.now (same k) c.truth.ensures c.reads-parts.ensures.parts c.reads-parts.ensures.cells c.number_of-number.result _ c.if-number-parts.true

-- a part that the state has not
pub returns-then-number-parts : goal.returns-then-number-parts
returns-then-number-parts c = λ no.
    let s = c.args.state.now in
    let k = (goal.at.returns-then-number-parts c).After-reads-parts in
    let f : ℕ × ℕ → Bool = λ cell. slice_index s.bytes cell.0 == cell.1 in
    let here : c.is_in.result ≡ false = search rules in
    let all = list_all_at (λ part. list_all f (part_cells part)) c.reads-parts.result.now c.number_of-number.result _ c.if-number-parts.true (sym c.is_in.ensures ∙ here) in
    sym (matches-by s c.args.entry.now false (sym (same k)) (sym all ∙ list_all-cells f c.reads-parts.result.now ∙ ap (list_all f) c.reads-parts.ensures.cells))
