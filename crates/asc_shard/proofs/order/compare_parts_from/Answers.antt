use Rattle.std.proofs.Common.{◌∙◌, ◌<◌, ℕ, List, slice_index, ap, subst}
use Rattle.std.specs.Prelude.{All}
use Rattle.std.specs.Ordering.{nat_cmp}
use Rattle.std.specs.Cmp.Lexicographic.{slice_cmp}
use Rattle.std.proofs.lemmas.List.Elements.{All-tail}
use Rattle.asc_model.specs.Shape.{length_of}
use Rattle.asc_traj.specs.Parts.{cells_from}
use Rattle.asc_shard.specs.Inside.{bytes_at, bytes_of}
use Rattle.asc_shard.proofs.Orders.{cmp-same}
use Rattle.asc_shard.proofs.order.compare_parts_from.Goals as goal

pub loop-cell-preserved : goal.loop-cell-preserved
loop-cell-preserved c =
    let s = c.args.state.now in
    let cell = c.in-Some.cell in
    let rest = cells_from c.args.parts.now cell.next in
    let is = c.in-Some.ensures.some in
    record {
      most = is.2;
      within = All-tail (λ (x : ℕ × ℕ). x.0 < length_of s.shape) (cell.place, cell.byte) rest (subst (All (λ x. x.0 < length_of s.shape)) is.0 c.loop-cell.invariant.within);
      rest = c.loop-cell.invariant.rest
          ∙ ap (λ (list : List (ℕ × ℕ)). slice_cmp nat_cmp (bytes_of list) (bytes_at s list)) is.0
          ∙ cmp-same cell.byte (slice_index s.bytes cell.place) (bytes_of rest) (bytes_at s rest) (c.if-cell-byte.false ∙ c.get-byte.ensures);
    }
