use Rattle.std.proofs.Common.{List, map-id, rules, tests, sym, ap, subst, ◌∙◌}
use Rattle.std.specs.List.{flat_map}
use Rattle.std.proofs.lemmas.Iterator.Consumers.{YieldsList-at, YieldsList-turn, YieldsList-end}
use Rattle.std.proofs.lemmas.List.Elements.{All-get_or}
use Rattle.asc_model.specs.Shape.{Shape}
use Rattle.asc_model.specs.State.{State}
use Rattle.asc_shape.specs.State.{state_after_all}
use Rattle.asc_elf.specs.File.{Header, segments}
use Rattle.asc_elf.specs.Image.{segment_changes}
use Rattle.asc_elf.specs.Checked.{HasPlace}
use Rattle.asc_elf.proofs.Headers.{YieldsList-segments}
use Rattle.asc_elf.proofs.Starts.{shape-state_after_all, placed_more}
use Rattle.asc_elf.proofs.segment.put_segments.Goals as goal

-- the segment of this turn has a place
pub put-requires : goal.put-requires
put-requires c =
    let file = c.args.file.now in
    let turn = YieldsList-turn
    (YieldsList-at c.into_iter-segment-iterator.ensures.into_iter_gives
    (YieldsList-segments _ file (c.filter-segment-items.ensures.source ∙ c.headers.ensures) c.filter-segment-items.ensures.closure (λ x r q k. search (rules, tests))))
    c.loop-segment.yielded _ c.loop-segment.yielded_by _ _ c.in-Some.segment c.in-Some.is c.next.ensures.steps in
    let place = subst (HasPlace file c.args.s.now.shape) (sym turn.1) (All-get_or (HasPlace file c.args.s.now.shape) (segments file) _ c.in-Some.segment turn.0 c.requires.place) in
    let same = ap (λ (t : State). t.shape) c.loop-segment.invariant.put ∙ shape-state_after_all c.args.s.now (flat_map (segment_changes file) c.loop-segment.yielded) in
    subst (λ (t : Shape). HasPlace file t c.in-Some.segment) (sym same) place

pub loop-segment-preserved : goal.loop-segment-preserved
loop-segment-preserved c = record {
  can = search rules;
  finite = search rules;
  put = c.put.ensures
      ∙ ap (λ (t : State). state_after_all t (segment_changes c.args.file.now c.in-Some.segment)) c.loop-segment.invariant.put
      ∙ placed_more c.args.file.now c.args.s.now c.loop-segment.yielded c.in-Some.segment;
}

-- all segments have been put
pub returns : goal.returns
returns c =
    let file = c.args.file.now in
    let all = YieldsList-end
    (YieldsList-at c.into_iter-segment-iterator.ensures.into_iter_gives
    (YieldsList-segments _ file (c.filter-segment-items.ensures.source ∙ c.headers.ensures) c.filter-segment-items.ensures.closure (λ x r q k. search (rules, tests))))
    c.loop-segment.yielded _ c.loop-segment.yielded_by _ _ c.in-None.is c.next.ensures.steps in
    c.loop-segment.invariant.put
    ∙ ap (λ (list : List Header). state_after_all c.args.s.now (flat_map (segment_changes file) list)) (sym (map-id c.loop-segment.yielded) ∙ all.0)
